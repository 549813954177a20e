-- Truth values.
use Rattle.std.proofs.Common.{◌≡◌, Bool, true, false, ◌||◌, ◌&&◌, refl, sym, ◌∙◌}
use Rattle.std.specs.Prelude.{not}

pub both_ways : (x : Bool) (C : Type 0) → x ≡ true → x ≡ false → C
both_ways x C h k = let g : true ≡ false = sym h ∙ k in absurd cc

pub not_true : (b : Bool) → not b ≡ true → b ≡ false
not_true true h = absurd cc
not_true false h = refl

pub and_both : (a b : Bool) → (a && b) ≡ true → (a ≡ true) × (b ≡ true)
and_both true b h = (refl, h)
and_both false b h = absurd cc

pub or_none : (a b : Bool) → (a || b) ≡ false → a ≡ false
or_none true b h = absurd cc
or_none false b h = refl

pub or_cases : (a b : Bool) (C : Type 0) → (a || b) ≡ true → (a ≡ true → C) → (b ≡ true → C) → C
or_cases true b C h f g = f refl
or_cases false b C h f g = g h
