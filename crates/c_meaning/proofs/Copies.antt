-- The copies of a checked function's calls are the last of its locals.
use Rattle.std.specs.Prelude.{◌≡◌, refl, ℕ, ◌+◌, zero, suc, Some, List, [], ◌∷◌, drop, length, map, slice_get}
use Rattle.std.specs.List.{range_with_len}
use Rattle.std.proofs.Common.{ap, sym, ◌∙◌, subst, arith}
use Rattle.c_types.specs.CType.{CType}
use Rattle.c_meaning.specs.Copies.{LocalAt, locals_from}
use Rattle.c_meaning.specs.Each.{EachIs}
use Rattle.c_meaning.specs.Laws.{IsLocalOf, CopiesAreLocals, CopiesAreApart}
use Rattle.c_meaning.specs.Units.{declared}

first_behind : (n : ℕ) (ts : List CType) (u : CType) (us : List CType) → drop n ts ≡ u ∷ us → slice_get ts n ≡ Some u
first_behind zero [] u us e = absurd (let never : ⊥ = cc in never)
first_behind zero (t ∷ ts) u us e = cc
first_behind (suc n) [] u us e = absurd (let never : ⊥ = cc in never)
first_behind (suc n) (t ∷ ts) u us e = first_behind n ts u us e

more : (n : ℕ) → suc n + 1 ≡ suc (n + 1)
more n = omega arith

others_behind : (n : ℕ) (ts : List CType) (u : CType) (us : List CType) → drop n ts ≡ u ∷ us → drop (n + 1) ts ≡ us
others_behind zero [] u us e = absurd (let never : ⊥ = cc in never)
others_behind zero (t ∷ ts) u us e = cc
others_behind (suc n) [] u us e = absurd (let never : ⊥ = cc in never)
others_behind (suc n) (t ∷ ts) u us e = ap (λ m. drop m (t ∷ ts)) (more n) ∙ others_behind n ts u us e

are_locals : (locals : List CType) (n : ℕ) (us : List CType) → drop n locals ≡ us → EachIs (IsLocalOf locals) (locals_from n us)
are_locals locals n [] e = tt
are_locals locals n (u ∷ us) e = (first_behind n locals u us e, are_locals locals (n + 1) us (others_behind n locals u us e))

pub copies_are_locals : CopiesAreLocals
copies_are_locals u f h = subst (EachIs (IsLocalOf f.locals)) (sym h.copies) (are_locals f.locals (declared f) (drop (declared f) f.locals) refl)

places_in_order : (n : ℕ) (ts : List CType) → map (λ (l : LocalAt). l.place) (locals_from n ts) ≡ range_with_len n (length (locals_from n ts))
places_in_order n [] = refl
places_in_order n (t ∷ ts) = ap (λ ns. n ∷ ns) (places_in_order (n + 1) ts)

pub copies_are_apart : CopiesAreApart
copies_are_apart u f h = subst (λ ls. map (λ (l : LocalAt). l.place) ls ≡ range_with_len (declared f) (length ls)) (sym h.copies) (places_in_order (declared f) (drop (declared f) f.locals))
