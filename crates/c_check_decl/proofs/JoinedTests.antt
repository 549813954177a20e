-- Tests joined by `&&`, one by one.
use Rattle.std.proofs.Common.{◌≡◌, Bool, true, false, refl, sym}
use Rattle.std.specs.Prelude.{◌&&◌, not}

pub and_true : (b : Bool) → (b && true) ≡ b
and_true true = refl
and_true false = refl

pub and_false : (b : Bool) → (b && false) ≡ false
and_false true = refl
and_false false = refl

-- ---- three tests, of which the first and the last must fail

module _ (a b c : Bool) where
  pub first_holds : a ≡ true → not a ≡ (not a && (b && not c))
  first_holds e = rw e refl

  pub second_fails : b ≡ false → b ≡ (not a && (b && not c))
  second_fails e = rw e (sym (and_false (not a)))

  pub third_counts : (d : Bool) → a ≡ false → b ≡ true → d ≡ c → not d ≡ (not a && (b && not c))
  third_counts d e f g = rw (e, f, g) refl
