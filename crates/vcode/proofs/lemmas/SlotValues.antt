-- The values of spill slots, where one was changed and elsewhere.
use Rattle.std.proofs.Common.{◌≡◌, ℤ, refl}
use Rattle.std.specs.Ordering.{int_eq}
use Rattle.std.proofs.lemmas.Bool.{false_from_ne_true}
use Rattle.std.proofs.lemmas.Bool.Decides.{Decides-int_eq}
use Rattle.forests.specs.Words.{Word}
use Rattle.vcode.specs.Execution.{with_slot}

pub slot_at : (f : ℤ → Word) (z : ℤ) (w : Word) → with_slot f z w z ≡ w
slot_at f z w = rw ((Decides-int_eq z z).1 refl) refl

pub slot_off : (f : ℤ → Word) (z : ℤ) (w : Word) (y : ℤ) → (y ≡ z → ⊥) → with_slot f z w y ≡ f y
slot_off f z w y ne = rw (false_from_ne_true (int_eq y z) (λ e. ne ((Decides-int_eq y z).0 e))) refl
