-- Equal parts give equal statements.
use Rattle.std.proofs.Common.{◌≡◌, refl}

pub two_same : {A B C : Type 0} (f : A → B → C) {x y : A} {z w : B} → x ≡ y → z ≡ w → f x z ≡ f y w
two_same f h k = rw (h, k) refl

pub three_same : {A B C D : Type 0} (f : A → B → C → D) {x y : A} {z w : B} {p q : C} → x ≡ y → z ≡ w → p ≡ q → f x z p ≡ f y w q
three_same f h k l = rw (h, k, l) refl
