-- Tests of the linkage of a declared name, and of what its symbol tells.
use Rattle.std.proofs.Common.{◌≡◌, ℕ, ℤ, pos, negsuc, zero, suc, Bool, true, false, refl, ap, ◌∙◌, arith}
use Rattle.std.specs.Prelude.{◌&&◌, not, Option, Some, None, is_some}
use Rattle.std.proofs.lemmas.Int.{ints}
use lib.Signed.{lt_z}
use Rattle.c_meaning.specs.Declarations.{Name, Naming, decl_constraints, has_inner_class, is_again, is_declared_again, is_declared_otherwise, is_defined, is_definition, is_function_class}
use Rattle.c_meaning.specs.Linkage.{Linkage, is_linked, is_outside, linkage_at}
use Rattle.c_meaning.specs.NodeConstraints.{first_of}
use Rattle.c_meaning.specs.State.{Known, State, known_at}
use Rattle.c_meaning.specs.Types.{is_function}

-- ---- declared again

pub one_alone : (s : State) (l : Linkage) (o : Option ℕ) → is_some o ≡ true → is_linked l ≡ false → is_again s l o ≡ true
one_alone s l None e g = absurd (cc)
one_alone s l (Some id) e g = rw g refl

pub other_alone : (s : State) (l m : Linkage) (o : Option ℕ) → is_some o ≡ true → is_linked l ≡ true → m ≡ linkage_at s o → is_again s l o ≡ not (is_linked m)
other_alone s l m None e g h = absurd (cc)
other_alone s l m (Some id) e g h = rw (g, h) refl

-- ---- defined

one_below : (n : ℕ) → lt_z (pos 0) (pos (suc n)) ≡ true
one_below n = grind (arith, ints)

pub above_zero : (z : ℤ) → lt_z (pos 0) z ≡ is_definition (Some z)
above_zero (pos zero) = refl
above_zero (pos (suc n)) = one_below n
above_zero (negsuc n) = refl

pub defined_told : (s : State) (o : Option ℕ) (id : ℕ) (k : Known) (v : Option ℤ) → o ≡ Some id → known_at s id ≡ k → k.value ≡ v → is_defined s o ≡ is_definition v
defined_told s o id k v e g h = rw (e, g, h) refl

-- ---- the first constraint that a name breaks at its declarator

module _ (s : State) (n : Naming) where
  pub inner_class_is : (inner function : Bool) → inner ≡ (not (is_outside s) && (function && not (is_function_class n.class))) → function ≡ is_function n.of → inner ≡ has_inner_class s (Name n)
  inner_class_is inner function e f = e ∙ ap (λ (b : Bool). not (is_outside s) && (b && not (is_function_class n.class))) f

  pub inner_class_told : has_inner_class s (Name n) ≡ true → Some 3 ≡ first_of decl_constraints s (Name n)
  inner_class_told e = rw e refl

  pub again_told : has_inner_class s (Name n) ≡ false → is_declared_again s (Name n) ≡ true → Some 5 ≡ first_of decl_constraints s (Name n)
  again_told e f = rw (e, f) refl

  pub otherwise_told : has_inner_class s (Name n) ≡ false → is_declared_again s (Name n) ≡ false → is_declared_otherwise s (Name n) ≡ true → Some 6 ≡ first_of decl_constraints s (Name n)
  otherwise_told e f g = rw (e, f, g) refl

  pub none_told : has_inner_class s (Name n) ≡ false → is_declared_again s (Name n) ≡ false → is_declared_otherwise s (Name n) ≡ false → None ≡ first_of decl_constraints s (Name n)
  none_told e f g = rw (e, f, g) refl
