-- The end of a unit: what is told of it, and the unit where nothing is.
use Rattle.std.proofs.Common.{◌≡◌, sym, ap, ◌∙◌, subst}
use Rattle.std.specs.Prelude.{Option, None, Result, Ok, Err, IfErr, IfOk, IsErrAnd}
use Rattle.c_meaning.specs.Constraints.{Fault}
use Rattle.c_meaning.specs.Postorder.{or_else}
use Rattle.c_meaning.specs.State.{State}
use Rattle.c_meaning.specs.Typing.{Fine, Outcome, unless}
use Rattle.c_meaning.specs.Units.{UnitTree}
use Rattle.c_values.specs.declared.check_fault.CheckFault.{CheckFault}
use Rattle.c_values.specs.declared.check_fault.CheckFault.TheVariants.{Constraint, Limit, Memory}
use Rattle.c_check_expr.specs.AtNode.{Tells}
use Rattle.c_check_expr.specs.StepFaults.{IsFault}
use Rattle.c_units.specs.Ends.{constants_fault, names_fault, open_fault, tentative, unit_fault, with_tentative}
use Rattle.c_units.specs.Externals.{Parts}
use Rattle.c_units.specs.Wholes.{whole_unit}
use Rattle.c_check_unit.specs.EndIn.{typed_end}

-- ---- faults in order

first_told : (e : CheckFault) (f g : Option Fault) → IsFault e f → IsFault e (or_else f g)
first_told (Constraint n l) f g h = ap (λ x. or_else x g) h
first_told (Limit w l) f g h = ap (λ x. or_else x g) h
first_told Memory f g h = tt

second_told : (e : CheckFault) (f g : Option Fault) → f ≡ None → IsFault e g → IsFault e (or_else f g)
second_told (Constraint n l) f g n' h = ap (λ x. or_else x g) n' ∙ h
second_told (Limit w l) f g n' h = ap (λ x. or_else x g) n' ∙ h
second_told Memory f g n' h = tt

fault_same : (e : CheckFault) (f g : Option Fault) → f ≡ g → IsFault e f → IsFault e g
fault_same e f g h k = subst (IsFault e) h k

-- ---- the end

module _ (s z : State) (u v : Parts) where
  told : (e : CheckFault) → IsFault e (unit_fault s u) → Tells e (typed_end s u)
  told (Constraint n l) h = ap (λ x. unless x s (whole_unit s (with_tentative s u))) h
  told (Limit w l) h = ap (λ x. unless x s (whole_unit s (with_tentative s u))) h
  told Memory h = tt

  pub open_told : (e : CheckFault) → IsFault e (open_fault s (tentative s s.links)) → Tells e (typed_end s u)
  unfolding unit_fault
  open_told e h = told e (first_told e (open_fault s (tentative s s.links)) _ h)

  module _ (same : z ≡ s) (is : v ≡ with_tentative s u) (complete : open_fault s (tentative s s.links) ≡ None) where
    constants_same : constants_fault z v.objects v.objects ≡ constants_fault s (with_tentative s u).objects (with_tentative s u).objects
    constants_same = λ j. constants_fault (same j) (is j).objects (is j).objects

    names_same : names_fault z v ≡ names_fault s (with_tentative s u)
    names_same = λ j. names_fault (same j) (is j)

    pub constants_told : (e : CheckFault) → IsFault e (constants_fault z v.objects v.objects) → Tells e (typed_end s u)
    unfolding unit_fault
    constants_told e h =
        told e (second_told e (open_fault s (tentative s s.links)) _ complete
        (first_told e (constants_fault s (with_tentative s u).objects (with_tentative s u).objects) _ (fault_same e _ _ constants_same h)))

    pub names_told : (e : CheckFault) → constants_fault z v.objects v.objects ≡ None → IsFault e (names_fault z v) → Tells e (typed_end s u)
    unfolding unit_fault
    names_told e c h =
        told e (second_told e (open_fault s (tentative s s.links)) _ complete
        (second_told e (constants_fault s (with_tentative s u).objects (with_tentative s u).objects) _ (sym constants_same ∙ c) (fault_same e _ _ names_same h)))

    no_fault : constants_fault z v.objects v.objects ≡ None → names_fault z v ≡ None → unit_fault s u ≡ None
    unfolding unit_fault
    no_fault c n =
        ap (λ x. or_else x (or_else (constants_fault s (with_tentative s u).objects (with_tentative s u).objects) (names_fault s (with_tentative s u)))) complete
        ∙ ap (λ x. or_else x (names_fault s (with_tentative s u))) (sym constants_same ∙ c)
        ∙ sym names_same
        ∙ n

    pub end_fine : constants_fault z v.objects v.objects ≡ None → names_fault z v ≡ None → (w : UnitTree) → w ≡ whole_unit z v → typed_end s u ≡ Fine s w
    end_fine c n w h =
        ap (λ x. unless x s (whole_unit s (with_tentative s u))) (no_fault c n)
        ∙ ap (λ x. Fine s x) (sym (h ∙ (λ j. whole_unit (same j) (is j))))

-- ---- answers

-- what a call answers is told of the end
pub passed_told : {V T : Type 0} (o : Outcome T) (e : CheckFault) (r : Result V CheckFault) → IsErrAnd r (λ d. d ≡ e) → Tells e o → IfErr r (λ d. Tells d o)
passed_told o e (Ok v) h k = tt
passed_told o e (Err d) h k = subst (λ x. Tells x o) (sym h) k

pub no_value : {V : Type 0} (is : V → Type 0) (e : CheckFault) (r : Result V CheckFault) → IsErrAnd r (λ d. d ≡ e) → IfOk r is
no_value is e (Ok v) h = absurd h
no_value is e (Err d) h = tt
