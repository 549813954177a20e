-- Faults that are told: of two in order, and where an error passes one on.
use Rattle.std.proofs.Common.{◌≡◌, sym, ap, ◌∙◌, subst}
use Rattle.std.specs.Prelude.{Option, Result, Ok, Err, IfErr, IsErrAnd}
use Rattle.c_meaning.specs.Constraints.{Fault}
use Rattle.c_meaning.specs.Postorder.{or_else}
use Rattle.c_values.specs.declared.check_fault.CheckFault.{CheckFault}
use Rattle.c_values.specs.declared.check_fault.CheckFault.TheVariants.{Constraint, Limit, Memory}
use Rattle.c_check_expr.specs.StepFaults.{IsFault}

pub told_first : (f : CheckFault) (x rest : Option Fault) → IsFault f x → IsFault f (or_else x rest)
told_first (Constraint number line) x rest h = ap (λ y. or_else y rest) h
told_first (Limit limit line) x rest h = ap (λ y. or_else y rest) h
told_first Memory x rest h = tt

pub told_same : (f : CheckFault) (x y : Option Fault) → y ≡ x → IsFault f x → IsFault f y
told_same (Constraint number line) x y e h = e ∙ h
told_same (Limit limit line) x y e h = e ∙ h
told_same Memory x y e h = tt

-- an error that is passed on
pub told_on : {T : Type 0} (r : Result T CheckFault) (f : CheckFault) (x : Option Fault) → IsErrAnd r (λ d. d ≡ f) → IsFault f x → IfErr r (λ d. IsFault d x)
told_on (Ok v) f x h g = tt
told_on (Err d) f x h g = subst (λ e. IsFault e x) (sym h) g
