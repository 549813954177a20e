-- What a public call says of a walk: typing as a relation, and the first fault.
use Rattle.std.proofs.Common.{◌≡◌, ℕ, Some, ap, ◌∙◌, subst}
use Rattle.std.specs.Prelude.{Option, Result, Ok, Err, IfOk, IfErr}
use Rattle.lcc_base.specs.declared.which.Which.{Which}
use Rattle.c_symbols.specs.Scoping.{Scoping}
use Rattle.c_types.specs.Table.{Table}
use Rattle.c_meaning.specs.Constraints.{Breaks, Fault, Passes}
use Rattle.c_meaning.specs.Laws.{IsTyping, fault_of}
use Rattle.c_meaning.specs.State.{State}
use Rattle.c_meaning.specs.Typing.{Outcome, Fine, Bad}
use Rattle.c_values.specs.declared.check_fault.CheckFault.{CheckFault}
use Rattle.c_values.specs.declared.check_fault.CheckFault.TheVariants.{Constraint, Limit}
use Rattle.c_check_expr.specs.AtNode.{Tells}
use Rattle.c_check_expr.specs.Known.{state_of}

pub relates : {V T : Type 0} (view : Table → V → T) (o : Outcome T) (types : State → T → Type 0) (u : Scoping) (b : Table) (r : Result V CheckFault) → IsTyping o types → IfOk r (λ v. o ≡ Fine (state_of u b) (view b v)) → IfOk r (λ v. types (state_of u b) (view b v))
relates view o types u b (Ok v) h k = (h (state_of u b) (view b v)).1 k
relates view o types u b (Err e) h k = tt

-- the fault that is told is the first
pub breaks : {V T : Type 0} (o : Outcome T) (first : Option Fault) (r : Result V CheckFault) (n l : ℕ) → first ≡ fault_of o → IfErr r (λ e. Tells e o) → r ≡ Err (Constraint n l) → first ≡ Some (Breaks n l)
breaks {V = V} o first r n l h k e = let f : o ≡ Bad (Breaks n l) = subst (λ (x : Result V CheckFault). IfErr x (λ e. Tells e o)) e k in h ∙ ap fault_of f

pub passes : {V T : Type 0} (o : Outcome T) (first : Option Fault) (r : Result V CheckFault) (w : Which) (l : ℕ) → first ≡ fault_of o → IfErr r (λ e. Tells e o) → r ≡ Err (Limit w l) → first ≡ Some (Passes w l)
passes {V = V} o first r w l h k e = let f : o ≡ Bad (Passes w l) = subst (λ (x : Result V CheckFault). IfErr x (λ e. Tells e o)) e k in h ∙ ap fault_of f
