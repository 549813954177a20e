-- What a fault tells, where it is told of a call that has one constraint only.
use Rattle.std.proofs.Common.{◌≡◌, ℕ, ap, ◌∙◌}
use Rattle.std.specs.Prelude.{◌≢◌}
use Rattle.c_meaning.specs.Constraints.{Breaks}
use Rattle.c_meaning.specs.Typing.{Outcome, Bad}
use Rattle.c_values.specs.declared.check_fault.CheckFault.{CheckFault}
use Rattle.c_values.specs.declared.check_fault.CheckFault.TheVariants.{Constraint, Limit, Memory}
use Rattle.c_check_expr.specs.AtNode.{Tells}

pub tells_constraint : {T : Type 0} (e : CheckFault) (number line : ℕ) (outcome : Outcome T) → (e ≢ Memory → (e ≡ Constraint number line) × (outcome ≡ Bad (Breaks number line))) → Tells e outcome
tells_constraint Memory number line outcome h = tt
tells_constraint (Constraint n l) number line outcome h =
    let r = h (λ m. cc) in
    let a : number ≡ n = (let e = r.0 in cc) in
    let b : line ≡ l = (let e = r.0 in cc) in
    r.1 ∙ ap (λ k. Bad (Breaks k line)) a ∙ ap (λ k. Bad (Breaks n k)) b
tells_constraint (Limit w l) number line outcome h = (let r = h (λ m. cc) in let e = r.0 in absurd (cc))
