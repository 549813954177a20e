use Rattle.std.proofs.Common.{refl, sym, ap, subst}
use Rattle.std.specs.Prelude.{Err}
use Rattle.std.proofs.KnownBytes.{Keeps-refl}
use Rattle.outcomes.specs.declared.outcome.Refusal.{Refusal}
use Rattle.outcomes.specs.Behaviour.{IsRefused}
use Rattle.outcomes.proofs.lemmas.Works.{worked}
use Rattle.ceval_tool.specs.Evaluation.{RefusesCeval, ceval_behaviour}
use Rattle.ceval_tool.proofs.Evaluated.{evaluated}
use Rattle.ceval_tool.proofs.evaluation.evaluate_input.Goals as goal

pub returns-in-Ok-clause-worked : goal.returns-in-Ok-clause-worked
returns-in-Ok-clause-worked g c =
    let o = c.args.options in
    worked (ceval_behaviour o) c.args.input.now _ _ _ _ c.run_program.result (c.ceval_laws.ensures.apart o)
    (evaluated o c.in-Ok.core c.args.input.now c.parted.result.0.now c.parted.result.1.now _ _ _ _ c.run_program.result c.parted.ensures c.in-Ok.ensures.found c.run_program.ensures.ran)

pub returns-in-Err-Refused-clause-worked : goal.returns-in-Err-Refused-clause-worked
returns-in-Err-Refused-clause-worked g c =
    let input = c.args.input.now in
    let why = c.in-Err-Refused.why in
    let source = c.in-Err-Refused.ensures.refused why (ap Err c.in-Err-Refused.field-0-is) in
    let refuses : RefusesCeval input why = (c.parted.result.0.now, c.parted.result.1.now, c.parted.ensures, source) in
    let Told : Refusal → Type 0 = λ w. IsRefused (ceval_behaviour c.args.options) input w in
    let told : Told why = record { refuses = refuses; nothing = λ end text writes. c.ceval_laws.ensures.apart c.args.options input end text why writes refuses } in
    (subst Told (sym c.in-Err-Refused.why-is) told, Keeps-refl _, refl)
