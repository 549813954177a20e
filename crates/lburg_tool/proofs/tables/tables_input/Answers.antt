use Rattle.std.proofs.Common.{ℕ, List, refl, sym, ap, subst}
use Rattle.std.specs.Prelude.{Err}
use Rattle.std.proofs.KnownBytes.{Keeps-refl}
use Rattle.outcomes.specs.declared.outcome.End.TheVariants as ends
use Rattle.outcomes.proofs.lemmas.Works.{did_write, worked}
use Rattle.lburg_tool.specs.Cover.{RefusesDescription}
use Rattle.lburg_tool.specs.Tables.{IsTables, WritesTables, tables_behaviour}
use Rattle.lburg_tool.proofs.tables.tables_input.Goals as goal

pub returns-in-Ok-clause-worked : goal.returns-in-Ok-clause-worked
returns-in-Ok-clause-worked g c =
    let Made : List ℕ → Type 0 = λ text. IsTables c.args.input.now text in
    worked tables_behaviour c.args.input.now _ _ _ _ c.write_text.result c.tables_laws.ensures.apart
    (did_write (WritesTables c.args.input.now) (RefusesDescription c.args.input.now) ends.Finished c.as_slice.result.now _ _ _ _ c.write_text.result (subst Made (sym c.as_slice.ensures) c.in-Ok.ensures.found) c.write_text.ensures.written)

pub returns-in-Err-Refused-clause-worked : goal.returns-in-Err-Refused-clause-worked
returns-in-Err-Refused-clause-worked g c =
    let refuses = c.in-Err-Refused.ensures.refused c.in-Err-Refused.why (ap Err c.in-Err-Refused.field-0-is) in
    (record { refuses = refuses; nothing = λ end text writes. c.tables_laws.ensures.apart c.args.input.now end text c.in-Err-Refused.why writes refuses }, Keeps-refl _, refl)
