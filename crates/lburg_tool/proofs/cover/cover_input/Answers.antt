use Rattle.std.proofs.Common.{ℕ, List, refl, sym, ap, subst}
use Rattle.std.specs.Prelude.{Err}
use Rattle.std.proofs.KnownBytes.{Keeps-refl}
use Rattle.outcomes.proofs.lemmas.Works.{did_write, worked}
use Rattle.lburg_tool.specs.Cover.{IsCover, WritesCover, RefusesCover, cover_behaviour}
use Rattle.lburg_tool.proofs.cover.cover_input.Goals as goal

pub returns-in-Ok-clause-worked : goal.returns-in-Ok-clause-worked
returns-in-Ok-clause-worked g c =
    let Covers : List ℕ → Type 0 = λ text. IsCover c.args.input.now text c.in-Ok.cover.uncovered in
    worked cover_behaviour c.args.input.now _ _ _ _ c.write_text.result c.cover_laws.ensures.apart
    (did_write (WritesCover c.args.input.now) (RefusesCover c.args.input.now) c.end_of.result c.as_slice.result.now _ _ _ _ c.write_text.result (c.in-Ok.cover.uncovered, subst Covers (sym c.as_slice.ensures) c.in-Ok.ensures.found, c.end_of.ensures) c.write_text.ensures.written)

pub returns-in-Err-Refused-clause-worked : goal.returns-in-Err-Refused-clause-worked
returns-in-Err-Refused-clause-worked g c =
    let refuses = c.in-Err-Refused.ensures.refused c.in-Err-Refused.why (ap Err c.in-Err-Refused.field-0-is) in
    (record { refuses = refuses; nothing = λ end text writes. c.cover_laws.ensures.apart c.args.input.now end text c.in-Err-Refused.why writes refuses }, Keeps-refl _, refl)
