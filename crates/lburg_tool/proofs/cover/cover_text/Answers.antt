use Rattle.std.proofs.Common.{inl, inr}
use Rattle.lburg_tool.proofs.Refused.{description_told}
use Rattle.lburg_tool.proofs.cover.cover_text.Goals as goal

pub returns-clause-refused : goal.returns-clause-refused
returns-clause-refused c = λ why told. inr (c.in_ok-description.description, c.in_ok-description.ensures.found, c.cover_tail.ensures.refused why told)

pub returns-in_err-description-clause-refused : goal.returns-in_err-description-clause-refused
returns-in_err-description-clause-refused c = λ why told.
    inl (description_told c.from_residual.result c.args.input.now _ why c.in_err-description.ensures.fault c.from_residual.ensures.1 told)
