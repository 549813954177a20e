use Rattle.std.proofs.Common.{sym, subst}
use Rattle.std.specs.Prelude.{OnOk}
use Rattle.std.specs.Io.KnownBytes.{Appends}
use Rattle.outcomes.specs.declared.outcome.Outcome.{Outcome}
use Rattle.outcomes.specs.Outcome.{line_of}
use Rattle.lcc_top.proofs.report.write_line.Goals as goal

pub returns-in-InputTooLong-clause-all : goal.returns-in-InputTooLong-clause-all
returns-in-InputTooLong-clause-all g c =
    let Had : Outcome → Type 0 = λ o. OnOk c.write_all-in-InputTooLong.result (Appends (g.E.Sink.taken c.args.report.now) (g.E.Sink.taken c.write_all-in-InputTooLong.new.sink) (line_of o)) in
    subst Had (sym c.in-InputTooLong.is) c.write_all-in-InputTooLong.ensures.all
