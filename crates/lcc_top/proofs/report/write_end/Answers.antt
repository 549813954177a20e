use Rattle.std.proofs.Common.{sym, subst}
use Rattle.std.specs.Prelude.{OnOk, OnErr}
use Rattle.std.specs.Io.KnownBytes.{Appends}
use Rattle.lcc_base.specs.Taken.{TookPrefix}
use Rattle.outcomes.specs.declared.outcome.End.{End}
use Rattle.outcomes.specs.Outcome.{end_line}
use Rattle.lcc_top.proofs.report.write_end.Goals as goal

pub returns-in-Stuck-clause-prefix : goal.returns-in-Stuck-clause-prefix
returns-in-Stuck-clause-prefix g c =
    let Took : End → Type 0 = λ e. OnErr c.write_stuck.result (TookPrefix (g.E.Sink.taken c.args.report.now) (g.E.Sink.taken c.write_stuck.new.report) (end_line e)) in
    subst Took (sym c.in-Stuck.is) c.write_stuck.ensures.prefix

pub returns-in-StackOut-clause-all : goal.returns-in-StackOut-clause-all
returns-in-StackOut-clause-all g c =
    let Had : End → Type 0 = λ e. OnOk c.write_place.result (Appends (g.E.Sink.taken c.args.report.now) (g.E.Sink.taken c.write_place.new.report) (end_line e)) in
    subst Had (sym c.in-StackOut.is) c.write_place.ensures.all

pub returns-in-OutOfSteps-clause-all : goal.returns-in-OutOfSteps-clause-all
returns-in-OutOfSteps-clause-all g c =
    let Had : End → Type 0 = λ e. OnOk c.write_number-in-OutOfSteps.result (Appends (g.E.Sink.taken c.args.report.now) (g.E.Sink.taken c.write_number-in-OutOfSteps.new.report) (end_line e)) in
    subst Had (sym c.in-OutOfSteps.is) c.write_number-in-OutOfSteps.ensures.all
