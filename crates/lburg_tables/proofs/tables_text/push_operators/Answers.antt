use Rattle.lburg_tables.proofs.Lines.{operator_step}
use Rattle.lburg_tables.proofs.tables_text.push_operators.Goals as goal

pub loop-place-preserved : goal.loop-place-preserved
loop-place-preserved c =
    operator_step c.args.tables.now.rules c.loop-place.place c.terminals-terminals.result.now c.index-terminals-place.result c.args.out.now c.loop-place.out c.push_operator.new.out c.loop-place-test.true c.index-terminals-place.is c.loop-place.invariant c.in_ok-push_operator.ensures
