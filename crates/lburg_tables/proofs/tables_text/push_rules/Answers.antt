use Rattle.lburg_tables.proofs.Lines.{rule_step}
use Rattle.lburg_tables.proofs.tables_text.push_rules.Goals as goal

pub loop-place-preserved : goal.loop-place-preserved
loop-place-preserved c =
    rule_step c.args.d.now c.loop-place.place c.rules-rules.result.now c.index-rules-place.result c.args.out.now c.loop-place.out c.push_rule.new.out c.loop-place-test.true c.index-rules-place.is c.loop-place.invariant c.in_ok-push_rule.ensures
