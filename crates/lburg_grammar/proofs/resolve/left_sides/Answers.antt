use Rattle.std.proofs.Common.{map, ap}
use Rattle.lcc_text.specs.Names.{bytes_of}
use Rattle.lburg_grammar.proofs.ResolveFirsts.{no_use, firsts_more}
use Rattle.lburg_grammar.proofs.resolve.left_sides.Goals as goal

pub loop-rule-init : goal.loop-rule-init
loop-rule-init c = no_use (bytes_of c.new-names.result) (ap (λ ks. map (λ k. k.now) ks) c.new-names.ensures.empty)

pub loop-rule-preserved : goal.loop-rule-preserved
loop-rule-preserved c = firsts_more c.args.rules.now c.loop-rule.rule-index c.rule-item.result c.loop-rule-test.true c.rule-item.is (bytes_of c.loop-rule.names) (bytes_of c.place.new.names) c.loop-rule.invariant c.in_ok-place.ensures.names
