use Rattle.lcc_text.specs.Names.{bytes_of}
use Rattle.lburg_grammar.proofs.ResolveRuleLists.{line_there, line_more}
use Rattle.lburg_grammar.proofs.resolved_rule.resolved_rules.Goals as goal

pub resolved_rule-requires-clause-known : goal.resolved_rule-requires-clause-known
resolved_rule-requires-clause-known c =
    line_there c.args.lines.now c.loop-line.line-index c.line-item.result c.loop-line-test.true c.line-item.is (bytes_of c.args.terminals.now) (bytes_of c.args.nonterminals.now) c.requires.known

pub loop-line-preserved : goal.loop-line-preserved
loop-line-preserved c =
    line_more c.args.lines.now c.loop-line.line-index c.line-item.result c.loop-line-test.true c.line-item.is (bytes_of c.args.terminals.now) (bytes_of c.args.nonterminals.now)
    c.loop-line.rules.items c.push.new.self.items _ c.loop-line.invariant c.in_ok-resolved_rule.ensures c.in_ok-push.ensures.items
