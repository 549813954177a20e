use Rattle.mips_rules.proofs.RuleTable.{action_is}
use Rattle.mips_rules.proofs.rule_line.action_of.Goals as goal

pub returns : goal.returns
returns c = action_is c.args.rule c.action_in.result c.requires.some c.action_in.ensures
