use Rattle.mips_rules.proofs.ShippedDescription.{makes_description}
use Rattle.mips_rules.proofs.Coverage.{is_shipped, derives_statements, covers_roots}
use Rattle.mips_rules.proofs.mips_description.description.Goals as goal

pub of_parts-requires : goal.of_parts-requires
of_parts-requires c =
    makes_description c.in_ok-terminals.terminals.items c.in_ok-nonterminals.nonterminals.items c.in_ok-rules.rules.items c.in_ok-terminals.ensures c.in_ok-nonterminals.ensures c.in_ok-rules.ensures.rows c.in_ok-rules.ensures.costs c.in_ok-rules.ensures.ranges

pub returns-clause-derives : goal.returns-clause-derives
returns-clause-derives c = derives_statements c.of_parts.result (is_shipped c.of_parts.result c.in_ok-terminals.terminals.items c.in_ok-nonterminals.nonterminals.items c.in_ok-rules.rules.items c.of_parts.ensures c.in_ok-terminals.ensures c.in_ok-nonterminals.ensures c.in_ok-rules.ensures.rows c.in_ok-rules.ensures.costs c.in_ok-rules.ensures.ranges)

pub returns-clause-covers : goal.returns-clause-covers
returns-clause-covers c = covers_roots c.of_parts.result (is_shipped c.of_parts.result c.in_ok-terminals.terminals.items c.in_ok-nonterminals.nonterminals.items c.in_ok-rules.rules.items c.of_parts.ensures c.in_ok-terminals.ensures c.in_ok-nonterminals.ensures c.in_ok-rules.ensures.rows c.in_ok-rules.ensures.costs c.in_ok-rules.ensures.ranges)
