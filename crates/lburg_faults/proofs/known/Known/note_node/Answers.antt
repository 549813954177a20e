use Rattle.std.proofs.Common.{refl, inl}
use Rattle.lcc_text.specs.Names.{bytes_of}
use Rattle.lburg_faults.proofs.RuleLists.{found, lacks, ok_of_three}
use Rattle.lburg_faults.proofs.RuleGives.{node_mentioned}
use Rattle.lburg_faults.proofs.known.Known.note_node.Goals as goal

pub returns-then-is_some-clause-gives : goal.returns-then-is_some-clause-gives
returns-then-is_some-clause-gives c = inl (found (bytes_of c.args.self.now.terminals) c.args.name.now _ _ c.find.ensures c.is_some.ensures c.if-is_some.true, refl)

pub returns-then-has_operands-clause-gives : goal.returns-then-has_operands-clause-gives
returns-then-has_operands-clause-gives c = (lacks (bytes_of c.args.self.now.terminals) c.args.name.now _ _ c.find.ensures c.is_some.ensures c.if-is_some.false, c.if-has_operands.true)

pub returns-clause-gives : goal.returns-clause-gives
returns-clause-gives c =
    ok_of_three _ _ _ _ _ (λ f full room named. node_mentioned (bytes_of c.args.self.now.terminals) (bytes_of c.args.self.now.nonterminals) _ c.args.name.now c.args.has_operands f c.if-has_operands.false (lacks (bytes_of c.args.self.now.terminals) c.args.name.now _ _ c.find.ensures c.is_some.ensures c.if-is_some.false) full room named) c.mention.ensures.full c.mention.ensures.room c.mention.ensures.names
