use Rattle.lburg_grammar.proofs.FaultNone.{no_fault}
use Rattle.lburg_grammar.proofs.LawsFirst.{one_first}
use Rattle.lburg_grammar.proofs.laws.one_fault.Goals as goal

pub returns-clause-one : goal.returns-clause-one
returns-clause-one c = λ text f g a b. one_first text f g c.one_text.ensures a b

pub returns-clause-none : goal.returns-clause-none
returns-clause-none c = λ text d f a b. no_fault d text f c.one_text.ensures c.one_line.ensures c.one_tree.ensures a b
