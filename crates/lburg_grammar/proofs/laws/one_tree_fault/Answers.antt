use Rattle.lburg_grammar.proofs.LawsTails.{one_first, no_first}
use Rattle.lburg_grammar.proofs.laws.one_tree_fault.Goals as goal

pub returns-clause-one : goal.returns-clause-one
returns-clause-one c = λ text d e f g h a b. one_first text d e f g c.one_text.ensures h a b

pub returns-clause-none : goal.returns-clause-none
returns-clause-none c = λ text d e trees f is h a b. no_first text d e trees f c.one_text.ensures c.one_spelling.ensures is.names h a b
