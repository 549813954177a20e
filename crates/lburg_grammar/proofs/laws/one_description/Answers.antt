use Rattle.lburg_grammar.proofs.ResolveText.{one_description}
use Rattle.lburg_grammar.proofs.laws.one_description.Goals as goal

pub returns : goal.returns
returns c = one_description c.one_text.ensures c.one_line.ensures
