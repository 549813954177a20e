use Rattle.lowered_forms.proofs.lemmas.Blocks.{answers_are_asked, asked_there, rooted_there, rooted_one_there}
use Rattle.lowered_forms.proofs.laws.blocks_answer.Goals as goal

pub returns-clause-answers : goal.returns-clause-answers
returns-clause-answers c = answers_are_asked

pub returns-clause-templates : goal.returns-clause-templates
returns-clause-templates c = asked_there

pub returns-clause-roots : goal.returns-clause-roots
returns-clause-roots c = rooted_there

pub returns-clause-lone : goal.returns-clause-lone
returns-clause-lone c = rooted_one_there
