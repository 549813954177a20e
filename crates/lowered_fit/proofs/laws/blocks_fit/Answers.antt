use Rattle.lowered_fit.proofs.lemmas.Finding.{template_found, root_goes_on, lone_root_goes_on}
use Rattle.lowered_fit.proofs.laws.blocks_fit.Goals as goal

pub returns-clause-templates : goal.returns-clause-templates
returns-clause-templates c = template_found

pub returns-clause-roots : goal.returns-clause-roots
returns-clause-roots c = root_goes_on

pub returns-clause-lone : goal.returns-clause-lone
returns-clause-lone c = lone_root_goes_on
