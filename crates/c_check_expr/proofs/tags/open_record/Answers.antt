use Rattle.c_check_expr.specs.Kept.{keeps_later}
use Rattle.c_check_expr.proofs.tags.open_record.Goals as goal

pub returns-in_default-clause-keeps : goal.returns-in_default-clause-keeps
returns-in_default-clause-keeps c = keeps_later c.args.scopes.now c.args.types.now c.add_tagged.new.types c.add_tagged.ensures.extends c.requires
