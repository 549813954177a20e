use Rattle.c_check_expr.specs.Kept.{keeps_later}
use Rattle.c_check_expr.proofs.tags.new_tag.Goals as goal

pub returns-in_err-of-clause-keeps : goal.returns-in_err-of-clause-keeps
returns-in_err-of-clause-keeps c = keeps_later c.args.scopes.now c.args.types.now c.add_tagged.new.types c.add_tagged.ensures.extends c.requires.symbols

pub declare-requires-clause-symbols : goal.declare-requires-clause-symbols
declare-requires-clause-symbols c = (keeps_later c.args.scopes.now c.args.types.now c.add_tagged.new.types c.add_tagged.ensures.extends c.requires.symbols).symbols
