use Rattle.std.proofs.Common.{ap, ◌∙◌}
use Rattle.c_expr.specs.State.{ahead}
use Rattle.c_decl.proofs.Places.{where_ok, put_ahead, goes_named}
use Rattle.c_decl.proofs.steps.put.Goals as goal

pub returns-clause-put : goal.returns-clause-put
returns-clause-put c = ap ahead (where_ok c.put_name.result c.is_err.result c.is_err.ensures.value c.if-is_err.false c.put_name.ensures.ok) ∙ put_ahead c.args.p.now c.args.name.now c.args.typedef

pub returns-clause-going : goal.returns-clause-going
returns-clause-going c = goes_named c.args.p.now c.put_name.new.self _ c.requires.sound (where_ok c.put_name.result c.is_err.result c.is_err.ensures.value c.if-is_err.false c.put_name.ensures.ok)
