use Rattle.c_ast.specs.declared.expr.Parameter.{out-roll-Parameter}
use Rattle.c_ast.proofs.lemmas.SeenTypes.{parameter_parts}
use Rattle.c_expr.proofs.type_nodes.parameter.Goals as goal

pub returns : goal.returns
returns c = rw (parameter_parts, out-roll-Parameter)
