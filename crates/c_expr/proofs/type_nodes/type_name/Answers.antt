use Rattle.c_ast.specs.declared.expr.TypeName.{out-roll-TypeName}
use Rattle.c_ast.proofs.lemmas.SeenTypes.{type_name_parts}
use Rattle.c_expr.proofs.type_nodes.type_name.Goals as goal

pub returns : goal.returns
returns c = rw (type_name_parts, out-roll-TypeName)
