use Rattle.c_ast.specs.declared.expr.Specifiers.{out-roll-Specifiers}
use Rattle.c_ast.proofs.lemmas.SeenTypes.{specifiers_parts}
use Rattle.c_expr.proofs.type_nodes.specified.Goals as goal

pub returns : goal.returns
returns c = rw (specifiers_parts, out-roll-Specifiers)
