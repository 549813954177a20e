use Rattle.c_ast.specs.declared.expr.Declarator.{out-roll-Declarator}
use Rattle.c_ast.proofs.lemmas.SeenTypes.{declarator_parts}
use Rattle.c_expr.proofs.type_nodes.declarator.Goals as goal

pub returns : goal.returns
returns c = rw (declarator_parts, out-roll-Declarator)
