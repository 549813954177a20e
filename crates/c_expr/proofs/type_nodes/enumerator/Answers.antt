use Rattle.c_ast.specs.declared.expr.Enumerator.{out-roll-Enumerator}
use Rattle.c_ast.proofs.lemmas.SeenTypes.{enumerator_parts}
use Rattle.c_expr.proofs.type_nodes.enumerator.Goals as goal

pub returns : goal.returns
returns c = rw (enumerator_parts, out-roll-Enumerator)
