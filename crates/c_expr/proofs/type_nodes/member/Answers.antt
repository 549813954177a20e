use Rattle.c_ast.specs.declared.expr.Member.{out-roll-Member}
use Rattle.c_ast.proofs.lemmas.SeenTypes.{member_parts}
use Rattle.c_expr.proofs.type_nodes.member.Goals as goal

pub returns : goal.returns
returns c = rw (member_parts, out-roll-Member)
