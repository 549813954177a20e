use Rattle.c_ast.specs.declared.expr.MemberDeclarator.{out-roll-MemberDeclarator}
use Rattle.c_ast.proofs.lemmas.SeenTypes.{field_parts}
use Rattle.c_expr.proofs.type_nodes.field.Goals as goal

pub returns : goal.returns
returns c = rw (field_parts, out-roll-MemberDeclarator)
