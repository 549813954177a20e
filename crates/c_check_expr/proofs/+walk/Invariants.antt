-- What falls in the walk: the size of the syntax that is left, and with the same size the rank of the function; and what
-- its loops keep.
use Rattle.std.proofs.Common.{[], ◌+◌, ◌*◌, ◌<◌, max, length, drop}
use Rattle.c_ast.specs.declared.expr.Expr.{size-Expr}
use Rattle.c_ast.specs.declared.expr.TypeName.{size-TypeName}
use Rattle.c_types.specs.Table.{AreMembersBelow}
use Rattle.c_check_expr.specs.Keeps.{Keeps}
use Rattle.c_check_expr.proofs.WalkLoops.{EnumeratorsGoing, ExprsGoing, FieldsGoing, MembersGoing, ParametersGoing, PartsGoing, SuffixesGoing}
use Rattle.c_check_expr.proofs.+walk.Given as goal

abbrev pub decreases-walk_expr::expression : goal.decreases-walk_expr::expression
decreases-walk_expr::expression l = 16 * (goal.size-walk_expr::expression l) + 0

abbrev pub decreases-walk_expr::two : goal.decreases-walk_expr::two
decreases-walk_expr::two l = 16 * (max (size-Expr l.a.now) (size-Expr l.b.now)) + 1

abbrev pub decreases-walk_expr::subscript : goal.decreases-walk_expr::subscript
decreases-walk_expr::subscript l = 16 * (max (size-Expr l.a.now) (size-Expr l.i.now)) + 2

abbrev pub decreases-walk_expr::expressions : goal.decreases-walk_expr::expressions
decreases-walk_expr::expressions l = 16 * (goal.size-walk_expr::expressions l) + 1

abbrev pub decreases-walk_expr::maybe_expression : goal.decreases-walk_expr::maybe_expression
decreases-walk_expr::maybe_expression l = 16 * (goal.size-walk_expr::maybe_expression l) + 1

abbrev pub decreases-walk_expr::callee : goal.decreases-walk_expr::callee
decreases-walk_expr::callee l = 16 * (goal.size-walk_expr::callee l) + 1

abbrev pub decreases-walk_expr::call : goal.decreases-walk_expr::call
decreases-walk_expr::call l = 16 * (max (size-Expr l.f.now) (goal.size-walk_expr::expressions (record { alloc = l.alloc; scopes = l.scopes; types = l.types; list = l.arguments; the-lifetimes = ([], ([], ([], tt))) }))) + 2

abbrev pub decreases-walk_expr::postfix : goal.decreases-walk_expr::postfix
decreases-walk_expr::postfix l = 16 * (goal.size-walk_expr::postfix l) + 1

abbrev pub decreases-walk_expr::prefix : goal.decreases-walk_expr::prefix
decreases-walk_expr::prefix l = 16 * (goal.size-walk_expr::prefix l) + 1

abbrev pub decreases-walk_expr::sizeof_expr : goal.decreases-walk_expr::sizeof_expr
decreases-walk_expr::sizeof_expr l = 16 * (goal.size-walk_expr::sizeof_expr l) + 1

abbrev pub decreases-walk_expr::sizeof_type : goal.decreases-walk_expr::sizeof_type
decreases-walk_expr::sizeof_type l = 16 * (goal.size-walk_expr::sizeof_type l) + 5

abbrev pub decreases-walk_expr::cast : goal.decreases-walk_expr::cast
decreases-walk_expr::cast l = 16 * (max (size-TypeName l.to.now) (size-Expr l.a.now)) + 5

abbrev pub decreases-walk_expr::comma : goal.decreases-walk_expr::comma
decreases-walk_expr::comma l = 16 * (goal.size-walk_expr::comma l) + 2

abbrev pub decreases-walk_types::type_name : goal.decreases-walk_types::type_name
decreases-walk_types::type_name l = 16 * (goal.size-walk_types::type_name l) + 4

abbrev pub decreases-walk_types::shape : goal.decreases-walk_types::shape
decreases-walk_types::shape l = 16 * (goal.size-walk_types::shape l) + 3

abbrev pub decreases-walk_types::specifiers : goal.decreases-walk_types::specifiers
decreases-walk_types::specifiers l = 16 * (goal.size-walk_types::specifiers l) + 2

abbrev pub decreases-walk_types::parts : goal.decreases-walk_types::parts
decreases-walk_types::parts l = 16 * (goal.size-walk_types::parts l) + 1

abbrev pub decreases-walk_types::part : goal.decreases-walk_types::part
decreases-walk_types::part l = 16 * (goal.size-walk_types::part l) + 0

abbrev pub decreases-walk_types::record : goal.decreases-walk_types::record
decreases-walk_types::record l = 16 * (goal.size-walk_types::record l) + 8

abbrev pub decreases-walk_types::member_lines : goal.decreases-walk_types::member_lines
decreases-walk_types::member_lines l = 16 * (goal.size-walk_types::member_lines l) + 7

abbrev pub decreases-walk_types::member_line : goal.decreases-walk_types::member_line
decreases-walk_types::member_line l = 16 * (goal.size-walk_types::member_line l) + 6

abbrev pub decreases-walk_types::specifiers_behind : goal.decreases-walk_types::specifiers_behind
decreases-walk_types::specifiers_behind l = 16 * (goal.size-walk_types::specifiers_behind l) + 3

abbrev pub decreases-walk_types::fields : goal.decreases-walk_types::fields
decreases-walk_types::fields l = 16 * (goal.size-walk_types::fields l) + 5

abbrev pub decreases-walk_types::field : goal.decreases-walk_types::field
decreases-walk_types::field l = 16 * (goal.size-walk_types::field l) + 4

abbrev pub decreases-walk_types::enumeration : goal.decreases-walk_types::enumeration
decreases-walk_types::enumeration l = 16 * (goal.size-walk_types::enumeration l) + 4

abbrev pub decreases-walk_types::enumerators : goal.decreases-walk_types::enumerators
decreases-walk_types::enumerators l = 16 * (goal.size-walk_types::enumerators l) + 3

abbrev pub decreases-walk_types::enumerator : goal.decreases-walk_types::enumerator
decreases-walk_types::enumerator l = 16 * (goal.size-walk_types::enumerator l) + 2

abbrev pub decreases-walk_declarators::declarator : goal.decreases-walk_declarators::declarator
decreases-walk_declarators::declarator l = 16 * (goal.size-walk_declarators::declarator l) + 2

abbrev pub decreases-walk_declarators::core : goal.decreases-walk_declarators::core
decreases-walk_declarators::core l = 16 * (goal.size-walk_declarators::core l) + 0

abbrev pub decreases-walk_declarators::suffixes : goal.decreases-walk_declarators::suffixes
decreases-walk_declarators::suffixes l = 16 * (goal.size-walk_declarators::suffixes l) + 1

abbrev pub decreases-walk_declarators::suffix : goal.decreases-walk_declarators::suffix
decreases-walk_declarators::suffix l = 16 * (goal.size-walk_declarators::suffix l) + 0

abbrev pub decreases-walk_declarators::prototype : goal.decreases-walk_declarators::prototype
decreases-walk_declarators::prototype l = 16 * (goal.size-walk_declarators::prototype l) + 6

abbrev pub decreases-walk_declarators::parameter_list : goal.decreases-walk_declarators::parameter_list
decreases-walk_declarators::parameter_list l = 16 * (goal.size-walk_declarators::parameter_list l) + 5

abbrev pub decreases-walk_declarators::parameter : goal.decreases-walk_declarators::parameter
decreases-walk_declarators::parameter l = 16 * (goal.size-walk_declarators::parameter l) + 4

abbrev pub decreases-walk_declarators::parameter_shape : goal.decreases-walk_declarators::parameter_shape
decreases-walk_declarators::parameter_shape l = 16 * (goal.size-walk_declarators::parameter_shape l) + 3

-- ---- loops

abbrev pub invariant-walk_expr::expressions-loop-e : goal.invariant-walk_expr::expressions-loop-e
invariant-walk_expr::expressions-loop-e l = ExprsGoing l.fn.scopes l.fn.types l.list l.scopes l.types l.all (drop l.e-index l.list) × Keeps l.fn.scopes l.fn.types l.scopes l.types

abbrev pub invariant-walk_types::parts-loop-specifier : goal.invariant-walk_types::parts-loop-specifier
invariant-walk_types::parts-loop-specifier l = PartsGoing l.fn.scopes l.fn.types l.list l.scopes l.types l.all (drop l.specifier-index l.list) × Keeps l.fn.scopes l.fn.types l.scopes l.types

abbrev pub invariant-walk_declarators::suffixes-loop-s : goal.invariant-walk_declarators::suffixes-loop-s
invariant-walk_declarators::suffixes-loop-s l = SuffixesGoing l.fn.scopes l.fn.types l.list l.scopes l.types l.all (drop l.s-index l.list) × Keeps l.fn.scopes l.fn.types l.scopes l.types

abbrev pub invariant-walk_declarators::parameter_list-loop-p : goal.invariant-walk_declarators::parameter_list-loop-p
invariant-walk_declarators::parameter_list-loop-p l = ParametersGoing l.alone l.fn.scopes l.fn.types l.list l.scopes l.types l.all (drop l.p-index l.list) × Keeps l.fn.scopes l.fn.types l.scopes l.types

abbrev pub invariant-walk_types::enumerators-loop-e : goal.invariant-walk_types::enumerators-loop-e
invariant-walk_types::enumerators-loop-e l = EnumeratorsGoing l.fn.scopes l.fn.types l.list l.scopes l.types l.all (drop l.e-index l.list) × Keeps l.fn.scopes l.fn.types l.scopes l.types

abbrev pub invariant-walk_types::member_lines-loop-m : goal.invariant-walk_types::member_lines-loop-m
invariant-walk_types::member_lines-loop-m l = MembersGoing l.fn.scopes l.fn.types l.list l.scopes l.types l.all (drop l.m-index l.list) × Keeps l.fn.scopes l.fn.types l.scopes l.types × AreMembersBelow (length l.types.forms) l.all

abbrev pub invariant-walk_types::fields-loop-f : goal.invariant-walk_types::fields-loop-f
invariant-walk_types::fields-loop-f l = FieldsGoing l.fn.before l.base l.fn.scopes l.fn.types l.list l.scopes l.types l.all (drop l.f-index l.list) × Keeps l.fn.scopes l.fn.types l.scopes l.types × AreMembersBelow (length l.types.forms) l.all × (l.base < length l.types.forms)
