-- What typing makes of syntax where scopes and a table tell what is known, as contracts of the walk speak of it: it is
-- not unfolded there.
use Rattle.std.specs.Prelude.{ℕ, ℤ, Bool, List}
use Rattle.c_ast.specs.Trees.{CoreTree as CoreSyntax, DeclaratorTree, EnumeratorTree, EnumeratorTrees, ExprTree, ExprTrees, FieldTree, FieldTrees, MaybeDeclarator, MaybeExpr, MemberTree, MemberTrees, ParameterTree, ParameterTrees, SpecifierTree, SpecifierTrees, SpecifiersTree, SuffixTree, SuffixTrees, TypeNameTree}
use Rattle.std.specs.Prelude.{Option}
use Rattle.c_symbols.specs.Scoping.{Scoping}
use Rattle.c_types.specs.CType.{CType}
use Rattle.c_types.specs.Layout.{MemberType}
use Rattle.c_types.specs.declared.type_form.Member.{Member}
use Rattle.c_types.specs.Table.{Table, type_at}
use Rattle.c_meaning.specs.Nodes as node
use Rattle.c_meaning.specs.TypeRows as rows
use Rattle.c_meaning.specs.Typing.{Outcome, Fine, all_typed, callee, maybe_typed, then_do, typed, typed_core, typed_declarator, typed_declared, typed_enumerators, typed_fields, typed_member, typed_members, typed_name, typed_parameter, typed_parameter_shape, typed_parameters, typed_part, typed_parts, typed_shape, typed_specifiers, typed_suffix, typed_suffixes}
use Rattle.c_meaning.specs.Typing as typing
use Rattle.c_meaning.specs.Values.{CoreTree, CoreTrees}
use Rattle.c_check_expr.specs.Known.{state_of}
use Rattle.c_check_expr.specs.Walks.{members, numbered, with_field}

unfoldable pub expr_in : Scoping → Table → ExprTree → Outcome CoreTree
expr_in s t e = typed (state_of s t) e

unfoldable pub pair_in : Scoping → Table → ExprTree → ExprTree → Outcome (CoreTree × CoreTree)
pair_in s t a b = then_do (typed (state_of s t) a) (λ m c. then_do (typed m b) (λ u d. Fine u (c, d)))

unfoldable pub exprs_in : Scoping → Table → ExprTrees → Outcome CoreTrees
exprs_in s t es = all_typed (state_of s t) es

unfoldable pub maybe_expr_in : Scoping → Table → MaybeExpr → Outcome (Option CoreTree)
maybe_expr_in s t e = maybe_typed (state_of s t) e

-- what is called
unfoldable pub callee_in : Scoping → Table → ExprTree → Outcome CoreTree
callee_in s t f = callee (state_of s t) f (typed (state_of s t) f)

unfoldable pub name_in : Scoping → Table → TypeNameTree → Outcome CType
name_in s t name = typed_name (state_of s t) name

unfoldable pub shape_in : Scoping → Table → ℕ → MaybeDeclarator → Outcome typing.Shaped
shape_in s t base d = typed_shape (state_of s t) (type_at t base) d

unfoldable pub specifiers_in : Scoping → Table → SpecifiersTree → Outcome rows.Specified
specifiers_in s t specs = typed_specifiers (state_of s t) specs

unfoldable pub parts_in : Scoping → Table → SpecifierTrees → Outcome (List node.Part)
parts_in s t ps = typed_parts (state_of s t) ps

unfoldable pub part_in : Scoping → Table → SpecifierTree → Outcome node.Part
part_in s t p = typed_part (state_of s t) p

unfoldable pub members_in : Scoping → Table → List Member → MemberTrees → Outcome (List MemberType)
members_in s t before ms = typed_members (state_of s t) (members t before) ms

unfoldable pub member_in : Scoping → Table → List Member → MemberTree → Outcome (List MemberType)
member_in s t before m = typed_member (state_of s t) (members t before) m

unfoldable pub fields_in : Scoping → Table → List Member → ℕ → FieldTrees → Outcome (List MemberType)
fields_in s t before base fs = typed_fields (state_of s t) (members t before) (type_at t base) fs

unfoldable pub field_in : Scoping → Table → List Member → ℕ → FieldTree → Outcome (List MemberType)
field_in s t before base f = with_field (state_of s t) (members t before) (type_at t base) f

unfoldable pub enumerators_in : Scoping → Table → ℤ → EnumeratorTrees → Outcome ℤ
enumerators_in s t next es = typed_enumerators (state_of s t) next es

unfoldable pub enumerator_in : Scoping → Table → ℤ → EnumeratorTree → Outcome ℤ
enumerator_in s t next e = numbered (state_of s t) next e

unfoldable pub declarator_in : Scoping → Table → DeclaratorTree → Outcome typing.Declared
declarator_in s t d = typed_declarator (state_of s t) d

unfoldable pub core_in : Scoping → Table → CoreSyntax → Outcome typing.Declared
core_in s t c = typed_core (state_of s t) c

unfoldable pub suffixes_in : Scoping → Table → SuffixTrees → Outcome (List node.Step)
suffixes_in s t xs = typed_suffixes (state_of s t) xs

unfoldable pub suffix_in : Scoping → Table → SuffixTree → Outcome node.Step
suffix_in s t x = typed_suffix (state_of s t) x

unfoldable pub parameters_in : Scoping → Table → Bool → ParameterTrees → Outcome (List node.NamedParameter)
parameters_in s t alone ps = typed_parameters (state_of s t) alone 0 ps

unfoldable pub parameter_in : Scoping → Table → Bool → ℕ → ParameterTree → Outcome node.NamedParameter
parameter_in s t alone index p = typed_parameter (state_of s t) alone index p

unfoldable pub parameter_shape_in : Scoping → Table → ℕ → MaybeDeclarator → Outcome typing.Shaped
parameter_shape_in s t base d = typed_parameter_shape (state_of s t) (type_at t base) d

-- what specifiers and a declarator declare
unfoldable pub declared_in : Scoping → Table → SpecifiersTree → DeclaratorTree → Outcome CType
declared_in s t specs d = typed_declared (state_of s t) specs d
