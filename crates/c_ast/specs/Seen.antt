-- The trees that values are, as contracts of readers and checkers speak of them: they are not unfolded there.
use Rattle.std.specs.Prelude.{ℕ, Option, Some, None}
use Rattle.c_ast.specs.declared.expr.DeclaratorCore.{DeclaratorCore}
use Rattle.c_ast.specs.declared.expr.ExprForm.{ExprForm}
use Rattle.c_ast.specs.declared.expr.SpecifierForm.{SpecifierForm}
use Rattle.c_ast.specs.declared.expr.SuffixForm.{SuffixForm}
use Rattle.c_ast.specs.declared.expr.Declarator.{Declarator}
use Rattle.c_ast.specs.declared.expr.Enumerator.{Enumerator}
use Rattle.c_ast.specs.declared.expr.Expr.{Expr}
use Rattle.c_ast.specs.declared.expr.Member.{Member}
use Rattle.c_ast.specs.declared.expr.MemberDeclarator.{MemberDeclarator}
use Rattle.c_ast.specs.declared.expr.Parameter.{Parameter}
use Rattle.c_ast.specs.declared.expr.Specifier.{Specifier}
use Rattle.c_ast.specs.declared.expr.Specifiers.{Specifiers}
use Rattle.c_ast.specs.declared.expr.Suffix.{Suffix}
use Rattle.c_ast.specs.declared.expr.TypeName.{TypeName}
use Rattle.c_ast.specs.Trees.{ExprTree, MaybeExpr, TypeNameTree, SpecifiersTree, SpecifierTree, MemberTree, FieldTree, EnumeratorTree, DeclaratorTree, MaybeDeclarator, CoreTree, SuffixTree, ParameterTree}
use Rattle.c_ast.specs.Views.{expr_of, type_name_of, specifiers_of, specifier_of, member_of, field_of, enumerator_of, declarator_of, maybe_declarator_of, maybe_expr_of, suffix_of, parameter_of, core_of, expr_form_of, specifier_form_of, suffix_form_of}

unfoldable pub expr_seen : Expr → ExprTree
expr_seen v = expr_of v

unfoldable pub expr_form_seen : ExprForm → ℕ → ExprTree
expr_form_seen v line = expr_form_of v line

unfoldable pub type_name_seen : TypeName → TypeNameTree
type_name_seen v = type_name_of v

unfoldable pub specifiers_seen : Specifiers → SpecifiersTree
specifiers_seen v = specifiers_of v

unfoldable pub specifier_seen : Specifier → SpecifierTree
specifier_seen v = specifier_of v

unfoldable pub specifier_form_seen : SpecifierForm → ℕ → SpecifierTree
specifier_form_seen v line = specifier_form_of v line

unfoldable pub member_seen : Member → MemberTree
member_seen v = member_of v

unfoldable pub field_seen : MemberDeclarator → FieldTree
field_seen v = field_of v

unfoldable pub enumerator_seen : Enumerator → EnumeratorTree
enumerator_seen v = enumerator_of v

unfoldable pub declarator_seen : Declarator → DeclaratorTree
declarator_seen v = declarator_of v

unfoldable pub core_seen : DeclaratorCore → CoreTree
core_seen v = core_of v

unfoldable pub suffix_seen : Suffix → SuffixTree
suffix_seen v = suffix_of v

unfoldable pub suffix_form_seen : SuffixForm → ℕ → SuffixTree
suffix_form_seen v line = suffix_form_of v line

unfoldable pub parameter_seen : Parameter → ParameterTree
parameter_seen v = parameter_of v

-- what may be left out
abbrev pub if_seen : {A B : Type 0} → (A → B) → Option A → Option B
if_seen f None = None
if_seen f (Some x) = Some (f x)

abbrev pub maybe_expr_seen : Option Expr → MaybeExpr
maybe_expr_seen o = maybe_expr_of (if_seen expr_seen o)

abbrev pub maybe_declarator_seen : Option Declarator → MaybeDeclarator
maybe_declarator_seen o = maybe_declarator_of (if_seen declarator_seen o)
