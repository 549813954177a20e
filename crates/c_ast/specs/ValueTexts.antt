-- The texts of values: those of the trees that they are.
use Rattle.std.specs.Prelude.{ℕ, Option, Some, None, List, [], ◌++◌}
use Rattle.c_ast.specs.declared.expr.Expr.{Expr}
use Rattle.c_ast.specs.declared.expr.TypeName.{TypeName}
use Rattle.c_ast.specs.declared.expr.Specifiers.{Specifiers}
use Rattle.c_ast.specs.declared.expr.Specifier.{Specifier}
use Rattle.c_ast.specs.declared.expr.Member.{Member}
use Rattle.c_ast.specs.declared.expr.MemberDeclarator.{MemberDeclarator}
use Rattle.c_ast.specs.declared.expr.Enumerator.{Enumerator}
use Rattle.c_ast.specs.declared.expr.Declarator.{Declarator}
use Rattle.c_ast.specs.declared.expr.DeclaratorCore.{DeclaratorCore}
use Rattle.c_ast.specs.declared.expr.Suffix.{Suffix}
use Rattle.c_ast.specs.declared.expr.Parameter.{Parameter}
use Rattle.c_ast.specs.Views.{expr_of, type_name_of, specifiers_of, specifier_of, member_of, field_of, enumerator_of, declarator_of, core_of, suffix_of, parameter_of}
use Rattle.c_ast.specs.TreeTexts.{sign_text, expr_text, type_name_text, specifiers_text, specifier_text, member_text, field_text, enumerator_text, declarator_text, core_text, suffix_text, parameter_text}

-- what may be left out
abbrev pub shown_if_any : {A : Type 0} → (A → List ℕ) → Option A → List ℕ
shown_if_any f None = []
shown_if_any f (Some x) = f x

unfoldable pub expr_shown : Expr → List ℕ
expr_shown v = expr_text (expr_of v)

unfoldable pub type_name_shown : TypeName → List ℕ
type_name_shown v = type_name_text (type_name_of v)

unfoldable pub specifiers_shown : Specifiers → List ℕ
specifiers_shown v = specifiers_text (specifiers_of v)

unfoldable pub specifier_shown : Specifier → List ℕ
specifier_shown v = specifier_text (specifier_of v)

unfoldable pub member_shown : Member → List ℕ
member_shown v = member_text (member_of v)

unfoldable pub field_shown : MemberDeclarator → List ℕ
field_shown v = field_text (field_of v)

unfoldable pub enumerator_shown : Enumerator → List ℕ
enumerator_shown v = enumerator_text (enumerator_of v)

unfoldable pub declarator_shown : Declarator → List ℕ
declarator_shown v = declarator_text (declarator_of v)

unfoldable pub core_shown : DeclaratorCore → List ℕ
core_shown v = core_text (core_of v)

unfoldable pub suffix_shown : Suffix → List ℕ
suffix_shown v = suffix_text (suffix_of v)

unfoldable pub parameter_shown : Parameter → List ℕ
parameter_shown v = parameter_text (parameter_of v)

-- an expression behind a sign
abbrev pub shown_behind : ℕ → Option Expr → List ℕ
shown_behind k None = []
shown_behind k (Some e) = sign_text k ++ expr_shown e
