-- The heights of values: those of the trees that they are.
use Rattle.std.specs.Prelude.{ℕ, max, min, Option, Some, None, List, [], ◌∷◌}
use Rattle.c_ast.specs.declared.expr.Expr.{Expr}
use Rattle.c_ast.specs.declared.expr.TypeName.{TypeName}
use Rattle.c_ast.specs.declared.expr.Specifiers.{Specifiers}
use Rattle.c_ast.specs.declared.expr.Specifier.{Specifier}
use Rattle.c_ast.specs.declared.expr.Member.{Member}
use Rattle.c_ast.specs.declared.expr.MemberDeclarator.{MemberDeclarator}
use Rattle.c_ast.specs.declared.expr.Enumerator.{Enumerator}
use Rattle.c_ast.specs.declared.expr.Declarator.{Declarator}
use Rattle.c_ast.specs.declared.expr.Suffix.{Suffix}
use Rattle.c_ast.specs.declared.expr.Parameter.{Parameter}
use Rattle.c_ast.specs.Views.{expr_of, type_name_of, specifiers_of, specifier_of, member_of, field_of, enumerator_of, declarator_of, suffix_of, parameter_of}
use Rattle.c_ast.specs.Heights.{height, type_name_height, specifiers_height, specifier_height, member_height, field_height, enumerator_height, declarator_height, suffix_height, parameter_height}

-- what does not fit into 32 bits counts as the greatest number that does
abbrev pub capped : ℕ → ℕ
capped n = min n 4294967295

-- the greatest height of some values
abbrev pub most : {A : Type 0} → (A → ℕ) → List A → ℕ
most f [] = 0
most f (x ∷ xs) = max (f x) (most f xs)

-- the height of what may be left out
abbrev pub if_any : {A : Type 0} → (A → ℕ) → Option A → ℕ
if_any f None = 0
if_any f (Some x) = f x

unfoldable pub expr_high : Expr → ℕ
expr_high v = height (expr_of v)

unfoldable pub type_name_high : TypeName → ℕ
type_name_high v = type_name_height (type_name_of v)

unfoldable pub specifiers_high : Specifiers → ℕ
specifiers_high v = specifiers_height (specifiers_of v)

unfoldable pub specifier_high : Specifier → ℕ
specifier_high v = specifier_height (specifier_of v)

unfoldable pub member_high : Member → ℕ
member_high v = member_height (member_of v)

unfoldable pub field_high : MemberDeclarator → ℕ
field_high v = field_height (field_of v)

unfoldable pub enumerator_high : Enumerator → ℕ
enumerator_high v = enumerator_height (enumerator_of v)

unfoldable pub declarator_high : Declarator → ℕ
declarator_high v = declarator_height (declarator_of v)

unfoldable pub suffix_high : Suffix → ℕ
suffix_high v = suffix_height (suffix_of v)

unfoldable pub parameter_high : Parameter → ℕ
parameter_high v = parameter_height (parameter_of v)
