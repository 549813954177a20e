-- Straight expressions of checked functions.
-- Source: ISO/IEC 9899:1990, 6.3; the profile of this compiler (objects of at most 2^24 bytes).
use Rattle.std.specs.Prelude.{◌≡◌, ◌≤◌, ◌<◌, ℕ, ◌^◌, true, Some, length}
use Rattle.objects.specs.declared.value.Value.TheVariants.{Function}
use Rattle.c_meaning.specs.declared.core_expr.CoreKind.{CoreKind}
use Rattle.c_meaning.specs.declared.core_expr.CoreKind.TheVariants as kind
use Rattle.c_meaning.specs.Each.{EachKind}
use Rattle.c_meaning.specs.Units.{IsExpr}
use Rattle.c_meaning.specs.Values.{CoreTree}
use Rattle.c_runs.specs.Calls.{built_in_number}
use Rattle.c_runs.specs.Soundness.{IsTame}
use Rattle.c_expr_agreement.specs.Scenes.{Scene}
use Rattle.lowered_forms.specs.Contexts.{built_in_name}
use Rattle.lowered_forms.specs.Expressions.{low_e}
use Rattle.lowered_forms.specs.Lows.{Low}
use Rattle.lowered_forms.specs.Straight.{straight}
use Rattle.c_straight_agree.specs.Agreement.{IsLowered, CallsAreLowered}
use Rattle.c_straight_agree.specs.Layouts.{FrameLayout, context_in, IsLaidOut, IsSmallChange, has_call}
use Rattle.c_straight_agree.specs.Standing.{IsBody}

-- a built-in function that is named is the program's; and the elements by which pointers move are no larger than objects
abbrev pub IsModest : Scene → CoreKind → Type 0
IsModest s (kind.BuiltIn b) = s.body.setting.environment.global (built_in_name s.unit b) ≡ Some (Function (built_in_number s.unit b))
IsModest s (kind.Move size back) = size < 2 ^ 32
IsModest s (kind.Difference size) = size < 2 ^ 31
IsModest s (kind.Change by) = IsSmallChange by
IsModest s (kind.Postfix by) = IsSmallChange by
IsModest s what = Unit {0}

-- A straight expression of a checked function is lowered, in a body whose locals are laid out; where there are calls in it, if these are.
abbrev pub StraightExpressionsAgree : Type 0
StraightExpressionsAgree =
    (s : Scene) (locals : ℕ) (y : FrameLayout) (e : CoreTree) (l : Low) → IsBody s locals → IsLaidOut s y → straight e ≡ true → IsExpr s.unit y.types e → IsTame e → EachKind (IsModest s) e → (has_call e ≡ true → CallsAreLowered s locals y) → locals ≤ length l.slots
    → IsLowered s y e l (low_e (context_in s y) e l)
