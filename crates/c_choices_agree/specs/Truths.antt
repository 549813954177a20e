-- The truth of a test as a number, 1 or 0.
-- Source: ISO/IEC 9899:1990, 6.3.3.3, 6.3.8, 6.3.9, 6.3.13, 6.3.14.
use Rattle.std.specs.Prelude.{◌≡◌, ◌≤◌, ℕ, true, length}
use Rattle.c_types.specs.CType.{CType}
use Rattle.c_meaning.specs.declared.core_expr.CoreKind.{CoreKind}
use Rattle.c_meaning.specs.CoreTrees.{Core}
use Rattle.c_meaning.specs.Values.{CoreTrees}
use Rattle.c_expr_agreement.specs.Scenes.{Scene}
use Rattle.lowered_forms.specs.Expressions.{is_test, low_e}
use Rattle.lowered_forms.specs.Lows.{Low}
use Rattle.c_straight_agree.specs.Agreement.{IsLowered}
use Rattle.c_straight_agree.specs.Layouts.{FrameLayout, context_in, IsLaidOut}
use Rattle.c_straight_agree.specs.Standing.{IsBody}
use Rattle.c_tests_agree.specs.Connectives.{IsTestedAnywhere}

-- An expression that is a test by itself is lowered, where it is tested.
abbrev pub TruthsAreLowered : Type 0
TruthsAreLowered =
    (s : Scene) (locals : ℕ) (y : FrameLayout) → IsBody s locals → IsLaidOut s y → (what : CoreKind) (of : CType) (line : ℕ) (kids : CoreTrees) → is_test what ≡ true → IsTestedAnywhere s locals y (Core what of line kids)
    → (l : Low) → locals ≤ length l.slots → IsLowered s y (Core what of line kids) l (low_e (context_in s y) (Core what of line kids) l)
