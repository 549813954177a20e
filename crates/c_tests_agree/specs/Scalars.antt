-- Scalars that are no tests by themselves, as tests: a number or a pointer isn't 0.
-- Source: ISO/IEC 9899:1990, 6.3.13, 6.3.14, 6.6.4.1.
use Rattle.std.specs.Prelude.{◌≡◌, ◌≤◌, ℕ, Bool, false, length}
use Rattle.c_types.specs.CType.{CType}
use Rattle.c_meaning.specs.declared.core_expr.CoreKind.{CoreKind}
use Rattle.c_meaning.specs.CoreTrees.{Core}
use Rattle.c_meaning.specs.Values.{CoreTrees}
use Rattle.c_runs.specs.Soundness.{IsTame}
use Rattle.c_expr_agreement.specs.Scenes.{Scene}
use Rattle.lowered_forms.specs.Expressions.{is_test, low_e, low_test}
use Rattle.lowered_forms.specs.Lows.{Low}
use Rattle.c_straight_agree.specs.Agreement.{IsLowered}
use Rattle.c_straight_agree.specs.Layouts.{FrameLayout, context_in}
use Rattle.c_straight_agree.specs.Standing.{IsBody}
use Rattle.c_tests_agree.specs.Tested.{AreMarkedOnce, IsTested}

-- Where its value is lowered, so is its test, to any label, by which truth it may jump.
abbrev pub ScalarsAreTested : Type 0
ScalarsAreTested =
    (s : Scene) → AreMarkedOnce s.body → (locals : ℕ) → IsBody s locals → (y : FrameLayout) (what : CoreKind) (of : CType) (line : ℕ) (kids : CoreTrees) → IsTame (Core what of line kids) → is_test what ≡ false
    → (l : Low) → locals ≤ length l.slots → IsLowered s y (Core what of line kids) l (low_e (context_in s y) (Core what of line kids) l)
    → (n : ℕ) (when : Bool) → IsTested s y (Core what of line kids) n when l (low_test (context_in s y) (Core what of line kids) n when l)
