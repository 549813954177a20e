-- Conditionals, `a ? b : c`: one of two ways is gone, and what it comes to is kept.
-- Source: ISO/IEC 9899:1990, 6.3.15.
use Rattle.std.specs.Prelude.{◌≡◌, ◌≤◌, ℕ, true, false, length}
use Rattle.c_types.specs.CType.{CType}
use Rattle.c_meaning.specs.declared.core_expr.CoreKind.TheVariants as kind
use Rattle.c_meaning.specs.CoreTrees.{Core, NoCore, Cores}
use Rattle.c_meaning.specs.Types.{is_void}
use Rattle.c_meaning.specs.Values.{CoreTree}
use Rattle.c_expr_agreement.specs.Scenes.{Scene}
use Rattle.lowered_forms.specs.Expressions.{low_e}
use Rattle.lowered_forms.specs.Lows.{Low}
use Rattle.c_straight_agree.specs.Agreement.{IsLowered, IsPerformed}
use Rattle.c_straight_agree.specs.Layouts.{FrameLayout, context_in, IsLaidOut}
use Rattle.c_straight_agree.specs.Parts.{IsLoweredPart, IsPerformedPart}
use Rattle.c_straight_agree.specs.Standing.{IsBody}
use Rattle.c_tests_agree.specs.Connectives.{IsTestPart}
use Rattle.c_tests_agree.specs.Tested.{AreMarkedOnce}

-- A conditional that isn't of type void is lowered, where its condition is tested and both ways are lowered.
abbrev pub ConditionalsAreLowered : Type 0
ConditionalsAreLowered =
    (s : Scene) (locals : ℕ) (y : FrameLayout) → IsBody s locals → AreMarkedOnce s.body → IsLaidOut s y → (of : CType) (line : ℕ) (a b c : CoreTree) → is_void of ≡ false → IsTestPart s locals y a → IsLoweredPart s locals y b → IsLoweredPart s locals y c
    → (l : Low) → locals ≤ length l.slots → IsLowered s y (Core kind.Conditional of line (Cores a (Cores b (Cores c NoCore)))) l (low_e (context_in s y) (Core kind.Conditional of line (Cores a (Cores b (Cores c NoCore)))) l)

-- One of type void is performed where its ways are: nothing is kept of them, a place neither.
abbrev pub VoidConditionalsArePerformed : Type 0
VoidConditionalsArePerformed =
    (s : Scene) (locals : ℕ) (y : FrameLayout) → IsBody s locals → AreMarkedOnce s.body → IsLaidOut s y → (of : CType) (line : ℕ) (a b c : CoreTree) → is_void of ≡ true → IsTestPart s locals y a → IsPerformedPart s locals y b → IsPerformedPart s locals y c
    → (l : Low) → locals ≤ length l.slots → IsPerformed s y (Core kind.Conditional of line (Cores a (Cores b (Cores c NoCore)))) l (low_e (context_in s y) (Core kind.Conditional of line (Cores a (Cores b (Cores c NoCore)))) l)
