-- Comparisons as tests, by what their operands come to.
-- Source: ISO/IEC 9899:1990, 6.3.8, 6.3.9.
use Rattle.std.specs.Prelude.{ℕ, Bool}
use Rattle.objects.specs.declared.operators.Comparison.{Comparison}
use Rattle.c_types.specs.CType.{CType}
use Rattle.c_meaning.specs.declared.core_expr.CoreKind.TheVariants as kind
use Rattle.c_meaning.specs.CoreTrees.{Core, NoCore, Cores}
use Rattle.c_meaning.specs.Values.{CoreTree}
use Rattle.c_expr_agreement.specs.Scenes.{Scene}
use Rattle.c_straight_agree.specs.Layouts.{FrameLayout, IsLaidOut}
use Rattle.c_straight_agree.specs.Parts.{IsLoweredPart}
use Rattle.c_straight_agree.specs.Standing.{IsBody}
use Rattle.c_tests_agree.specs.Connectives.{IsTestedAnywhere}
use Rattle.c_tests_agree.specs.Tested.{AreMarkedOnce}

-- Where both operands are lowered, straight or not, their comparison is tested, of numbers and of pointers.
abbrev pub ComparisonsAreTested : Type 0
ComparisonsAreTested =
    (s : Scene) (locals : ℕ) (y : FrameLayout) → IsBody s locals → AreMarkedOnce s.body → IsLaidOut s y → (o : Comparison) (signed : Bool) (of : CType) (line : ℕ) (a b : CoreTree) → IsLoweredPart s locals y a → IsLoweredPart s locals y b
    → IsTestedAnywhere s locals y (Core (kind.Compare o signed) of line (Cores a (Cores b NoCore)))
