-- Expressions whose lowering agrees with C, as values and as tests.
-- Source: ISO/IEC 9899:1990, 6.2.2.2 (void), 6.3.
use Rattle.std.specs.Prelude.{◌≡◌, ℕ, false}
use Rattle.c_meaning.specs.Values.{CoreTree}
use Rattle.c_expr_agreement.specs.Scenes.{Scene}
use Rattle.c_straight_agree.specs.Layouts.{FrameLayout}
use Rattle.c_straight_agree.specs.Parts.{is_unused, IsLoweredPart, IsPerformedPart}
use Rattle.c_tests_agree.specs.Connectives.{IsTestPart}

-- Each expression is performed; and it is lowered as a value and as a test, where its value is used.
pub record IsKnown (s : Scene) (locals : ℕ) (y : FrameLayout) (e : CoreTree) : Type 0 where
  pub performed : IsPerformedPart s locals y e
  pub value : is_unused e ≡ false → IsLoweredPart s locals y e
  pub test : is_unused e ≡ false → IsTestPart s locals y e
