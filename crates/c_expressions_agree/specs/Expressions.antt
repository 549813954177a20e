-- Expressions of checked functions.
-- Source: ISO/IEC 9899:1990, 6.3.
use Rattle.std.specs.Prelude.{ℕ}
use Rattle.c_meaning.specs.Copies.{copies_in}
use Rattle.c_meaning.specs.Each.{EachKind}
use Rattle.c_meaning.specs.Units.{IsExpr}
use Rattle.c_meaning.specs.Values.{CoreTree}
use Rattle.c_runs.specs.Soundness.{IsTame}
use Rattle.c_expr_agreement.specs.Scenes.{Scene}
use Rattle.c_straight_agree.specs.Checked.{IsModest}
use Rattle.c_straight_agree.specs.Layouts.{FrameLayout, IsLaidOut}
use Rattle.c_straight_agree.specs.Standing.{IsBody}
use Rattle.c_tests_agree.specs.Tested.{AreMarkedOnce}
use Rattle.c_calls_agree.specs.Laws.{HasCopies}
use Rattle.c_calls_agree.specs.Programs.{IsProgram}
use Rattle.c_expressions_agree.specs.Known.{IsKnown}

-- Each one is lowered, and tested, in a body whose locals are laid out and whose labels stand there once, of a program that is the unit's, where there are locals behind the parameters for the copies of structures
-- that its calls pass and give; callees come to what C's come to, which is known where the run stands.
abbrev pub ExpressionsAgree : Type 0
ExpressionsAgree =
    (s : Scene) → AreMarkedOnce s.body → (locals : ℕ) → IsBody s locals → IsProgram s → (y : FrameLayout) → IsLaidOut s y
    → (e : CoreTree) → IsExpr s.unit y.types e → IsTame e → EachKind (IsModest s) e → HasCopies y (copies_in e) → IsKnown s locals y e
