-- `!`, `&&` and `||` as tests, by what their operands come to as tests: a second operand is tested only where the first one tells nothing yet.
-- Source: ISO/IEC 9899:1990, 6.3.3.3, 6.3.13, 6.3.14; Aho, Lam, Sethi and Ullman, Compilers, 6.6 (short-circuit code).
use Rattle.std.specs.Prelude.{◌≤◌, ℕ, Bool, length}
use Rattle.c_types.specs.CType.{CType}
use Rattle.c_meaning.specs.declared.core_expr.CoreKind.{CoreKind}
use Rattle.c_meaning.specs.declared.core_expr.CoreKind.TheVariants as kind
use Rattle.c_meaning.specs.CoreTrees.{Core, NoCore, Cores}
use Rattle.c_meaning.specs.Values.{CoreTree}
use Rattle.c_runs.specs.Soundness.{IsTame}
use Rattle.c_expr_agreement.specs.Scenes.{Scene}
use Rattle.lowered_forms.specs.Expressions.{low_test}
use Rattle.lowered_forms.specs.Lows.{Low}
use Rattle.c_straight_agree.specs.Layouts.{FrameLayout, context_in, IsLaidOut}
use Rattle.c_straight_agree.specs.Standing.{IsBody}
use Rattle.c_tests_agree.specs.Tested.{IsTested}

-- an expression is tested wherever it is lowered behind the slots of the locals, to any label, by which truth it may jump
abbrev pub IsTestedAnywhere : Scene → ℕ → FrameLayout → CoreTree → Type 0
IsTestedAnywhere s locals y e = (l : Low) → locals ≤ length l.slots → (n : ℕ) (when : Bool) → IsTested s y e n when l (low_test (context_in s y) e n when l)

-- an operand that is a test
pub record IsTestPart (s : Scene) (locals : ℕ) (y : FrameLayout) (e : CoreTree) : Type 0 where
  pub tame : IsTame e
  pub tested : IsTestedAnywhere s locals y e

-- Where the operand is tested, so is what isn't so.
abbrev pub NegationsAreTested : Type 0
NegationsAreTested = (s : Scene) (locals : ℕ) (y : FrameLayout) (of : CType) (line : ℕ) (a : CoreTree) → IsTestPart s locals y a → IsTestedAnywhere s locals y (Core kind.Not of line (Cores a NoCore))

-- Where both operands are tested, so is what joins them, one of these kinds.
abbrev pub JoinsAreTested : CoreKind → Type 0
JoinsAreTested what =
    (s : Scene) (locals : ℕ) (y : FrameLayout) → IsBody s locals → IsLaidOut s y → (of : CType) (line : ℕ) (a b : CoreTree) → IsTestPart s locals y a → IsTestPart s locals y b
    → IsTestedAnywhere s locals y (Core what of line (Cores a (Cores b NoCore)))

abbrev pub ConjunctionsAreTested : Type 0
ConjunctionsAreTested = JoinsAreTested kind.And

abbrev pub DisjunctionsAreTested : Type 0
DisjunctionsAreTested = JoinsAreTested kind.Or
