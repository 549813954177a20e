-- Expressions that are neither tests nor conditionals nor calls, over parts of any kind.
-- Source: ISO/IEC 9899:1990, 6.3; Fraser and Hanson, A Retargetable C Compiler, chapters 5 and 12.
use Rattle.std.specs.Prelude.{◌≡◌, ◌≤◌, ℕ, true, length}
use Rattle.c_types.specs.CType.{CType}
use Rattle.c_meaning.specs.declared.core_expr.Conversion.TheVariants as to
use Rattle.c_meaning.specs.declared.core_expr.CoreKind.{CoreKind}
use Rattle.c_meaning.specs.declared.core_expr.CoreKind.TheVariants as kind
use Rattle.c_meaning.specs.CoreTrees.{Core, NoCore, Cores}
use Rattle.c_meaning.specs.Values.{CoreTree, CoreTrees}
use Rattle.c_runs.specs.Soundness.{IsTame}
use Rattle.c_expr_agreement.specs.Scenes.{Scene}
use Rattle.lowered_forms.specs.Expressions.{low_e}
use Rattle.lowered_forms.specs.Lows.{Low}
use Rattle.c_straight_agree.specs.Agreement.{IsLowered, IsPerformed}
use Rattle.c_straight_agree.specs.Layouts.{FrameLayout, context_in, IsLaidOut, IsFair}
use Rattle.c_straight_agree.specs.Parts.{is_plain, IsPerformedPart, EachTree, AreLoweredParts, IsLastLowered}
use Rattle.c_straight_agree.specs.Standing.{IsBody}

-- Where its parts are lowered, so is it, in a body whose locals are laid out.
abbrev pub PlainExpressionsAgree : Type 0
PlainExpressionsAgree =
    (s : Scene) (locals : ℕ) → IsBody s locals → (y : FrameLayout) → IsLaidOut s y → (what : CoreKind) (of : CType) (line : ℕ) (kids : CoreTrees) → is_plain what ≡ true → IsTame (Core what of line kids) → IsFair s y (Core what of line kids) → AreLoweredParts s locals y kids
    → (l : Low) → locals ≤ length l.slots → IsLowered s y (Core what of line kids) l (low_e (context_in s y) (Core what of line kids) l)

-- ---- parts whose values aren't used

-- to void
abbrev pub ConversionsToVoidAreLowered : Type 0
ConversionsToVoidAreLowered =
    (s : Scene) (locals : ℕ) → IsBody s locals → (y : FrameLayout) → IsLaidOut s y → (of : CType) (line : ℕ) (a : CoreTree) → IsPerformedPart s locals y a
    → (l : Low) → locals ≤ length l.slots → IsLowered s y (Core (kind.Convert to.Void) of line (Cores a NoCore)) l (low_e (context_in s y) (Core (kind.Convert to.Void) of line (Cores a NoCore)) l)

-- all parts of a comma but the last; and that where the comma's isn't used
abbrev pub CommasAreLowered : Type 0
CommasAreLowered =
    (s : Scene) (locals : ℕ) → IsBody s locals → (y : FrameLayout) → IsLaidOut s y → (of : CType) (line : ℕ) (a : CoreTree) (cs : CoreTrees) → EachTree (IsPerformedPart s locals y) (Cores a cs) → IsLastLowered s locals y a cs
    → (l : Low) → locals ≤ length l.slots → IsLowered s y (Core kind.Comma of line (Cores a cs)) l (low_e (context_in s y) (Core kind.Comma of line (Cores a cs)) l)

abbrev pub CommasArePerformed : Type 0
CommasArePerformed =
    (s : Scene) (locals : ℕ) → IsBody s locals → (y : FrameLayout) → IsLaidOut s y → (of : CType) (line : ℕ) (a : CoreTree) (cs : CoreTrees) → EachTree (IsPerformedPart s locals y) (Cores a cs)
    → (l : Low) → locals ≤ length l.slots → IsPerformed s y (Core kind.Comma of line (Cores a cs)) l (low_e (context_in s y) (Core kind.Comma of line (Cores a cs)) l)
