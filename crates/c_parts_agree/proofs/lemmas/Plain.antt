-- Expressions that are neither tests nor conditionals nor calls.
use Rattle.std.specs.Prelude.{ℕ}
use Rattle.std.proofs.Common.{refl}
use Rattle.c_meaning.specs.CoreTrees.{NoCore, Cores}
use Rattle.c_meaning.specs.Values.{CoreTree, CoreTrees}
use Rattle.c_runs.specs.Soundness.{EvalStaysSound}
use Rattle.c_expr_agreement.specs.Scenes.{Scene}
use Rattle.c_straight_agree.specs.Agreement.{without_value}
use Rattle.c_straight_agree.specs.Layouts.{FrameLayout, IsLaidOut}
use Rattle.c_straight_agree.specs.Narrow.{CharsAreNarrow, ShortsAreNarrow}
use Rattle.c_straight_agree.specs.Parts.{IsPerformedPart, EachTree, IsLastLowered}
use Rattle.c_straight_agree.specs.Standing.{IsBody}
use Rattle.c_straight_agree.proofs.lemmas.Expressions.{dropped, AreInComma, comma_comes, row_lowered}
use Rattle.c_straight_agree.proofs.lemmas.Performing.{drop_without}
use Rattle.c_parts_agree.specs.Plain.{PlainExpressionsAgree, ConversionsToVoidAreLowered, CommasAreLowered, CommasArePerformed}
use Rattle.c_parts_agree.proofs.lemmas.Waiting.{any_two_come}

any_trees : (kids : CoreTrees) → EachTree (λ e. Unit {0}) kids
any_trees NoCore = tt
any_trees (Cores a cs) = (tt, any_trees cs)

pub plain_expressions_agree : CharsAreNarrow → ShortsAreNarrow → EvalStaysSound → PlainExpressionsAgree
plain_expressions_agree chars shorts evals s locals body y laid what of line kids plain tame fair ps l le =
    row_lowered chars shorts evals s locals body y laid (λ e. Unit {0}) (any_two_come chars shorts evals s locals body y laid) what of line kids plain tame fair ps (any_trees kids) l le

-- ---- parts whose values aren't used

pub conversions_to_void_are_lowered : CharsAreNarrow → ShortsAreNarrow → EvalStaysSound → ConversionsToVoidAreLowered
conversions_to_void_are_lowered chars shorts evals s locals body y laid of line a pa l le = dropped chars shorts evals s locals body y laid a pa l le

module _ (chars : CharsAreNarrow) (shorts : ShortsAreNarrow) (evals : EvalStaysSound) where
  lowered_in_comma : (s : Scene) (locals : ℕ) (body : IsBody s locals) (y : FrameLayout) (laid : IsLaidOut s y) (a : CoreTree) (cs : CoreTrees) → EachTree (IsPerformedPart s locals y) (Cores a cs) → IsLastLowered s locals y a cs → AreInComma chars shorts evals s locals body y laid (λ r. r) (λ r go. refl) a cs
  lowered_in_comma s locals body y laid a NoCore ps last = last.lowered
  lowered_in_comma s locals body y laid a (Cores b cs) ps last = (ps.0, lowered_in_comma s locals body y laid b cs ps.1 last)

  performed_in_comma : (s : Scene) (locals : ℕ) (body : IsBody s locals) (y : FrameLayout) (laid : IsLaidOut s y) (a : CoreTree) (cs : CoreTrees) → EachTree (IsPerformedPart s locals y) (Cores a cs) → AreInComma chars shorts evals s locals body y laid without_value drop_without a cs
  performed_in_comma s locals body y laid a NoCore ps = ps.0.performed
  performed_in_comma s locals body y laid a (Cores b cs) ps = (ps.0, performed_in_comma s locals body y laid b cs ps.1)

  pub commas_are_lowered : CommasAreLowered
  commas_are_lowered s locals body y laid of line a cs ps last l le = comma_comes chars shorts evals s locals body y laid (λ r. r) (λ r go. refl) a cs (lowered_in_comma s locals body y laid a cs ps last) l le

  pub commas_are_performed : CommasArePerformed
  commas_are_performed s locals body y laid of line a cs ps l le = comma_comes chars shorts evals s locals body y laid without_value drop_without a cs (performed_in_comma s locals body y laid a cs ps) l le
