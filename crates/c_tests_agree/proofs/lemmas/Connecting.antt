-- `!`, `&&` and `||` as tests.
use Rattle.std.specs.Prelude.{◌≡◌, ◌≤◌, ℕ, Bool, true, false, not, length}
use Rattle.std.proofs.Common.{refl, sym, subst}
use Rattle.objects.specs.declared.value.Value.{Value}
use Rattle.forests.specs.Words.{Word}
use Rattle.forests.specs.Worlds.{World, Outcome}
use Rattle.dag_seam.specs.SplitLaws.{TurnsMean}
use Rattle.c_types.specs.CType.{CType}
use Rattle.c_meaning.specs.declared.core_expr.CoreKind.TheVariants as kind
use Rattle.c_meaning.specs.CoreTrees.{Core, NoCore, Cores}
use Rattle.c_meaning.specs.Values.{CoreTree}
use Rattle.c_runs.specs.Expressions.{inverted}
use Rattle.c_runs.specs.Outcomes.{Result, Gives, then_give, truth, branch}
use Rattle.c_runs.specs.Soundness.{EvalStaysSound}
use Rattle.c_runs.specs.Worlds as c
use Rattle.c_match.specs.Ranges.{Map}
use Rattle.piece_runs.specs.Pieces.{Front}
use Rattle.c_expr_agreement.specs.Scenes.{Scene}
use Rattle.lowered_forms.specs.Contexts.{Context}
use Rattle.lowered_forms.specs.Expressions.{low_test}
use Rattle.lowered_forms.specs.Later.{IsFront}
use Rattle.lowered_forms.specs.Lows.{Low, marked, with_label}
use Rattle.c_straight_agree.specs.Layouts.{FrameLayout, context_in, IsLaidOut, HoldsWholes}
use Rattle.c_straight_agree.specs.Standing.{IsBody, Standing, IsSoundIn}
use Rattle.c_straight_agree.proofs.lemmas.Finals.{back_jumps, test_finals_go_back}
use Rattle.c_tests_agree.specs.Connectives.{IsTestPart, IsTestedAnywhere, NegationsAreTested, ConjunctionsAreTested, DisjunctionsAreTested}
use Rattle.c_tests_agree.specs.Tested.{Label, jumps, PassedBy, WentTo, asked_at}
use Rattle.c_tests_agree.proofs.lemmas.Following.{second_went}
use Rattle.c_tests_agree.proofs.lemmas.Marking.{with_label_stands, label_here, mark_went}
use Rattle.c_tests_agree.proofs.lemmas.Truths.{went_then, went_told, went_inverted}

-- ---- what isn't so

pub negations_are_tested : NegationsAreTested
negations_are_tested s locals y of line a pa l le n when start turns f h t map before values first k asked slots st sound wholes =
    went_told s start turns (length l.slots) map before first (low_test (context_in s y) a n (not when) l) h n t when of asked (inverted (asked_at s a line k before))
    (went_inverted s start turns (length l.slots) map before first (low_test (context_in s y) a n (not when) l) h n t when (asked_at s a line k before)
    (pa.tested l le n (not when) start turns f h t map before values first k line slots st sound wholes))

-- ---- one test and another one

jumps_same : (d : Bool) → jumps d d ≡ true
jumps_same true = refl
jumps_same false = refl

jumps_other : (d : Bool) → jumps d (not d) ≡ false
jumps_other true = refl
jumps_other false = refl

jumps_against : (d : Bool) → jumps (not d) d ≡ false
jumps_against true = refl
jumps_against false = refl

-- by whether a truth is this one
by_truth : (P : Bool → Type 0) (d : Bool) → P d → P (not d) → (is : Bool) → P is
by_truth P true p q true = p
by_truth P true p q false = q
by_truth P false p q true = q
by_truth P false p q false = p

-- What follows a first test: its truth decides all where it is this one, else a second test does.
pub record Joins (s : Scene) (b : CoreTree) (line : ℕ) (decides : Bool) (after : Value → ℕ → c.World → Result) : Type 0 where
  pub decided : (k : ℕ) (old : c.World) → after (truth decides) k old ≡ Gives (truth decides) k old
  pub goes_on : (k : ℕ) (old : c.World) → after (truth (not decides)) k old ≡ asked_at s b line k old

module _ (means : TurnsMean) (evals : EvalStaysSound) (s : Scene) (locals : ℕ) (body : IsBody s locals) (y : FrameLayout) (laid : IsLaidOut s y) (a b : CoreTree) (pa : IsTestPart s locals y a) (pb : IsTestPart s locals y b) (line : ℕ) where
  abbrev x : Context
  x = context_in s y

  -- from each state that stands before them
  abbrev pub Went : Low → Low → ℕ → Bool → (ℕ → c.World → Result) → Type 0
  Went l m n when does =
      (start : ℕ → Outcome) (turns : ℕ) (f : Front s.body.pieces l.pieces l.entries) (h : Front s.body.pieces m.pieces m.entries) (t : Label s n) (map : Map) (before : c.World) (values : ℕ → Word) (first : World) (k : ℕ)
      → IsFront m.slots h.before → Standing s start turns l f map before values first k → IsSoundIn s before → HoldsWholes s y first → WentTo s start turns (length l.slots) when m h n t map before first (does k before)

  module _ (d : Bool) (after : Value → ℕ → c.World → Result) (joins : Joins s b line d after) (l : Low) (le : locals ≤ length l.slots) (n : ℕ) where
    abbrev does : ℕ → c.World → Result
    does k old = then_give (asked_at s a line k old) after

    -- both jump to the same label
    pub same_label : Went l (low_test x b n d (low_test x a n d l)) n d does
    same_label start turns f h t map before values first k slots st sound wholes =
        let m1 = low_test x a n d l in
        let m = low_test x b n d m1 in
        let g = test_finals_go_back s.body.pieces x b n d m1 (record { front = h; slots = slots }) in
        let from = length l.slots in
        went_then s start turns from map before first m1 m g.front h n n t t d d (asked_at s a line k before) after
        (pa.tested l le n d start turns f g.front t map before values first k line g.slots st sound wholes)
        (λ is j old e. by_truth (λ (z : Bool). asked_at s a line k before ≡ Gives (truth z) j old → PassedBy (jumps d z) s start turns from m1 g.front n t map before first old j → WentTo s start turns from d m h n t map before first (after (truth z) j old)) d
        (λ q passed. subst (λ (r : Result). WentTo s start turns from d m h n t map before first r) (sym (joins.decided j old))
        (d, (refl, subst (λ (z : Bool). PassedBy z s start turns from m h n t map before first old j) (sym (jumps_same d)) (subst (λ (z : Bool). PassedBy z s start turns from m1 g.front n t map before first old j) (jumps_same d) passed))))
        (λ q passed. subst (λ (r : Result). WentTo s start turns from d m h n t map before first r) (sym (joins.goes_on j old))
        (second_went evals s locals body y laid a b pa pb start turns l le f map before values first k line st sound wholes n n d d g.front h slots t (truth (not d)) j old q
        (subst (λ (z : Bool). PassedBy z s start turns from m1 g.front n t map before first old j) (jumps_other d) passed)))
        is e)

    -- the first one jumps past the second one
    pub past_label : Went l (marked l.labels (low_test x b n (not d) (low_test x a l.labels d (with_label l)))) n (not d) does
    past_label start turns f h t map before values first k slots st sound wholes =
        let l0 = with_label l in
        let past = l.labels in
        let m1 = low_test x a past d l0 in
        let m2 = low_test x b n (not d) m1 in
        let m = marked past m2 in
        let g2 = (back_jumps s.body.pieces).marks past m2 (record { front = h; slots = slots }) in
        let g1 = test_finals_go_back s.body.pieces x b n (not d) m1 g2 in
        let u = label_here s past m2 h slots in
        let st0 = with_label_stands s start turns l f map before values first k st in
        let from = length l.slots in
        went_then s start turns from map before first m1 m g1.front h past n u t d (not d) (asked_at s a line k before) after
        (pa.tested l0 le past d start turns f g1.front u map before values first k line g1.slots st0 sound wholes)
        (λ is j old e. by_truth (λ (z : Bool). asked_at s a line k before ≡ Gives (truth z) j old → PassedBy (jumps d z) s start turns from m1 g1.front past u map before first old j → WentTo s start turns from (not d) m h n t map before first (after (truth z) j old)) d
        (λ q passed. subst (λ (r : Result). WentTo s start turns from (not d) m h n t map before first r) (sym (joins.decided j old))
        (d, (refl, subst (λ (z : Bool). PassedBy z s start turns from m h n t map before first old j) (sym (jumps_against d)) (subst (λ (z : Bool). PassedBy z s start turns from m1 g1.front past u map before first old j) (jumps_same d) passed))))
        (λ q passed. subst (λ (r : Result). WentTo s start turns from (not d) m h n t map before first r) (sym (joins.goes_on j old))
        (mark_went means s locals body start turns past m2 g2.front h slots from map before first n t (not d) (asked_at s b line j old)
        (second_went evals s locals body y laid a b pa pb start turns l0 le f map before values first k line st0 sound wholes past n d (not d) g1.front g2.front g2.slots t (truth (not d)) j old q
        (subst (λ (z : Bool). PassedBy z s start turns from m1 g1.front past u map before first old j) (jumps_other d) passed))))
        is e)

  -- ---- and, or

  abbrev after_and : Value → ℕ → c.World → Result
  after_and v k w = branch v (λ k1 w1. asked_at s b line k1 w1) (λ k1 w1. Gives (truth false) k1 w1) k w

  abbrev after_or : Value → ℕ → c.World → Result
  after_or v k w = branch v (λ k1 w1. Gives (truth true) k1 w1) (λ k1 w1. asked_at s b line k1 w1) k w

  and_joins : Joins s b line false after_and
  and_joins = record { decided = λ k old. refl; goes_on = λ k old. refl }

  or_joins : Joins s b line true after_or
  or_joins = record { decided = λ k old. refl; goes_on = λ k old. refl }

  pub and_tested : (of : CType) → IsTestedAnywhere s locals y (Core kind.And of line (Cores a (Cores b NoCore)))
  and_tested of l le n true start turns f h t map before values first k asked slots st sound wholes =
      went_told s start turns (length l.slots) map before first (low_test x (Core kind.And of line (Cores a (Cores b NoCore))) n true l) h n t true of asked (then_give (asked_at s a line k before) after_and)
      (past_label false after_and and_joins l le n start turns f h t map before values first k slots st sound wholes)
  and_tested of l le n false start turns f h t map before values first k asked slots st sound wholes =
      went_told s start turns (length l.slots) map before first (low_test x (Core kind.And of line (Cores a (Cores b NoCore))) n false l) h n t false of asked (then_give (asked_at s a line k before) after_and)
      (same_label false after_and and_joins l le n start turns f h t map before values first k slots st sound wholes)

  pub or_tested : (of : CType) → IsTestedAnywhere s locals y (Core kind.Or of line (Cores a (Cores b NoCore)))
  or_tested of l le n true start turns f h t map before values first k asked slots st sound wholes =
      went_told s start turns (length l.slots) map before first (low_test x (Core kind.Or of line (Cores a (Cores b NoCore))) n true l) h n t true of asked (then_give (asked_at s a line k before) after_or)
      (same_label true after_or or_joins l le n start turns f h t map before values first k slots st sound wholes)
  or_tested of l le n false start turns f h t map before values first k asked slots st sound wholes =
      went_told s start turns (length l.slots) map before first (low_test x (Core kind.Or of line (Cores a (Cores b NoCore))) n false l) h n t false of asked (then_give (asked_at s a line k before) after_or)
      (past_label true after_or or_joins l le n start turns f h t map before values first k slots st sound wholes)

pub conjunctions_are_tested : TurnsMean → EvalStaysSound → ConjunctionsAreTested
conjunctions_are_tested means evals s locals y body laid of line a b pa pb = and_tested means evals s locals body y laid a b pa pb line of

pub disjunctions_are_tested : TurnsMean → EvalStaysSound → DisjunctionsAreTested
disjunctions_are_tested means evals s locals y body laid of line a b pa pb = or_tested means evals s locals body y laid a b pa pb line of
