-- A second test behind a first one.
use Rattle.std.specs.Prelude.{◌≡◌, ◌≤◌, ℕ, Bool, length}
use Rattle.std.proofs.Common.{arith}
use Rattle.forests.specs.Worlds.{World, Outcome}
use Rattle.c_meaning.specs.CoreTrees.{type_of}
use Rattle.c_meaning.specs.Values.{CoreTree}
use Rattle.c_runs.specs.Outcomes.{Gives}
use Rattle.c_runs.specs.Soundness.{IsTame, EvalStaysSound}
use Rattle.c_runs.specs.Worlds as c
use Rattle.objects.specs.declared.value.Value.{Value}
use Rattle.c_match.specs.Ranges.{Map}
use Rattle.forests.specs.Words.{Word}
use Rattle.piece_runs.specs.Pieces.{Front}
use Rattle.c_expr_agreement.specs.Scenes.{Scene}
use Rattle.lowered_forms.specs.Contexts.{Context}
use Rattle.lowered_forms.specs.Expressions.{low_test}
use Rattle.lowered_forms.specs.Later.{IsFront}
use Rattle.lowered_forms.specs.Lows.{Low}
use Rattle.lowered_forms.proofs.lemmas.Adding.{testing_adds}
use Rattle.c_straight_agree.specs.Layouts.{FrameLayout, context_in, IsLaidOut, HoldsWholes}
use Rattle.c_straight_agree.specs.Standing.{IsBody, Standing, IsSoundIn}
use Rattle.c_straight_agree.proofs.lemmas.Parts.{result, sound_behind}
use Rattle.c_straight_agree.proofs.lemmas.Wholes.{wholes_left}
use Rattle.c_tests_agree.specs.Connectives.{IsTestPart}
use Rattle.c_tests_agree.specs.Tested.{Label, Passed, WentTo, asked_at}
use Rattle.c_tests_agree.proofs.lemmas.Joining.{between_passed, went_joins}
use Rattle.c_tests_agree.proofs.lemmas.Truths.{asked_gave}
use Rattle.c_tests_agree.proofs.lemmas.Valuing.{slots_more}

-- ---- what holds behind a test

pub sound_asked : (s : Scene) (locals : ℕ) → IsBody s locals → EvalStaysSound → (e : CoreTree) → IsTame e → (line k j : ℕ) (v : Value) (before old : c.World) → IsSoundIn s before → asked_at s e line k before ≡ Gives v j old → IsSoundIn s old
sound_asked s locals body evals e tame line k j v before old h is =
    let gave = asked_gave (result s e k before) (type_of e) line j v old is in
    (sound_behind s locals body evals e tame k j gave.0 before old h gave.1).world

pub slots_tested : (x : Context) (e : CoreTree) (n : ℕ) (when : Bool) (l : Low) (locals : ℕ) → locals ≤ length l.slots → locals ≤ length (low_test x e n when l).slots
slots_tested x e n when l locals le = let more = slots_more l (low_test x e n when l) (testing_adds x e n when l).slots in omega (arith, le, more)

-- ---- the second one

module _ (evals : EvalStaysSound) (s : Scene) (locals : ℕ) (body : IsBody s locals) (y : FrameLayout) (laid : IsLaidOut s y) (a b : CoreTree) (pa : IsTestPart s locals y a) (pb : IsTestPart s locals y b) (start : ℕ → Outcome) (turns : ℕ) where
  abbrev x : Context
  x = context_in s y

  -- where the run stands behind the first one, it comes to what the second one comes to
  pub second_went : (l : Low) → locals ≤ length l.slots → (f : Front s.body.pieces l.pieces l.entries) (map : Map) (before : c.World) (values : ℕ → Word) (first : World) (k line : ℕ) → Standing s start turns l f map before values first k → IsSoundIn s before → HoldsWholes s y first
      → (m o : ℕ) (decides when : Bool) (g : Front s.body.pieces (low_test x a m decides l).pieces (low_test x a m decides l).entries)
      (h : Front s.body.pieces (low_test x b o when (low_test x a m decides l)).pieces (low_test x b o when (low_test x a m decides l)).entries) → IsFront (low_test x b o when (low_test x a m decides l)).slots h.before → (t : Label s o)
      → (v : Value) (j : ℕ) (old : c.World) → asked_at s a line k before ≡ Gives v j old → Passed s start turns (length l.slots) (low_test x a m decides l) g map before first old j
      → WentTo s start turns (length l.slots) when (low_test x b o when (low_test x a m decides l)) h o t map before first (asked_at s b line j old)
  second_went l le f map before values first k line st sound wholes m o decides when g h slots t v j old is one =
      let l1 = low_test x a m decides l in
      let l2 = low_test x b o when l1 in
      went_joins s (length l.slots) (length l1.slots) (slots_more l l1 (testing_adds x a m decides l).slots) map before first one.later old one.world (between_passed s start turns (length l.slots) l1 g map before first old j one) start turns l2 h o t when (asked_at s b line j old)
      (pb.tested l1 (slots_tested x a m decides l locals le) o when start turns g h t one.later old one.others one.world j line slots one.stands
      (sound_asked s locals body evals a pa.tame line k j v before old sound is)
      (wholes_left s y laid map before first one.world st.stands.frame.others one.alike (length l.slots) one.left wholes))
