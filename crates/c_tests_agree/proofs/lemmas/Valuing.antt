-- A scalar that is no test by itself, as a test.
use Rattle.std.specs.Prelude.{◌≡◌, ◌≤◌, ℕ, Bool, true, false, Some, Ok, Err, List, length, if◌then◌else◌, Result as Checked}
use Rattle.std.proofs.Common.{true≢false, refl, sym, ap, subst, ◌∙◌, arith, length-append}
use Rattle.lcc_base.specs.declared.cause.Cause.{Cause}
use Rattle.objects.specs.declared.value.Value.{Value}
use Rattle.objects.specs.Arithmetic.{integer_tested}
use Rattle.objects.specs.Objects.{Object as Old}
use Rattle.objects.specs.Pointers as pointer
use Rattle.op_forest.specs.declared.frame.Slot.{Slot}
use Rattle.forests.specs.Actions.{Moved}
use Rattle.forests.specs.Words.{Word}
use Rattle.forests.specs.Worlds.{World, Outcome}
use Rattle.dag_forest.specs.Tally.{node_count}
use Rattle.dag_seam.specs.SplitLaws.{TurnsMean}
use Rattle.c_types.specs.CType.{CType}
use Rattle.c_meaning.specs.declared.core_expr.CoreKind.{CoreKind}
use Rattle.c_meaning.specs.declared.core_expr.CoreKind.TheVariants as kind
use Rattle.c_meaning.specs.CoreTrees.{Core, type_of}
use Rattle.c_meaning.specs.Types.{is_pointer}
use Rattle.c_meaning.specs.Values.{CoreTree, CoreTrees}
use Rattle.c_runs.specs.Expressions.{holds}
use Rattle.c_runs.specs.Outcomes.{tells}
use Rattle.c_runs.specs.Soundness.{IsTame, EvalStaysSound}
use Rattle.c_runs.specs.Worlds as c
use Rattle.c_match.specs.Ranges.{Map}
use Rattle.c_match.proofs.lemmas.Growing.{grown_refl}
use Rattle.c_rows_agree.specs.Integers.{tested, move_where}
use Rattle.c_rows_agree.specs.Templates as template
use Rattle.c_rows_agree.specs.Typed.{Typed, Holds}
use Rattle.c_rows_agree.proofs.lemmas.Tests.{test_holds}
use Rattle.c_pointers_agree.specs.Held.{HoldsShort}
use Rattle.c_pointers_agree.proofs.lemmas.Comparisons.{tests_agree}
use Rattle.piece_runs.specs.Pieces.{Front}
use Rattle.piece_runs.specs.Reaches.{keeps_at}
use Rattle.c_expr_agreement.specs.Scenes.{Scene}
use Rattle.lowered_forms.specs.Contexts.{Context}
use Rattle.lowered_forms.specs.Expressions.{tested_row, is_test, row_by, low_e, low_test, parts_of}
use Rattle.lowered_forms.specs.Later.{IsFront}
use Rattle.lowered_forms.specs.Lows.{Low, acted, branched}
use Rattle.lowered_forms.specs.Tests.{value_test}
use Rattle.lowered_forms.specs.Values.{Part}
use Rattle.lowered_forms.proofs.lemmas.Adding.{lowering_adds}
use Rattle.lowered_forms.proofs.lemmas.NodesOf.{values_have_nodes}
use Rattle.lowered_forms.proofs.lemmas.WithinTemplates.{HasIn, as_i_in}
use Rattle.c_straight_agree.specs.Agreement.{HasValue, IsLowered}
use Rattle.c_straight_agree.specs.Layouts.{FrameLayout, context_in}
use Rattle.c_straight_agree.specs.Narrow.{CharsAreNarrow, ShortsAreNarrow}
use Rattle.c_straight_agree.specs.Settled.{seen}
use Rattle.c_straight_agree.specs.Standing.{IsBody, Standing, IsSoundIn}
use Rattle.c_straight_agree.proofs.lemmas.Coming.{operand_settled, value_stays}
use Rattle.c_straight_agree.proofs.lemmas.Extending.{acted_extends, front_back, slots_back}
use Rattle.c_straight_agree.proofs.lemmas.Parts.{result, sound_behind}
use Rattle.c_straight_agree.proofs.lemmas.SettledTemplates.{as_i_set}
use Rattle.c_tests_agree.specs.Scalars.{ScalarsAreTested}
use Rattle.c_tests_agree.specs.Tested.{AreMarkedOnce, Label, WentTo, IsTested}
use Rattle.c_tests_agree.proofs.lemmas.Branching.{ended_front, ended_slots, branch_comes}
use Rattle.c_tests_agree.proofs.lemmas.Joining.{between_came, went_joins, came_then}

-- ---- the root

test_acts : (k : template.Scene) (old : List Old) (t : CType) (a : Typed) (v : Value) (is when : Bool) (n : ℕ) → HoldsShort k old → Holds k a v → holds t old v ≡ Ok is → (b : Bool) → is_pointer t ≡ b → template.Acts k (tested when n a) (Moved (move_where when is n))
test_acts k old t a v is when n short h e true so = tests_agree k old t a v is when n short h so e
test_acts k old t a v is when n short h e false so = test_holds k when is n a v h (sym (ap (λ (x : Bool). if x then pointer.tested old v else integer_tested v) so) ∙ e)

-- ---- the value is there

module _ (chars : CharsAreNarrow) (shorts : ShortsAreNarrow) (means : TurnsMean) (s : Scene) (once : AreMarkedOnce s.body) (locals : ℕ) (body : IsBody s locals) (start : ℕ → Outcome) (turns : ℕ) where
  pub value_went : (m : Low) → locals ≤ length m.slots → (f : Front s.body.pieces m.pieces m.entries) (map : Map) (old : c.World) (values : ℕ → Word) (w : World) (k : ℕ) → Standing s start turns m f map old values w k → IsSoundIn s old
      → (of : CType) (a : Typed) (v : Value) → HasIn (node_count m.entries) a → HasValue s a map values w v → (when : Bool) (n line : ℕ)
      → (h : Front s.body.pieces (branched (tested when n a) m).pieces (branched (tested when n a) m).entries) → IsFront (branched (tested when n a) m).slots h.before → (t : Label s n)
      → (checked : Checked Bool Cause) → holds of (c.objects old) v ≡ checked
      → WentTo s start turns (length m.slots) when (branched (tested when n a) m) h n t map old w (tells checked line k old)
  value_went m le f map old values w k st sound of a v within has when n line h slots t (Err cause) e = tt
  value_went m le f map old values w k st sound of a v within has when n line h slots t (Ok is) e =
      let keeps = keeps_at s.body m.pieces m.entries f in (
        is,
        (
          refl,
          branch_comes chars shorts means s once locals body start turns m le f map old values w k st (tested when n a) when is n (as_i_in (node_count m.entries) a.suffix a.tree within) tt
              (as_i_set keeps (seen s.body map values w) a.suffix a.tree (operand_settled keeps s a map values w v has)) tt
              (λ others world near matches frame.
              test_acts (seen s.body map others world) (c.objects old) of a v is when n (record { held = matches.held; short = sound.short })
              (value_stays s map map (grown_refl map) values others w world near.alike (node_count m.entries) near.kept a v within has).holds e (is_pointer of) refl)
              h slots t,
        ),
      )

-- ---- an expression

plain_is : (x : Context) (what : CoreKind) (of : CType) (ps : List Part) → is_test what ≡ false → (n : ℕ) (when : Bool) (l : Low) → tested_row x what of ps n when l ≡ value_test (λ l1. row_by (is_test what) x what of ps l1) n when l
plain_is x kind.Not of ps e n when l = absurd (true≢false e)
plain_is x kind.And of ps e n when l = absurd (true≢false e)
plain_is x kind.Or of ps e n when l = absurd (true≢false e)
plain_is x (kind.Compare o signed) of ps e n when l = absurd (true≢false e)
plain_is x what of ps e n when l = refl

abbrev pub with_test : Context → CoreTree → ℕ → Bool → Low → Low
with_test x e n when l = branched (tested when n (low_e x e l).value) (low_e x e l).low

pub plain_test_is : (x : Context) (what : CoreKind) (of : CType) (line : ℕ) (kids : CoreTrees) → is_test what ≡ false → (n : ℕ) (when : Bool) (l : Low) → low_test x (Core what of line kids) n when l ≡ with_test x (Core what of line kids) n when l
plain_test_is x what of line kids e n when l = plain_is x what of (parts_of x kids) e n when l

at_least : (a b d : ℕ) → a ≤ b → b ≤ d → a ≤ d
at_least a b d p q = omega (arith, p, q)

pub slots_more : (l m : Low) → IsFront l.slots m.slots → length l.slots ≤ length m.slots
slots_more l m f = let e = ap (λ (ss : List Slot). length ss) f.is in let d = length-append l.slots f.more in omega (arith, e, d)

module _ (chars : CharsAreNarrow) (shorts : ShortsAreNarrow) (means : TurnsMean) (evals : EvalStaysSound) (s : Scene) (once : AreMarkedOnce s.body) (locals : ℕ) (body : IsBody s locals) (y : FrameLayout) where
  abbrev x : Context
  x = context_in s y

  pub value_is_tested : (e : CoreTree) → IsTame e → (l : Low) → locals ≤ length l.slots → IsLowered s y e l (low_e x e l) → (n : ℕ) (when : Bool) → IsTested s y e n when l (with_test x e n when l)
  value_is_tested e tame l le lowered n when start turns f h t map before values first k line slots st sound wholes =
      let m = (low_e x e l).low in
      let a = (low_e x e l).value in
      let r = tested when n a in
      let h1 = ended_front s.body.pieces m.pieces m.slots (acted r m).entries h in
      let h0 = front_back s.body.pieces m (acted r m) (acted_extends r m) h1 in
      let s0 = slots_back s.body.pieces m (acted r m) (acted_extends r m) h1 (ended_slots s.body.pieces m.pieces m.slots (acted r m).entries h) in
      let more = slots_more l m (lowering_adds x e l).slots in
      came_then s start turns l m (branched r m) h0 h a map before values first (length l.slots) when n t (result s e k before) _ (lowered start turns f h0 map before values first k s0 st sound wholes)
      (λ v k1 old1 is one.
      let so = sound_behind s locals body evals e tame k k1 v before old1 sound is in
      went_joins s (length l.slots) (length m.slots) more map before first one.later old1 one.world (between_came s start turns l m h0 a map before values first (Some v) old1 k1 one) start turns (branched r m) h n t when _
      (value_went chars shorts means s once locals body start turns m (at_least locals (length l.slots) (length m.slots) le more) h0 one.later old1 one.others one.world k1 one.stands so.world (type_of e) a v (values_have_nodes x e l st.block).value one.has when n line h slots t (holds (type_of e) (c.objects old1) v) refl))

-- what is no test by itself
pub plain_is_tested : CharsAreNarrow → ShortsAreNarrow → TurnsMean → EvalStaysSound → ScalarsAreTested
plain_is_tested chars shorts means evals s once locals body y what of line kids tame plain l le lowered n when =
    subst (λ (m : Low). IsTested s y (Core what of line kids) n when l m) (sym (plain_test_is (context_in s y) what of line kids plain n when l))
    (value_is_tested chars shorts means evals s once locals body y (Core what of line kids) tame l le lowered n when)
