-- Comparisons, behind both operands.
use Rattle.std.specs.Prelude.{◌≡◌, ◌≤◌, ℕ, Bool, true, false, Some, length}
use Rattle.std.proofs.Common.{refl, arith}
use Rattle.objects.specs.declared.operators.Comparison.{Comparison}
use Rattle.objects.specs.declared.value.Value.{Value}
use Rattle.forests.specs.Alike.{AreAlike}
use Rattle.forests.specs.Words.{Word}
use Rattle.forests.specs.Worlds.{World, Outcome}
use Rattle.dag_forest.specs.Tally.{node_count}
use Rattle.dag_seam.specs.SplitLaws.{TurnsMean}
use Rattle.c_types.specs.CType.{CType}
use Rattle.c_meaning.specs.declared.core_expr.CoreKind.TheVariants as kind
use Rattle.c_meaning.specs.CoreTrees.{Core, NoCore, Cores, type_of}
use Rattle.c_meaning.specs.Values.{CoreTree}
use Rattle.c_runs.specs.Expressions.{compared_by}
use Rattle.c_runs.specs.Outcomes.{Result, then_give, gives}
use Rattle.c_runs.specs.Soundness.{IsSoundValue, EvalStaysSound}
use Rattle.c_runs.specs.Worlds as c
use Rattle.c_match.specs.Ranges.{Map}
use Rattle.c_match.specs.Values.{StaysInside}
use Rattle.c_pointers_agree.proofs.lemmas.Short.{operand_sound}
use Rattle.c_rows_agree.specs.Integers.{compared}
use Rattle.c_rows_agree.specs.Templates.{Root}
use Rattle.c_rows_agree.specs.Typed.{Typed}
use Rattle.piece_runs.specs.Pieces.{Front}
use Rattle.piece_runs.specs.Reaches.{keeps_at}
use Rattle.c_expr_agreement.specs.Scenes.{Scene}
use Rattle.lowered_forms.specs.Contexts.{Context}
use Rattle.lowered_forms.specs.Expressions.{low_e}
use Rattle.lowered_forms.specs.Later.{IsFront}
use Rattle.lowered_forms.specs.Lows.{Low, acted, branched}
use Rattle.lowered_forms.specs.Straight.{straight}
use Rattle.lowered_forms.specs.Tests.{compares_signed}
use Rattle.lowered_forms.specs.Values.{Lowered, held}
use Rattle.lowered_forms.proofs.lemmas.Adding.{lowering_adds}
use Rattle.lowered_forms.proofs.lemmas.Blocks.{within_more}
use Rattle.lowered_forms.proofs.lemmas.NodesOf.{value_comes, values_have_nodes}
use Rattle.lowered_forms.proofs.lemmas.Pending.{IsPending, pending_in, held_free}
use Rattle.lowered_forms.proofs.lemmas.Stepping.{held_steps}
use Rattle.lowered_forms.proofs.lemmas.WithinTemplates.{HasIn}
use Rattle.c_straight_agree.specs.Agreement.{HasValue, IsLeftBut, Came}
use Rattle.c_straight_agree.specs.Finals.{Final}
use Rattle.c_straight_agree.specs.Layouts.{FrameLayout, context_in, IsLaidOut, HoldsWholes}
use Rattle.c_straight_agree.specs.Narrow.{CharsAreNarrow, ShortsAreNarrow}
use Rattle.c_straight_agree.specs.Parts.{IsLoweredPart}
use Rattle.c_straight_agree.specs.Standing.{IsBody, Standing, IsSoundIn}
use Rattle.c_straight_agree.proofs.lemmas.At.{at_of, at_front, standing_of}
use Rattle.c_straight_agree.proofs.lemmas.Coming.{operand_settled, value_stays}
use Rattle.c_straight_agree.proofs.lemmas.Extending.{straight_extends, acted_extends, extends_nodes, extends_grows, front_back, slots_back}
use Rattle.c_straight_agree.proofs.lemmas.Finals.{back, back_steps, back_jumps, finals_go_back}
use Rattle.c_straight_agree.proofs.lemmas.Lasting.{lasting_stays, lasting_settled}
use Rattle.c_straight_agree.proofs.lemmas.Parts.{result, sound_behind}
use Rattle.c_straight_agree.proofs.lemmas.Wholes.{wholes_left, wholes_stay}
use Rattle.c_slots_agree.specs.Held.{OperandsAreHeld}
use Rattle.c_parts_agree.proofs.lemmas.Waiting.{held_extends}
use Rattle.c_tests_agree.specs.Comparisons.{ComparisonsAreTested}
use Rattle.c_tests_agree.specs.Connectives.{IsTestedAnywhere}
use Rattle.c_tests_agree.specs.Tested.{AreMarkedOnce, Label, WentTo}
use Rattle.c_tests_agree.proofs.lemmas.Branching.{ended_front, ended_slots}
use Rattle.c_tests_agree.proofs.lemmas.Comparing.{IsThere, comparison_of, compared_went}
use Rattle.c_tests_agree.proofs.lemmas.Joining.{Between, between_came, went_joins, came_then}
use Rattle.c_tests_agree.proofs.lemmas.Truths.{went_told}
use Rattle.c_tests_agree.proofs.lemmas.Valuing.{slots_more}

-- ---- a first operand that waits

-- The run stands where the first operand waits for the second one. Nothing of C has changed; and behind the second one the first one has its value.
pub record WaitsOver (s : Scene) (y : FrameLayout) (b : CoreTree) (l : Low) (r : Lowered) (start : ℕ → Outcome) (turns : ℕ) (h : Front s.body.pieces r.low.pieces r.low.entries) (map : Map) (old : c.World) (first : World) (v : Value) (k : ℕ) : Type 0 where
  pub others : ℕ → Word
  pub world : World
  pub stands : Standing s start turns r.low h map old others world k
  pub alike : AreAlike first.objects world.objects
  pub left : IsLeftBut s (length l.slots) map (c.objects old) first.objects world.objects
  pub there :
      (g : Front s.body.pieces (low_e (context_in s y) b r.low).low.pieces (low_e (context_in s y) b r.low).low.entries) → IsFront (low_e (context_in s y) b r.low).low.slots g.before → (u : Value) (new : c.World) (j : ℕ)
      → (two : Came s start turns r.low (low_e (context_in s y) b r.low).low g (low_e (context_in s y) b r.low).value map old others world (Some u) new j)
      → IsThere s (keeps_at s.body (low_e (context_in s y) b r.low).low.pieces (low_e (context_in s y) b r.low).low.entries g) (node_count (low_e (context_in s y) b r.low).low.entries) two.later two.others two.world r.value v

-- so it is from each state that stands behind the first one
abbrev pub Waits : Scene → ℕ → FrameLayout → CoreTree → Typed → Low → Lowered → Type 0
Waits s locals y b p l r =
    (start : ℕ → Outcome) (turns : ℕ) (f : Front s.body.pieces l.pieces l.entries) (h : Front s.body.pieces r.low.pieces r.low.entries) (map : Map) (old : c.World) (values : ℕ → Word) (w : World) (k : ℕ)
    → IsFront r.low.slots h.before → Standing s start turns l f map old values w k → (v : Value) → HasIn (node_count l.entries) p → StaysInside v → HasValue s p map values w v → WaitsOver s y b l r start turns h map old w v k

-- a straight one leaves it where it is
pub straight_waits : (s : Scene) (locals : ℕ) (y : FrameLayout) (b : CoreTree) → straight b ≡ true → (p : Typed) (l : Low) → Waits s locals y b p l (held true p l)
straight_waits s locals y b goes_on p l start turns f h map old values w k slots st v within stays has = record {
  others = values;
  world = w;
  stands =
      let keeps = keeps_at s.body l.pieces l.entries f in
      standing_of s start turns l h map old values w k keeps (at_front s start turns l.pieces l.slots keeps k map old l.entries f h values w (at_of s start turns l f map old values w k st)) st.ready;
  alike = refl;
  left = λ place lt private none. refl;
  there = λ g behind u new j two.
      let m = (low_e (context_in s y) b l).low in
      let further = straight_extends (context_in s y) b goes_on l in
      let now = value_stays s map two.later two.grown values two.others w two.world two.alike (node_count l.entries) (two.kept (extends_grows l m further)) p v within has in
      record {
        inside = within_more (node_count l.entries) (node_count m.entries) p.tree (extends_nodes l m further) within;
        settled = operand_settled (keeps_at s.body m.pieces m.entries g) s p two.later two.others two.world v now;
        holds = now.holds;
        stays = stays;
      };
}

-- one that isn't straight finds it in a slot, if it was a node
pub saved_waits : OperandsAreHeld → (s : Scene) (locals : ℕ) → IsBody s locals → (y : FrameLayout) → IsLaidOut s y → (b : CoreTree) (p : Typed) (l : Low) → locals ≤ length l.slots → IsPending (node_count l.entries) p.tree → Waits s locals y b p l (held false p l)
saved_waits holding s locals body y laid b p l le pending start turns f h map old values w k slots st v within stays has =
    let r = held false p l in
    let m = (low_e (context_in s y) b r.low).low in
    let wait = holding s locals body laid.frame start turns l le f map old values w k st p v within has false h slots in
    let inside = pending_in 0 r.value.tree (held_free (node_count l.entries) p l pending) in
    let before = slots_more r.low m (lowering_adds (context_in s y) b r.low).slots in
    record {
      others = wait.others;
      world = wait.world;
      stands = wait.stands;
      alike = wait.alike;
      left = wait.left;
      there = λ g behind u new j two.
          let far = length r.low.slots in
          let now =
          lasting_stays s locals body far far (omega arith) map two.later two.grown old wait.others two.others wait.world two.world wait.stands.stands.frame two.alike two.left 0 (λ n lt. absurd (omega (arith, lt))) r.value v inside wait.has in
          record {
            inside = within_more 0 (node_count m.entries) r.value.tree (omega arith) inside;
            settled = lasting_settled s locals body m g behind far before two.later two.others two.world r.value v now;
            holds = now.holds;
            stays = stays;
          };
    }

waits_by : OperandsAreHeld → (s : Scene) (locals : ℕ) → IsBody s locals → (y : FrameLayout) → IsLaidOut s y → (b : CoreTree) (goes_on : Bool) → straight b ≡ goes_on → (p : Typed) (l : Low) → locals ≤ length l.slots → IsPending (node_count l.entries) p.tree → Waits s locals y b p l (held goes_on p l)
waits_by holding s locals body y laid b true e p l le pending = straight_waits s locals y b e p l
waits_by holding s locals body y laid b false e p l le pending = saved_waits holding s locals body y laid b p l le pending

-- ---- the comparison

module _ (chars : CharsAreNarrow) (shorts : ShortsAreNarrow) (means : TurnsMean) (evals : EvalStaysSound) (s : Scene) (once : AreMarkedOnce s.body) (locals : ℕ) (body : IsBody s locals) (y : FrameLayout) (laid : IsLaidOut s y) (a b : CoreTree) (pa : IsLoweredPart s locals y a) (pb : IsLoweredPart s locals y b)
    (o : Comparison) (signed : Bool) (line : ℕ) where
  abbrev x : Context
  x = context_in s y

  abbrev root : ℕ → Bool → Typed → Typed → Root
  root n when p q = compared o (compares_signed (type_of a) signed) when n p q

  -- what C's comparison comes to
  abbrev pub does : ℕ → c.World → Result
  does k old = then_give (result s a k old) (λ v k1 w1. then_give (result s b k1 w1) (λ u k2 w2. gives (compared_by (type_of a) signed o (c.objects w2) v u) line k2 w2))

  abbrev behind : Lowered → ℕ → Bool → Low
  behind r n when = branched (root n when r.value (low_e x b r.low).value) (low_e x b r.low).low

  -- ---- the second operand

  module _ (l : Low) (le : locals ≤ length l.slots) (r : Lowered) (adds : IsFront l.slots r.low.slots) (start : ℕ → Outcome) (turns : ℕ) (n : ℕ) (when : Bool) (t : Label s n) (h : Front s.body.pieces (behind r n when).pieces (behind r n when).entries) (slots : IsFront (behind r n when).slots h.before) where
    abbrev l3 : Low
    l3 = (low_e x b r.low).low

    abbrev q : Typed
    q = (low_e x b r.low).value

    pub last_final : Final s.body.pieces l3
    last_final =
        let z = root n when r.value q in
        let g = ended_front s.body.pieces l3.pieces l3.slots (acted z l3).entries h in
        record { front = front_back s.body.pieces l3 (acted z l3) (acted_extends z l3) g; slots = slots_back s.body.pieces l3 (acted z l3) (acted_extends z l3) g (ended_slots s.body.pieces l3.pieces l3.slots (acted z l3).entries h) }

    pub held_final : Final s.body.pieces r.low
    held_final = finals_go_back s.body.pieces x b r.low last_final

    more_slots : length l.slots ≤ length r.low.slots
    more_slots = slots_more l r.low adds

    last_slots : length r.low.slots ≤ length l3.slots
    last_slots = slots_more r.low l3 (lowering_adds x b r.low).slots

    between_waits : (map : Map) (old : c.World) (first : World) (v : Value) (k : ℕ) → (one : WaitsOver s y b l r start turns held_final.front map old first v k) → Between s (length l.slots) map old first map old one.world
    between_waits map old first v k one = record { grown = λ m range e. e; alike = one.alike; left = one.left; private = λ place lt private. private }

    second_compared : (f : Front s.body.pieces l.pieces l.entries) (map : Map) (old : c.World) (values : ℕ → Word) (first : World) (v : Value) (k : ℕ) → Standing s start turns l f map old values first k → IsSoundIn s old → IsSoundValue old.storage.made v → HoldsWholes s y first → (one : WaitsOver s y b l r start turns held_final.front map old first v k)
        → WentTo s start turns (length l.slots) when (behind r n when) h n t map old first (then_give (result s b k old) (λ u k2 w2. gives (compared_by (type_of a) signed o (c.objects w2) v u) line k2 w2))
    second_compared f map old values first v k st sound sv wholes one =
        went_joins s (length l.slots) (length r.low.slots) more_slots map old first map old one.world (between_waits map old first v k one) start turns (behind r n when) h n t when _
        (came_then s start turns r.low l3 (behind r n when) last_final.front h q map old one.others one.world (length r.low.slots) when n t (result s b k old) _
        (pb.lowered r.low (omega (arith, le, more_slots)) start turns held_final.front last_final.front map old one.others one.world k last_final.slots one.stands sound
        (wholes_left s y laid map old first one.world st.stands.frame.others one.alike (length l.slots) one.left wholes))
        (λ u k2 old2 is two.
        let so = sound_behind s locals body evals b pb.tame k k2 u old old2 sound is in
        let within = (values_have_nodes x b r.low one.stands.block).value in
        went_joins s (length r.low.slots) (length l3.slots) last_slots map old one.world two.later old2 two.world (between_came s start turns r.low l3 last_final.front q map old one.others one.world (Some u) old2 k2 two) start turns (behind r n when) h n t when _
        (compared_went chars shorts means s once locals body start turns l3 (omega (arith, le, more_slots, last_slots)) last_final.front two.later old2 two.others two.world k2 two.stands so.world (type_of a) signed o r.value q v u
        (one.there last_final.front last_final.slots u old2 k2 two)
        (record { inside = within; settled = operand_settled (keeps_at s.body l3.pieces l3.entries last_final.front) s q two.later two.others two.world u two.has; holds = two.has.holds; stays = (operand_sound old2.storage.made u so.value).0 })
        when n line h slots t (comparison_of (type_of a) signed o (c.objects old2) v u) refl)))

  -- ---- both

  pub comparison_tested : OperandsAreHeld → (of : CType) → IsTestedAnywhere s locals y (Core (kind.Compare o signed) of line (Cores a (Cores b NoCore)))
  comparison_tested holding of l le n when start turns f h t map before values first k asked slots st sound wholes =
      let l1 = (low_e x a l).low in
      let p = (low_e x a l).value in
      let r = held (straight b) p l1 in
      let m = behind r n when in
      let more = slots_more l l1 (lowering_adds x a l).slots in
      let le1 : locals ≤ length l1.slots = omega (arith, le, more) in
      let adds = (held_extends (straight b) p l1).slots in
      let all = s.body.pieces in
      let g2 = held_final l1 le1 r adds start turns n when t h slots in
      let g1 = held_steps (back all) (back_steps all) (straight b) (λ e. back_jumps all) p l1 g2 in
      went_told s start turns (length l.slots) map before first m h n t when of asked (does k before)
      (came_then s start turns l l1 m g1.front h p map before values first (length l.slots) when n t (result s a k before) _
      (pa.lowered l le start turns f g1.front map before values first k g1.slots st sound wholes)
      (λ v k1 old1 is one.
      let so = sound_behind s locals body evals a pa.tame k k1 v before old1 sound is in
      let within = (values_have_nodes x a l st.block).value in
      went_joins s (length l.slots) (length l1.slots) more map before first one.later old1 one.world (between_came s start turns l l1 g1.front p map before values first (Some v) old1 k1 one) start turns m h n t when _
      (second_compared l1 le1 r adds start turns n when t h slots g1.front one.later old1 one.others one.world v k1 one.stands so.world so.value (wholes_stay s y laid start turns l l1 f g1.front p map before values first k st (Some v) old1 k1 one wholes)
      (waits_by holding s locals body y laid b (straight b) refl p l1 le1 (value_comes x a l st.block).value start turns g1.front g2.front one.later old1 one.others one.world k1 g2.slots one.stands v within (operand_sound old1.storage.made v so.value).0 one.has))))

pub comparisons_are_tested : CharsAreNarrow → ShortsAreNarrow → TurnsMean → EvalStaysSound → OperandsAreHeld → ComparisonsAreTested
comparisons_are_tested chars shorts means evals holding s locals y body once laid o signed of line a b pa pb = comparison_tested chars shorts means evals s once locals body y laid a b pa pb o signed line holding of
