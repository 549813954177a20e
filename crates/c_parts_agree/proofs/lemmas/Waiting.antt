-- Two operands of any kind: the first one waits for the second one in a slot, where that isn't straight.
use Rattle.std.specs.Prelude.{◌≡◌, ◌≤◌, ◌<◌, ℕ, Bool, true, false, Some, None, length}
use Rattle.std.proofs.Common.{refl, sym, subst, ◌∙◌, arith}
use Rattle.objects.specs.declared.value.Value.{Value}
use Rattle.objects.specs.declared.width.Width.TheVariants as width
use Rattle.objects.specs.declared.value.Value.TheVariants.{Number}
use Rattle.op_forest.specs.declared.suffix.Suffix.{Suffix}
use Rattle.forests.specs.Words.{Word, Plain}
use Rattle.forests.specs.Worlds.{World, Outcome}
use Rattle.dag_forest.specs.Tally.{node_count}
use Rattle.c_meaning.specs.Values.{CoreTree}
use Rattle.c_runs.specs.Outcomes.{Result, then_give}
use Rattle.c_runs.specs.Soundness.{EvalStaysSound}
use Rattle.c_runs.specs.Worlds as c
use Rattle.c_match.specs.Ranges.{Map}
use Rattle.c_match.proofs.lemmas.Growing.{grown_refl}
use Rattle.c_rows_agree.specs.Integers.{number}
use Rattle.c_rows_agree.specs.Places.{stored_as}
use Rattle.c_rows_agree.specs.Templates.{Template, Given, Leaf, One, Two}
use Rattle.c_rows_agree.specs.Typed.{Typed}
use Rattle.c_pointers_agree.specs.Pointers.{local}
use Rattle.c_rows_agree.proofs.lemmas.Suffixes.{i_constant}
use Rattle.piece_runs.specs.Pieces.{Front}
use Rattle.c_expr_agreement.specs.Scenes.{Scene}
use Rattle.lowered_forms.specs.Contexts.{Context}
use Rattle.lowered_forms.specs.Expressions.{low_e}
use Rattle.lowered_forms.specs.Lows.{Low, slot_offset, with_slot}
use Rattle.lowered_forms.specs.Straight.{straight}
use Rattle.lowered_forms.specs.Values.{Lowered, then_low, saved_tree, held}
use Rattle.lowered_forms.proofs.lemmas.Adding.{lowering_adds}
use Rattle.lowered_forms.proofs.lemmas.Blocks.{within_more}
use Rattle.lowered_forms.proofs.lemmas.Fronts.{front_itself, front_joins, front_before}
use Rattle.lowered_forms.proofs.lemmas.NodesOf.{value_comes, values_have_nodes}
use Rattle.lowered_forms.proofs.lemmas.Pending.{pending_in, held_free}
use Rattle.c_straight_agree.specs.Agreement.{Came}
use Rattle.c_straight_agree.specs.Extends.{Extends}
use Rattle.c_straight_agree.specs.Layouts.{FrameLayout, context_in, IsLaidOut}
use Rattle.c_straight_agree.specs.Narrow.{CharsAreNarrow, ShortsAreNarrow}
use Rattle.c_straight_agree.specs.Parts.{IsLoweredPart}
use Rattle.c_straight_agree.specs.Settled.{seen}
use Rattle.c_straight_agree.specs.Standing.{IsBody}
use Rattle.c_straight_agree.proofs.lemmas.Coming.{joins, gives_then}
use Rattle.c_straight_agree.proofs.lemmas.Extending.{extends_itself, extends_joins, acted_extends, extends_nodes, extends_slots, extends_grows, extends_pieces, later_extends, grows_later, front_back, slots_back}
use Rattle.c_straight_agree.proofs.lemmas.Finals.{finals_go_back}
use Rattle.c_straight_agree.proofs.lemmas.Kept.{front_length}
use Rattle.c_straight_agree.proofs.lemmas.Lasting.{lasting_more, lasting_stays}
use Rattle.c_straight_agree.proofs.lemmas.Parts.{result, value_later, sound_behind, GoesTwo, Results, TwoCome, slots_later, two_come}
use Rattle.c_straight_agree.proofs.lemmas.Wholes.{wholes_stay}
use Rattle.c_slots_agree.specs.Held.{IsWaiting}
use Rattle.c_slots_agree.proofs.lemmas.Holding.{operands_are_held}

-- ---- saves

slot_extends : (l : Low) → Extends l (with_slot l)
slot_extends l = record { pieces = refl; entries = front_itself l.entries; slots = front_before l.slots _ }

saved_extends : (x : Suffix) (t : Template) (l : Low) → Extends l (saved_tree t (record { tree = t; suffix = x }) l).low
saved_extends x (Given n) l = extends_joins l (with_slot l) _ (slot_extends l) (acted_extends (stored_as width.Four (local (slot_offset l)) (record { tree = Given n; suffix = x })) (with_slot l))
saved_extends x (Leaf h) l = extends_itself l
saved_extends x (One h a) l = extends_itself l
saved_extends x (Two h a b) l = extends_itself l

pub held_extends : (is_straight : Bool) (p : Typed) (l : Low) → Extends l (held is_straight p l).low
held_extends true p l = extends_itself l
held_extends false p l = saved_extends p.suffix p.tree l

-- ---- what waits

no_nodes : (values others : ℕ → Word) (m : ℕ) → m < 0 → others m ≡ values m
no_nodes values others m lt = absurd (omega (arith, lt))

-- nothing of C has changed where an operand waits
pub waiting_came : (s : Scene) (locals : ℕ) (start : ℕ → Outcome) (turns : ℕ) (l : Low) (r : Lowered) (h : Front s.body.pieces r.low.pieces r.low.entries) (map : Map) (old : c.World) (values : ℕ → Word) (first : World) (v : Value) (k : ℕ)
    → IsWaiting s locals start turns l r h map old values first v k → Came s start turns l r.low h (number true 0) map old values first None old k
waiting_came s locals start turns l r h map old values first v k x = record {
  later = map;
  grown = grown_refl map;
  others = x.others;
  world = x.world;
  stands = x.stands;
  alike = x.alike;
  left = x.left;
  private = λ place lt private. private;
  kept = λ g n lt. x.kept n lt;
  has = record { word = Plain (Number 0); gives = i_constant (seen s.body map x.others x.world) 0 (omega arith); is = omega arith; waits = tt };
}

module _ (chars : CharsAreNarrow) (shorts : ShortsAreNarrow) (evals : EvalStaysSound) (s : Scene) (locals : ℕ) (body : IsBody s locals) (y : FrameLayout) (laid : IsLaidOut s y) where
  abbrev x : Context
  x = context_in s y

  -- the second operand isn't straight
  saved_come : (a b : CoreTree) → IsLoweredPart s locals y a → IsLoweredPart s locals y b → (go : Typed → Typed → Low → Lowered) → ((p q : Typed) (l : Low) → Extends l (go p q l).low) → (act : Value → Value → ℕ → c.World → Result) → GoesTwo s locals body go act
      → (l : Low) → locals ≤ length l.slots
      → Results s locals body y l (then_low (low_e x a l) (λ p l1. then_low (held false p l1) (λ z l2. then_low (low_e x b l2) (λ q l3. go z q l3)))) (λ k old. then_give (result s a k old) (λ v k1 w1. then_give (result s b k1 w1) (λ u k2 w2. act v u k2 w2)))
  unfolding waiting_came
  saved_come a b pa pb go further act goes l le start turns f h map before values first k slots st sound wholes =
      let l1 = (low_e x a l).low in
      let p = (low_e x a l).value in
      let l2 = (held false p l1).low in
      let z = (held false p l1).value in
      let l3 = (low_e x b l2).low in
      let q = (low_e x b l2).value in
      let r = go z q l3 in
      let none = number true 0 in
      let x1 = lowering_adds x a l in
      let x2 = held_extends false p l1 in
      let x3 = lowering_adds x b l2 in
      let x4 = further z q l3 in
      let h3 = front_back s.body.pieces l3 r.low x4 h in
      let s3 = slots_back s.body.pieces l3 r.low x4 h slots in
      let last = finals_go_back s.body.pieces x b l2 (record { front = h3; slots = s3 }) in
      let h1 = front_back s.body.pieces l1 l2 x2 last.front in
      let s1 = slots_back s.body.pieces l1 l2 x2 last.front last.slots in
      let le1 = slots_later s locals body l l1 x1.slots le in
      let le2 = slots_later s locals body l1 l2 x2.slots le1 in
      let le3 = slots_later s locals body l2 l3 x3.slots le2 in
      let tail : r.low.pieces ≡ l2.pieces → Extends l2 r.low = λ e. extends_joins l2 l3 r.low (later_extends l2 l3 r.low.pieces x3 (extends_pieces l3 r.low x4) e) x4 in
      let more = front_joins l1.pieces l2.pieces r.low.pieces (extends_pieces l1 l2 x2) (front_joins l2.pieces l3.pieces r.low.pieces x3.pieces (extends_pieces l3 r.low x4)) in
      gives_then s start turns l l1 r.low h1 h p r.value map before values first (result s a k before) (λ v k1 w1. then_give (result s b k1 w1) (λ u k2 w2. act v u k2 w2))
      (pa.lowered l le start turns f h1 map before values first k s1 st sound wholes)
      (λ v k1 old1 is one.
      let so = sound_behind s locals body evals a pa.tame k k1 v before old1 sound is in
      let comes = value_comes x a l st.block in
      let wait = operands_are_held chars shorts s locals body laid.frame start turns l1 le1 h1 one.later old1 one.others one.world k1 one.stands p v (values_have_nodes x a l st.block).value one.has false last.front last.slots in
      let held_came = waiting_came s locals start turns l1 (held false p l1) last.front one.later old1 one.others one.world v k1 wait in
      let wholes1 = wholes_stay s y laid start turns l l1 f h1 p map before values first k st (Some v) old1 k1 one wholes in
      let wholes2 = wholes_stay s y laid start turns l1 l2 h1 last.front none one.later old1 one.others one.world k1 one.stands None old1 k1 held_came wholes1 in
      joins s start turns l l1 r.low h1 h p r.value map before values first (Some v) old1 k1 (front_length l.slots l1.slots x1.slots) (grows_later l l1 r.low x1 more (λ e. extends_joins l1 l2 r.low x2 (tail (e ∙ sym x2.pieces)))) one
      (then_give (result s b k1 old1) (λ u k2 w2. act v u k2 w2))
      (joins s start turns l1 l2 r.low last.front h none r.value one.later old1 one.others one.world None old1 k1 (extends_slots l1 l2 x2) (λ g. (extends_grows l1 l2 x2, (extends_grows l2 r.low (tail (g.done ∙ sym x2.pieces)), extends_nodes l1 l2 x2))) held_came
      (then_give (result s b k1 old1) (λ u k2 w2. act v u k2 w2))
      (gives_then s start turns l2 l3 r.low h3 h q r.value one.later old1 wait.others wait.world (result s b k1 old1) (λ u k2 w2. act v u k2 w2)
      (pb.lowered l2 le2 start turns last.front h3 one.later old1 wait.others wait.world k1 s3 wait.stands so.world wholes2)
      (λ u k2 old2 is2 two.
      let so2 = sound_behind s locals body evals b pb.tame k1 k2 u old1 old2 so.world is2 in
      let within = pending_in 0 z.tree (held_free (node_count l1.entries) p l1 comes.value) in
      joins s start turns l2 l3 r.low h3 h q r.value one.later old1 wait.others wait.world (Some u) old2 k2 (front_length l2.slots l3.slots x3.slots) (grows_later l2 l3 r.low x3 (extends_pieces l3 r.low x4) (λ e. x4)) two (act v u k2 old2)
      (goes l3 le3 z q (within_more 0 (node_count l3.entries) z.tree (omega arith) within) (values_have_nodes x b l2 wait.stands.block).value v u start turns h3 h two.later old2 two.others two.world k2 slots two.stands so2.world
      (value_later old1.storage.made old2.storage.made v so2.keeps.made so.value) so2.value
      (lasting_more s locals (length l2.slots) (length l3.slots) (front_length l2.slots l3.slots x3.slots) z two.later two.others two.world v
      (lasting_stays s locals body (length l2.slots) (length l2.slots) (omega arith) one.later two.later two.grown old1 wait.others two.others wait.world two.world wait.stands.stands.frame two.alike two.left 0 (no_nodes wait.others two.others) z v within wait.has))
      two.has)))))

  come_by : (a b : CoreTree) → IsLoweredPart s locals y a → IsLoweredPart s locals y b → (t : Bool) → straight b ≡ t → (go : Typed → Typed → Low → Lowered) → ((p q : Typed) (l : Low) → Extends l (go p q l).low) → (act : Value → Value → ℕ → c.World → Result) → GoesTwo s locals body go act
      → (l : Low) → locals ≤ length l.slots
      → Results s locals body y l (then_low (low_e x a l) (λ p l1. then_low (held (straight b) p l1) (λ z l2. then_low (low_e x b l2) (λ q l3. go z q l3)))) (λ k old. then_give (result s a k old) (λ v k1 w1. then_give (result s b k1 w1) (λ u k2 w2. act v u k2 w2)))
  come_by a b pa pb true e go further act goes l le = two_come s locals body evals y laid a b pa pb e go further act goes l le
  come_by a b pa pb false e go further act goes l le =
      subst (λ (t : Bool). Results s locals body y l (then_low (low_e x a l) (λ p l1. then_low (held t p l1) (λ z l2. then_low (low_e x b l2) (λ q l3. go z q l3)))) (λ k old. then_give (result s a k old) (λ v k1 w1. then_give (result s b k1 w1) (λ u k2 w2. act v u k2 w2)))) (sym e)
      (saved_come a b pa pb go further act goes l le)

  -- whatever they are
  pub any_two_come : TwoCome s locals body evals y laid (λ e. Unit {0})
  any_two_come a b pa pb is go further act goes l le = come_by a b pa pb (straight b) refl go further act goes l le
