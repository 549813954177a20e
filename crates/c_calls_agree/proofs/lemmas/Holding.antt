-- The operands of a call that are there wait for another one: in slots, where that isn't straight.
use Rattle.std.specs.Prelude.{◌≡◌, ◌≤◌, ◌<◌, ℕ, Bool, true, false, List, [], ◌∷◌, length}
use Rattle.std.proofs.Common.{refl, ◌∙◌, arith}
use Rattle.objects.specs.declared.value.Value.{Value}
use Rattle.objects.specs.declared.value.Value.TheVariants.{Number}
use Rattle.op_forest.specs.declared.suffix.Suffix.{Suffix}
use Rattle.op_forest.specs.Frames.{IsFrame}
use Rattle.forests.specs.Alike.{AreAlike}
use Rattle.forests.specs.Words.{Word, Plain}
use Rattle.forests.specs.Worlds.{World, Outcome}
use Rattle.dag_forest.specs.Tally.{node_count}
use Rattle.c_meaning.specs.Each.{EachIs}
use Rattle.c_runs.specs.Worlds as c
use Rattle.c_match.specs.Ranges.{Map}
use Rattle.c_match.proofs.lemmas.Growing.{grown_refl}
use Rattle.c_rows_agree.specs.Integers.{number}
use Rattle.c_rows_agree.specs.Templates.{Template, Given, Leaf, One, Two}
use Rattle.c_rows_agree.specs.Typed.{Typed}
use Rattle.c_rows_agree.proofs.lemmas.Suffixes.{i_constant}
use Rattle.piece_runs.specs.Pieces.{Front}
use Rattle.piece_runs.specs.Reaches.{keeps_at}
use Rattle.c_expr_agreement.specs.Scenes.{Scene}
use Rattle.lowered_forms.specs.Blocks.{IsWithin}
use Rattle.lowered_forms.specs.Calls.{Passed, all_held}
use Rattle.lowered_forms.specs.Later.{IsFront}
use Rattle.lowered_forms.specs.Lows.{Low}
use Rattle.lowered_forms.specs.Values.{with_value, saved_tree, held}
use Rattle.lowered_forms.proofs.lemmas.Pending.{IsPending, pending_in, pending_more, held_free}
use Rattle.c_straight_agree.specs.Agreement.{HasWord, IsLeftBut}
use Rattle.c_straight_agree.specs.Extends.{Extends}
use Rattle.c_straight_agree.specs.Lasting.{LastingValue}
use Rattle.c_straight_agree.specs.Narrow.{CharsAreNarrow, ShortsAreNarrow}
use Rattle.c_straight_agree.specs.Settled.{seen}
use Rattle.c_straight_agree.specs.Standing.{IsBody, Standing}
use Rattle.c_straight_agree.proofs.lemmas.At.{at_of, standing_of, at_front}
use Rattle.c_straight_agree.proofs.lemmas.Extending.{extends_itself, extends_joins, extends_nodes, extends_slots, front_back, slots_back}
use Rattle.c_straight_agree.proofs.lemmas.Lasting.{lasting_more, lasting_stays}
use Rattle.c_straight_agree.proofs.lemmas.Putting.{alike_length, each_map}
use Rattle.c_slots_agree.specs.Held.{IsWaiting}
use Rattle.c_slots_agree.proofs.lemmas.Holding.{operands_are_held}
use Rattle.c_parts_agree.proofs.lemmas.Waiting.{held_extends}
use Rattle.c_calls_agree.specs.Laws.{AreWithin}
use Rattle.c_calls_agree.specs.Passing.{HaveValues}
use Rattle.c_calls_agree.proofs.lemmas.Words.{have_more, values_stay}

-- operands that are nodes among the first so many, or none
abbrev pub ArePending : ℕ → List Typed → Type 0
ArePending n as' = EachIs (λ (a : Typed). IsPending n a.tree) as'

pub pending_later : (m n : ℕ) (as' : List Typed) → m ≤ n → ArePending m as' → ArePending n as'
pending_later m n as' le h = each_map (λ (a : Typed). IsPending m a.tree) (λ (a : Typed). IsPending n a.tree) as' (λ a g. pending_more m n a.tree le g) h

pub pending_within : (n : ℕ) (as' : List Typed) → ArePending n as' → AreWithin n as'
pending_within n as' h = each_map (λ (a : Typed). IsPending n a.tree) (λ (a : Typed). IsWithin n a.tree) as' (λ a g. pending_in n a.tree g) h

pub all_held_extends : (t : Bool) (n : ℕ) (vs : List Typed) (l : Low) → Extends l (all_held t n vs l).low
all_held_extends t n [] l = extends_itself l
all_held_extends t n (v ∷ vs) l = extends_joins l (held t v l).low (all_held t n vs (held t v l).low).low (held_extends t v l) (all_held_extends t n vs (held t v l).low)

-- what is saved is read in a slot
pub saved_pending : (m n : ℕ) (vs : List Typed) (l : Low) → ArePending m vs → ArePending 0 (all_held false n vs l).values
saved_pending m n [] l h = tt
saved_pending m n (v ∷ vs) l h = (held_free m v l h.0, saved_pending m n vs (held false v l).low h.1)

pub no_nodes : (values others : ℕ → Word) (m : ℕ) → m < 0 → others m ≡ values m
no_nodes values others m lt = absurd (omega (arith, lt))

-- a constant has its word wherever it is asked for
pub number_word : (s : Scene) (later : Map) (others : ℕ → Word) (world : World) → HasWord s (number true 0) later others world
number_word s later others world = record { word = Plain (Number 0); gives = i_constant (seen s.body later others world) 0 (omega arith); is = omega arith; waits = tt }

-- The run stands where all of them wait, and have their values. Nothing of C has changed.
pub record AllWait (s : Scene) (locals : ℕ) (start : ℕ → Outcome) (turns : ℕ) (l : Low) (q : Passed) (h : Front s.body.pieces q.low.pieces q.low.entries) (map : Map) (old : c.World) (values : ℕ → Word) (first : World) (us : List Value) (k : ℕ) : Type 0 where
  pub others : ℕ → Word
  pub world : World
  pub stands : Standing s start turns q.low h map old others world k
  pub alike : AreAlike first.objects world.objects
  pub left : IsLeftBut s (length l.slots) map (c.objects old) first.objects world.objects
  pub kept : (n : ℕ) → n < node_count l.entries → others n ≡ values n
  pub have : HaveValues s locals (length q.low.slots) q.values map others world us

abbrev pub passed_of : ℕ → List Typed → Low → Passed
passed_of n vs l = record { values = vs; next = n; low = l }

module _ (chars : CharsAreNarrow) (shorts : ShortsAreNarrow) (s : Scene) (locals : ℕ) (body : IsBody s locals) (frame : IsFrame s.body.setting.environment.home.slots) (start : ℕ → Outcome) (turns : ℕ) (map : Map) (old : c.World) (k : ℕ) where
  -- as they are
  pub waits_there : (n : ℕ) (vs : List Typed) (us : List Value) (l : Low) (f : Front s.body.pieces l.pieces l.entries) (values : ℕ → Word) (w : World) → Standing s start turns l f map old values w k → HaveValues s locals (length l.slots) vs map values w us
      → (h : Front s.body.pieces l.pieces l.entries) → AllWait s locals start turns l (passed_of n vs l) h map old values w us k
  waits_there n vs us l f values w st have h = record {
    others = values;
    world = w;
    stands = standing_of s start turns l h map old values w k (keeps_at s.body l.pieces l.entries f) (at_front s start turns l.pieces l.slots (keeps_at s.body l.pieces l.entries f) k map old l.entries f h values w (at_of s start turns l f map old values w k st)) st.ready;
    alike = refl;
    left = λ place lt private none. refl;
    kept = λ n1 lt. refl;
    have = have;
  }

  -- ---- one operand

  module _ (l : Low) (le : locals ≤ length l.slots) (f : Front s.body.pieces l.pieces l.entries) (values : ℕ → Word) (w : World) (st : Standing s start turns l f map old values w k) (v : Value) where
    read_waits : (a : Typed) → LastingValue s locals (length l.slots) a map values w v → (h : Front s.body.pieces l.pieces l.entries) → IsWaiting s locals start turns l (with_value a l) h map old values w v k
    unfolding waits_there
    read_waits a has h =
        let x = waits_there 0 [] [] l f values w st tt h in
        record { others = values; world = w; stands = x.stands; alike = refl; left = λ place lt private none. refl; kept = λ n lt. refl; has = has }

    saved_waits : (x : Suffix) (t : Template) → IsWithin (node_count l.entries) t → LastingValue s locals (length l.slots) (record { tree = t; suffix = x }) map values w v
        → (h : Front s.body.pieces (saved_tree t (record { tree = t; suffix = x }) l).low.pieces (saved_tree t (record { tree = t; suffix = x }) l).low.entries) → IsFront (saved_tree t (record { tree = t; suffix = x }) l).low.slots h.before
        → IsWaiting s locals start turns l (saved_tree t (record { tree = t; suffix = x }) l) h map old values w v k
    saved_waits x (Given n) within has h behind =
        operands_are_held chars shorts s locals body frame start turns l le f map old values w k st (record { tree = Given n; suffix = x }) v within (record { holds = has.holds; word = has.word; waits = tt }) false h behind
    saved_waits x (Leaf y) within has h behind =
        operands_are_held chars shorts s locals body frame start turns l le f map old values w k st (record { tree = Leaf y; suffix = x }) v within (record { holds = has.holds; word = has.word; waits = has.lasts }) false h behind
    saved_waits x (One y a) within has h behind = read_waits (record { tree = One y a; suffix = x }) has h
    saved_waits x (Two y a b) within has h behind = absurd has.lasts

  -- ---- all of them

  pub all_saved : (n : ℕ) (vs : List Typed) (us : List Value) (l : Low) → locals ≤ length l.slots → (f : Front s.body.pieces l.pieces l.entries) (values : ℕ → Word) (w : World) → Standing s start turns l f map old values w k → ArePending (node_count l.entries) vs → HaveValues s locals (length l.slots) vs map values w us
      → (h : Front s.body.pieces (all_held false n vs l).low.pieces (all_held false n vs l).low.entries) → IsFront (all_held false n vs l).low.slots h.before → AllWait s locals start turns l (all_held false n vs l) h map old values w us k
  all_saved n [] us l le f values w st pending have h behind = waits_there n [] us l f values w st have h
  all_saved n (v ∷ vs) [] l le f values w st pending have h behind = absurd have
  all_saved n (v ∷ vs) (u ∷ us) l le f values w st pending have h behind =
      let l1 = (held false v l).low in
      let q = all_held false n vs l1 in
      let x1 = held_extends false v l in
      let x2 = all_held_extends false n vs l1 in
      let more1 = extends_slots l l1 x1 in
      let more2 = extends_slots l1 q.low x2 in
      let nodes1 = extends_nodes l l1 x1 in
      let h1 = front_back s.body.pieces l1 q.low x2 h in
      let s1 = slots_back s.body.pieces l1 q.low x2 h behind in
      let count = node_count l.entries in
      let one = saved_waits l le f values w st u v.suffix v.tree (pending_in count v.tree pending.0) have.0 h1 s1 in
      let rest =
      have_more s locals (length l.slots) (length l1.slots) more1 vs map one.others one.world us
      (values_stay s locals body (length l.slots) (length l.slots) (omega arith) map map (grown_refl map) old values one.others w one.world st.stands.frame one.alike one.left count one.kept vs us (pending_within count vs pending.1) have.1) in
      let two = all_saved n vs us l1 (omega (arith, le, more1)) h1 one.others one.world one.stands (pending_later count (node_count l1.entries) vs nodes1 pending.1) rest h behind in
      let first_within = pending_in 0 (held false v l).value.tree (held_free count v l pending.0) in
      record {
        others = two.others;
        world = two.world;
        stands = two.stands;
        alike = one.alike ∙ two.alike;
        left = λ place lt private none.
            two.left place (let e = alike_length w.objects one.world.objects one.alike in omega (arith, lt, e)) private (λ taken. none ((let t = taken.0 in omega (arith, t, more1)), taken.1))
            ∙ one.left place lt private none;
        kept = λ i lt. two.kept i (omega (arith, lt, nodes1)) ∙ one.kept i lt;
        have = (
          lasting_more s locals (length l1.slots) (length q.low.slots) more2 (held false v l).value map two.others two.world u
              (lasting_stays s locals body (length l1.slots) (length l1.slots) (omega arith) map map (grown_refl map) old one.others two.others one.world two.world one.stands.stands.frame two.alike two.left 0 (no_nodes one.others two.others) (held false v l).value u first_within one.has),
          two.have,
        );
      }
