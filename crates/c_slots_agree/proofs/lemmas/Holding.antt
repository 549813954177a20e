-- Operands that wait for another one.
use Rattle.std.specs.Prelude.{◌≤◌, ◌<◌, ℕ, true, false, [], ◌∷◌, length}
use Rattle.std.proofs.Common.{refl, arith, length-append}
use Rattle.objects.specs.declared.value.Value.{Value}
use Rattle.op_forest.specs.declared.suffix.Suffix.{Suffix}
use Rattle.op_forest.specs.Frames.{IsFrame, lowest}
use Rattle.forests.specs.Words.{Word}
use Rattle.forests.specs.Worlds.{World, Outcome}
use Rattle.dag_forest.specs.NewSlots.{slot_below}
use Rattle.dag_forest.specs.Tally.{node_count}
use Rattle.c_runs.specs.Worlds as c
use Rattle.c_match.specs.Ranges.{Map}
use Rattle.c_rows_agree.specs.Templates.{Template, Given, Leaf, One, Two}
use Rattle.c_rows_agree.specs.Typed.{Typed}
use Rattle.piece_runs.specs.Pieces.{Front}
use Rattle.piece_runs.specs.Reaches.{keeps_at}
use Rattle.c_expr_agreement.specs.Scenes.{Scene}
use Rattle.lowered_forms.specs.Blocks.{IsWithin}
use Rattle.lowered_forms.specs.Later.{IsFront}
use Rattle.lowered_forms.specs.Lows.{Low, slot_offset, with_slot}
use Rattle.lowered_forms.specs.Values.{with_value, saved, saved_tree}
use Rattle.c_straight_agree.specs.Agreement.{HasValue}
use Rattle.c_straight_agree.specs.Narrow.{CharsAreNarrow, ShortsAreNarrow}
use Rattle.c_straight_agree.specs.Standing.{IsBody, Standing}
use Rattle.c_straight_agree.proofs.lemmas.At.{at_of, standing_of, at_front, behind_same}
use Rattle.c_straight_agree.proofs.lemmas.Coming.{operand_settled}
use Rattle.c_straight_agree.proofs.lemmas.Lasting.{lasting_value}
use Rattle.c_slots_agree.specs.Held.{IsWaiting, OperandsAreHeld}
use Rattle.c_slots_agree.proofs.lemmas.Reads.{slot_values_last}
use Rattle.c_slots_agree.proofs.lemmas.Storing.{slots_are_stored}
use Rattle.c_slots_agree.proofs.lemmas.Taken.{slots_are_taken}

module _ (chars : CharsAreNarrow) (shorts : ShortsAreNarrow) (s : Scene) (locals : ℕ) (body : IsBody s locals) (frame : IsFrame s.body.setting.environment.home.slots) (start : ℕ → Outcome) (turns : ℕ) (l : Low) (le : locals ≤ length l.slots) (f : Front s.body.pieces l.pieces l.entries) (map : Map) (old : c.World) (values : ℕ → Word) (w : World) (k : ℕ)
    (st : Standing s start turns l f map old values w k) (v : Value) where
  -- where it is
  waits_there : (a : Typed) → HasValue s a map values w v → (h : Front s.body.pieces l.pieces l.entries) → IsWaiting s locals start turns l (with_value a l) h map old values w v k
  waits_there a has h = record {
    others = values;
    world = w;
    stands = standing_of s start turns l h map old values w k (keeps_at s.body l.pieces l.entries f) (at_front s start turns l.pieces l.slots (keeps_at s.body l.pieces l.entries f) k map old l.entries f h values w (at_of s start turns l f map old values w k st)) st.ready;
    alike = refl;
    left = λ place lt private none. refl;
    kept = λ n lt. refl;
    has = lasting_value s locals (length l.slots) a map values w v has;
  }

  -- in a slot
  waits_in_slot : (a : Typed) → IsWithin (node_count l.entries) a.tree → HasValue s a map values w v → (h : Front s.body.pieces (saved a l).low.pieces (saved a l).low.entries) → IsFront (saved a l).low.slots h.before → IsWaiting s locals start turns l (saved a l) h map old values w v k
  waits_in_slot a within has h behind =
      let m = with_slot l in
      let n = length l.slots in
      let at = slots_are_taken s locals body l (saved a l).low.pieces (saved a l).low.entries h behind in
      let taken : Standing s start turns m f map old values w k = record {
        stands = st.stands;
        block = st.block;
        none_waits = st.none_waits;
        slots = behind_same s.body m.slots l.pieces (saved a l).low.entries l.entries h f behind;
        free = st.free;
        ready = st.ready;
      } in
      let before : n < length m.slots = let e = length-append l.slots (slot_below (lowest l.slots) 0 ∷ []) in omega (arith, e) in
      let y = slots_are_stored chars shorts s locals body frame start turns m f map old values w k taken n (slot_offset l) at le before a has.holds.word within (operand_settled (keeps_at s.body l.pieces l.entries f) s a map values w v has) has.holds.gives h in
      record {
        others = y.others;
        world = y.world;
        stands = y.stands;
        alike = y.alike;
        left = y.left;
        kept = y.kept;
        has = slot_values_last s locals frame n (length m.slots) (slot_offset l) at le before map y.others y.world has.holds.word v has.word has.holds.is y.holds a.suffix;
      }

  waits_by : (x : Suffix) (t : Template) → IsWithin (node_count l.entries) t → HasValue s (record { tree = t; suffix = x }) map values w v
      → (h : Front s.body.pieces (saved_tree t (record { tree = t; suffix = x }) l).low.pieces (saved_tree t (record { tree = t; suffix = x }) l).low.entries) → IsFront (saved_tree t (record { tree = t; suffix = x }) l).low.slots h.before
      → IsWaiting s locals start turns l (saved_tree t (record { tree = t; suffix = x }) l) h map old values w v k
  waits_by x (Given n) within has h behind = waits_in_slot (record { tree = Given n; suffix = x }) within has h behind
  waits_by x (Leaf y) within has h behind = waits_there (record { tree = Leaf y; suffix = x }) has h
  waits_by x (One y a) within has h behind = absurd has.waits
  waits_by x (Two y a b) within has h behind = absurd has.waits

pub operands_are_held : CharsAreNarrow → ShortsAreNarrow → OperandsAreHeld
operands_are_held chars shorts s locals body frame start turns l le f map old values w k st a v within has true h behind = waits_there chars shorts s locals body frame start turns l le f map old values w k st v a has h
operands_are_held chars shorts s locals body frame start turns l le f map old values w k st a v within has false h behind = waits_by chars shorts s locals body frame start turns l le f map old values w k st v a.suffix a.tree within has h behind
