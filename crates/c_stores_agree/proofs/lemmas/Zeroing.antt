-- Zeros that are stored in a local: one by one, and in turn by a loop. Between two of them C's world is one in which so many bytes are zero.
use Rattle.std.specs.Prelude.{◌≡◌, ◌≤◌, ◌<◌, ℕ, zero, suc, ◌+◌, ◌*◌, ◌%◌, ◌^◌, ℤ, pos, ◌*ℤ◌, nat_le, nat_lt, if◌then◌else◌, Bool, true, false, None, Some, Ok, List, length, slice_get}
use Rattle.std.proofs.Common.{refl, sym, ap, subst, ◌∙◌, arith}
use Rattle.std.proofs.lemmas.Bool.{lt-ltb, le-ltb}
use Rattle.std.proofs.lemmas.Int.{ints}
use Rattle.lcc_base.specs.declared.order.Order.{Order}
use Rattle.objects.specs.declared.operators.Binary.TheVariants as binary
use Rattle.objects.specs.declared.operators.Comparison.TheVariants as comparison
use Rattle.objects.specs.declared.purpose.Purpose.TheVariants.{Initialisation}
use Rattle.objects.specs.declared.value.Value.{Value}
use Rattle.objects.specs.declared.value.Value.TheVariants.{Number, Pointer, Function as FunctionValue}
use Rattle.objects.specs.declared.width.Width.{Width}
use Rattle.objects.specs.declared.width.Width.TheVariants as width
use Rattle.objects.specs.Accesses.{written}
use Rattle.objects.proofs.lemmas.AccessLaws.{not_less}
use Rattle.objects.specs.Arithmetic.{signed_of, is_less, comparison_value, binary_value}
use Rattle.objects.specs.Objects.{Object as Old}
use Rattle.objects.specs.Pointers.{place_after, moved}
use Rattle.objects.specs.Values.{bytes_in}
use Rattle.op_forest.specs.declared.frame.Slot.{Slot}
use Rattle.op_forest.specs.declared.suffix.Suffix.TheVariants.{I}
use Rattle.forests.proofs.lemmas.BitLaws.{signed_low}
use Rattle.forests.specs.Words.{Word, Plain, unknown}
use Rattle.dag_forest.specs.Tally.{node_count}
use Rattle.dag_seam.specs.SplitLaws.{TurnsMean}
use Rattle.c_types.specs.CType.{CType, Int, UnsignedChar, UnsignedShort, Unsigned, basic}
use Rattle.c_meaning.specs.declared.core_expr.CoreKind.TheVariants as kind
use Rattle.c_meaning.specs.CoreTrees.{Core, NoCore}
use Rattle.c_meaning.specs.StmtTrees.{FilledOf}
use Rattle.c_runs.specs.Places.{size_of, spot_filled}
use Rattle.c_runs.specs.Soundness.{IsSound, Keeps, ExecStaysSound}
use Rattle.c_runs.specs.Statements as does
use Rattle.c_runs.specs.Worlds as c
use Rattle.c_match.proofs.lemmas.Growing.{grown_refl}
use Rattle.switch_tables.specs.Order.{rank}
use Rattle.switch_tables.proofs.lemmas.Ranks.{less_by_rank}
use Rattle.c_pointers_agree.specs.Held.{AreShort}
use Rattle.c_pointers_agree.specs.Pointers as pointer
use Rattle.c_pointers_agree.proofs.lemmas.Moves.{elements_move}
use Rattle.c_pointers_agree.proofs.lemmas.Near.{live_short}
use Rattle.c_rows_agree.specs.Integers.{number, binary_of, compared}
use Rattle.c_rows_agree.specs.Places.{stored_as}
use Rattle.c_rows_agree.specs.Templates as template
use Rattle.c_rows_agree.specs.Typed.{Typed, Holds}
use Rattle.c_rows_agree.proofs.lemmas.Operators.{binary_holds}
use Rattle.c_rows_agree.proofs.lemmas.Suffixes.{number_holds}
use Rattle.piece_runs.specs.Pieces.{Front}
use Rattle.piece_runs.specs.Reaches.{keeps_at}
use Rattle.lowered_forms.specs.Lows.{Low, acted, branched, marked, with_label, slot_offset, with_slot}
use Rattle.lowered_forms.specs.Places.{further}
use Rattle.lowered_forms.specs.Values.{slot_read, stored_in}
use Rattle.lowered_forms.specs.Later.{IsFront}
use Rattle.lowered_forms.proofs.lemmas.Fronts.{front_before, front_joins}
use Rattle.lowered_forms.proofs.lemmas.Stepping.{branched_steps, stored_steps}
use Rattle.lowered_forms.proofs.lemmas.WithinTemplates.{HasIn, slot_in, number_in, binary_in, moved_in}
use Rattle.lowered_statements.specs.Searches.{Choice}
use Rattle.lowered_statements.specs.Zeroing.{zeroed_at, zeroed_each, zeroed_in_turn, zeroed_by, zeroed}
use Rattle.lowered_statements.proofs.lemmas.Stepping.{each_step}
use Rattle.c_straight_agree.specs.Narrow.{CharsAreNarrow, ShortsAreNarrow}
use Rattle.c_straight_agree.specs.Settled.{seen, IsSettled}
use Rattle.c_straight_agree.specs.Standing.{IsSoundIn}
use Rattle.c_straight_agree.proofs.lemmas.Finals.{back, back_steps, back_jumps}
use Rattle.c_straight_agree.proofs.lemmas.Leaves.{number_has}
use Rattle.c_straight_agree.proofs.lemmas.SettledTemplates.{binary_set, moved_set, number_set}
use Rattle.c_slots_agree.specs.Laws.{SlotStored}
use Rattle.c_slots_agree.specs.Slots.{IsSlotAt, SlotHolds}
use Rattle.c_choices_agree.proofs.lemmas.Passing.{with_slot_stands, one_slot}
use Rattle.c_choices_agree.proofs.lemmas.Slots.{SlotLaws}
use Rattle.c_tests_agree.specs.Tested.{AreMarkedOnce, Label, low_at}
use Rattle.c_tests_agree.proofs.lemmas.Marking.{mark_stands}
use Rattle.c_tests_agree.proofs.lemmas.Valuing.{slots_more}
use Rattle.c_stmt_agreement.specs.Comings.{Activation, HasFrame, Origin, Came}
use Rattle.c_stmt_agreement.specs.Laws.{IsFinal}
use Rattle.c_stmt_agreement.specs.LoweredStmt.{StandsAt}
use Rattle.c_stmt_agreement.proofs.lemmas.Expressions.{sound_in, passed_came}
use Rattle.c_stmt_agreement.proofs.lemmas.Rebasing.{onward, stands_onward, came_itself, came_on}
use Rattle.c_stmts_agree.proofs.lemmas.Places.{label_here, relabels}
use Rattle.c_searches_agree.proofs.lemmas.Holding.{stays_below, room_behind, HeldAt, comparison_held}
use Rattle.c_stores_agree.proofs.lemmas.Bases.{IsPlace, IsBase, here_short, local_stays, local_opens, part_is_place}
use Rattle.c_stores_agree.proofs.lemmas.Places.{written_is_moved}
use Rattle.c_stores_agree.proofs.lemmas.Stores.{setting, same_order, filled_sound, StoredAt, spot_stored}
use Rattle.c_stores_agree.proofs.lemmas.Zeros.{IsFree, free_writes, first_free, next_free, cleared, cleared_on, none_cleared, zero_written, turn_more}

-- ---- a zero as what a place is filled with

abbrev zero_type : Width → CType
zero_type width.One = basic UnsignedChar
zero_type width.Two = basic UnsignedShort
zero_type width.Four = basic Unsigned

abbrev zero_place : Width → ℕ → FilledOf CType
zero_place w from = record { of = zero_type w; offset = from; first = 0; width = 0; value = Core (kind.Number 0) (basic Int) 0 NoCore }

zero_filled : (p : Activation) (w : Width) (from : ℕ) (to : Value) (os : List Old) → does.filled (setting p) (zero_place w from) to (Number 0) os ≡ written Initialisation p.scene.lowered.order w (Number 0) os to
zero_filled p width.One from to os = ap (λ (z : Order). written Initialisation z width.One (Number 0) os to) (same_order p.scene.unit p.scene.lowered.order)
zero_filled p width.Two from to os = ap (λ (z : Order). written Initialisation z width.Two (Number 0) os to) (same_order p.scene.unit p.scene.lowered.order)
zero_filled p width.Four from to os = ap (λ (z : Order). written Initialisation z width.Four (Number 0) os to) (same_order p.scene.unit p.scene.lowered.order)

-- ---- numbers of bytes: all, of which there is one step and the rest

first_inside : (from all step rest size : ℕ) → all ≡ step + rest → 1 ≤ step → from + all ≤ size → suc from ≤ size
first_inside from all step rest size e some fits = omega (arith, e, some, fits)

rest_inside : (from all step rest size : ℕ) → all ≡ step + rest → from + all ≤ size → from + step + rest ≤ size
rest_inside from all step rest size e fits = omega (arith, e, fits)

rest_is : (from all step rest to : ℕ) → all ≡ step + rest → from + all ≡ to → from + step + rest ≡ to
rest_is from all step rest to e is = omega (arith, e, is)

is_less_than : (from all step rest to : ℕ) → all ≡ step + rest → 1 ≤ step → from + all ≡ to → from < to
is_less_than from all step rest to e some is = omega (arith, e, some, is)

step_small : (from all step rest to : ℕ) → all ≡ step + rest → from + all ≡ to → to < 2 ^ 31 → from + step < 2 ^ 31
step_small from all step rest to e is small = omega (arith, e, is, small)

from_small : (from all : ℕ) → from + all < 2 ^ 31 → from < 2 ^ 32
from_small from all lt = omega (arith, lt)

nothing_times : (w : Width) → zero * bytes_in w ≡ 0
nothing_times width.One = omega arith
nothing_times width.Two = omega arith
nothing_times width.Four = omega arith

none_left : (w : Width) (m to : ℕ) → m + zero * bytes_in w ≡ to → m ≡ to
none_left width.One m to e = omega (arith, e)
none_left width.Two m to e = omega (arith, e)
none_left width.Four m to e = omega (arith, e)

-- the words and bytes of objects are fewer than a signed number tells
free_short : (os : List Old) (b : Value) (from m align : ℕ) → AreShort os → IsFree os (place_after b (pos from)) m align → from + m < 2 ^ 31
free_short os (Pointer name off) from m align short h =
    let lt = live_short os name off short h.lives in
    let le = not_less name.size (off + from + m) h.inside in
    omega (arith, lt, le)
free_short os (Number v) from m align short h = absurd (let e = h.inside in let never : ⊥ = cc in never)
free_short os (FunctionValue f) from m align short h = absurd (let e = h.inside in let never : ⊥ = cc in never)

module _ (chars : CharsAreNarrow) (shorts : ShortsAreNarrow) (execs : ExecStaysSound) (p : Activation) (frame : HasFrame p) (n : ℕ) (of : CType) (base : Typed) (is : IsBase p n of base) where
  zero_sound : (w : Width) (before : c.World) (b : Value) → slice_get before.locals n ≡ Some b → IsSoundIn p.scene before → (from : ℕ) → IsFree (c.objects before) (place_after b (pos from)) (bytes_in w) (bytes_in w)
      → IsSoundIn p.scene (c.with_objects before (cleared (c.objects before) b from (bytes_in w)))
  zero_sound w before b there sound from free =
      let q = place_after b (pos from) in
      let after =
      filled_sound execs p frame n (zero_place w from) (omega arith) (omega arith, tt) before 0 b there sound.sound (Number 0) 0 before refl (cleared (c.objects before) b from (bytes_in w))
      (zero_filled p w from q (c.objects before) ∙ zero_written p.scene.lowered.order w (c.objects before) q free) in
      sound_in p before (c.with_objects before (cleared (c.objects before) b from (bytes_in w))) sound after.0 after.1

  -- ---- one

  -- at a place that any template has
  zero_stored : (w : Width) (o : Origin) (k : ℕ) (l : Low) (at : StandsAt p o l k) → p.locals ≤ length l.slots → (b : Value) → slice_get o.old.locals n ≡ Some b → (from : ℕ) (a : Typed) → IsPlace p o k l at a (place_after b (pos from))
      → IsFree (c.objects o.old) (place_after b (pos from)) (bytes_in w) (bytes_in w) → IsFinal p (acted (stored_as w a (number true 0)) l) → StoredAt p o l (acted (stored_as w a (number true 0)) l) (c.with_objects o.old (cleared (c.objects o.old) b from (bytes_in w))) k
  zero_stored w o k l at le b there from a place free final = by w free final
    where
      has : (m : Width) → IsFree (c.objects o.old) (place_after b (pos from)) (bytes_in m) (bytes_in m) → IsSoundIn p.scene (c.with_objects o.old (cleared (c.objects o.old) b from (bytes_in m)))
      has m f = zero_sound m o.old b there at.sound from f

      by : (m : Width) → IsFree (c.objects o.old) (place_after b (pos from)) (bytes_in m) (bytes_in m) → IsFinal p (acted (stored_as m a (number true 0)) l) → StoredAt p o l (acted (stored_as m a (number true 0)) l) (c.with_objects o.old (cleared (c.objects o.old) b from (bytes_in m))) k
      by width.One f g =
          spot_stored chars shorts p frame o k l at le a (number true 0) (place_after b (pos from)) (Number 0) place tt
          (number_has p.scene p.locals frame.body p.layout frame.laid o.start o.turns l at.front o.map o.old at.values o.world k at.stands at.sound true 0 (omega arith))
          (cleared (c.objects o.old) b from 1) (has width.One f) (spot_filled (zero_place width.One from)) (omega arith) (zero_written p.scene.lowered.order width.One (c.objects o.old) (place_after b (pos from)) f) g.front
      by width.Two f g =
          spot_stored chars shorts p frame o k l at le a (number true 0) (place_after b (pos from)) (Number 0) place tt
          (number_has p.scene p.locals frame.body p.layout frame.laid o.start o.turns l at.front o.map o.old at.values o.world k at.stands at.sound true 0 (omega arith))
          (cleared (c.objects o.old) b from 2) (has width.Two f) (spot_filled (zero_place width.Two from)) (omega arith) (zero_written p.scene.lowered.order width.Two (c.objects o.old) (place_after b (pos from)) f) g.front
      by width.Four f g =
          spot_stored chars shorts p frame o k l at le a (number true 0) (place_after b (pos from)) (Number 0) place tt
          (number_has p.scene p.locals frame.body p.layout frame.laid o.start o.turns l at.front o.map o.old at.values o.world k at.stands at.sound true 0 (omega arith))
          (cleared (c.objects o.old) b from 4) (has width.Four f) (spot_filled (zero_place width.Four from)) (omega arith) (zero_written p.scene.lowered.order width.Four (c.objects o.old) (place_after b (pos from)) f) g.front

  -- ---- one by one

  some_bytes : (w : Width) → 1 ≤ bytes_in w
  some_bytes width.One = omega arith
  some_bytes width.Two = omega arith
  some_bytes width.Four = omega arith

  each_back : (w : Width) (from m : ℕ) (l : Low) → IsFinal p (zeroed_each base w from m l) → IsFinal p l
  each_back w from m l final = each_step (back p.scene.body.pieces) (back_steps p.scene.body.pieces) (back_jumps p.scene.body.pieces) base w from m l final

  module _ (w : Width) (b : Value) where
    -- so many zeros, from so many bytes behind the local's first one on, may be stored
    abbrev MayClear : c.World → ℕ → ℕ → Type 0
    MayClear old from m = IsFree (c.objects old) (place_after b (pos from)) (m * bytes_in w) (bytes_in w)

    abbrev with_zeros : c.World → ℕ → ℕ → c.World
    with_zeros old from m = c.with_objects old (cleared (c.objects old) b from (m * bytes_in w))

    turn_free : (old : c.World) (from m : ℕ) → MayClear old from (suc m) → IsFree (c.objects old) (place_after b (pos from)) (bytes_in w + m * bytes_in w) (bytes_in w)
    turn_free old from m h = subst (λ (i : ℕ). IsFree (c.objects old) (place_after b (pos from)) i (bytes_in w)) (turn_more w m) h

    first_may : (old : c.World) (from m : ℕ) → MayClear old from (suc m) → IsFree (c.objects old) (place_after b (pos from)) (bytes_in w) (bytes_in w)
    first_may old from m h = first_free (c.objects old) b from (bytes_in w) (m * bytes_in w) (bytes_in w) (turn_free old from m h)

    next_may : (old : c.World) (from m : ℕ) → MayClear old from (suc m) → MayClear (c.with_objects old (cleared (c.objects old) b from (bytes_in w))) (from + bytes_in w) m
    next_may old from m h = next_free (c.objects old) b from (m * bytes_in w) w _ (turn_free old from m h)

    zeros_on : (old : c.World) (from m : ℕ) → MayClear old from (suc m) → with_zeros (c.with_objects old (cleared (c.objects old) b from (bytes_in w))) (from + bytes_in w) m ≡ with_zeros old from (suc m)
    zeros_on old from m h =
        ap (λ (os : List Old). c.with_objects old os) (cleared_on (c.objects old) b from (bytes_in w) (m * bytes_in w) (bytes_in w) (turn_free old from m h)
        ∙ ap (λ (i : ℕ). cleared (c.objects old) b from i) (sym (turn_more w m)))

    no_zeros : (old : c.World) (from : ℕ) → old ≡ with_zeros old from 0
    no_zeros old from =
        let none = nothing_times w in
        ap (λ (os : List Old). c.with_objects old os) (sym (none_cleared (c.objects old) b from) ∙ ap (λ (i : ℕ). cleared (c.objects old) b from i) (sym none))

    pub each_zeroed : (m from : ℕ) (o : Origin) (k : ℕ) (l : Low) → StandsAt p o l k → p.locals ≤ length l.slots → slice_get o.old.locals n ≡ Some b → from + m * bytes_in w ≤ size_of p.scene.unit.tags of → MayClear o.old from m → IsFinal p (zeroed_each base w from m l)
        → Came p o (zeroed_each base w from m l) (with_zeros o.old from m) k
    each_zeroed zero from o k l at le there fits may final = subst (λ (old : c.World). Came p o l old k) (no_zeros o.old from) (came_itself p o l k at)
    each_zeroed (suc m) from o k l at le there fits may final =
        let one_back = each_back w (from + bytes_in w) m (zeroed_at base w from l) final in
        let free = first_may o.old from m may in
        let some = some_bytes w in
        let more = turn_more w m in
        let moves = written_is_moved Initialisation (c.objects o.old) b from (bytes_in w) (bytes_in w) (free_writes (c.objects o.old) (place_after b (pos from)) (bytes_in w) (bytes_in w) free) in
        let place = part_is_place p frame n of base is o k l at b there from moves true (λ e. first_inside from (suc m * bytes_in w) (bytes_in w) (m * bytes_in w) (size_of p.scene.unit.tags of) more some fits) in
        let one = (zero_stored w o k l at le b there from (further true from base) place free one_back).came in
        let old1 = c.with_objects o.old (cleared (c.objects o.old) b from (bytes_in w)) in
        let o1 = onward p o (zeroed_at base w from l) old1 k one in
        subst (λ (old : c.World). Came p o (zeroed_each base w from (suc m) l) old k) (zeros_on o.old from m may)
        (came_on p o (zeroed_at base w from l) old1 k one o.turns (zeroed_each base w from (suc m) l) (with_zeros old1 (from + bytes_in w) m) k
        (each_zeroed m (from + bytes_in w) o1 k (zeroed_at base w from l) (stands_onward p o (zeroed_at base w from l) old1 k one) le there (rest_inside from (suc m * bytes_in w) (bytes_in w) (m * bytes_in w) (size_of p.scene.unit.tags of) more fits) (next_may o.old from m may) final))

-- ---- in turn

binary_more : (m by : ℕ) → m + by < 2 ^ 32 → binary_value true binary.Add (Number m) (Number by) ≡ Ok (Number (m + by))
binary_more m by lt = let same : (m + by) % 2 ^ 32 ≡ m + by = omega (arith, lt) in ap (λ (x : ℕ). Ok (Number x)) same

less_so : (m to : ℕ) → m < to → to < 2 ^ 31 → comparison_value true comparison.Less (Number m) (Number to) ≡ Ok true
less_so m to lt small =
    let test : is_less true m to ≡ nat_lt (rank true m) (rank true to) = less_by_rank true m to (omega (arith, lt, small)) (omega (arith, small)) in
    ap (λ (t : Bool). Ok t) (test ∙ lt-ltb (rank true m) (rank true to) (omega (arith, lt, small)))

none_less : (m : ℕ) → m < 2 ^ 31 → comparison_value true comparison.Less (Number m) (Number m) ≡ Ok false
none_less m small =
    let test : is_less true m m ≡ nat_lt (rank true m) (rank true m) = less_by_rank true m m (omega (arith, small)) (omega (arith, small)) in
    ap (λ (t : Bool). Ok t) (test ∙ le-ltb (rank true m) (rank true m) (omega arith))

-- the run stands where it is known of fewer slots that they are there
fewer_slots : (p : Activation) (o : Origin) (k : ℕ) (a : Low) (slots : List Slot) → IsFront slots a.slots → StandsAt p o a k → StandsAt p o (record { pieces = a.pieces; entries = a.entries; slots = slots; labels = a.labels }) k
fewer_slots p o k a slots front at = record {
  front = at.front;
  values = at.values;
  stands = record { stands = at.stands.stands; block = at.stands.block; none_waits = at.stands.none_waits; slots = front_joins slots a.slots at.front.before front at.stands.slots; free = at.stands.free; ready = at.stands.ready };
  sound = at.sound;
  wholes = at.wholes;
  result = at.result;
  opens = at.opens;
}

module _ (chars : CharsAreNarrow) (shorts : ShortsAreNarrow) (means : TurnsMean) (execs : ExecStaysSound) (laws : SlotLaws) (p : Activation) (frame : HasFrame p) (once : AreMarkedOnce p.scene.body) (n : ℕ) (of : CType) (base : Typed) (is : IsBase p n of base) where
  module _ (w : Width) (from to : ℕ) (l : Low) (le : p.locals ≤ length l.slots) (final : IsFinal p (zeroed_in_turn base w from to l)) (b : Value) (small : to < 2 ^ 31) where
    -- ---- the places that the run passes

    abbrev i : ℕ
    i = length l.slots

    abbrev z : ℤ
    z = slot_offset l

    abbrev here_at : Typed
    here_at = pointer.moved 1 false base (slot_read I z)

    abbrev next : Typed
    next = binary_of binary.Add true (slot_read I z) (number true (bytes_in w))

    abbrev low1 : Low
    low1 = with_slot l

    abbrev low2 : Low
    low2 = stored_in z (number true from) low1

    abbrev low3 : Low
    low3 = with_label low2

    -- behind the label
    abbrev low4 : Low
    low4 = marked l.labels low3

    abbrev low5 : Low
    low5 = acted (stored_as w here_at (number true 0)) low4

    abbrev low6 : Low
    low6 = stored_in z next low5

    abbrev end : Low
    end = zeroed_in_turn base w from to l

    final6 : IsFinal p low6
    final6 = branched_steps (back p.scene.body.pieces) (back_steps p.scene.body.pieces) (back_jumps p.scene.body.pieces) (compared comparison.Less true true l.labels (slot_read I z) (number true to)) low6 final

    final5 : IsFinal p low5
    final5 = stored_steps (back p.scene.body.pieces) (back_steps p.scene.body.pieces) z next low5 final6

    final4 : IsFinal p low4
    final4 = (back_steps p.scene.body.pieces).acts (stored_as w here_at (number true 0)) low4 final5

    final2 : IsFinal p low2
    final2 = (back_jumps p.scene.body.pieces).label low2 ((back_jumps p.scene.body.pieces).marks l.labels low3 final4)

    final1 : IsFinal p low1
    final1 = stored_steps (back p.scene.body.pieces) (back_steps p.scene.body.pieces) z (number true from) low1 final2

    less1 : i < length low1.slots
    less1 = let e = one_slot l in omega (arith, e)

    less4 : i < length low4.slots
    less4 = stays_below i low3 low4 (front_before low3.slots _) less1

    le4 : p.locals ≤ length low4.slots
    le4 = room_behind p.locals i (length low4.slots) le less4

    front4 : IsFront l.slots low4.slots
    front4 = front_joins l.slots low3.slots low4.slots (front_before l.slots _) (front_before low3.slots _)

    slot : IsSlotAt p.scene i z
    slot = laws.taken p.scene p.locals frame.body l l.pieces l.entries final1.front final1.slots

    abbrev top : Label p.scene l.labels
    top = label_here p.scene l.labels low3 final4

    abbrev choice : Choice
    choice = record { slot = z; signed = true; default = 0 }

    -- ---- one turn

    -- from the end of a turn, where the slot has the number m, so many more zeros are stored
    abbrev Goes : ℕ → ℕ → Type 0
    Goes m d =
        (o : Origin) (k : ℕ) → StandsAt p o low6 k → SlotHolds p.scene i (Plain (Number m)) o.world → slice_get o.old.locals n ≡ Some b → MayClear chars shorts execs p frame n of base is w b o.old m d
        → Came p o end (with_zeros chars shorts execs p frame n of base is w b o.old m d) k

    module _ (m d : ℕ) (rest : Goes (m + bytes_in w) d) (less : m + bytes_in w < 2 ^ 31) (o : Origin) (k : ℕ) (at : StandsAt p o low4 k) (holds : SlotHolds p.scene i (Plain (Number m)) o.world) (there : slice_get o.old.locals n ≡ Some b)
        (may : MayClear chars shorts execs p frame n of base is w b o.old m (suc d)) where
      free : IsFree (c.objects o.old) (place_after b (pos m)) (bytes_in w) (bytes_in w)
      free = first_may chars shorts execs p frame n of base is w b o.old m d may

      moves : moved (c.objects o.old) b (pos m) ≡ Ok (place_after b (pos m))
      moves = written_is_moved Initialisation (c.objects o.old) b m (bytes_in w) (bytes_in w) (free_writes (c.objects o.old) (place_after b (pos m)) (bytes_in w) (bytes_in w) free)

      abbrev here : template.Scene
      here = seen p.scene.body o.map at.values o.world

      reads : template.Gives here (slot_read I z).tree (Plain (Number m)) × IsSettled (keeps_at p.scene.body low4.pieces low4.entries at.front) here (slot_read I z).tree
      reads = laws.reads p.scene p.locals frame.body frame.laid.frame i z slot low4 at.front at.stands.slots less4 o.map at.values o.world (Plain (Number m)) holds I

      by_one : pos 1 *ℤ signed_of m ≡ pos m
      by_one = let low : signed_of m ≡ pos m = signed_low m (omega (arith, less)) in ap (λ (x : ℤ). pos 1 *ℤ x) low ∙ omega (arith, ints)

      place : IsPlace p o k low4 at here_at (place_after b (pos m))
      place = record {
        within = moved_in (node_count low4.entries) 1 false base (slot_read I z) (is.within (node_count low4.entries)) (slot_in (node_count low4.entries) I z);
        holds =
            elements_move here (c.objects o.old) 1 false (basic Int) base (slot_read I z) b (Number m) (place_after b (pos m)) (here_short p frame n of base is o k low4 at b there) (omega arith) (local_stays p frame n of base is o k low4 at b there) (omega (arith, less))
            (is.holds o k low4 at b there) (record { word = Plain (Number m); gives = reads.0; is = refl })
            (ap (λ (x : ℤ). moved (c.objects o.old) b x) by_one ∙ moves);
        settled = moved_set (keeps_at p.scene.body low4.pieces low4.entries at.front) here 1 false base (slot_read I z) (is.settled o k low4 at b there) reads.1;
        opens = local_opens p frame n of base is o k low4 at b there (pos m);
      }

      -- the zero
      abbrev old1 : c.World
      old1 = c.with_objects o.old (cleared (c.objects o.old) b m (bytes_in w))

      one : StoredAt p o low4 low5 old1 k
      one = zero_stored chars shorts execs p frame n of base is w o k low4 at le4 b there m here_at place free final5

      abbrev o1 : Origin
      o1 = onward p o low5 old1 k one.came

      at1 : StandsAt p o1 low5 k
      at1 = stands_onward p o low5 old1 k one.came

      holds1 : SlotHolds p.scene i (Plain (Number m)) o1.world
      holds1 = laws.stay p.scene p.locals frame.body i (length low4.slots) z slot le less4 o.map o.old o.world one.came.passed.world at.stands.stands.frame one.came.passed.alike one.left (Plain (Number m)) holds

      -- the number of the next one
      abbrev here1 : template.Scene
      here1 = seen p.scene.body o1.map at1.values o1.world

      reads1 : template.Gives here1 (slot_read I z).tree (Plain (Number m)) × IsSettled (keeps_at p.scene.body low5.pieces low5.entries at1.front) here1 (slot_read I z).tree
      reads1 = laws.reads p.scene p.locals frame.body frame.laid.frame i z slot low5 at1.front at1.stands.slots less4 o1.map at1.values o1.world (Plain (Number m)) holds1 I

      more : Holds here1 next (Number (m + bytes_in w))
      more =
          binary_holds here1 binary.Add true (slot_read I z) (number true (bytes_in w)) (Number m) (Number (bytes_in w)) (Number (m + bytes_in w)) (record { word = Plain (Number m); gives = reads1.0; is = refl })
          (number_holds here1 true (bytes_in w) (omega (arith, less))) (binary_more m (bytes_in w) (omega (arith, less)))

      two : SlotStored p.scene o1.start o1.turns i more.word low5 low6 final6.front o1.map o1.old at1.values o1.world k
      two =
          let keeps = keeps_at p.scene.body low5.pieces low5.entries at1.front in
          laws.stored p.scene p.locals frame.body frame.laid.frame o1.start o1.turns low5 at1.front o1.map o1.old at1.values o1.world k at1.stands i z slot le less4 next more.word
          (binary_in (node_count low5.entries) binary.Add true (slot_read I z) (number true (bytes_in w)) (slot_in (node_count low5.entries) I z) (number_in (node_count low5.entries) true (bytes_in w)))
          (binary_set keeps here1 binary.Add true (slot_read I z) (number true (bytes_in w)) reads1.1 (number_set keeps here1 true (bytes_in w))) more.gives final6.front

      abbrev came2 : Came p o1 low6 old1 k
      came2 =
          passed_came p frame o1 (record { pieces = low5.pieces; entries = low5.entries; slots = l.slots; labels = low5.labels }) k (fewer_slots p o1 k low5 l.slots front4 at1) le low6 final6.front old1 k at1.sound
          (record { later = o1.map; grown = grown_refl o1.map; others = two.others; world = two.world; stands = two.stands; alike = two.alike; left = two.left; private = λ place lt private. private })

      turn_goes : Came p o end (with_zeros chars shorts execs p frame n of base is w b o.old m (suc d)) k
      turn_goes =
          subst (λ (old : c.World). Came p o end old k) (zeros_on chars shorts execs p frame n of base is w b o.old m d may)
          (came_on p o low5 old1 k one.came o.turns end (with_zeros chars shorts execs p frame n of base is w b old1 (m + bytes_in w) d) k
          (came_on p o1 low6 old1 k came2 o1.turns end (with_zeros chars shorts execs p frame n of base is w b old1 (m + bytes_in w) d) k
          (rest (onward p o1 low6 old1 k came2) k (stands_onward p o1 low6 old1 k came2) (subst (λ (u : Word). SlotHolds p.scene i u two.world) more.is two.holds) there (next_may chars shorts execs p frame n of base is w b o.old m d may))))

    -- ---- all turns

    compared_held : (m : ℕ) (t : Bool) → comparison_value true comparison.Less (Number m) (Number to) ≡ Ok t → (o : Origin) (k : ℕ) → StandsAt p o low6 k → SlotHolds p.scene i (Plain (Number m)) o.world → HeldAt p i m o (if t then low4 else end) k
    compared_held m t e o k at holds =
        comparison_held chars shorts means p frame once laws choice i m slot le comparison.Less to l.labels (omega (arith, small)) low6 less4 top final t e o k at holds

    all_go : (d m : ℕ) → m + d * bytes_in w ≡ to → Goes m d
    all_go zero m e o k at holds there may =
        let same : m ≡ to = none_left w m to e in
        let one = compared_held m false (subst (λ (x : ℕ). comparison_value true comparison.Less (Number m) (Number x) ≡ Ok false) same (none_less m (omega (arith, same, small)))) o k at holds in
        subst (λ (old : c.World). Came p o end old k) (no_zeros chars shorts execs p frame n of base is w b o.old m) one.came
    all_go (suc d) m e o k at holds there may =
        let more = turn_more w d in
        let some = some_bytes chars shorts execs p frame n of base is w in
        let one = compared_held m true (less_so m to (is_less_than m (suc d * bytes_in w) (bytes_in w) (d * bytes_in w) to more some e) small) o k at holds in
        came_on p o low4 o.old k one.came o.turns end (with_zeros chars shorts execs p frame n of base is w b o.old m (suc d)) k
        (turn_goes m d (all_go d (m + bytes_in w) (rest_is m (suc d * bytes_in w) (bytes_in w) (d * bytes_in w) to more e)) (step_small m (suc d * bytes_in w) (bytes_in w) (d * bytes_in w) to more e small) (onward p o low4 o.old k one.came) k (stands_onward p o low4 o.old k one.came) one.holds there may)

    -- ---- from the start

    module _ (o : Origin) (k : ℕ) (at : StandsAt p o l k) (first : from < 2 ^ 32) where
      abbrev start_here : template.Scene
      start_here = seen p.scene.body o.map at.values o.world

      number_here : Holds start_here (number true from) (Number from)
      number_here = number_holds start_here true from first

      begun : SlotStored p.scene o.start o.turns i number_here.word low1 low2 final2.front o.map o.old at.values o.world k
      begun =
          laws.stored p.scene p.locals frame.body frame.laid.frame o.start o.turns low1 at.front o.map o.old at.values o.world k
          (with_slot_stands p.scene o.start o.turns l at.front o.map o.old at.values o.world k at.stands final1) i z slot le less1 (number true from) number_here.word (number_in (node_count l.entries) true from)
          (number_set (keeps_at p.scene.body l.pieces l.entries at.front) start_here true from) number_here.gives final2.front

      abbrev begun_came : Came p o low2 o.old k
      begun_came =
          passed_came p frame o l k at le low2 final2.front o.old k at.sound
          (record { later = o.map; grown = grown_refl o.map; others = begun.others; world = begun.world; stands = begun.stands; alike = begun.alike; left = begun.left; private = λ place lt private. private })

      abbrev o2 : Origin
      o2 = onward p o low2 o.old k begun_came

      at3 : StandsAt p o2 low3 k
      at3 = relabels p low2 (suc low2.labels) o2 k (stands_onward p o low2 o.old k begun_came)

      at4 : StandsAt p o2 low4 k
      at4 = record {
        front = final4.front;
        values = λ m. unknown;
        stands = mark_stands means p.scene p.locals frame.body o2.start o2.turns l.labels low3 at3.front final4.front final4.slots o2.map o2.old at3.values o2.world k at3.stands;
        sound = at3.sound;
        wholes = at3.wholes;
        result = at3.result;
        opens = at3.opens;
      }

      pub turns_zero : (d : ℕ) → from + suc d * bytes_in w ≡ to → slice_get o.old.locals n ≡ Some b → MayClear chars shorts execs p frame n of base is w b o.old from (suc d)
          → Came p o end (with_zeros chars shorts execs p frame n of base is w b o.old from (suc d)) k
      turns_zero d e there may =
          let more = turn_more w d in
          came_on p o low2 o.old k begun_came o.turns end (with_zeros chars shorts execs p frame n of base is w b o.old from (suc d)) k
          (turn_goes from d (all_go d (from + bytes_in w) (rest_is from (suc d * bytes_in w) (bytes_in w) (d * bytes_in w) to more e)) (step_small from (suc d * bytes_in w) (bytes_in w) (d * bytes_in w) to more e small) o2 k at4 (subst (λ (u : Word). SlotHolds p.scene i u begun.world) number_here.is begun.holds) there may)

  -- ---- so many, one by one or in turn

  zeroed_came_by : (few : Bool) (w : Width) (from m : ℕ) → nat_le m 4 ≡ few → (o : Origin) (k : ℕ) (l : Low) → StandsAt p o l k → p.locals ≤ length l.slots → (b : Value) → slice_get o.old.locals n ≡ Some b → from + m * bytes_in w ≤ size_of p.scene.unit.tags of
      → IsFree (c.objects o.old) (place_after b (pos from)) (m * bytes_in w) (bytes_in w) → IsFinal p (zeroed_by few base w from m l) → Came p o (zeroed_by few base w from m l) (c.with_objects o.old (cleared (c.objects o.old) b from (m * bytes_in w))) k
  zeroed_came_by true w from m e o k l at le b there fits may final = each_zeroed chars shorts execs p frame n of base is w b m from o k l at le there fits may final
  zeroed_came_by false w from zero e o k l at le b there fits may final = absurd (let never : ⊥ = cc in never)
  zeroed_came_by false w from (suc d) e o k l at le b there fits may final =
      let lt = free_short (c.objects o.old) b from (suc d * bytes_in w) (bytes_in w) at.sound.short may in
      turns_zero w from (from + suc d * bytes_in w) l le final b lt o k at (from_small from (suc d * bytes_in w) lt) d refl there may

  -- they are stored
  pub zeroed_came : (w : Width) (from m : ℕ) (o : Origin) (k : ℕ) (l : Low) → StandsAt p o l k → p.locals ≤ length l.slots → (b : Value) → slice_get o.old.locals n ≡ Some b → from + m * bytes_in w ≤ size_of p.scene.unit.tags of
      → IsFree (c.objects o.old) (place_after b (pos from)) (m * bytes_in w) (bytes_in w) → IsFinal p (zeroed base w from m l) → Came p o (zeroed base w from m l) (c.with_objects o.old (cleared (c.objects o.old) b from (m * bytes_in w))) k
  zeroed_came w from m o k l at le b there fits may final = zeroed_came_by (nat_le m 4) w from m refl o k l at le b there fits may final
