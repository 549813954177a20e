-- What writes of registers and of words of the frame keep.
use Rattle.std.proofs.Common.{◌≡◌, ◌⊎◌, inl, inr, ⊎_elim, ℕ, suc, ◌+◌, ◌*◌, ◌%◌, ◌^◌, ◌<◌, ◌≤◌, pos, List, [], ◌∷◌, ◌++◌, length, true, false, Option, Some, None, refl, sym, ap, ◌∙◌, subst, arith}
use Rattle.std.specs.Prelude.{slice_index, slice_set, ◌==◌, IsTrue}
use Rattle.std.proofs.lemmas.Bool.{cases_eq, eq-eqb, ne_eqb, eqb-true, or_cases, both_ways}
use Rattle.std.proofs.lemmas.List.{length-set}
use Rattle.std.proofs.Common.{length-append}
use Rattle.lcc_base.specs.declared.order.Order.{Order}
use Rattle.forests.specs.Words.{Word}
use Rattle.objects.specs.declared.byte.Byte.{Byte}
use Rattle.forests.specs.Objects.{Object}
use Rattle.forests.specs.Worlds.{with_arguments, Point, at_world}
use Rattle.vcode.proofs.lemmas.SlotValues.{slot_at, slot_off}
use Rattle.vcode.specs.Execution.{State, with_value, with_slot}
use Rattle.vcode.specs.VirtualCode.{among}
use Rattle.vcode.specs.Maps.{Map, IsWord, Lies, IsAt}
use Rattle.asm_text.specs.Addresses.{stack_top, floor_of}
use Rattle.mips_target.specs.Generated.{temporaries}
use Rattle.mips_programs.specs.Working.{Working}
use Rattle.mips_programs.specs.Frames.{Kept, Frame, IsSound, stack_of, frame_word, memory_of, Leaves}
use Rattle.mips_programs.specs.Matches.{IsBare, Handed, Alike}
use Rattle.mips_programs.proofs.Steps.{with_register, with_stack, index_set, index_other}
use Rattle.mips_programs.proofs.Words.{with_stack_word, InStack, length_with_stack_word, stack_word_off, stack_word_same, small_with_stack_word}

none_some : (o : Option ℕ) (a : ℕ) → o ≡ None → o ≡ Some a → ⊥
none_some o a n e = cc

nowhere : (map : Map) (objects : List Object) (o i a : ℕ) (b : Byte Word) → IsBare map → IsAt map objects o i a b → ⊥
nowhere map objects o i a b bare x = none_some (map.object x.content.made) x.start (bare x.content.made) x.lies

-- where no object lies in memory, nothing is asked of it
pub bare_lies : (map : Map) (made : ℕ) (objects : List Object) (memory : ℕ → Option ℕ) → IsBare map → Lies map made objects memory
bare_lies map made objects memory bare = record {
  only_made = λ o later. bare o;
  bytes = λ o i a b x. absurd (nowhere map objects o i a b bare x);
  four = λ o i a b x. absurd (nowhere map objects o i a b bare x);
  apart = λ o i p j a b c x y. absurd (nowhere map objects o i a b bare x);
}

pub set_leaves : (order : Order) (f : Frame) (registers bytes : List ℕ) (d v : ℕ) → d < 32 → v < 2 ^ 32 → Leaves order f registers bytes → Leaves order f (slice_set registers d v) bytes
set_leaves order f registers bytes d v low small l = record {
  words = λ r. ⊎_elim (λ e. subst (λ (x : ℕ). x < 2 ^ 32) (sym (ap (λ (q : ℕ). slice_index (slice_set registers d v) q) e ∙ index_set registers d v within)) small) (λ ne. subst (λ (x : ℕ). x < 2 ^ 32) (sym (index_other registers d r v ne)) (l.words r)) (cases_eq r d);
  count = length-set registers d v ∙ l.count;
  room = l.room;
  small = l.small;
  above = l.above;
}
  where
    within : d < length registers
    within = let c = l.count in omega (arith, c, low)

-- word k of the frame is in the stack, at a multiple of 4
pub frame_inside : (f : Frame) (bytes : List ℕ) (k : ℕ) → IsSound f → length bytes ≡ stack_of f → k ≤ f.layout.arguments + f.layout.slots → InStack bytes (f.low + 4 * k) × ((f.low + 4 * k) % 4 ≡ 0)
frame_inside f bytes k sound room low = (record { within = within; low = bottom; high = top }, four)
  where
    within : length bytes ≤ 16777216
    within = let a = sound.within in omega (arith, a, room)

    bottom : floor_of (length bytes) ≤ f.low + 4 * k
    bottom = let a = sound.above in omega (arith, a, room)

    top : f.low + 4 * k + 4 ≤ stack_top
    top = let a = sound.below in omega (arith, a, low)

    four : (f.low + 4 * k) % 4 ≡ 0
    four = let a = sound.four in omega (arith, a)

-- what a waiting call keeps is in the stack, and no word of the frame
pub kept_inside : (f : Frame) (bytes : List ℕ) (a : ℕ) → IsSound f → length bytes ≡ stack_of f → Kept f.outer a → InStack bytes a × (a % 4 ≡ 0)
kept_inside f bytes a sound room kept = (record { within = within; low = bottom; high = (sound.outer a kept).1 }, (sound.outer a kept).2)
  where
    within : length bytes ≤ 16777216
    within = let a = sound.within in omega (arith, a, room)

    bottom : floor_of (length bytes) ≤ a
    bottom = let x = sound.above in let y = (sound.outer a kept).0 in omega (arith, x, y, room)

-- a word of the frame is none that a waiting call keeps
not_kept : (f : Frame) (k a : ℕ) → IsSound f → k ≤ f.layout.arguments + f.layout.slots → Kept f.outer a → a ≡ f.low + 4 * k → ⊥
not_kept f k a sound low kept e = let x = (sound.outer a kept).0 in omega (arith, x, low, e)

-- a word of the frame is written
pub put_leaves : (order : Order) (f : Frame) (registers bytes : List ℕ) (k v : ℕ) → IsSound f → k ≤ f.layout.arguments + f.layout.slots → Leaves order f registers bytes → Leaves order f registers (with_stack_word order bytes (f.low + 4 * k) v)
put_leaves order f registers bytes k v sound low l =
    let here = frame_inside f bytes k sound l.room low in
    record {
      words = l.words;
      count = l.count;
      room = length_with_stack_word order bytes (f.low + 4 * k) v here.0 ∙ l.room;
      small = small_with_stack_word order bytes (f.low + 4 * k) v here.0 l.small;
      above = λ a kept. let there = kept_inside f bytes a sound l.room kept in stack_word_off order bytes (f.low + 4 * k) v a here.0 there.0 here.1 there.1 (not_kept f k a sound low kept) ∙ l.above a kept;
    }

pub frame_word_same : (order : Order) (f : Frame) (bytes : List ℕ) (k v : ℕ) → IsSound f → length bytes ≡ stack_of f → k ≤ f.layout.arguments + f.layout.slots → v < 2 ^ 32 → frame_word order f (with_stack_word order bytes (f.low + 4 * k) v) k ≡ v
frame_word_same order f bytes k v sound room low small = stack_word_same order bytes (f.low + 4 * k) v (frame_inside f bytes k sound room low).0 small

pub frame_word_off : (order : Order) (f : Frame) (bytes : List ℕ) (k j v : ℕ) → IsSound f → length bytes ≡ stack_of f → k ≤ f.layout.arguments + f.layout.slots → j ≤ f.layout.arguments + f.layout.slots → (j ≡ k → ⊥) → frame_word order f (with_stack_word order bytes (f.low + 4 * k) v) j ≡ frame_word order f bytes j
frame_word_off order f bytes k j v sound room low other ne =
    let here = frame_inside f bytes k sound room low in
    let there = frame_inside f bytes j sound room other in
    stack_word_off order bytes (f.low + 4 * k) v (f.low + 4 * j) here.0 there.0 here.1 there.1 (λ e. ne (omega (arith, e)))

pub handed_kept : (order : Order) (map : Map) (f : Frame) (bytes : List ℕ) (k v j : ℕ) (ws : List Word) → IsSound f → length bytes ≡ stack_of f → k ≤ f.layout.arguments + f.layout.slots → j + length ws ≤ k → Handed map (frame_word order f bytes) j ws → Handed map (frame_word order f (with_stack_word order bytes (f.low + 4 * k) v)) j ws
handed_kept order map f bytes k v j [] sound room low fits h = tt
handed_kept order map f bytes k v j (w ∷ ws) sound room low fits h =
    (subst (IsWord map w) (sym (frame_word_off order f bytes k j v sound room low (omega (arith, low, fits)) (λ e. less e fits))) h.0, handed_kept order map f bytes k v (suc j) ws sound room low (more fits) h.1)
  where
    less : j ≡ k → j + length (w ∷ ws) ≤ k → ⊥
    less e l = omega (arith, e, l)

    more : j + length (w ∷ ws) ≤ k → suc j + length ws ≤ k
    more l = omega (arith, l)

pub handed_more : (map : Map) (at : ℕ → ℕ) (j k : ℕ) (ws : List Word) (w : Word) → j + length ws ≡ k → IsWord map w (at k) → Handed map at j ws → Handed map at j (ws ++ w ∷ [])
handed_more map at j k [] w e is h = (subst (λ (x : ℕ). IsWord map w (at x)) (sym here) is, tt)
  where
    here : j ≡ k
    here = omega arith
handed_more map at j k (v ∷ ws) w e is h = (h.0, handed_more map at (suc j) k ws w (omega arith) is h.1)

-- the state and the machine go to another instruction
pub moved : (order : Order) (room : ℕ → ℕ) (map : Map) (f : Frame) (s : State) (h : Working) (pc : ℕ) → Alike order room map f s h → Alike order room map f s (with_stack h h.cpu.stack pc)
moved order room map f s h pc a = record {
  leaves = a.leaves;
  shows = record { printed = a.shows.printed; input = a.shows.input; lies = a.shows.lies };
  temps = a.temps;
  spilled = a.spilled;
  handed = a.handed;
  few = a.few;
  back = a.back;
  pointer = a.pointer;
  open_calls = a.open_calls;
  deep = a.deep;
}

same_true : (d e : ℕ) → (d == e) ≡ true → d ≡ e
same_true d e h = eqb-true d e h

-- a temporary is one of the machine's registers, and not the stack pointer
pub temporary_range : (d : ℕ) → IsTrue (among d temporaries) → (8 ≤ d) × (d ≤ 10)
temporary_range d h =
    ⊎_elim (λ e. bounds d 8 (omega arith) (omega arith) (same_true d 8 e))
    (λ h1. ⊎_elim (λ e. bounds d 9 (omega arith) (omega arith) (same_true d 9 e))
    (λ h2. ⊎_elim (λ e. bounds d 10 (omega arith) (omega arith) (same_true d 10 e)) (λ h3. absurd (both_ways false refl h3)) (or_cases (d == 10) false h2))
    (or_cases (d == 9) (among d (10 ∷ [])) h1))
    (or_cases (d == 8) (among d (9 ∷ 10 ∷ [])) h)
  where
    bounds : (d' e : ℕ) → 8 ≤ e → e ≤ 10 → d' ≡ e → (8 ≤ d') × (d' ≤ 10)
    bounds d' e l g same = (omega (arith, l, same), omega (arith, g, same))

-- a temporary gets a word
pub set_temporary : (order : Order) (room : ℕ → ℕ) (map : Map) (f : Frame) (s : State) (h : Working) (d v pc : ℕ) (w : Word) → IsTrue (among d temporaries) → v < 2 ^ 32 → IsWord map w v → Alike order room map f s h → Alike order room map f (record { registers = with_value s.registers d w; slots = s.slots; point = s.point }) (with_register h d v pc)
set_temporary order room map f s h d v pc w temporary small is a =
    let low = temporary_range d temporary in
    record {
      leaves = set_leaves order f h.cpu.registers h.cpu.stack d v (omega (arith, low.1)) small a.leaves;
      shows = record { printed = a.shows.printed; input = a.shows.input; lies = a.shows.lies };
      temps = λ r among_them.
          ⊎_elim
          (λ e. rw (eq-eqb r d e) (subst (λ (x : ℕ). IsWord map w x) (sym (ap (λ (q : ℕ). slice_index (slice_set h.cpu.registers d v) q) e ∙ index_set h.cpu.registers d v (within low.1))) is))
          (λ ne. rw (ne_eqb r d ne) (subst (λ (x : ℕ). IsWord map (s.registers r) x) (sym (index_other h.cpu.registers d r v ne)) (a.temps r among_them)))
          (cases_eq r d);
      spilled = a.spilled;
      handed = a.handed;
      few = a.few;
      back = a.back;
      pointer = index_other h.cpu.registers d 29 v (λ e. other low.1 e) ∙ a.pointer;
      open_calls = a.open_calls;
      deep = a.deep;
    }
  where
    within : d ≤ 10 → d < length h.cpu.registers
    within l = let c = a.leaves.count in omega (arith, c, l)

    other : d ≤ 10 → 29 ≡ d → ⊥
    other l e = omega (arith, l, e)

-- a register that the code doesn't name is written
pub set_other : (order : Order) (room : ℕ → ℕ) (map : Map) (f : Frame) (s : State) (h : Working) (d v pc : ℕ) → d < 32 → (d ≡ 29 → ⊥) → among d temporaries ≡ false → v < 2 ^ 32 → Alike order room map f s h → Alike order room map f s (with_register h d v pc)
set_other order room map f s h d v pc low ne other small a = record {
  leaves = set_leaves order f h.cpu.registers h.cpu.stack d v low small a.leaves;
  shows = record { printed = a.shows.printed; input = a.shows.input; lies = a.shows.lies };
  temps = λ r among_them. subst (λ (x : ℕ). IsWord map (s.registers r) x) (sym (index_other h.cpu.registers d r v (λ e. both_ways (among d temporaries) other (subst (λ (q : ℕ). among q temporaries ≡ true) e among_them)))) (a.temps r among_them);
  spilled = a.spilled;
  handed = a.handed;
  few = a.few;
  back = a.back;
  pointer = index_other h.cpu.registers d 29 v (λ e. ne (sym e)) ∙ a.pointer;
  open_calls = a.open_calls;
  deep = a.deep;
}

same_pos : (y z : ℕ) → pos y ≡ pos z → y ≡ z
same_pos y z e = cc

-- a spill slot gets a word
pub put_slot : (order : Order) (room : ℕ → ℕ) (map : Map) (f : Frame) (s : State) (h : Working) (z v pc : ℕ) (w : Word) → IsBare map → IsSound f → z < f.layout.slots → v < 2 ^ 32 → IsWord map w v → Alike order room map f s h → Alike order room map f (record { registers = s.registers; slots = with_slot s.slots (pos z) w; point = s.point }) (with_stack h (with_stack_word order h.cpu.stack (f.low + 4 * (f.layout.arguments + z)) v) pc)
put_slot order room map f s h z v pc w bare sound low small is a =
    let k = f.layout.arguments + z in
    let bytes = h.cpu.stack in
    let length_is = a.leaves.room in
    record {
      leaves = put_leaves order f h.cpu.registers bytes k v sound inside a.leaves;
      shows = record { printed = a.shows.printed; input = a.shows.input; lies = bare_lies map s.point.world.made s.point.world.objects (memory_of (with_stack_word order bytes (f.low + 4 * k) v)) bare };
      temps = a.temps;
      spilled = λ y below. slot_word y below (cases_eq y z);
      handed = handed_kept order map f bytes k v 0 s.point.world.arguments sound length_is inside few a.handed;
      few = a.few;
      back = frame_word_off order f bytes k (f.layout.arguments + f.layout.slots) v sound length_is inside (omega arith) (λ e. other e low) ∙ a.back;
      pointer = a.pointer;
      open_calls = a.open_calls;
      deep = a.deep;
    }
  where
    inside : f.layout.arguments + z ≤ f.layout.arguments + f.layout.slots
    inside = omega (arith, low)

    few : 0 + length s.point.world.arguments ≤ f.layout.arguments + z
    few = let x = a.few in omega (arith, x)

    other : f.layout.arguments + f.layout.slots ≡ f.layout.arguments + z → z < f.layout.slots → ⊥
    other e l = omega (arith, e, l)

    differ : (y : ℕ) → (y ≡ z → ⊥) → f.layout.arguments + y ≡ f.layout.arguments + z → ⊥
    differ y ne e = ne (omega (arith, e))

    within : (y : ℕ) → y < f.layout.slots → f.layout.arguments + y ≤ f.layout.arguments + f.layout.slots
    within y l = omega (arith, l)

    slot_word : (y : ℕ) → y < f.layout.slots → (y ≡ z) ⊎ (y ≡ z → ⊥) → IsWord map (with_slot s.slots (pos z) w (pos y)) (frame_word order f (with_stack_word order h.cpu.stack (f.low + 4 * (f.layout.arguments + z)) v) (f.layout.arguments + y))
    slot_word y below (inl e) = subst (λ (q : ℕ). IsWord map (with_slot s.slots (pos z) w (pos q)) (frame_word order f (with_stack_word order h.cpu.stack (f.low + 4 * (f.layout.arguments + z)) v) (f.layout.arguments + q))) (sym e)
        (subst (λ (x : Word). IsWord map x (frame_word order f (with_stack_word order h.cpu.stack (f.low + 4 * (f.layout.arguments + z)) v) (f.layout.arguments + z))) (sym (slot_at s.slots (pos z) w)) (subst (IsWord map w) (sym (frame_word_same order f h.cpu.stack (f.layout.arguments + z) v sound a.leaves.room inside small)) is))
    slot_word y below (inr ne) =
        subst (λ (x : Word). IsWord map x (frame_word order f (with_stack_word order h.cpu.stack (f.low + 4 * (f.layout.arguments + z)) v) (f.layout.arguments + y))) (sym (slot_off s.slots (pos z) w (pos y) (λ e. ne (same_pos y z e))))
        (subst (IsWord map (s.slots (pos y))) (sym (frame_word_off order f h.cpu.stack (f.layout.arguments + z) (f.layout.arguments + y) v sound a.leaves.room inside (within y below) (differ y ne))) (a.spilled y below))

-- the point with one more argument word
abbrev pub with_argument : Point → Word → Point
with_argument q w = at_world q (with_arguments q.world (q.world.arguments ++ w ∷ []))

-- an argument word is handed
pub put_argument : (order : Order) (room : ℕ → ℕ) (map : Map) (f : Frame) (s : State) (h : Working) (k v pc : ℕ) (w : Word) → IsBare map → IsSound f → k ≡ length s.point.world.arguments → k < f.layout.arguments → v < 2 ^ 32 → IsWord map w v → Alike order room map f s h → Alike order room map f (record { registers = s.registers; slots = s.slots; point = with_argument s.point w }) (with_stack h (with_stack_word order h.cpu.stack (f.low + 4 * k) v) pc)
put_argument order room map f s h k v pc w bare sound count low small is a =
    let bytes = h.cpu.stack in
    let length_is = a.leaves.room in
    let after = with_stack_word order bytes (f.low + 4 * k) v in
    record {
      leaves = put_leaves order f h.cpu.registers bytes k v sound inside a.leaves;
      shows = record { printed = a.shows.printed; input = a.shows.input; lies = bare_lies map s.point.world.made s.point.world.objects (memory_of after) bare };
      temps = a.temps;
      spilled = λ y below. subst (λ (x : ℕ). IsWord map (s.slots (pos y)) x) (sym (frame_word_off order f bytes k (f.layout.arguments + y) v sound length_is inside (within y below) (λ e. high y e low))) (a.spilled y below);
      handed = handed_more map (frame_word order f after) 0 k s.point.world.arguments w (omega arith) (subst (IsWord map w) (sym (frame_word_same order f bytes k v sound length_is inside small)) is) (handed_kept order map f bytes k v 0 s.point.world.arguments sound length_is inside (omega arith) a.handed);
      few = more;
      back = frame_word_off order f bytes k (f.layout.arguments + f.layout.slots) v sound length_is inside (omega arith) (λ e. high f.layout.slots e low) ∙ a.back;
      pointer = a.pointer;
      open_calls = a.open_calls;
      deep = a.deep;
    }
  where
    inside : k ≤ f.layout.arguments + f.layout.slots
    inside = omega (arith, low)

    within : (y : ℕ) → y < f.layout.slots → f.layout.arguments + y ≤ f.layout.arguments + f.layout.slots
    within y l = omega (arith, l)

    high : (y : ℕ) → f.layout.arguments + y ≡ k → k < f.layout.arguments → ⊥
    high y e l = omega (arith, e, l)

    more : length (s.point.world.arguments ++ w ∷ []) ≤ f.layout.arguments
    more = let e = length-append s.point.world.arguments (w ∷ []) in omega (arith, e, count, low)
