-- A function is entered, or the stack is too small for its frame.
use Rattle.std.proofs.Common.{◌≡◌, ◌⊎◌, inl, inr, ⊎_elim, ℕ, zero, suc, ◌+◌, ◌-◌, ◌*◌, ◌%◌, ◌^◌, ◌<◌, ◌≤◌, Option, List, [], ◌∷◌, ◌++◌, length, refl, sym, ap, ◌∙◌, subst, arith}
use Rattle.std.specs.Prelude.{slice_set}
use Rattle.std.proofs.Common.{append-nil}
use Rattle.std.proofs.lemmas.Bool.{cases_lt}
use Rattle.std.specs.Int.Bits.{and_zero_r}
use Rattle.lcc_base.specs.declared.order.Order.{Order}
use Rattle.asm_lines.specs.declared.instruction.Instruction.TheVariants.{Binary}
use Rattle.asm_lines.specs.declared.operator.BinaryOp.TheVariants as binary
use Rattle.asm_lines.specs.declared.instruction.Value.TheVariants as operand
use Rattle.asm_text.specs.Program.{MProgram}
use Rattle.forests.specs.Words.{unknown}
use Rattle.lcc_base.specs.Traces.{Event, Opened, output_of, opened_by, open_behind, room_of, depth_of}
use Rattle.lcc_base.specs.Prefixes.{output_append}
use Rattle.forests.specs.Worlds.{World, Point, at_world}
use Rattle.op_forest.specs.Callees.{Body}
use Rattle.forests.specs.Functions.{entered}
use Rattle.vcode.specs.Execution.{State}
use Rattle.vcode.specs.Maps.{Map}
use Rattle.asm_text.specs.Addresses.{code_start, stack_top, floor_of}
use Rattle.mips_machine.specs.StepTable.{register, writes, goes}
use Rattle.mips_target.specs.declared.layout.Layout.{Layout}
use Rattle.mips_target.specs.Frame.{frame_size}
use Rattle.mips_target.specs.FunctionCode.{prologue, unmarked}
use Rattle.unit_text.specs.Items.{StandsIn}
use Rattle.mips_programs.specs.Working.{Working, step_in, Gets}
use Rattle.mips_programs.specs.Frames.{Waiting, Frame, IsSound, memory_of, Leaves}
use Rattle.mips_programs.specs.Matches.{IsBare, Alike, Entry, Spent}
use Rattle.mips_programs.proofs.Steps.{with_cpu, with_register, with_stack, index_set, index_other, both_gets, once, once_out, stepped, pointed, out_of_stack, further}
use Rattle.mips_programs.proofs.Words.{with_stack_word, small_index}
use Rattle.mips_programs.proofs.Keep.{bare_lies, set_leaves, put_leaves, frame_word_same}
use Rattle.mips_programs.proofs.Access.{store_word}

-- the open calls and the depth behind more events
pub open_append : (calls : List ℕ) (a b : List Event) → open_behind calls (a ++ b) ≡ open_behind (open_behind calls a) b
open_append calls [] b = refl
open_append calls (e ∷ es) b = open_append (opened_by calls e) es b

-- the open calls at the end are no deeper than the deepest
pub room_depth : (room : ℕ → ℕ) (calls : List ℕ) (es : List Event) → room_of room (open_behind calls es) ≤ depth_of room calls es
room_depth room calls [] = omega arith
room_depth room calls (e ∷ es) = let h = room_depth room (opened_by calls e) es in omega (arith, h)

-- the frame of a function that is entered
abbrev pub frame_of : Layout → List Waiting → ℕ → World → Working → Frame
frame_of l outer name w h = record {
  low = register h.cpu 29 - frame_size l;
  layout = l;
  back = register h.cpu 31;
  bytes = h.cpu.stack;
  outer = outer;
  open_calls = name ∷ open_behind [] w.trace;
}

-- the machine at the first instruction of the body
abbrev pub entered_machine : Order → Layout → Working → Working
entered_machine order l h = with_cpu h (record {
  registers = slice_set h.cpu.registers 29 (register h.cpu 29 - frame_size l);
  statics = h.cpu.statics;
  stack = with_stack_word order h.cpu.stack (register h.cpu 29 - frame_size l + 4 * (l.arguments + l.slots)) (register h.cpu 31);
  pc = h.cpu.pc + 4 + 4;
})

-- the state of the code there, of which nothing is known
abbrev pub initial : Order → ℕ → Body → Point → State
initial order name fn q = record { registers = λ r. unknown; slots = λ z. unknown; point = at_world q (entered order name fn q.world) }

module _ (p : MProgram) (order : Order) (room : ℕ → ℕ) (map : Map) (outer : List Waiting) (name i : ℕ) (found : ℕ → Option ℕ) (l : Layout) (forest_order : Order) (fn : Body) (q : Point) (h : Working) (bare : IsBare map) (entry : Entry order room map outer name q.world h) (at : h.cpu.pc ≡ code_start + 4 * i) (stands : StandsIn p.code found i (unmarked (prologue l))) (small : frame_size l ≤ 2147483648) (roomy : frame_size l ≤ room name) where
  -- what the first instruction writes, where the frame fits
  difference : floor_of (length h.cpu.stack) + frame_size l ≤ register h.cpu 29 → (register h.cpu 29 + 2 ^ 32 - frame_size l) % 2 ^ 32 ≡ register h.cpu 29 - frame_size l
  difference fits = let a = entry.high in omega (arith, a, fits)

  pub sound_frame : floor_of (length h.cpu.stack) + frame_size l ≤ register h.cpu 29 → IsSound (frame_of l outer name q.world h)
  sound_frame fits = record {
    within = entry.within;
    above = omega (arith, fits);
    below = let a = entry.high in omega (arith, a, fits);
    four = let a = entry.four in omega (arith, a, fits);
    back = entry.words 31;
    outer = λ a k. let y = entry.kept a k in (let x = y.0 in omega (arith, x, fits), y.1, y.2);
  }

  -- where the frame fits
  pub enters : floor_of (length h.cpu.stack) + frame_size l ≤ register h.cpu 29 → Gets p order h (entered_machine order l h)
  enters fits =
      let pointer = register h.cpu 29 - frame_size l in
      let h1 = with_register h 29 pointer (h.cpu.pc + 4) in
      let step1 : step_in p order h.cpu h.left ≡ goes h1.cpu = stepped p order i h.cpu h.left (Binary binary.Subtract 29 29 (operand.Number (frame_size l))) at stands.0 ∙ ap (λ (x : ℕ). writes h.cpu 29 x) (difference fits) ∙ pointed h.cpu pointer (omega (arith, fits)) (let a = entry.high in omega (arith, a)) in
      let points : register h1.cpu 29 ≡ pointer = index_set h.cpu.registers 29 pointer (subst (λ (n : ℕ). 29 < n) (sym entry.count) (omega arith)) in
      let returns : register h1.cpu 31 ≡ register h.cpu 31 = index_other h.cpu.registers 29 31 pointer (λ e. apart 31 29 (omega arith) e) in
      let gets2 = store_word p order (suc i) (frame_of l outer name q.world h) h1 31 (l.arguments + l.slots) (sound_frame fits) refl points (omega arith) (further i h.cpu.pc at) stands.1.0 in
      both_gets p order h h1 (entered_machine order l h) (once p order h h1.cpu step1)
      (subst (λ (x : ℕ). Gets p order h1 (with_stack h1 (with_stack_word order h.cpu.stack (pointer + 4 * (l.arguments + l.slots)) x) (h.cpu.pc + 4 + 4))) returns gets2)
    where
      apart : (a b : ℕ) → b < a → a ≡ b → ⊥
      apart a b g e = omega (arith, g, e)

  pub enters_alike : floor_of (length h.cpu.stack) + frame_size l ≤ register h.cpu 29 → Alike order room map (frame_of l outer name q.world h) (initial forest_order name fn q) (entered_machine order l h)
  enters_alike fits =
      let w = q.world in
      let f = frame_of l outer name w h in
      let pointer = register h.cpu 29 - frame_size l in
      let k = l.arguments + l.slots in
      let sound = sound_frame fits in
      let after = with_stack_word order h.cpu.stack (pointer + 4 * k) (register h.cpu 31) in
      let base : Leaves order f h.cpu.registers h.cpu.stack = record {
        words = entry.words;
        count = entry.count;
        room = refl;
        small = small_index h.cpu.stack entry.small;
        above = λ a kept. refl;
      } in
      let leaves1 = set_leaves order f h.cpu.registers h.cpu.stack 29 pointer (omega arith) (let a = entry.high in omega (arith, a)) base in
      record {
        leaves = put_leaves order f (slice_set h.cpu.registers 29 pointer) h.cpu.stack k (register h.cpu 31) sound (omega arith) leaves1;
        shows = record {
          printed = entry.shows.printed ∙ sym (output_append w.trace (Opened name ∷ []) ∙ append-nil (output_of w.trace));
          input = entry.shows.input;
          lies = bare_lies map (entered forest_order name fn w).made (entered forest_order name fn w).objects (memory_of after) bare;
        };
        temps = λ r among_them. and_zero_r _;
        spilled = λ z low. and_zero_r _;
        handed = tt;
        few = omega arith;
        back = frame_word_same order f h.cpu.stack k (register h.cpu 31) sound refl (omega arith) (entry.words 31);
        pointer = index_set h.cpu.registers 29 pointer (subst (λ (n : ℕ). 29 < n) (sym entry.count) (omega arith));
        open_calls = open_append [] w.trace (Opened name ∷ []);
        deep = let a = entry.deep in omega (arith, a, fits, roomy);
      }

  -- where it doesn't
  pub spends : register h.cpu 29 < floor_of (length h.cpu.stack) + frame_size l → Spent p order room (length h.cpu.stack) h (entered forest_order name fn q.world)
  spends short = record {
    steps = suc zero;
    pc = h.cpu.pc;
    printed = h.printed;
    out = once_out p order h h.cpu.pc (stepped p order i h.cpu h.left (Binary binary.Subtract 29 29 (operand.Number (frame_size l))) at stands.0 ∙ out_of_stack h.cpu ((register h.cpu 29 + 2 ^ 32 - frame_size l) % 2 ^ 32) off);
    part = (output_of (Opened name ∷ []), ap (λ (o : List ℕ). o ++ []) entry.shows.printed ∙ sym (output_append q.world.trace (Opened name ∷ [])));
    small = deep;
  }
    where
      high : floor_of (length h.cpu.stack) ≤ (register h.cpu 29 + 2 ^ 32 - frame_size l) % 2 ^ 32 → stack_top < (register h.cpu 29 + 2 ^ 32 - frame_size l) % 2 ^ 32
      high e = let a = entry.high in let b = entry.within in omega (arith, a, b, e, short, small)

      off : ((register h.cpu 29 + 2 ^ 32 - frame_size l) % 2 ^ 32 < floor_of (length h.cpu.stack)) ⊎ (stack_top < (register h.cpu 29 + 2 ^ 32 - frame_size l) % 2 ^ 32)
      off = ⊎_elim (λ e. inl e) (λ e. inr (high e)) (cases_lt ((register h.cpu 29 + 2 ^ 32 - frame_size l) % 2 ^ 32) (floor_of (length h.cpu.stack)))

      calls : room_of room (open_behind [] (q.world.trace ++ Opened name ∷ [])) ≡ room name + room_of room (open_behind [] q.world.trace)
      calls = ap (room_of room) (open_append [] q.world.trace (Opened name ∷ []))

      deep : length h.cpu.stack < depth_of room [] (q.world.trace ++ Opened name ∷ []) + 128
      deep =
          let a = entry.deep in
          let b = entry.within in
          let c = room_depth room [] (q.world.trace ++ Opened name ∷ []) in
          omega (arith, a, b, c, calls, short, roomy)
