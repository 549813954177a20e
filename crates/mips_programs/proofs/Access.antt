-- The instructions that reach the frame, and those that leave it.
use Rattle.std.proofs.Common.{◌≡◌, ◌⊎◌, inl, inr, ⊎_elim, ℕ, suc, ◌+◌, ◌*◌, ◌%◌, ◌^◌, ◌<◌, ◌≤◌, length, Option, Some, sym, ap, ◌∙◌, subst, arith}
use Rattle.std.specs.Prelude.{slice_set, slice_get}
use Rattle.lcc_base.specs.declared.order.Order.{Order}
use Rattle.asm_lines.specs.declared.instruction.Instruction.TheVariants.{Binary, Load, Store, Jump}
use Rattle.asm_lines.specs.declared.operator.LoadOp.TheVariants as load
use Rattle.asm_lines.specs.declared.operator.StoreOp.TheVariants as store
use Rattle.asm_lines.specs.declared.operator.BinaryOp.TheVariants as binary
use Rattle.asm_lines.specs.declared.instruction.Value.TheVariants as operand
use Rattle.asm_lines.specs.declared.instruction.Target.TheVariants as target
use Rattle.asm_text.specs.Program.{MProgram}
use Rattle.forests.specs.Words.{Word}
use Rattle.vcode.specs.Execution.{State}
use Rattle.vcode.specs.Maps.{Map}
use Rattle.asm_text.specs.Runs.{MStep}
use Rattle.asm_text.specs.Addresses.{code_start, stack_top, floor_of}
use Rattle.mips_machine.specs.Memory.{loaded, stored}
use Rattle.mips_machine.specs.State.{Cpu}
use Rattle.mips_machine.specs.StepTable.{goes, next, register, writes, accesses}
use Rattle.mips_target.specs.Frame.{frame_size}
use Rattle.mips_target.specs.FunctionCode.{in_frame, epilogue, unmarked}
use Rattle.unit_text.specs.Items.{StandsIn}
use Rattle.mips_programs.specs.Working.{Working, step_in, Gets}
use Rattle.mips_programs.specs.Frames.{Frame, IsSound, stack_of, frame_word}
use Rattle.mips_programs.specs.Matches.{Alike, IsResult, Returned}
use Rattle.mips_programs.proofs.Steps.{with_cpu, with_register, with_stack, index_set, index_other, both_gets, once, stepped, written, pointed, accessed, loaded_word, stored_word, further}
use Rattle.mips_programs.proofs.Words.{with_stack_word}
use Rattle.mips_programs.proofs.Keep.{set_leaves, frame_inside}

address : (low k x : ℕ) → x ≡ low → low + 4 * k + 4 ≤ stack_top → (0 + 4 * k + x) % 2 ^ 32 ≡ low + 4 * k
address low k x e h = omega (arith, e, h)

-- an access of a word of the frame, by what is done at an address
reached : (f : Frame) (cpu : Cpu) (k : ℕ) (done : ℕ → MStep Cpu) → IsSound f → length cpu.stack ≡ stack_of f → register cpu 29 ≡ f.low → k ≤ f.layout.arguments + f.layout.slots → accesses cpu 4 ((0 + 4 * k + register cpu 29) % 2 ^ 32) (done ((0 + 4 * k + register cpu 29) % 2 ^ 32)) ≡ done (f.low + 4 * k)
reached f cpu k done sound room pointer low =
    let here = frame_inside f cpu.stack k sound room low in
    ap (λ (a : ℕ). accesses cpu 4 a (done a)) (address f.low k (register cpu 29) pointer here.0.high)
    ∙ accessed cpu (f.low + 4 * k) (done (f.low + 4 * k)) here.0.low here.0.high here.1

-- a word of the frame is loaded into a register
pub load_word : (p : MProgram) (order : Order) (i : ℕ) (f : Frame) (h : Working) (d k : ℕ) → IsSound f → length h.cpu.stack ≡ stack_of f → register h.cpu 29 ≡ f.low → k ≤ f.layout.arguments + f.layout.slots → 0 < d → (d ≡ 29 → ⊥) → h.cpu.pc ≡ code_start + 4 * i → slice_get p.code i ≡ Some (Load load.Word d (in_frame (4 * k))) → Gets p order h (with_register h d (frame_word order f h.cpu.stack k) (h.cpu.pc + 4))
load_word p order i f h d k sound room pointer low pos ne at stands =
    let here = frame_inside f h.cpu.stack k sound room low in
    once p order h (record { registers = slice_set h.cpu.registers d (frame_word order f h.cpu.stack k); statics = h.cpu.statics; stack = h.cpu.stack; pc = h.cpu.pc + 4 })
    (stepped p order i h.cpu h.left (Load load.Word d (in_frame (4 * k))) at stands
    ∙ reached f h.cpu k (λ a. writes h.cpu d (loaded order h.cpu load.Word a)) sound room pointer low
    ∙ ap (writes h.cpu d) (loaded_word order h.cpu (f.low + 4 * k) here.0.low here.0.high)
    ∙ written h.cpu d (frame_word order f h.cpu.stack k) pos ne)

-- a register is stored in a word of the frame
pub store_word : (p : MProgram) (order : Order) (i : ℕ) (f : Frame) (h : Working) (s k : ℕ) → IsSound f → length h.cpu.stack ≡ stack_of f → register h.cpu 29 ≡ f.low → k ≤ f.layout.arguments + f.layout.slots → h.cpu.pc ≡ code_start + 4 * i → slice_get p.code i ≡ Some (Store store.Word s (in_frame (4 * k))) → Gets p order h (with_stack h (with_stack_word order h.cpu.stack (f.low + 4 * k) (register h.cpu s)) (h.cpu.pc + 4))
store_word p order i f h s k sound room pointer low at stands =
    let here = frame_inside f h.cpu.stack k sound room low in
    once p order h (record { registers = h.cpu.registers; statics = h.cpu.statics; stack = with_stack_word order h.cpu.stack (f.low + 4 * k) (register h.cpu s); pc = h.cpu.pc + 4 })
    (stepped p order i h.cpu h.left (Store store.Word s (in_frame (4 * k))) at stands
    ∙ reached f h.cpu k (λ a. goes (stored order (next h.cpu) store.Word a (register h.cpu s))) sound room pointer low
    ∙ ap goes (stored_word order (next h.cpu) (f.low + 4 * k) (register h.cpu s) here.0.low here.0.high))

-- the epilogue comes back to the caller
pub leave : (p : MProgram) (order : Order) (room : ℕ → ℕ) (map : Map) (f : Frame) (found : ℕ → Option ℕ) (i : ℕ) (s : State) (h : Working) (v : Option Word) → IsSound f → Alike order room map f s h → IsResult map v (register h.cpu 2) → h.cpu.pc ≡ code_start + 4 * i → StandsIn p.code found i (unmarked (epilogue f.layout)) → (h' : Working) × Gets p order h h' × Returned order map f v s.point.world h'
leave p order room map f found i s h v sound a result at stands =
    let word = frame_word order f h.cpu.stack (f.layout.arguments + f.layout.slots) in
    let size = frame_size f.layout in
    let registers1 = slice_set h.cpu.registers 31 word in
    let h1 = with_register h 31 word (h.cpu.pc + 4) in
    let sum = (register h1.cpu 29 + size) % 2 ^ 32 in
    let h2 = with_register h1 29 sum (h.cpu.pc + 4 + 4) in
    let cpu3 : Cpu = record { registers = h2.cpu.registers; statics = h2.cpu.statics; stack = h2.cpu.stack; pc = register h2.cpu 31 } in
    let total : sum ≡ f.low + size = ap (λ (x : ℕ). (x + size) % 2 ^ 32) (index_other h.cpu.registers 31 29 word (λ e. apart 29 31 (inl (omega arith)) e) ∙ a.pointer) ∙ fits in
    let leaves1 = set_leaves order f h.cpu.registers h.cpu.stack 31 word (omega arith) (subst (λ (x : ℕ). x < 2 ^ 32) (sym a.back) sound.back) a.leaves in
    let leaves2 = set_leaves order f registers1 h.cpu.stack 29 sum (omega arith) (subst (λ (x : ℕ). x < 2 ^ 32) (sym total) tiny) leaves1 in
    let gets1 = load_word p order i f h 31 (f.layout.arguments + f.layout.slots) sound a.leaves.room a.pointer (omega arith) (omega arith) (λ e. apart 31 29 (inr (omega arith)) e) at stands.0 in
    let step2 : step_in p order h1.cpu h1.left ≡ goes h2.cpu = stepped p order (suc i) h1.cpu h1.left (Binary binary.Add 29 29 (operand.Number size)) (further i h.cpu.pc at) stands.1.0 ∙ pointed h1.cpu sum (subst (λ (x : ℕ). floor_of (length h.cpu.stack) ≤ x) (sym total) (bottom a.leaves.room)) (subst (λ (x : ℕ). x ≤ stack_top) (sym total) sound.below) in
    let step3 : step_in p order h2.cpu h2.left ≡ goes cpu3 = stepped p order (suc (suc i)) h2.cpu h2.left (Jump (target.Register 31)) (further (suc i) (h.cpu.pc + 4) (further i h.cpu.pc at)) stands.1.1.0 in (
      with_cpu h cpu3,
      both_gets p order h h2 (with_cpu h cpu3) (both_gets p order h h1 h2 gets1 (once p order h1 h2.cpu step2)) (once p order h2 cpu3 step3),
      record {
        at = index_other registers1 29 31 sum (λ e. apart 31 29 (inr (omega arith)) e) ∙ index_set h.cpu.registers 31 word (subst (λ (n : ℕ). 31 < n) (sym a.leaves.count) (omega arith)) ∙ a.back;
        leaves = leaves2;
        shows = record { printed = a.shows.printed; input = a.shows.input; lies = a.shows.lies };
        pointer = index_set registers1 29 sum (subst (λ (n : ℕ). 29 < n) (sym leaves1.count) (omega arith)) ∙ total;
        result = subst (IsResult map v) (sym (index_other registers1 29 2 sum (λ e. apart 2 29 (inl (omega arith)) e) ∙ index_other h.cpu.registers 31 2 word (λ e. apart 2 31 (inl (omega arith)) e))) result;
        open_calls = a.open_calls;
      },
    )
  where
    apart : (x y : ℕ) → (x < y) ⊎ (y < x) → x ≡ y → ⊥
    apart x y o e = ⊎_elim (λ l. omega (arith, l, e)) (λ g. omega (arith, g, e)) o

    fits : (f.low + frame_size f.layout) % 2 ^ 32 ≡ f.low + frame_size f.layout
    fits = let x = sound.below in omega (arith, x)

    tiny : f.low + frame_size f.layout < 2 ^ 32
    tiny = let x = sound.below in omega (arith, x)

    bottom : length h.cpu.stack ≡ stack_of f → floor_of (length h.cpu.stack) ≤ f.low + frame_size f.layout
    bottom room_is = let x = sound.above in omega (arith, x, room_is)
