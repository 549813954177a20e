-- Steps at an address, where an instruction stands there and where none does.
use Rattle.std.proofs.Common.{◌≡◌, ℕ, ◌-◌, ◌/◌, ◌%◌, Bool, true, false, List, [], ◌∷◌, drop, Option, Some, None, refl, sym, ap, ◌∙◌, subst, arith, rules, add-zero}
use Rattle.std.specs.Prelude.{◌==◌, ◌&&◌, nat_le, if◌then◌else◌, slice_get}
use Rattle.std.proofs.lemmas.Bool.Decides.{nat_tests}
use Rattle.lcc_base.specs.declared.order.Order.{Order}
use Rattle.asm_lines.specs.declared.instruction.Instruction.{Instruction}
use Rattle.asm_text.specs.Addresses.{code_start, putchar_at, getchar_at, exit_at, end_at}
use Rattle.asm_text.specs.declared.running.Input.{Input}
use Rattle.asm_text.specs.declared.running.Step.{Step}
use Rattle.asm_text.specs.declared.running.Step.TheVariants.{Went, Ended, Stuck, StackOut, Failed}
use Rattle.asm_text.specs.Runs.{MStep}
use Rattle.mips_machine.specs.State.{Cpu, MMachine}
use Rattle.mips_machine.specs.StepTable.{act, act_at, fetched, step, ends, prints, takes}
use Rattle.mips_machine.specs.Did.{Did}
use Rattle.mips_machine.specs.Stepped.{IsStepped, scene, step_of, printed_by}
use Rattle.mips_machine.specs.Turned.{IsTurned}
use Rattle.mips_machine.specs.declared.turn.Turn.TheVariants.{Quiet}

-- the built-in functions
pub step-prints : (code : List (Instruction ℕ)) (order : Order) (cpu : Cpu) (left : List ℕ) → cpu.pc ≡ putchar_at → step code order cpu left ≡ prints cpu
step-prints code order cpu left e = rw e refl

pub step-takes : (code : List (Instruction ℕ)) (order : Order) (cpu : Cpu) (left : List ℕ) → cpu.pc ≡ getchar_at → step code order cpu left ≡ takes cpu left
step-takes code order cpu left e = rw e refl

-- what stands in the code stands from its start on
from-start : (b c : Bool) (o : Option (Instruction ℕ)) (i : Instruction ℕ) → (if b && c then o else None) ≡ Some i → b ≡ true
from-start true c o i e = refl
from-start false c o i e = absurd (cc)

-- the choice of a step at an address, which none of the other addresses is
chosen : (pc : ℕ) (s a b c d : MStep Cpu) → nat_le code_start pc ≡ true → (if pc == end_at then a else (if pc == putchar_at then b else (if pc == getchar_at then c else (if pc == exit_at then d else s)))) ≡ s
chosen pc s a b c d e = grind (arith, nat_tests)

pub step-acts : (code : List (Instruction ℕ)) (order : Order) (cpu : Cpu) (left : List ℕ) (i : Instruction ℕ) → fetched code cpu.pc ≡ Some i → step code order cpu left ≡ act order cpu i
step-acts code order cpu left i e =
    chosen cpu.pc (act_at order cpu (fetched code cpu.pc)) (ends cpu 2) (prints cpu) (takes cpu left) (ends cpu 4) (from-start (nat_le code_start cpu.pc) (cpu.pc % 4 == 0) (slice_get code ((cpu.pc - code_start) / 4)) i e)
    ∙ ap (act_at order cpu) e

-- what the processor did, the machine did
did : (s : MStep Cpu) (m : MMachine) (input : Input) (taken : Option (List ℕ)) (faults : ℕ) (new : Cpu) (result : Step) → Did s m.cpu new result → IsStepped s (scene m input taken faults) (scene (record m { cpu = new }) input taken faults) result
did s m input taken faults new Went h = record {
  cpu = new;
  printed = [];
  read = 0;
  goes = h;
  machine = refl;
  input = sym (ap (λ (place : ℕ). record input { place = place }) (add-zero input.place));
  output = search rules;
  unbroken = refl;
}
did s m input taken faults new (Ended status) h = (h.0, ap (λ (cpu : Cpu). scene (record m { cpu = cpu }) input taken faults) h.1)
did s m input taken faults new (Stuck cause pc) h = (h.0, ap (λ (cpu : Cpu). scene (record m { cpu = cpu }) input taken faults) h.1)
did s m input taken faults new (StackOut pc) h = (h.0, ap (λ (cpu : Cpu). scene (record m { cpu = cpu }) input taken faults) h.1)
did s m input taken faults new Failed h = absurd h

pub stepped-acts : (m : MMachine) (input : Input) (taken : Option (List ℕ)) (faults : ℕ) (new : Cpu) (i : Instruction ℕ) (result : Step) → fetched m.code m.cpu.pc ≡ Some i → Did (act m.order m.cpu i) m.cpu new result → IsStepped (step_of m input) (scene m input taken faults) (scene (record m { cpu = new }) input taken faults) result
stepped-acts m input taken faults new i result e h =
    did (step_of m input) m input taken faults new result (subst (λ (s : MStep Cpu). Did s m.cpu new result) (sym (step-acts m.code m.order m.cpu (drop input.place input.bytes) i e)) h)

-- ---- steps that print nothing

pub quiet-did : (s : MStep Cpu) (old new : Cpu) (result : Step) → Did s old new result → printed_by s ≡ []
quiet-did s old new Went h = ap printed_by h
quiet-did s old new (Ended status) h = ap printed_by h.0
quiet-did s old new (Stuck cause pc) h = ap printed_by h.0
quiet-did s old new (StackOut pc) h = ap printed_by h.0
quiet-did s old new Failed h = absurd h

pub quiet-takes : (cpu : Cpu) (left : List ℕ) → printed_by (takes cpu left) ≡ []
quiet-takes cpu [] = refl
quiet-takes cpu (byte ∷ rest) = refl

-- what the processor did, the machine's turn did
pub turned-acts : (m : MMachine) (input : Input) (new : Cpu) (i : Instruction ℕ) (result : Step) → fetched m.code m.cpu.pc ≡ Some i → Did (act m.order m.cpu i) m.cpu new result → IsTurned m input (record m { cpu = new }) input (Quiet result)
turned-acts m input new i result e h =
    (ap printed_by (step-acts m.code m.order m.cpu (drop input.place input.bytes) i e) ∙ quiet-did (act m.order m.cpu i) m.cpu new result h, λ taken faults. stepped-acts m input taken faults new i result e h)
