-- The run of a program on the machine, from the start.
use Rattle.std.specs.Prelude.{ℕ, ◌+◌, ◌*◌, List, [], replicate, slice_set}
use Rattle.lcc_base.specs.declared.order.Order.{Order}
use Rattle.asm_text.specs.Addresses.{code_start, end_at}
use Rattle.asm_text.specs.Linked.{linked_code, linked_data}
use Rattle.asm_text.specs.Program.{MProgram}
use Rattle.asm_text.specs.Runs.{Run, Going, run_from}
use Rattle.mips_machine.specs.State.{Cpu}
use Rattle.mips_machine.specs.StepTable.{step}

-- The registers at the start: $29 and $5 point below the top of the stack, $31 to the end; all others are zero.
abbrev pub first_registers : List ℕ
first_registers = slice_set (slice_set (slice_set (replicate 32 0) 29 0x7ffe_ffe0) 31 end_at) 5 0x7ffe_fff8

-- the state at the start, at the label main, with these bytes as data
abbrev pub first_cpu : List ℕ → ℕ → ℕ → Cpu
first_cpu statics stack main = record { registers = first_registers; statics = statics; stack = replicate stack 0; pc = code_start + 4 * main }

-- the run of a program whose label main is at this place, after n steps
abbrev pub mrun : MProgram → Order → ℕ → ℕ → List ℕ → ℕ → Run Cpu
mrun p order stack main input n =
    run_from (step (linked_code p) order) (record { printed = []; place = Going (first_cpu (linked_data order p) stack main) input }) n
