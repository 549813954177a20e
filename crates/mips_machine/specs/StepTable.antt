-- The step table of MIPS R3000, a row an instruction, in the profile without delay slots: each instruction is one
-- step, and so is each built-in function.
-- Source: G. Kane and J. Heinrich, MIPS RISC Architecture, 1992, with the macros of its assemblers; the built-in functions
-- are this machine's own.
use Rattle.std.specs.Prelude.{ℕ, ◌+◌, ◌-◌, ◌/◌, ◌%◌, ◌^◌, ◌==◌, ◌&&◌, ◌||◌, nat_le, nat_lt, List, [], ◌∷◌, Bool, Option, Some, None, if◌then◌else◌, slice_get, slice_index, slice_set, length}
use Rattle.std.specs.Int.{cast_signed, w32}
use Rattle.lcc_base.specs.declared.order.Order.{Order}
use Rattle.asm_lines.specs.declared.instruction.Instruction.{Instruction}
use Rattle.asm_lines.specs.declared.instruction.Instruction.TheVariants.{LoadAddress, LoadNumber, Move, Unary, Binary, Load, Store, Branch, BranchIf, Jump, Call}
use Rattle.asm_lines.specs.declared.instruction.Value.{Value}
use Rattle.asm_lines.specs.declared.instruction.Value.TheVariants as value
use Rattle.asm_lines.specs.declared.instruction.Target.{Target}
use Rattle.asm_lines.specs.declared.instruction.Target.TheVariants as target
use Rattle.asm_lines.specs.declared.instruction.Address.{Address}
use Rattle.asm_lines.specs.declared.operator.BinaryOp.{BinaryOp}
use Rattle.asm_text.specs.declared.running.StuckCause.{StuckCause}
use Rattle.asm_text.specs.declared.running.StuckCause.TheVariants.{BadJump, Outside, Misaligned}
use Rattle.asm_text.specs.Addresses.{code_start, stack_top, floor_of, putchar_at, getchar_at, exit_at, end_at}
use Rattle.asm_text.specs.Linked.{or_zero}
use Rattle.asm_text.specs.Runs.{MStep, Goes, Ends, IsStuck, IsOut}
use Rattle.mips_machine.specs.Memory.{is_in_stack, is_in_data, load_size, loaded, store_size, stored}
use Rattle.mips_machine.specs.Operations.{changed, combined, cause_of, holds}
use Rattle.mips_machine.specs.State.{Cpu}

abbrev pub register : Cpu → ℕ → ℕ
register cpu r = slice_index cpu.registers r

abbrev pub goes : Cpu → MStep Cpu
goes cpu = Goes cpu [] 0

abbrev pub next : Cpu → Cpu
next cpu = record cpu { pc = cpu.pc + 4 }

-- ---- registers

-- whether a stack pointer is below the floor or above the top
abbrev pub is_off_stack : Cpu → ℕ → Bool
is_off_stack cpu pointer = nat_lt pointer (floor_of (length cpu.stack)) || nat_lt stack_top pointer

-- A register is written and the next instruction comes. $0 stays 0, and $29 points into the stack or to its top.
abbrev pub writes : Cpu → ℕ → ℕ → MStep Cpu
writes cpu d n =
    if d == 0 then goes (next cpu)
    else (if (d == 29) && is_off_stack cpu n then IsOut cpu.pc else goes (record (next cpu) { registers = slice_set cpu.registers d n }))

abbrev pub value_of : Cpu → Value → ℕ
value_of cpu (value.Register r) = register cpu r
value_of cpu (value.Number n) = n

-- a register gets a result, if there is one
abbrev pub writes_unless : Option StuckCause → Cpu → ℕ → ℕ → MStep Cpu
writes_unless None cpu d n = writes cpu d n
writes_unless (Some cause) cpu d n = IsStuck cause cpu.pc

abbrev pub operates : Cpu → BinaryOp → ℕ → ℕ → ℕ → MStep Cpu
operates cpu op d x y = writes_unless (cause_of op x y) cpu d (combined op x y)

-- ---- memory

abbrev pub base_of : Cpu → Option ℕ → ℕ
base_of cpu None = 0
base_of cpu (Some r) = register cpu r

abbrev pub address_in : Cpu → Address ℕ → ℕ
address_in cpu a = (or_zero a.name + a.offset + base_of cpu a.base) % 2 ^ 32

-- what is done with so many bytes at an address, if they are all of the data or of the stack, and it is a multiple of
-- their number
abbrev pub accesses : Cpu → ℕ → ℕ → MStep Cpu → MStep Cpu
accesses cpu size address done =
    if is_in_stack cpu size address || is_in_data cpu size address then (if address % size == 0 then done else IsStuck Misaligned cpu.pc)
    else IsStuck Outside cpu.pc

-- ---- jumps

-- goes on at the address
abbrev pub jumps : Cpu → ℕ → MStep Cpu
jumps cpu address = goes (record cpu { pc = address })

-- the same, and $31 gets the address of the next instruction
abbrev pub calls : Cpu → ℕ → MStep Cpu
calls cpu address = goes (record cpu { registers = slice_set cpu.registers 31 (cpu.pc + 4); pc = address })

abbrev pub target_of : Cpu → Target ℕ → ℕ
target_of cpu (target.Label address) = address
target_of cpu (target.Register r) = register cpu r

-- ---- instructions

abbrev pub act : Order → Cpu → Instruction ℕ → MStep Cpu
act order cpu (LoadAddress d a) = writes cpu d (address_in cpu a)
act order cpu (LoadNumber d n) = writes cpu d n
act order cpu (Move d s) = writes cpu d (register cpu s)
act order cpu (Unary op d s) = writes cpu d (changed op (register cpu s))
act order cpu (Binary op d s t) = operates cpu op d (register cpu s) (value_of cpu t)
act order cpu (Load op d a) = accesses cpu (load_size op) (address_in cpu a) (writes cpu d (loaded order cpu op (address_in cpu a)))
act order cpu (Store op s a) = accesses cpu (store_size op) (address_in cpu a) (goes (stored order (next cpu) op (address_in cpu a) (register cpu s)))
act order cpu (Branch address) = jumps cpu address
act order cpu (BranchIf c s t address) = jumps cpu (if holds c (register cpu s) (value_of cpu t) then address else cpu.pc + 4)
act order cpu (Jump to) = jumps cpu (target_of cpu to)
act order cpu (Call to) = calls cpu (target_of cpu to)

abbrev pub act_at : Order → Cpu → Option (Instruction ℕ) → MStep Cpu
act_at order cpu None = IsStuck BadJump cpu.pc
act_at order cpu (Some i) = act order cpu i

-- the instruction at an address, which is a multiple of 4 in the code
abbrev pub fetched : List (Instruction ℕ) → ℕ → Option (Instruction ℕ)
fetched code pc = if nat_le code_start pc && pc % 4 == 0 then slice_get code ((pc - code_start) / 4) else None

-- ---- built-in functions

-- the registers that a built-in function leaves zero
abbrev pub lost : List ℕ
lost = 1 ∷ 3 ∷ 4 ∷ 5 ∷ 6 ∷ 7 ∷ 8 ∷ 9 ∷ 10 ∷ 11 ∷ 12 ∷ 13 ∷ 14 ∷ 15 ∷ 24 ∷ 25 ∷ []

abbrev pub without : List ℕ → List ℕ → List ℕ
without [] registers = registers
without (r ∷ rs) registers = without rs (slice_set registers r 0)

-- a built-in function returns a word to the address in $31
abbrev pub returned : Cpu → ℕ → Cpu
returned cpu n = record cpu { registers = slice_set (without lost cpu.registers) 2 n; pc = register cpu 31 }

abbrev pub prints : Cpu → MStep Cpu
prints cpu = let byte = register cpu 4 % 256 in Goes (returned cpu byte) (byte ∷ []) 0

abbrev pub takes : Cpu → List ℕ → MStep Cpu
takes cpu [] = Goes (returned cpu (2 ^ 32 - 1)) [] 0
takes cpu (byte ∷ rest) = Goes (returned cpu byte) [] 1

abbrev pub ends : Cpu → ℕ → MStep Cpu
ends cpu r = Ends (cast_signed w32 (register cpu r))

-- ---- steps

-- the step at the address of the next instruction, with this input left
abbrev pub step : List (Instruction ℕ) → Order → Cpu → List ℕ → MStep Cpu
step code order cpu left =
    if cpu.pc == end_at then ends cpu 2
    else (if cpu.pc == putchar_at then prints cpu
    else (if cpu.pc == getchar_at then takes cpu left
    else (if cpu.pc == exit_at then ends cpu 4
    else act_at order cpu (fetched code cpu.pc))))
