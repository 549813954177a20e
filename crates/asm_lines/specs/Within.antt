-- What the types of a statement's parts give: registers are below 32, numbers have their bits.
use Rattle.std.specs.Prelude.{◌≤◌, ◌<◌, ◌^◌, ℕ, Option, Some, None, All}
use Rattle.asm_lines.specs.declared.instruction.Address.{Address}
use Rattle.asm_lines.specs.declared.instruction.Target.{Target}
use Rattle.asm_lines.specs.declared.instruction.Target.TheVariants as target
use Rattle.asm_lines.specs.declared.instruction.Value.{Value}
use Rattle.asm_lines.specs.declared.instruction.Value.TheVariants as value
use Rattle.asm_lines.specs.declared.instruction.Instruction.{Instruction}
use Rattle.asm_lines.specs.declared.instruction.Instruction.TheVariants.{LoadAddress, LoadNumber, Move, Unary, Binary, Load, Store, Branch, BranchIf, Jump, Call}
use Rattle.asm_lines.specs.Statements.{MStatement, Words, Halves, Bytes, Space, Does}

abbrev pub IsValueWithin : Value → Type 0
IsValueWithin (value.Register r) = r < 32
IsValueWithin (value.Number n) = n ≤ 4294967295

abbrev pub IsTargetWithin : {N : Type 0} → Target N → Type 0
IsTargetWithin (target.Label name) = Unit {0}
IsTargetWithin (target.Register r) = r < 32

abbrev pub IsBaseWithin : Option ℕ → Type 0
IsBaseWithin None = Unit {0}
IsBaseWithin (Some r) = r < 32

abbrev pub IsAddressWithin : {N : Type 0} → Address N → Type 0
IsAddressWithin a = (a.offset ≤ 4294967295) × IsBaseWithin a.base

abbrev pub IsInstructionWithin : {N : Type 0} → Instruction N → Type 0
IsInstructionWithin (LoadAddress d a) = (d < 32) × IsAddressWithin a
IsInstructionWithin (LoadNumber d n) = (d < 32) × (n ≤ 4294967295)
IsInstructionWithin (Move d s) = (d < 32) × (s < 32)
IsInstructionWithin (Unary op d s) = (d < 32) × (s < 32)
IsInstructionWithin (Binary op d s t) = (d < 32) × (s < 32) × IsValueWithin t
IsInstructionWithin (Load op d a) = (d < 32) × IsAddressWithin a
IsInstructionWithin (Store op s a) = (s < 32) × IsAddressWithin a
IsInstructionWithin (Branch name) = Unit {0}
IsInstructionWithin (BranchIf c s t name) = (s < 32) × IsValueWithin t
IsInstructionWithin (Jump to) = IsTargetWithin to
IsInstructionWithin (Call to) = IsTargetWithin to

abbrev pub IsWithin : MStatement → Type 0
IsWithin (Words items) = All (λ i. i.1 ≤ 4294967295) items
IsWithin (Halves halves) = All (λ n. n < 2 ^ 16) halves
IsWithin (Bytes bytes) = All (λ n. n < 2 ^ 8) bytes
IsWithin (Space n) = n ≤ 4294967295
IsWithin (Does i) = IsInstructionWithin i
IsWithin s = Unit {0}
