-- The instruction that a decoded one is: what each form stands for in the machine's assembly. Each instruction has a
-- decoded form.
use Rattle.std.specs.Prelude.{ℕ, None, Some}
use Rattle.asm_lines.specs.declared.instruction.Address.{Address}
use Rattle.asm_lines.specs.declared.instruction.Instruction.{Instruction}
use Rattle.asm_lines.specs.declared.instruction.Instruction.TheVariants.{LoadAddress, LoadNumber, Move, Binary, Load, Store, Branch, BranchIf, Jump, Call}
use Rattle.asm_lines.specs.declared.instruction.Value.TheVariants.{Register, Number}
use Rattle.asm_lines.specs.declared.instruction.Target.TheVariants as target
use Rattle.asm_lines.specs.declared.operator.BinaryOp.TheVariants as binary
use Rattle.asm_lines.specs.declared.operator.Condition.TheVariants as condition
use Rattle.asm_lines.specs.declared.operator.LoadOp.TheVariants as load
use Rattle.asm_lines.specs.declared.operator.StoreOp.TheVariants as store
use Rattle.mips_machine.specs.declared.decoded.Decoded.{Decoded}
use Rattle.mips_machine.specs.declared.decoded.Decoded.TheVariants as decoded

-- an address without a register
abbrev pub offset_at : ℕ → ℕ → Address ℕ
offset_at name offset = record { name = Some name; offset = offset; base = None }

-- an address without a name
abbrev pub offset_from : ℕ → ℕ → Address ℕ
offset_from base offset = record { name = None; offset = offset; base = Some base }

abbrev pub instruction_of : Decoded → Instruction ℕ
instruction_of (decoded.LoadNumber d n) = LoadNumber d n
instruction_of (decoded.LoadAddress d name offset) = LoadAddress d (offset_at name offset)
instruction_of (decoded.Move d s) = Move d s
instruction_of (decoded.Add d s t) = Binary binary.Add d s (Register t)
instruction_of (decoded.AddNumber d s n) = Binary binary.Add d s (Number n)
instruction_of (decoded.Subtract d s t) = Binary binary.Subtract d s (Register t)
instruction_of (decoded.SubtractNumber d s n) = Binary binary.Subtract d s (Number n)
instruction_of (decoded.Multiply d s t) = Binary binary.Multiply d s (Register t)
instruction_of (decoded.And d s t) = Binary binary.And d s (Register t)
instruction_of (decoded.AndNumber d s n) = Binary binary.And d s (Number n)
instruction_of (decoded.Or d s t) = Binary binary.Or d s (Register t)
instruction_of (decoded.Xor d s t) = Binary binary.Xor d s (Register t)
instruction_of (decoded.ShiftLeftNumber d s n) = Binary binary.ShiftLeft d s (Number n)
instruction_of (decoded.ShiftRightArithmeticNumber d s n) = Binary binary.ShiftRightArithmetic d s (Number n)
instruction_of (decoded.LoadByte d base offset) = Load load.Byte d (offset_from base offset)
instruction_of (decoded.LoadByteUnsigned d base offset) = Load load.ByteUnsigned d (offset_from base offset)
instruction_of (decoded.LoadWord d base offset) = Load load.Word d (offset_from base offset)
instruction_of (decoded.StoreByte s base offset) = Store store.Byte s (offset_from base offset)
instruction_of (decoded.StoreWord s base offset) = Store store.Word s (offset_from base offset)
instruction_of (decoded.Branch address) = Branch address
instruction_of (decoded.BranchEqual s t address) = BranchIf condition.Equal s (Register t) address
instruction_of (decoded.BranchNotEqual s t address) = BranchIf condition.NotEqual s (Register t) address
instruction_of (decoded.BranchLess s t address) = BranchIf condition.Less s (Register t) address
instruction_of (decoded.BranchLessEqual s t address) = BranchIf condition.LessEqual s (Register t) address
instruction_of (decoded.BranchGreater s t address) = BranchIf condition.Greater s (Register t) address
instruction_of (decoded.BranchGreaterEqual s t address) = BranchIf condition.GreaterEqual s (Register t) address
instruction_of (decoded.Jump address) = Jump (target.Label address)
instruction_of (decoded.JumpRegister s) = Jump (target.Register s)
instruction_of (decoded.Call address) = Call (target.Label address)
instruction_of (decoded.Other i) = i
