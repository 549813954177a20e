-- The words of instructions and directives: a line for each row of the table of steps and each directive.
-- Source: G. Kane and J. Heinrich, MIPS RISC Architecture, 1992, with the macros and directives of its assemblers.
use Rattle.std.specs.Prelude.{ℕ, List, codes}
use Rattle.asm_lines.specs.declared.mnemonic.Mnemonic.{Mnemonic}
use Rattle.asm_lines.specs.declared.mnemonic.Mnemonic.TheVariants as mnemonic
use Rattle.asm_lines.specs.declared.mnemonic.DirectiveWord.{DirectiveWord}
use Rattle.asm_lines.specs.declared.mnemonic.DirectiveWord.TheVariants as directive
use Rattle.asm_lines.specs.declared.operator.UnaryOp.TheVariants as unary
use Rattle.asm_lines.specs.declared.operator.BinaryOp.TheVariants as binary
use Rattle.asm_lines.specs.declared.operator.LoadOp.TheVariants as load
use Rattle.asm_lines.specs.declared.operator.StoreOp.TheVariants as store
use Rattle.asm_lines.specs.declared.operator.Condition.TheVariants as condition
use Rattle.asm_lines.specs.declared.instruction.Instruction.{Instruction}
use Rattle.asm_lines.specs.declared.instruction.Instruction.TheVariants.{LoadAddress, LoadNumber, Move, Unary, Binary, Load, Store, Branch, BranchIf, Jump, Call}

abbrev pub word_of : Mnemonic → List ℕ
word_of mnemonic.LoadAddress = codes "la"
word_of mnemonic.LoadNumber = codes "li"
word_of mnemonic.Move = codes "move"
word_of (mnemonic.Unary unary.Negate) = codes "negu"
word_of (mnemonic.Unary unary.Not) = codes "not"
word_of (mnemonic.Binary binary.Add) = codes "addu"
word_of (mnemonic.Binary binary.Subtract) = codes "subu"
word_of (mnemonic.Binary binary.Multiply) = codes "mul"
word_of (mnemonic.Binary binary.Divide) = codes "div"
word_of (mnemonic.Binary binary.Remainder) = codes "rem"
word_of (mnemonic.Binary binary.DivideUnsigned) = codes "divu"
word_of (mnemonic.Binary binary.RemainderUnsigned) = codes "remu"
word_of (mnemonic.Binary binary.And) = codes "and"
word_of (mnemonic.Binary binary.Or) = codes "or"
word_of (mnemonic.Binary binary.Xor) = codes "xor"
word_of (mnemonic.Binary binary.ShiftLeft) = codes "sll"
word_of (mnemonic.Binary binary.ShiftRight) = codes "srl"
word_of (mnemonic.Binary binary.ShiftRightArithmetic) = codes "sra"
word_of (mnemonic.Load load.Byte) = codes "lb"
word_of (mnemonic.Load load.ByteUnsigned) = codes "lbu"
word_of (mnemonic.Load load.Half) = codes "lh"
word_of (mnemonic.Load load.HalfUnsigned) = codes "lhu"
word_of (mnemonic.Load load.Word) = codes "lw"
word_of (mnemonic.Store store.Byte) = codes "sb"
word_of (mnemonic.Store store.Half) = codes "sh"
word_of (mnemonic.Store store.Word) = codes "sw"
word_of mnemonic.Branch = codes "b"
word_of (mnemonic.BranchIf condition.Equal) = codes "beq"
word_of (mnemonic.BranchIf condition.NotEqual) = codes "bne"
word_of (mnemonic.BranchIf condition.Less) = codes "blt"
word_of (mnemonic.BranchIf condition.LessEqual) = codes "ble"
word_of (mnemonic.BranchIf condition.Greater) = codes "bgt"
word_of (mnemonic.BranchIf condition.GreaterEqual) = codes "bge"
word_of (mnemonic.BranchIf condition.LessUnsigned) = codes "bltu"
word_of (mnemonic.BranchIf condition.LessEqualUnsigned) = codes "bleu"
word_of (mnemonic.BranchIf condition.GreaterUnsigned) = codes "bgtu"
word_of (mnemonic.BranchIf condition.GreaterEqualUnsigned) = codes "bgeu"
word_of mnemonic.Jump = codes "j"
word_of mnemonic.Call = codes "jal"

abbrev pub directive_text : DirectiveWord → List ℕ
directive_text directive.Text = codes ".text"
directive_text directive.Data = codes ".data"
directive_text directive.Global = codes ".globl"
directive_text directive.Align = codes ".align"
directive_text directive.Word = codes ".word"
directive_text directive.Half = codes ".half"
directive_text directive.Byte = codes ".byte"
directive_text directive.Space = codes ".space"

-- the mnemonic of an instruction
abbrev pub head_of : {N : Type 0} → Instruction N → Mnemonic
head_of (LoadAddress d a) = mnemonic.LoadAddress
head_of (LoadNumber d n) = mnemonic.LoadNumber
head_of (Move d s) = mnemonic.Move
head_of (Unary op d s) = mnemonic.Unary op
head_of (Binary op d s t) = mnemonic.Binary op
head_of (Load op d a) = mnemonic.Load op
head_of (Store op s a) = mnemonic.Store op
head_of (Branch l) = mnemonic.Branch
head_of (BranchIf c s t l) = mnemonic.BranchIf c
head_of (Jump to) = mnemonic.Jump
head_of (Call to) = mnemonic.Call
