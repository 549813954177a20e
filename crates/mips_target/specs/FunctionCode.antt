-- The code of a function, given its allocated code: each instruction as one or a few of the machine's, between those
-- that make the frame and those that give it back.
-- Calls are those of MIPS: the first four argument words go in $4 to $7, the others behind 16 bytes on the stack, and the
-- result comes in $2. A caller keeps all argument words at the low end of its frame.
-- Source: Fraser and Hanson, A Retargetable C Compiler, chapter 16; G. Kane and J. Heinrich, MIPS RISC Architecture, 1992.
use Rattle.std.specs.Prelude.{ℕ, zero, suc, ◌+◌, ◌*◌, max, min, Some, None, List, [], ◌∷◌, ◌++◌, map, get_or}
use Rattle.asm_lines.specs.declared.instruction.Instruction.TheVariants.{LoadNumber, Move, Binary, Unary, Load, Store, Jump, Call}
use Rattle.asm_lines.specs.declared.instruction.Address.{Address}
use Rattle.asm_lines.specs.declared.instruction.Target.TheVariants as target
use Rattle.asm_lines.specs.declared.instruction.Value.{Value}
use Rattle.asm_lines.specs.declared.instruction.Value.TheVariants as operand
use Rattle.asm_lines.specs.declared.operator.BinaryOp.{BinaryOp}
use Rattle.asm_lines.specs.declared.operator.BinaryOp.TheVariants as binary
use Rattle.asm_lines.specs.declared.operator.UnaryOp.TheVariants as unary
use Rattle.asm_lines.specs.declared.operator.LoadOp.TheVariants as load
use Rattle.asm_lines.specs.declared.operator.StoreOp.TheVariants as store
use Rattle.asm_text.specs.Program.{MInstruction}
use Rattle.frame_code.specs.declared.arithmetic.Arithmetic.{Arithmetic}
use Rattle.frame_code.specs.declared.arithmetic.Arithmetic.TheVariants as arithmetic
use Rattle.frame_code.specs.declared.instr.Instr.{Instr}
use Rattle.frame_code.specs.declared.instr.Instr.TheVariants as instr
use Rattle.frame_code.specs.declared.instr.Source.{Source}
use Rattle.frame_code.specs.declared.instr.Source.TheVariants as source
use Rattle.mips_target.specs.declared.layout.Layout.{Layout}
use Rattle.unit_text.specs.Items.{CodeItem, Line}
use Rattle.mips_target.specs.Frame.{slot_place, return_place, frame_size}

-- a place in the frame, in bytes from the stack pointer, which is $29
abbrev pub in_frame : {N : Type 0} → ℕ → Address N
in_frame place = record { name = None; offset = place; base = Some 29 }

-- the machine's operation
abbrev pub binary_of : Arithmetic → BinaryOp
binary_of arithmetic.Add = binary.Add
binary_of arithmetic.Subtract = binary.Subtract
binary_of arithmetic.Multiply = binary.Multiply

abbrev pub operand_of : Source → Value
operand_of (source.Register r) = operand.Register r
operand_of (source.Number n) = operand.Number n

abbrev pub prologue : Layout → List MInstruction
prologue l =
    Binary binary.Subtract 29 29 (operand.Number (frame_size l))
    ∷ Store store.Word 31 (in_frame (return_place l))
    ∷ []

abbrev pub epilogue : Layout → List MInstruction
epilogue l =
    Load load.Word 31 (in_frame (return_place l))
    ∷ Binary binary.Add 29 29 (operand.Number (frame_size l))
    ∷ Jump (target.Register 31)
    ∷ []

-- the first k argument words go to $4 and the registers behind it
abbrev pub loads_of : ℕ → List MInstruction
loads_of zero = []
loads_of (suc k) = loads_of k ++ Load load.Word (4 + k) (in_frame (4 * k)) ∷ []

-- a call with k argument words
abbrev pub call_of : List (List ℕ) → ℕ → ℕ → ℕ → List MInstruction
call_of names k to name = loads_of (min k 4) ++ Call (target.Label (get_or names name [])) ∷ Move to 2 ∷ []

-- the instructions of one, where k argument words were handed since the last call
abbrev pub instructions_of : List (List ℕ) → Layout → ℕ → Instr → List MInstruction
instructions_of names l k (instr.LoadNumber to n) = LoadNumber to n ∷ []
instructions_of names l k (instr.Binary op to from x) = Binary (binary_of op) to from (operand_of x) ∷ []
instructions_of names l k (instr.Negate to from) = Unary unary.Negate to from ∷ []
instructions_of names l k (instr.Argument from) = Store store.Word from (in_frame (4 * k)) ∷ []
instructions_of names l k (instr.Call to name) = call_of names k to name
instructions_of names l k (instr.Return from) = Move 2 from ∷ epilogue l
instructions_of names l k (instr.Copy to from) = Move to from ∷ []
instructions_of names l k (instr.LoadSlot to slot) = Load load.Word to (in_frame (slot_place l slot)) ∷ []
instructions_of names l k (instr.StoreSlot from slot) = Store store.Word from (in_frame (slot_place l slot)) ∷ []

-- how many argument words were handed since the last call behind an instruction
abbrev pub handed_behind : ℕ → Instr → ℕ
handed_behind k (instr.LoadNumber to n) = k
handed_behind k (instr.Binary op to from x) = k
handed_behind k (instr.Negate to from) = k
handed_behind k (instr.Argument from) = suc k
handed_behind k (instr.Call to name) = zero
handed_behind k (instr.Return from) = k
handed_behind k (instr.Copy to from) = k
handed_behind k (instr.LoadSlot to slot) = k
handed_behind k (instr.StoreSlot from slot) = k

-- the most argument words that are handed before a call
abbrev pub most_handed : ℕ → List Instr → ℕ
most_handed k [] = k
most_handed k (i ∷ is) = max k (most_handed (handed_behind k i) is)

-- there is room for four argument words in each frame
abbrev pub argument_words : List Instr → ℕ
argument_words code = max 4 (most_handed 0 code)

-- instructions without a label
abbrev pub unmarked : List MInstruction → List (CodeItem MInstruction)
unmarked is = map (λ i. Line i) is

-- the code of one, which is no label so far
abbrev pub code_of_one : List (List ℕ) → Layout → ℕ → Instr → List (CodeItem MInstruction)
code_of_one names l k i = unmarked (instructions_of names l k i)

-- the code of all, where k argument words were handed, and what ends the function
abbrev pub body_of : List (List ℕ) → Layout → ℕ → List Instr → List (CodeItem MInstruction)
body_of names l k [] = unmarked (epilogue l)
body_of names l k (i ∷ is) = code_of_one names l k i ++ body_of names l (handed_behind k i) is

abbrev pub function_code : List (List ℕ) → Layout → List Instr → List (CodeItem MInstruction)
function_code names l code = unmarked (prologue l) ++ body_of names l 0 code
