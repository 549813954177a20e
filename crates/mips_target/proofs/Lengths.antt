-- How many instructions a function has, and how many bytes its frame.
use Rattle.std.proofs.Common.{◌≡◌, ℕ, zero, suc, ◌+◌, ◌*◌, ◌≤◌, min, get_or, List, [], ◌∷◌, length, length-append, arith}
use Rattle.asm_lines.specs.declared.instruction.Instruction.TheVariants.{Move, Load, Call}
use Rattle.asm_lines.specs.declared.operator.LoadOp.TheVariants as load
use Rattle.asm_lines.specs.declared.instruction.Target.TheVariants as target
use Rattle.frame_code.specs.declared.instr.Instr.{Instr}
use Rattle.frame_code.specs.declared.instr.Instr.TheVariants as instr
use Rattle.mips_target.specs.declared.layout.Layout.{Layout}
use Rattle.mips_target.specs.Frame.{frame_size}
use Rattle.mips_target.specs.FunctionCode.{in_frame, loads_of, call_of, instructions_of, handed_behind}
use Rattle.mips_target.proofs.Unmarked.{body_instructions, function_instructions}
use Rattle.mips_target.specs.Generated.{frame_bound, code_bound}

load_count : (k : ℕ) → length (loads_of k) ≡ k
load_count zero = omega arith
load_count (suc k) = let e : length (loads_of k) ≡ k = load_count k in let a = length-append (loads_of k) (Load load.Word (4 + k) (in_frame (4 * k)) ∷ []) in omega (arith, e, a)

call_length : (names : List (List ℕ)) (k to name : ℕ) → length (call_of names k to name) ≤ 6
call_length names k to name =
    let e : length (loads_of (min k 4)) ≡ min k 4 = load_count (min k 4) in
    let a = length-append (loads_of (min k 4)) (Call (target.Label (get_or names name [])) ∷ Move to 2 ∷ []) in
    omega (arith, e, a)

-- an instruction is at most six of the machine's
instruction_length : (names : List (List ℕ)) (l : Layout) (k : ℕ) (i : Instr) → length (instructions_of names l k i) ≤ 6
instruction_length names l k (instr.LoadNumber to n) = omega arith
instruction_length names l k (instr.Binary op to from x) = omega arith
instruction_length names l k (instr.Negate to from) = omega arith
instruction_length names l k (instr.Argument from) = omega arith
instruction_length names l k (instr.Call to name) = call_length names k to name
instruction_length names l k (instr.Return from) = omega arith
instruction_length names l k (instr.Copy to from) = omega arith
instruction_length names l k (instr.LoadSlot to slot) = omega arith
instruction_length names l k (instr.StoreSlot from slot) = omega arith

body_length : (names : List (List ℕ)) (l : Layout) (k : ℕ) (code : List Instr) → length (body_instructions names l k code) ≤ 6 * length code + 3
body_length names l k [] = omega arith
body_length names l k (i ∷ is) =
    let a = length-append (instructions_of names l k i) (body_instructions names l (handed_behind k i) is) in
    let b = instruction_length names l k i in
    let c = body_length names l (handed_behind k i) is in
    omega (arith, a, b, c)

pub code_length : (names : List (List ℕ)) (l : Layout) (code : List Instr) → length (function_instructions names l code) ≤ 6 * length code + 5
code_length names l code = let b = body_length names l zero code in omega (arith, b)

pub code_small : (names : List (List ℕ)) (l : Layout) (code : List Instr) (n : ℕ) → length code ≤ 4 * n → length (function_instructions names l code) ≤ code_bound n
code_small names l code n h = let b = code_length names l code in omega (arith, b, h)

pub frame_small : (l : Layout) (n : ℕ) → l.arguments + l.slots ≤ 4 + n → frame_size l ≤ frame_bound n
frame_small l n a = omega (arith, a)
