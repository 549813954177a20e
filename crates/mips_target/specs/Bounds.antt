-- How much of the stack and how many instructions a function's code takes: the bytes by which its own code lowers the
-- stack pointer, $29, between its entry and any of its instructions, and its instructions.
-- Source: G. Kane and J. Heinrich, MIPS RISC Architecture, 1992.
use Rattle.std.specs.Prelude.{◌≡◌, ◌≤◌, ℕ, suc, ◌+◌, ◌-◌, ◌%◌, ◌^◌, ◌==◌, Bool, true, false, if◌then◌else◌, List, length, Option, Some, None, slice_get}
use Rattle.asm_lines.specs.declared.instruction.Instruction.TheVariants.{LoadAddress, LoadNumber, Move, Unary, Binary, Load, Store, Branch, BranchIf, Jump, Call}
use Rattle.asm_lines.specs.declared.instruction.Value.TheVariants.{Number}
use Rattle.asm_lines.specs.declared.instruction.Target.{Target}
use Rattle.asm_lines.specs.declared.instruction.Target.TheVariants as target
use Rattle.asm_lines.specs.declared.operator.BinaryOp.{BinaryOp}
use Rattle.asm_lines.specs.declared.operator.BinaryOp.TheVariants.{Add, Subtract}
use Rattle.asm_text.specs.declared.place.Place.TheVariants.{Code}
use Rattle.asm_text.specs.Program.{MInstruction, MProgram, place_of}
use Rattle.unit_text.specs.Items.{CodeItem, lines_in}

-- The register that an instruction writes, by its row of the step table. A call writes $31, and what it calls gives the
-- stack pointer back.
abbrev pub written : MInstruction → Option ℕ
written (LoadAddress d a) = Some d
written (LoadNumber d n) = Some d
written (Move d s) = Some d
written (Unary op d s) = Some d
written (Binary op d s t) = Some d
written (Load op d a) = Some d
written (Store op s a) = None
written (Branch name) = None
written (BranchIf c s t name) = None
written (Jump to) = None
written (Call to) = Some 31

abbrev pub is_pointer : Option ℕ → Bool
is_pointer None = false
is_pointer (Some r) = r == 29

-- by how many bytes, modulo 2^32, the pointer is lowered once a number was added to it, or subtracted
abbrev pub lowered_by : BinaryOp → ℕ → ℕ → Option ℕ
lowered_by Add lowered n = Some ((lowered + (2 ^ 32 - n % 2 ^ 32)) % 2 ^ 32)
lowered_by Subtract lowered n = Some ((lowered + n) % 2 ^ 32)
lowered_by op lowered n = None

-- By how many bytes, modulo 2^32, the stack pointer is lowered behind an instruction, where it was by so many before.
-- None is where it is written otherwise than by adding or subtracting a number.
abbrev pub lowered_behind : ℕ → MInstruction → Option ℕ
lowered_behind lowered (Binary op d s (Number n)) = if d == 29 then (if s == 29 then lowered_by op lowered n else None) else Some lowered
lowered_behind lowered i = if is_pointer (written i) then None else Some lowered

-- whether it goes on behind an instruction, for a call once it is back
abbrev pub goes_on : MInstruction → Bool
goes_on (Branch name) = false
goes_on (Jump to) = false
goes_on i = true

abbrev pub target_label : Target (List ℕ) → Option (List ℕ)
target_label (target.Label name) = Some name
target_label (target.Register r) = None

-- the label at which it may go on, for a branch with a comparison where this holds; a jump through a register leaves the
-- function
abbrev pub leads_to : MInstruction → Option (List ℕ)
leads_to (Branch name) = Some name
leads_to (BranchIf c s t name) = Some name
leads_to (Jump to) = target_label to
leads_to i = None

-- the places that the function's own code reaches, and the bytes by which the stack pointer is lowered there
pub data Reaches (p : MProgram) (entry : ℕ) : ℕ → ℕ → Type 0 where
  AtEntry : Reaches p entry entry 0
  Behind : {place lowered later : ℕ} (i : MInstruction) → Reaches p entry place lowered → slice_get p.code place ≡ Some i → goes_on i ≡ true → lowered_behind lowered i ≡ Some later → Reaches p entry (suc place) later
  AtLabel : {place lowered later to : ℕ} (i : MInstruction) (name : List ℕ) → Reaches p entry place lowered → slice_get p.code place ≡ Some i → leads_to i ≡ Some name → place_of p.labels name ≡ Some (Code to) → lowered_behind lowered i ≡ Some later → Reaches p entry to later

-- the stack pointer is lowered by a known number of bytes behind the instruction, and by no more than `room`
pub record StaysWithin (room lowered : ℕ) (i : MInstruction) : Type 0 where
  pub later : ℕ
  pub known : lowered_behind lowered i ≡ Some later
  pub within : later ≤ room

-- each instruction that is reached leaves the stack pointer at most `room` bytes below its value at the entry, and there
-- are at most so many instructions
pub record KeepsBounds (room most : ℕ) (p : MProgram) (entry : ℕ) (code : List (CodeItem MInstruction)) : Type 0 where
  pub frame : (place lowered : ℕ) (i : MInstruction) → Reaches p entry place lowered → slice_get p.code place ≡ Some i → StaysWithin room lowered i
  pub few : length (lines_in code) ≤ most
