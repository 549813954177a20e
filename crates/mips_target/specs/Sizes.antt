-- What allocated code keeps so that a frame can be laid out for it: the registers are the machine's, the numbers that it
-- loads are words, the slots are in the frame, the argument words have their places, and the names are there.
use Rattle.std.specs.Prelude.{ℕ, ◌<◌, ◌^◌, List, [], ◌∷◌, length}
use Rattle.std.specs.Int.RustNames.{unsigned_abs}
use Rattle.frame_code.specs.declared.instr.Instr.{Instr}
use Rattle.frame_code.specs.declared.instr.Instr.TheVariants as instr
use Rattle.frame_code.specs.declared.instr.Source.{Source}
use Rattle.frame_code.specs.declared.instr.Source.TheVariants as source
use Rattle.mips_target.specs.declared.layout.Layout.{Layout}
use Rattle.mips_target.specs.FunctionCode.{handed_behind}

abbrev pub IsSourceWithin : Source → Type 0
IsSourceWithin (source.Register r) = r < 32
IsSourceWithin (source.Number n) = Unit {0}

abbrev pub FitsOne : List (List ℕ) → Layout → ℕ → Instr → Type 0
FitsOne names l k (instr.LoadNumber to n) = (to < 32) × (n < 2 ^ 32)
FitsOne names l k (instr.Binary op to from x) = (to < 32) × (from < 32) × IsSourceWithin x
FitsOne names l k (instr.Negate to from) = (to < 32) × (from < 32)
FitsOne names l k (instr.Argument from) = (from < 32) × (k < l.arguments)
FitsOne names l k (instr.Call to name) = (to < 32) × (name < length names)
FitsOne names l k (instr.Return from) = from < 32
FitsOne names l k (instr.Copy to from) = (to < 32) × (from < 32)
FitsOne names l k (instr.LoadSlot to slot) = (to < 32) × (unsigned_abs slot < l.slots)
FitsOne names l k (instr.StoreSlot from slot) = (from < 32) × (unsigned_abs slot < l.slots)

-- the same of code where k argument words were handed since the last call
abbrev pub Fits : List (List ℕ) → Layout → ℕ → List Instr → Type 0
Fits names l k [] = Unit {0}
Fits names l k (i ∷ is) = FitsOne names l k i × Fits names l (handed_behind k i) is
