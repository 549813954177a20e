-- How a function's frame is laid out, from the stack pointer up: the argument words of its calls, its spill slots, and
-- the place to return to.
-- Source: Fraser and Hanson, A Retargetable C Compiler, chapter 16.
use Rattle.std.specs.Prelude.{ℕ, ◌+◌, ◌*◌, ◌/◌, ℤ}
use Rattle.std.specs.Int.RustNames.{unsigned_abs}
use Rattle.mips_target.specs.declared.layout.Layout.{Layout}

-- the places of a spill slot, which are numbered from 0, and of the return address, in bytes from the stack pointer
abbrev pub slot_place : Layout → ℤ → ℕ
slot_place l slot = 4 * (l.arguments + unsigned_abs slot)

abbrev pub return_place : Layout → ℕ
return_place l = 4 * (l.arguments + l.slots)

-- the bytes of these words
abbrev pub words_size : Layout → ℕ
words_size l = 4 * (l.arguments + l.slots + 1)

-- the frame's bytes, a multiple of 8
abbrev pub frame_size : Layout → ℕ
frame_size l = 8 * ((l.arguments + l.slots + 2) / 2)
