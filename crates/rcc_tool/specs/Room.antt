-- The bytes that a program's frame may have, and the instructions that its function may have, by its nodes.
use Rattle.std.specs.Prelude.{ℕ, ◌+◌, ◌*◌}
use Rattle.first_form.specs.FirstProgram.{MProgram}
use Rattle.first_forest.specs.Size.{program_nodes}

abbrev pub room_of : MProgram → ℕ
room_of p = 256 + 64 * program_nodes p

abbrev pub most_instructions : MProgram → ℕ
most_instructions p = 256 + 512 * program_nodes p
