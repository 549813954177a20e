-- What the faults of a line depend on beside the line itself: the names of the terminals that the whole text declares, and
-- the lines before it.
use Rattle.std.specs.Prelude.{ℕ, List}
use Rattle.lburg_lines.specs.Sections.{TokenLine}

pub record Setting : Type 0 where
  pub terminals : List (List ℕ)
  pub before : List TokenLine
