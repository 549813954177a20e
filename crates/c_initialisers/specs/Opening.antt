-- What a list in braces begins with, and what waits around it.
use Rattle.std.specs.Prelude.{◌≡◌, ◌||◌, Bool, false, Option}
use Rattle.c_ast.specs.Trees.{InitialiserTrees}
use Rattle.c_types.specs.Table.{Table, tags}
use Rattle.c_meaning.specs.Filling.{Found, begins_with_text, begun_in, is_excess, left_behind, next}
use Rattle.c_meaning.specs.Initialising.{Stored, stored}
use Rattle.c_initialisers.specs.declared.opening.Opened.{Opened}
use Rattle.c_initialisers.specs.Storing.{filling_in}
use Rattle.c_initialisers.specs.Waiting.{found_in, waiting_in}

abbrev pub next_of : Table → Stored → Option Found
next_of t before = next (tags t) before.left

pub record IsOpened (t : Table) (before : Stored) (is_text : Bool) (o : Opened) : Type 0 where
  pub at : next_of t before ≡ found_in t o.waits.items o.at
  pub inner : (is : InitialiserTrees) → begins_with_text is ≡ is_text → filling_in t o.inner ≡ stored before.places (begun_in (tags t) is (next_of t before)) false
  pub left : waiting_in t o.waits.items ≡ left_behind (next_of t before) before.left
  pub excess : o.excess ≡ (before.excess || is_excess (next_of t before) before.left)
