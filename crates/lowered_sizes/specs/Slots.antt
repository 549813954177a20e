-- How many slots an expression takes beside the temporaries of the blocks that it finishes: one for a call's value, a truth as a number or a
-- conditional, and one for each operand that waits for another one.
-- Source: Fraser and Hanson, A Retargetable C Compiler, chapters 5 and 12 (temporaries).
use Rattle.std.specs.Prelude.{ℕ, ◌<◌, ◌+◌, ◌*◌, Bool}
use Rattle.c_meaning.specs.CoreTrees.{parts}
use Rattle.c_meaning.specs.Values.{CoreTree}
use Rattle.lowered_forms.specs.Contexts.{Context}
use Rattle.lowered_forms.specs.Expressions.{low_e, low_test}
use Rattle.lowered_forms.specs.Lows.{Low}
use Rattle.lowered_forms.specs.Sizes.{other_slots}

abbrev pub SlotsAreFew : Type 0
SlotsAreFew = (s : Context) (e : CoreTree) (l : Low) → other_slots (low_e s e l).low < other_slots l + 2 * parts e

abbrev pub TestSlotsAreFew : Type 0
TestSlotsAreFew = (s : Context) (e : CoreTree) (n : ℕ) (when : Bool) (l : Low) → other_slots (low_test s e n when l) < other_slots l + 2 * parts e
