-- What falls in the search: the tables, and with the same tables the rank of the function.
use Rattle.std.proofs.Common.{◌+◌, ◌*◌, length}
use Rattle.statement_steps.proofs.searches.+searching.Given as goal

abbrev pub decreases-search : goal.decreases-search
decreases-search l = 4 * length l.tables.now

abbrev pub decreases-side : goal.decreases-side
decreases-side l = 4 * length l.tables.now + 1

abbrev pub decreases-one_number : goal.decreases-one_number
decreases-one_number l = 4 * (length l.halves.less.now + length l.halves.greater.now) + 2

abbrev pub decreases-one_table : goal.decreases-one_table
decreases-one_table l = 4 * (length l.halves.less.now + length l.halves.greater.now) + 2

abbrev pub decreases-at_table : goal.decreases-at_table
decreases-at_table l = 4 * (length l.halves.less.now + length l.halves.greater.now) + 3
