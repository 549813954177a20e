-- What falls in the cycle of statements: the limit, and with the same one the rank of the reader; and what its loop keeps.
use Rattle.std.proofs.Common.{◌+◌, ◌*◌, not, map, length, Bool, true}
use Rattle.c_ast.specs.Marks.{IsSign}
use Rattle.c_readings.specs.Reading.{answer, gives}
use Rattle.c_readings.specs.Readers.{readers}
use Rattle.c_readings.specs.StatementReaders as reader
use Rattle.c_readings.proofs.lemmas.Loops.{Left}
use Rattle.c_expr.specs.State.{ahead}
use Rattle.c_decl.specs.Going.{Goes}
use Rattle.c_stmt.specs.Listed.{statements_in}
use Rattle.c_stmt.specs.Seen.{statement_seen}
use Rattle.c_stmt.proofs.statements.+statements.Given as goal

abbrev pub decreases-statement_at : goal.decreases-statement_at
decreases-statement_at l = 5 * l.limit + 0

abbrev pub decreases-labelled_at : goal.decreases-labelled_at
decreases-labelled_at l = 5 * l.limit + 2

abbrev pub decreases-inner_at : goal.decreases-inner_at
decreases-inner_at l = 5 * l.limit + 1

abbrev pub decreases-behind_colon : goal.decreases-behind_colon
decreases-behind_colon l = 5 * l.limit + 2

abbrev pub decreases-guarded_at : goal.decreases-guarded_at
decreases-guarded_at l = 5 * l.limit + 2

abbrev pub decreases-by_word : goal.decreases-by_word
decreases-by_word l = 5 * l.limit + 4

abbrev pub decreases-if_at : goal.decreases-if_at
decreases-if_at l = 5 * l.limit + 3

abbrev pub decreases-do_at : goal.decreases-do_at
decreases-do_at l = 5 * l.limit + 2

abbrev pub decreases-for_at : goal.decreases-for_at
decreases-for_at l = 5 * l.limit + 2

abbrev pub decreases-compound_at : goal.decreases-compound_at
decreases-compound_at l = 5 * l.limit + 3

abbrev pub decreases-block_inside : goal.decreases-block_inside
decreases-block_inside l = 5 * l.limit + 2

abbrev pub decreases-statements_at : goal.decreases-statements_at
decreases-statements_at l = 5 * l.limit + 1

abbrev pub invariant-statements_at-loop-p : goal.invariant-statements_at-loop-p
invariant-statements_at-loop-p l =
    Goes 0 l.fn.p l.p
    × Left (λ (b : Bool) u. not (answer (IsSign 5) u)) (λ (b : Bool) u. reader.statement readers l.fn.limit u) (λ (b : Bool) x. b) (λ ss t. gives ss t) (statements_in (reader.statement readers l.fn.limit) (ahead l.fn.p)) (map statement_seen l.list) true (ahead l.p)

abbrev pub decreases-statements_at-loop-p : goal.decreases-statements_at-loop-p
decreases-statements_at-loop-p l = length (ahead l.p).rest
