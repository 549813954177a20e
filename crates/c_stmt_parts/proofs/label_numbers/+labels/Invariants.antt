use Rattle.std.proofs.Common.{◌≡◌, ◌+◌, drop, map}
use Rattle.c_ast.specs.UnitViews.{statements_of}
use Rattle.c_units.specs.Marks.{all_labels, all_marks, firsts}
use Rattle.c_stmt_parts.specs.StatementsSeen.{statement_seen}
use Rattle.c_stmt_parts.proofs.label_numbers.+labels.Given as goal

abbrev pub invariant-of_all-loop-statement : goal.invariant-of_all-loop-statement
invariant-of_all-loop-statement l =
    record {
      found : firsts l.found (all_labels l.count (statements_of (map statement_seen (drop l.statement-index l.list)))) ≡ firsts l.fn.found (all_labels l.fn.before (statements_of (map statement_seen l.list)));
      count : l.count + all_marks (statements_of (map statement_seen (drop l.statement-index l.list))) ≡ l.fn.before + all_marks (statements_of (map statement_seen l.list));
    }
