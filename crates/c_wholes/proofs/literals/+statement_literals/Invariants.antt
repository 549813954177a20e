use Rattle.std.proofs.Common.{◌≡◌, drop}
use Rattle.c_units.specs.Wholes.{once}
use Rattle.c_wholes.specs.Literals.{texts_of_stmts}
use Rattle.c_wholes.proofs.literals.+statement_literals.Given as goal

abbrev pub invariant-note_statements-loop-s : goal.invariant-note_statements-loop-s
invariant-note_statements-loop-s l = once l.texts (texts_of_stmts (drop l.s-index l.list)) ≡ once l.fn.texts (texts_of_stmts l.list)
