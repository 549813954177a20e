use Rattle.std.proofs.Common.{◌≡◌, drop}
use Rattle.c_units.specs.Wholes.{once}
use Rattle.c_wholes.specs.Literals.{texts_of_exprs}
use Rattle.c_wholes.proofs.literals.+literals.Given as goal

abbrev pub invariant-note_exprs-loop-c : goal.invariant-note_exprs-loop-c
invariant-note_exprs-loop-c l = once l.texts (texts_of_exprs (drop l.c-index l.list)) ≡ once l.fn.texts (texts_of_exprs l.list)
