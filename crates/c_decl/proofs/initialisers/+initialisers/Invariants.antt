-- What falls in the cycle of initialisers: the limit, and with the same one the list before its items; and what its loop keeps.
use Rattle.std.proofs.Common.{◌+◌, ◌*◌, map, length, Bool, true}
use Rattle.c_ast.specs.UnitViews.{initialisers_of}
use Rattle.c_ast.specs.SeenUnits.{initialiser_seen}
use Rattle.c_readings.specs.Reading.{beyond}
use Rattle.c_readings.specs.Readers.{readers, goes_on_without}
use Rattle.c_readings.specs.DeclarationReaders.{initialiser, initialisers}
use Rattle.c_expr.specs.Answers.{comma_end}
use Rattle.c_expr.specs.State.{ahead}
use Rattle.c_decl.specs.Going.{Goes}
use Rattle.c_readings.proofs.lemmas.Loops.{Left}
use Rattle.c_decl.proofs.initialisers.+initialisers.Given as goal

abbrev pub decreases-initialiser_at : goal.decreases-initialiser_at
decreases-initialiser_at l = 2 * l.limit

abbrev pub decreases-initialisers_at : goal.decreases-initialisers_at
decreases-initialisers_at l = 2 * l.limit + 1

abbrev pub invariant-initialisers_at-loop-p : goal.invariant-initialisers_at-loop-p
invariant-initialisers_at-loop-p l =
    Goes 1 l.fn.p l.p
    × Left (λ (b : Bool) u. goes_on_without 5 u) (λ (b : Bool) u. initialiser readers l.fn.limit (beyond u)) (λ (b : Bool) x. b) (λ is u. comma_end (initialisers_of is) u) (initialisers (initialiser readers l.fn.limit) (ahead l.fn.p)) (map initialiser_seen l.items) true (ahead l.p)

abbrev pub decreases-initialisers_at-loop-p : goal.decreases-initialisers_at-loop-p
decreases-initialisers_at-loop-p l = length (ahead l.p).rest
