use Rattle.std.proofs.Common.{◌≡◌, take}
use Rattle.c_types.specs.Table.{Table}
use Rattle.c_meaning.specs.Filling.{elements_begun}
use Rattle.c_initialisers.specs.Waiting.{waiting_in}
use Rattle.c_initialisers.proofs.sizes.elements_begun.Given as goal

-- of the entries so far
abbrev pub invariant-loop-entry : goal.invariant-loop-entry
invariant-loop-entry l = (t : Table) → l.begun ≡ elements_begun (waiting_in t (take l.entry-index l.waits))
