-- What the loop over external declarations keeps.
use Rattle.std.proofs.Common.{◌-◌, map, length, Bool, false}
use Rattle.c_readings.specs.Reading.{here}
use Rattle.c_readings.specs.Readers.{readers}
use Rattle.c_readings.specs.UnitReaders as reader
use Rattle.c_readings.proofs.lemmas.Loops.{Left}
use Rattle.c_expr.specs.State.{ahead}
use Rattle.c_decl.specs.Going.{Goes}
use Rattle.c_stmt.specs.Seen.{external_seen}
use Rattle.c_stmt.proofs.ExternalLists.{least_of, FirstOf}
use Rattle.c_stmt.proofs.units.unit_at.Given as goal

abbrev pub invariant-loop-p : goal.invariant-loop-p
invariant-loop-p l =
    Goes (least_of l.externals) l.fn.p l.p
    × FirstOf l.is_first l.externals
    × Left (λ (first : Bool) t. reader.is_left t.rest) (λ (first : Bool) t. reader.external readers (l.fn.limit - 1) first t) (λ (first : Bool) x. false) (λ xs t. reader.some_externals (here (ahead l.fn.p)) xs t) (reader.unit readers l.fn.limit (ahead l.fn.p)) (map external_seen l.externals) l.is_first (ahead l.p)

abbrev pub decreases-loop-p : goal.decreases-loop-p
decreases-loop-p l = length (ahead l.p).rest
