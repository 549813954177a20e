-- What the loop over declarators keeps.
use Rattle.std.proofs.Common.{map, length}
use Rattle.c_ast.specs.Seen.{declarator_seen}
use Rattle.c_ast.specs.SeenUnits.{init_seen}
use Rattle.c_readings.specs.Reading.{gives, one_sign}
use Rattle.c_readings.specs.Readers.{readers}
use Rattle.c_readings.specs.DeclarationReaders as reader
use Rattle.c_expr.specs.State.{ahead}
use Rattle.c_decl.specs.Going.{Goes}
use Rattle.c_readings.proofs.lemmas.Loops.{CommasLeft}
use Rattle.c_decl.proofs.declarations.inits_behind.Given as goal

abbrev pub invariant-loop-p : goal.invariant-loop-p
invariant-loop-p l =
    Goes 0 l.fn.p l.p
    × CommasLeft (reader.init readers l.fn.limit l.fn.typedef) (λ is u. one_sign 32 u (λ v. gives is v)) (reader.inits_behind readers l.fn.limit l.fn.typedef l.fn.line (declarator_seen l.fn.declarator) (ahead l.fn.p)) (map init_seen l.list) (ahead l.p)

abbrev pub decreases-loop-p : goal.decreases-loop-p
decreases-loop-p l = length (ahead l.p).rest
