-- What the loop over declarations keeps.
use Rattle.std.proofs.Common.{map, length, Bool, true}
use Rattle.c_ast.specs.Marks.{IsDeclaration}
use Rattle.c_ast.specs.SeenUnits.{declaration_seen}
use Rattle.c_readings.specs.Reading.{answer, gives}
use Rattle.c_readings.specs.Readers.{readers}
use Rattle.c_readings.specs.DeclarationReaders as reader
use Rattle.c_expr.specs.State.{ahead}
use Rattle.c_decl.specs.Going.{Goes}
use Rattle.c_readings.proofs.lemmas.Loops.{Left}
use Rattle.c_decl.proofs.declarations.declarations_to.Given as goal

abbrev pub invariant-loop-p : goal.invariant-loop-p
invariant-loop-p l =
    Goes 0 l.fn.p l.p
    × Left (λ (b : Bool) t. answer IsDeclaration t) (λ (b : Bool) t. reader.declaration readers l.fn.limit t) (λ (b : Bool) x. b) (λ ds t. gives ds t) (reader.declarations readers l.fn.limit (ahead l.fn.p)) (map declaration_seen l.list) true (ahead l.p)

abbrev pub decreases-loop-p : goal.decreases-loop-p
decreases-loop-p l = length (ahead l.p).rest
