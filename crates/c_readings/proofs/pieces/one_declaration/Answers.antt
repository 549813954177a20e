use Rattle.c_readings.proofs.OnePieces as pieces
use Rattle.c_readings.proofs.pieces.one_declaration.Goals as goal

pub returns : goal.returns
returns c = record {
  initialiser = pieces.initialiser;
  declaration = pieces.declaration;
  declarations = pieces.declarations;
}
