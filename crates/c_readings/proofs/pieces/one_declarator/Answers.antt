use Rattle.c_readings.proofs.OnePieces as pieces
use Rattle.c_readings.proofs.pieces.one_declarator.Goals as goal

pub returns : goal.returns
returns c = record {
  named_declarator = pieces.named_declarator;
  free_declarator = pieces.free_declarator;
}
