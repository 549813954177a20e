use Rattle.c_readings.proofs.OnePieces as pieces
use Rattle.c_readings.proofs.pieces.one_statement.Goals as goal

pub returns : goal.returns
returns c = record {
  statement = pieces.statement;
  external = pieces.external;
}
