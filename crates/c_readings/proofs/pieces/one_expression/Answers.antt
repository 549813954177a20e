use Rattle.c_readings.proofs.OnePieces as pieces
use Rattle.c_readings.proofs.pieces.one_expression.Goals as goal

pub returns : goal.returns
returns c = record {
  expression = pieces.expression;
  whole_expression = pieces.whole_expression;
}
