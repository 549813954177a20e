use Rattle.c_readings.proofs.OnePieces as pieces
use Rattle.c_readings.proofs.pieces.one_type.Goals as goal

pub returns : goal.returns
returns c = record {
  specifier_list = pieces.specifier_list;
  type_name = pieces.type_name;
}
