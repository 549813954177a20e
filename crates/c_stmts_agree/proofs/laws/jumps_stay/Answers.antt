use Rattle.c_stmts_agree.proofs.lemmas.Jumping.{jumps_stay}
use Rattle.c_stmts_agree.proofs.laws.jumps_stay.Goals as goal

pub returns : goal.returns
returns c f u g t checked among breaks continues stays = jumps_stay f u g t checked among breaks continues stays
