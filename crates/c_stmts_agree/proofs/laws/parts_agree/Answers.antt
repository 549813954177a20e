use Rattle.c_stmts_agree.proofs.lemmas.Checked.{parts_agree}
use Rattle.c_stmts_agree.proofs.laws.parts_agree.Goals as goal

pub returns : goal.returns
returns c p f e u g others ns t checked words h = parts_agree p f e u g others ns t checked words h
