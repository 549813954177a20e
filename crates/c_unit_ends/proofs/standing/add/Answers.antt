use Rattle.std.proofs.lemmas.Result.{on_ok_weaker}
use Rattle.c_unit_ends.proofs.Firsts.{stands_new}
use Rattle.c_unit_ends.proofs.standing.add.Goals as goal

pub returns-in-None : goal.returns-in-None
returns-in-None c = on_ok_weaker c.add.result (λ e. stands_new c.args.all.now c.add.new.self c.args.id c.args.standing e) c.add.ensures
