use Rattle.std.proofs.lemmas.Result.{on_ok_weaker}
use Rattle.statement_steps.proofs.lemmas.Returning.{leaves}
use Rattle.statement_steps.proofs.returns.leave.Goals as goal

pub returns : goal.returns
returns c = on_ok_weaker c.root.result (λ r. leaves c.args.block.now c.root.new.self r) c.root.ensures
