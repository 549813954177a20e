use Rattle.lowering_steps.specs.Branching.{jump_root}
use Rattle.lowering_steps.proofs.lemmas.Stating.{acts_shows}
use Rattle.lowering_steps.proofs.state.State.jump.Goals as goal

pub returns : goal.returns
returns c = λ l h. c.end.ensures (jump_root c.args.label l) (acts_shows c.args.self.now l (λ m. jump_root c.args.label m) c.jump.new.self h c.in_ok-jump.ensures)
