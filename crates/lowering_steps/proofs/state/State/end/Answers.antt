use Rattle.std.proofs.Common.{◌++◌, refl, ◌∙◌}
use Rattle.lowering_steps.proofs.lemmas.Stating.{ended_shows}
use Rattle.lowering_steps.proofs.state.State.end.Goals as goal

pub returns : goal.returns
returns c = λ l h.
    ended_shows c.args.self.now (record { done = c.append.new.self; block = c.replace-block.new.dest; frame = c.finish.new.frame; labels = c.args.self.now.labels }) l c.replace-block.result c.in_ok-trees.trees h
    c.replace-block.ensures.value c.in_ok-trees.ensures.trees (c.in_ok-append.ensures.items ∙ (λ i. c.args.self.now.done.items ++ c.into_vec-trees.ensures i)) (c.replace-block.ensures.after ∙ c.new.ensures) c.in_ok-trees.ensures.frame refl
