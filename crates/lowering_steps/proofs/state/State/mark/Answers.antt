use Rattle.std.proofs.Common.{refl, ap, ◌∙◌}
use Rattle.op_forest.specs.Nodes.{Node}
use Rattle.op_forest.specs.NodeParts.{node_of}
use Rattle.std.specs.Prelude.{None, List}
use Rattle.op_forest.specs.declared.op.Op.TheVariants as op
use Rattle.op_forest.specs.declared.suffix.Suffix.TheVariants as suffix
use Rattle.op_forest.specs.declared.sym.Sym.TheVariants as symbol
use Rattle.lowered_forms.specs.Lows.{ended}
use Rattle.lowering_steps.proofs.lemmas.Stating.{marked_shows}
use Rattle.lowering_steps.proofs.state.State.mark.Goals as goal

pub returns : goal.returns
returns c = λ l h.
    marked_shows c.end.new.self (record { done = c.push.new.self; block = c.end.new.self.block; frame = c.end.new.self.frame; labels = c.end.new.self.labels }) (ended l) c.args.label c.new-root.result (c.in_ok-end.ensures l h)
    (c.new-root.ensures ∙ ap (λ (ks : List Node). node_of (record { op = op.Label; suffix = suffix.V }) (symbol.Label c.args.label) None ks) c.new.ensures) c.in_ok-push.ensures.items refl refl refl
