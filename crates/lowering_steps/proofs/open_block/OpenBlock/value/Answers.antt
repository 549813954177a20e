use Rattle.std.proofs.Common.{subst}
use Rattle.lowered_forms.specs.Asked.{with_kids}
use Rattle.lowered_forms.proofs.lemmas.Blocks.{answers_are_asked}
use Rattle.lowering_steps.specs.Asking.{Answers}
use Rattle.lowering_steps.specs.Operands.{head_of}
use Rattle.lowering_steps.proofs.open_block.OpenBlock.value.Goals as goal

pub returns : goal.returns
returns c =
    let x = with_kids (head_of c.args.stem) c.args.kids in
    let e = c.in_ok-node.ensures in
    subst (λ es. Answers es x c.in_ok-node.node c.value.new.self) c.self.view_is
    (record {
      is = answers_are_asked c.self.inside.block c.value.new.self x c.in_ok-node.node
          (record { node = e.node; again = λ m h. (e.again m h, e.unchanged m h); added = e.added; distinct = e.distinct });
    })
