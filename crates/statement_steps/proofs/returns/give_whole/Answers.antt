use Rattle.lowering_acts.specs.Sites.{context_of, type_in}
use Rattle.lowering_steps.specs.Operands.{typed_of}
use Rattle.statement_steps.proofs.lemmas.Returning.{gives_whole}
use Rattle.statement_steps.proofs.returns.give_whole.Goals as goal

pub returns : goal.returns
returns c =
    let site = c.args.site.now in
    gives_whole c.leave.result (context_of site).unit.tags (type_in site c.args.of) (typed_of c.args.value) (typed_of c.parameter.result) c.in_ok-place.place c.args.block.now c.loaded_pointer.new.self c.copy.new.block c.leave.new.block
    c.parameter.ensures c.in_ok-place.ensures c.in_ok-copy.ensures c.leave.ensures
