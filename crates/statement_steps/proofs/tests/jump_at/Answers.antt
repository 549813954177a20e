use Rattle.std.proofs.lemmas.Result.{on_ok_weaker}
use Rattle.std.specs.Prelude.{false}
use Rattle.op_forest.specs.declared.op.Op.TheVariants as op
use Rattle.op_forest.specs.declared.suffix.Suffix.TheVariants.{V}
use Rattle.c_rows_agree.specs.Typed.{head}
use Rattle.c_pointers_agree.specs.Pointers.{moved}
use Rattle.lowering_steps.specs.Operands.{template_of, typed_of}
use Rattle.lowering_steps.proofs.lemmas.Asking.{acts_over}
use Rattle.statement_steps.proofs.lemmas.Rooting.{jumps_at}
use Rattle.statement_steps.proofs.tests.jump_at.Goals as goal

pub returns : goal.returns
returns c =
    let h = head op.Jump V in
    let t = moved 4 false (typed_of c.args.table) (typed_of c.args.index) in
    on_ok_weaker c.root.result (λ r.
    jumps_at h c.args.block.now c.moved.new.self c.loaded_pointer.new.self c.operand.new.self c.root.new.self t c.in_ok-place.place c.in_ok-target.target c.in_ok-target-2.target
    c.in_ok-place.ensures c.in_ok-target.ensures c.in_ok-target-2.ensures
    (acts_over c.loaded_pointer.new.self h (template_of c.in_ok-target.target) c.in_ok-target-2.target c.operand.new.self c.root.new.self c.in_ok-target-2.ensures r)) c.root.ensures
