use Rattle.std.proofs.lemmas.Result.{on_ok_weaker}
use Rattle.op_forest.specs.declared.op.Op.TheVariants as op
use Rattle.op_forest.specs.declared.suffix.Suffix.TheVariants.{I}
use Rattle.c_rows_agree.specs.Typed.{as_i, head}
use Rattle.lowering_steps.specs.Operands.{typed_of}
use Rattle.lowering_steps.proofs.lemmas.Asking.{acts_over}
use Rattle.statement_steps.proofs.returns.give_word.Goals as goal

pub returns : goal.returns
returns c = on_ok_weaker c.root.result (λ r. acts_over c.args.block.now (head op.Ret I) (as_i (typed_of c.args.value)) c.in_ok-word.word c.as_number.new.block c.root.new.self c.in_ok-word.ensures r) c.root.ensures
