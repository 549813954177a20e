use Rattle.std.specs.Prelude.{ℤ}
use Rattle.std.proofs.Common.{rules, w32, subst}
use Rattle.std.proofs.lemmas.Int.{to_z-of_z}
use Rattle.std.proofs.lemmas.Result.{IfOk-weaker}
use Rattle.lowering_steps.specs.Operands.{typed_of}
use Rattle.c_lower_expr.specs.Passing.{all_typed}
use Rattle.lowered_forms.specs.Calls.{call_stored}
use Rattle.lowered_forms.specs.Lows.{acted}
use Rattle.lowered_forms.specs.Values.{slot_read}
use Rattle.lowering_steps.specs.Asking.{Acts, Places}
use Rattle.c_lower_expr.proofs.lemmas.Giving.{scalar_gives}
use Rattle.c_lower_expr.proofs.calls.scalar_given.Goals as goal

pub returns : goal.returns
returns c =
    let exact = to_z-of_z w32 c.args.offset (search rules) in
    IfOk-weaker c.slot_read.result _ _
    (λ v g. scalar_gives c.args.block.now c.pass_words.new.block c.store_call.new.self c.slot_read.new.self (all_typed c.args.words.now) (typed_of c.args.function) c.args.suffix c.args.offset v c.in_ok-pass_words.ensures
    (subst (λ (z : ℤ). Acts c.pass_words.new.block (λ l. acted (call_stored z (typed_of c.args.function)) l) c.store_call.new.self) exact c.in_ok-store_call.ensures)
    (subst (λ (z : ℤ). Places c.store_call.new.self (slot_read c.args.suffix z) v c.slot_read.new.self) exact g))
    c.slot_read.ensures
