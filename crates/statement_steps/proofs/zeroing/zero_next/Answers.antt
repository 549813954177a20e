use Rattle.std.specs.Prelude.{ℤ, true, false}
use Rattle.std.proofs.Common.{rules, w32, subst}
use Rattle.std.proofs.lemmas.Int.{to_z-of_z}
use Rattle.std.proofs.lemmas.Result.{on_ok_weaker}
use Rattle.objects.specs.declared.operators.Binary.TheVariants as binary
use Rattle.objects.specs.Values.{bytes_in}
use Rattle.op_forest.specs.declared.suffix.Suffix.TheVariants.{I}
use Rattle.c_rows_agree.specs.Integers.{binary_of, number}
use Rattle.c_rows_agree.specs.Places.{stored_as}
use Rattle.c_pointers_agree.specs.Pointers.{moved}
use Rattle.lowered_forms.specs.Lows.{Low, acted}
use Rattle.lowered_forms.specs.Values.{slot_read, stored_in}
use Rattle.lowering_steps.specs.Asking.{Acts}
use Rattle.lowering_steps.specs.Operands.{typed_of}
use Rattle.statement_steps.proofs.lemmas.Rooting.{acts_then}
use Rattle.statement_steps.proofs.zeroing.zero_next.Goals as goal

pub returns : goal.returns
returns c =
    let es = c.args.block.now in
    let fs = c.zero_moved.new.block in
    let gs = c.raise.new.block in
    let is = to_z-of_z w32 c.args.slot (search rules) in
    let first = λ (z : ℤ) (l : Low). acted (stored_as c.args.width (moved 1 false (typed_of c.args.base) (slot_read I z)) (number true 0)) l in
    let second = λ (z : ℤ) (l : Low). stored_in z (binary_of binary.Add true (slot_read I z) (number true (bytes_in c.args.width))) l in
    on_ok_weaker c.raise.result (λ act.
    acts_then (λ l. first c.args.slot l) (λ l. second c.args.slot l) es fs gs
    (subst (λ (z : ℤ). Acts es (λ l. first z l) fs) is c.in_ok-zero_moved.ensures)
    (subst (λ (z : ℤ). Acts fs (λ l. second z l) gs) is act)) c.raise.ensures
