use Rattle.std.specs.Prelude.{ℤ, true}
use Rattle.std.proofs.Common.{rules, w32, subst}
use Rattle.std.proofs.lemmas.Int.{to_z-of_z}
use Rattle.std.proofs.lemmas.Result.{on_ok_weaker}
use Rattle.objects.specs.declared.operators.Comparison.TheVariants as comparison
use Rattle.op_forest.specs.declared.suffix.Suffix.TheVariants.{I}
use Rattle.c_rows_agree.specs.Integers.{compared, number}
use Rattle.c_rows_agree.specs.Typed.{Typed}
use Rattle.lowered_forms.specs.Lows.{branched}
use Rattle.lowered_forms.specs.Values.{slot_read, stored_in}
use Rattle.lowered_statements.specs.Zeroing.{zeroed_next}
use Rattle.lowering_steps.specs.Asking.{Acts}
use Rattle.lowering_steps.specs.Operands.{typed_of}
use Rattle.lowering_steps.proofs.lemmas.Stating.{with_block}
use Rattle.statement_steps.specs.Progresses.{Goes}
use Rattle.statement_steps.proofs.lemmas.Zeroing.{zeroes_in_turn}
use Rattle.statement_steps.proofs.zeroing.zero_in_turn.Goals as goal

pub returns : goal.returns
returns c =
    let s = c.args.into.now in
    let s1 = c.new_slot.new.self in
    let s2 = c.new_label.new.self in
    let s3 = c.mark.new.self in
    let t = c.go_on_below.new.into in
    let es = c.store_in.new.self in
    let fs = c.zero_next.new.block in
    let z = c.in_ok-slot.slot in
    let n = c.in_ok-top.top in
    let w = c.args.width in
    let base = typed_of c.args.base in
    let is = to_z-of_z w32 z (search rules) in
    on_ok_weaker c.go_on_below.result (λ last.
    zeroes_in_turn base w c.args.from c.args.to z n s s1 s2 s3 t es fs (record {
      slot = c.in_ok-slot.ensures;
      first = subst (λ (x : Typed). Acts s1.block (λ l. stored_in z x l) es) c.number.ensures (subst (λ (y : ℤ). Acts s1.block (λ l. stored_in y (typed_of c.number.result) l) es) is c.in_ok-store_in.ensures);
      label = c.in_ok-top.ensures;
      mark = c.in_ok-mark.ensures;
      next = subst (λ (y : ℤ). Acts s3.block (λ l. zeroed_next base w y l) fs) is c.in_ok-zero_next.ensures;
      last = subst (λ (y : ℤ). Goes (λ l. branched (compared comparison.Less true true n (slot_read I y) (number true c.args.to)) l) (with_block s3 fs) t) is last;
    })) c.go_on_below.ensures
