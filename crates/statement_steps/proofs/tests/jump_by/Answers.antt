use Rattle.std.proofs.lemmas.Result.{on_ok_weaker}
use Rattle.std.specs.Prelude.{◌≡◌, ℤ, pos, false}
use Rattle.std.proofs.Common.{rules, w32, ap, ◌∙◌, subst}
use Rattle.std.proofs.lemmas.Int.{to_z-of_z}
use Rattle.objects.specs.declared.operators.Binary.TheVariants as binary
use Rattle.op_forest.specs.declared.op.Op.TheVariants as op
use Rattle.op_forest.specs.declared.suffix.Suffix.TheVariants.{I, V}
use Rattle.c_rows_agree.specs.Integers.{binary_of, number as number_of}
use Rattle.c_rows_agree.specs.Places.{loaded_pointer}
use Rattle.c_rows_agree.specs.Typed.{Typed, head}
use Rattle.c_pointers_agree.specs.Pointers.{moved, name}
use Rattle.lowered_forms.specs.Lows.{acted_one}
use Rattle.lowered_forms.specs.Values.{slot_read}
use Rattle.lowering_steps.specs.Asking.{Acts, Asks, Places}
use Rattle.lowering_steps.specs.Operands.{typed_of}
use Rattle.statement_steps.specs.Sides.{choice_of}
use Rattle.statement_steps.proofs.lemmas.Rooting.{jumps_by}
use Rattle.statement_steps.proofs.tests.jump_by.Goals as goal

pub returns : goal.returns
returns c =
    let h = head op.Jump V in
    let x = choice_of c.args.choice in
    let es = c.args.block.now in
    let fs = c.operand.new.self in
    let gs = c.binary.new.self in
    let number : typed_of c.slot-number.result ≡ slot_read I x.slot = c.slot-number.ensures ∙ ap (λ (z : ℤ). slot_read I z) (to_z-of_z w32 c.args.choice.slot (search rules)) in
    let index = subst (λ (t : Typed). Places fs t c.in_ok-index.index gs) (λ i. binary_of binary.Subtract x.signed (number i) (c.number-first.ensures i)) c.in_ok-index.ensures in
    let table = subst (λ (t : Typed). Asks es t.tree c.in_ok-table.table fs) c.name.ensures c.in_ok-table.ensures in
    on_ok_weaker c.jump_at.result (λ act.
    jumps_by h es fs gs c.jump_at.new.block (name c.args.name (pos 0)).tree (binary_of binary.Subtract x.signed (slot_read I x.slot) (number_of x.signed c.args.low)) c.in_ok-table.table c.in_ok-index.index table index
    (subst (λ (t : Typed). Acts gs (λ l. acted_one h (loaded_pointer (moved 4 false t (typed_of c.in_ok-index.index))).tree l) c.jump_at.new.block) c.node.ensures act)) c.jump_at.ensures
