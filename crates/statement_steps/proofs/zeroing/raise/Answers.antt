use Rattle.std.specs.Prelude.{◌≡◌, ℤ, true}
use Rattle.std.proofs.Common.{rules, w32, ap, ◌∙◌, subst}
use Rattle.std.proofs.lemmas.Int.{to_z-of_z}
use Rattle.std.proofs.lemmas.Result.{on_ok_weaker}
use Rattle.objects.specs.declared.operators.Binary.TheVariants as binary
use Rattle.objects.specs.declared.width.Width.TheVariants.{Four}
use Rattle.objects.specs.Values.{bytes_in}
use Rattle.op_forest.specs.declared.suffix.Suffix.TheVariants.{I}
use Rattle.c_rows_agree.specs.Integers.{binary_of, number}
use Rattle.c_rows_agree.specs.Places.{stored_as}
use Rattle.c_rows_agree.specs.Typed.{Typed}
use Rattle.c_pointers_agree.specs.Pointers.{local}
use Rattle.lowered_forms.specs.Lows.{acted}
use Rattle.lowered_forms.specs.Values.{slot_read}
use Rattle.lowering_steps.specs.Asking.{Acts, Asks, Places}
use Rattle.lowering_steps.specs.Operands.{typed_of}
use Rattle.statement_steps.proofs.lemmas.Rooting.{stores_behind}
use Rattle.statement_steps.proofs.zeroing.raise.Goals as goal

pub returns : goal.returns
returns c =
    let es = c.args.block.now in
    let fs = c.operand.new.self in
    let gs = c.binary.new.self in
    let hs = c.store.new.self in
    let z = c.args.slot in
    let is = to_z-of_z w32 z (search rules) in
    let next = binary_of binary.Add true (slot_read I z) (number true (bytes_in c.args.width)) in
    let slot : typed_of c.slot.result ≡ slot_read I z = c.slot.ensures ∙ ap (λ (y : ℤ). slot_read I y) is in
    let step : typed_of c.number-step.result ≡ number true (bytes_in c.args.width) = c.number-step.ensures ∙ ap (number true) c.bytes.ensures.is in
    let place = subst (λ (t : Typed). Asks es t.tree c.in_ok-place.place fs) (c.local.ensures ∙ ap (λ (y : ℤ). local y) is) c.in_ok-place.ensures in
    let value = subst (λ (t : Typed). Places fs t c.in_ok-next.next gs) (λ i. binary_of binary.Add true (slot i) (step i)) c.in_ok-next.ensures in
    on_ok_weaker c.store.result (λ act.
    stores_behind Four es fs gs hs (local z).tree next.tree c.in_ok-place.place c.in_ok-next.next place value
    (subst (λ (t : Typed). Acts gs (λ l. acted (stored_as Four t (typed_of c.in_ok-next.next)) l) hs) c.node.ensures act)) c.store.ensures
