use Rattle.std.specs.Prelude.{◌≡◌, ℤ, true, false}
use Rattle.std.proofs.Common.{rules, w32, ap, ◌∙◌, subst}
use Rattle.std.proofs.lemmas.Int.{to_z-of_z}
use Rattle.std.proofs.lemmas.Result.{on_ok_weaker}
use Rattle.op_forest.specs.declared.suffix.Suffix.TheVariants.{I}
use Rattle.c_rows_agree.specs.Integers.{number}
use Rattle.c_rows_agree.specs.Places.{stored_as}
use Rattle.c_rows_agree.specs.Typed.{Typed}
use Rattle.c_pointers_agree.specs.Pointers.{moved}
use Rattle.lowered_forms.specs.Lows.{acted}
use Rattle.lowered_forms.specs.Values.{slot_read}
use Rattle.lowering_steps.specs.Asking.{Acts, Places}
use Rattle.lowering_steps.specs.Operands.{typed_of}
use Rattle.statement_steps.proofs.lemmas.Rooting.{stores_at}
use Rattle.statement_steps.proofs.zeroing.zero_moved.Goals as goal

pub returns : goal.returns
returns c =
    let es = c.args.block.now in
    let fs = c.moved.new.self in
    let gs = c.store.new.self in
    let v = c.in_ok-place.place in
    let w = c.args.width in
    let offset : typed_of c.slot.result ≡ slot_read I c.args.slot = c.slot.ensures ∙ ap (λ (z : ℤ). slot_read I z) (to_z-of_z w32 c.args.slot (search rules)) in
    let place = subst (λ (t : Typed). Places es (moved 1 false (typed_of c.args.base) t) v fs) offset c.in_ok-place.ensures in
    on_ok_weaker c.store.result (λ act.
    stores_at w es fs gs (moved 1 false (typed_of c.args.base) (slot_read I c.args.slot)) (number true 0) v place
    (subst (λ (x : Typed). Acts fs (λ l. acted (stored_as w (typed_of v) x) l) gs) c.number.ensures act)) c.store.ensures
