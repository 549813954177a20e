use Rattle.std.specs.Prelude.{ℤ}
use Rattle.std.proofs.Common.{rules, w32, subst, sym}
use Rattle.std.proofs.lemmas.Int.{to_z-of_z}
use Rattle.lowered_forms.specs.Values.{stored_in}
use Rattle.lowering_acts.specs.Sites.{context_of, tree_in}
use Rattle.lowering_steps.specs.Asking.{Acts}
use Rattle.lowering_steps.specs.Operands.{typed_of}
use Rattle.c_lower_stmt.specs.Ways.{KeepsValue}
use Rattle.c_lower_stmt.proofs.lemmas.Choosing.{keeps_value}
use Rattle.c_lower_stmt.proofs.choices.keep_value.Goals as goal

pub returns : goal.returns
returns c =
    let s = context_of c.args.site.now in let e = tree_in c.args.site.now c.args.value.now in let v = c.in_ok-value.value in
    let z = c.in_ok-slot.slot in let exact = to_z-of_z w32 z (search rules) in
    subst (λ (y : ℤ). KeepsValue s e c.args.into.now y c.in_ok-end.end c.new_label.new.self) (sym exact)
    (keeps_value s e z c.in_ok-end.end v c.args.into.now c.lower_value.new.into c.new_slot.new.self c.store_in.new.self c.new_label.new.self c.in_ok-value.ensures c.in_ok-slot.ensures
    (subst (λ (y : ℤ). Acts c.new_slot.new.self.block (λ l. stored_in y (typed_of v) l) c.store_in.new.self) exact c.in_ok-store_in.ensures)
    c.in_ok-end.ensures)
