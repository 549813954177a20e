use Rattle.std.specs.Prelude.{OnOk, ℤ}
use Rattle.std.proofs.Common.{rules, w32, ap, ◌∙◌, subst}
use Rattle.std.proofs.lemmas.Int.{to_z-of_z}
use Rattle.op_forest.specs.declared.op.Op.TheVariants.{Asgn}
use Rattle.op_forest.specs.declared.suffix.Suffix.TheVariants.{P}
use Rattle.c_rows_agree.specs.Typed.{Typed, head, as_p}
use Rattle.c_pointers_agree.specs.Pointers.{local}
use Rattle.lowered_forms.specs.Lows.{acted}
use Rattle.lowering_steps.specs.Asking.{Acts}
use Rattle.lowering_steps.specs.Operands.{typed_of}
use Rattle.lowering_steps.proofs.open_block.OpenBlock.store_pointer_in.Goals as goal

pub returns : goal.returns
returns c = subst (λ (p : Typed). OnOk c.store_pointer.result (Acts c.args.self.now (λ l. acted (record { head = head Asgn P; left = as_p p; right = as_p (typed_of c.args.value) }) l) c.store_pointer.new.self)) (c.local.ensures ∙ ap (λ (z : ℤ). local z) (to_z-of_z w32 c.args.offset (search rules))) c.store_pointer.ensures
