use Rattle.std.specs.Prelude.{OnOk, ℤ}
use Rattle.std.proofs.Common.{rules, w32, ap, ◌∙◌, subst}
use Rattle.std.proofs.lemmas.Int.{to_z-of_z}
use Rattle.op_forest.specs.declared.op.Op.TheVariants.{Asgn}
use Rattle.op_forest.specs.declared.suffix.Suffix.TheVariants.{I}
use Rattle.c_rows_agree.specs.Typed.{Typed, head, as_p, as_i}
use Rattle.c_pointers_agree.specs.Pointers.{local}
use Rattle.lowered_forms.specs.Lows.{acted}
use Rattle.lowering_steps.specs.Asking.{Acts}
use Rattle.lowering_steps.specs.Operands.{typed_of}
use Rattle.lowering_steps.proofs.open_block.OpenBlock.store_number_in.Goals as goal

pub returns : goal.returns
returns c = subst (λ (p : Typed). OnOk c.store_number.result (Acts c.args.self.now (λ l. acted (record { head = head Asgn I; left = as_p p; right = as_i (typed_of c.args.value) }) l) c.store_number.new.self)) (c.local.ensures ∙ ap (λ (z : ℤ). local z) (to_z-of_z w32 c.args.offset (search rules))) c.store_number.ensures
