use Rattle.std.specs.Prelude.{◌≡◌, ℤ, true}
use Rattle.std.proofs.Common.{rules, w32, ap, ◌∙◌}
use Rattle.std.proofs.lemmas.Int.{to_z-of_z}
use Rattle.op_forest.specs.declared.suffix.Suffix.TheVariants.{I}
use Rattle.c_rows_agree.specs.Integers.{compared}
use Rattle.lowered_forms.specs.Values.{slot_read}
use Rattle.lowering_steps.specs.Operands.{typed_of}
use Rattle.statement_steps.proofs.lemmas.Going.{branches_ok}
use Rattle.statement_steps.proofs.tests.compare.Goals as goal

pub returns : goal.returns
returns c =
    let number : typed_of c.slot-number.result ≡ slot_read I c.args.choice.slot = c.slot-number.ensures ∙ ap (λ (z : ℤ). slot_read I z) (to_z-of_z w32 c.args.choice.slot (search rules)) in
    branches_ok c.end.result _ _ c.args.into.now c.compare.new.self c.end.new.self
    (λ i. compared c.args.comparison c.args.choice.signed true c.args.label (number i) (c.number-other.ensures i)) c.in_ok-compare.ensures c.end.ensures
