-- Parts of the templates of bit-fields.
-- Source: Fraser and Hanson, A Retargetable C Compiler, chapter 5 and 9.
use Rattle.std.specs.Prelude.{ℕ, List}
use Rattle.lcc_base.specs.declared.order.Order.{Order}
use Rattle.objects.specs.declared.field.Field.{Field}
use Rattle.op_forest.specs.declared.op.Op.TheVariants as op
use Rattle.op_forest.specs.declared.suffix.Suffix.TheVariants.{U}
use Rattle.dag_forest.specs.declared.entry.Entry.{Entry}
use Rattle.c_match_fields.specs.Fields.{other_bits}
use Rattle.c_rows_agree.specs.Templates.{Template}
use Rattle.c_rows_agree.specs.Typed.{Typed, over_two, constant_u}
use Rattle.c_rows_agree.specs.Places.{unit_stored, lowered_by}
use Rattle.lowering_steps.specs.declared.operand.Operand.{Operand}
use Rattle.lowering_steps.specs.Asking.{Asks, Places}

-- the unit at a place without the field's bits
abbrev pub unit_without : Order → Field → Typed → Template
unit_without order f a = over_two op.Band U (unit_stored a) (constant_u (other_bits order f))

-- Where the node is what a template comes to, the operand is what the field's bits come to that stand at the top of it.
abbrev pub LowersTop : Field → List Entry → ℕ → Operand → List Entry → Type 0
LowersTop f old n v new = (t : Template) (es : List Entry) → Asks es t n old → Places es (lowered_by f.signed f t) v new
