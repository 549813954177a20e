-- What stands for the relations of states and blocks, and what they refuse.
use Rattle.std.specs.Prelude.{◌≡◌, ◌≤◌, pos, Some, [], ◌∷◌}
use Rattle.std.proofs.Common.{inr, refl, arith}
use Rattle.op_forest.specs.declared.op.Op.TheVariants as op
use Rattle.op_forest.specs.declared.suffix.Suffix.TheVariants.{I}
use Rattle.op_forest.specs.declared.sym.Sym.TheVariants as sym
use Rattle.c_meaning.specs.declared.core_expr.CoreKind.TheVariants as kind
use Rattle.c_meaning.specs.CoreTrees.{two}
use Rattle.c_meaning.specs.Values.{CoreTree}
use Rattle.dag_forest.specs.declared.entry.Entry.TheVariants.{Value}
use Rattle.dag_forest.specs.declared.kids.Kids.TheVariants.{Zero, One}
use Rattle.dag_forest.specs.declared.parts.Parts.{Parts}
use Rattle.dag_forest.specs.Entries.{parts_of}
use Rattle.c_rows_agree.specs.Templates.{Given}
use Rattle.c_rows_agree.specs.Typed.{over}
use Rattle.lowered_forms.specs.Blocks.{IsBlock, IsAnswer}
use Rattle.lowered_forms.specs.Expressions.{low_e}
use Rattle.lowered_forms.specs.Later.{IsLater, GoesOn}
use Rattle.lowered_forms.specs.Lows.{with_label}
use Rattle.lowered_forms.specs.Nodes.{HasNodes}
use Rattle.lowered_forms.specs.Operands.{IsOperand}
use Rattle.lowered_forms.specs.Values.{with_value}
use Rattle.lowered_forms.proofs.examples.Samples.{context, begun, int, tree, x, y, z, read_int, number_of, assign, constant, given}
use Rattle.lowered_forms.proofs.examples.Samples.{over as over_node}
use Rattle.lowered_forms.proofs.lemmas.Adding.{lowering_adds}
use Rattle.lowered_forms.proofs.lemmas.Blocks.{parts_there}
use Rattle.lowered_forms.proofs.lemmas.Going.{straight_goes_on}
use Rattle.lowered_forms.proofs.lemmas.NodesOf.{values_have_nodes}
use Rattle.lowered_forms.proofs.lemmas.Pending.{empty_block}

-- x = 1, and x = y && z
abbrev one_stored : CoreTree
one_stored = assign x (number_of 1)

abbrev both : CoreTree
both = assign x (tree kind.And int (two (read_int y) (read_int z)))

-- ---- states

stored_goes_on : GoesOn 1 begun (low_e context one_stored begun).low
stored_goes_on = straight_goes_on context one_stored refl begun

-- with a root more
not_without_a_root : GoesOn 0 begun (low_e context one_stored begun).low → ⊥
not_without_a_root h = let e : 1 ≤ 0 = h.roots in omega (arith, e)

both_is_later : IsLater begun (low_e context both begun).low
both_is_later = lowering_adds context both begun

-- with a label less
not_with_fewer_labels : IsLater (with_label begun) begun → ⊥
not_with_fewer_labels h = let e : 1 ≤ 0 = h.labels in omega (arith, e)

-- ---- blocks

both_has_nodes : HasNodes (low_e context both begun)
both_has_nodes = values_have_nodes context both begun empty_block

-- the operand isn't there
not_without_operand : IsBlock (over_node op.Indir I (One 0) ∷ []) → ⊥
not_without_operand h = let e = h.formed.0 in omega (arith, e)

-- two nodes are equal
not_with_equals : IsBlock (constant (pos 1) ∷ constant (pos 1) ∷ []) → ⊥
not_with_equals h = let e : 0 ≡ 1 = h.distinct 0 1 _ refl refl in omega (arith, e)

-- the value is no node of the block
not_a_node : HasNodes (with_value (given 0 I) begun) → ⊥
not_a_node h = let e = h.value in omega (arith, e)

-- ---- answers

abbrev parts : Parts
parts = parts_of (record { op = op.Cnst; suffix = I }) Zero sym.Nothing (Some (pos 1))

first_answer : IsAnswer [] parts 0 (Value parts ∷ [])
first_answer = record {
  node = refl;
  again = λ m e. absurd (let never : ⊥ = cc in never);
  added = inr refl;
  distinct = (parts_there parts [] empty_block tt).block.distinct;
}

-- a wrong number
not_the_second : IsAnswer [] parts 1 (Value parts ∷ []) → ⊥
not_the_second h = let e = h.node in let never : ⊥ = cc in never

-- ---- operands

not_an_operand : IsOperand (over op.Indir I (Given 0)) → ⊥
not_an_operand h = h
