-- What expressions come to when they are lowered: an operand for what uses their values, and how far the function is lowered then. An
-- operand that the open block computes is a node of it; an address or a constant is asked for where it is used.
-- Source: Fraser and Hanson, A Retargetable C Compiler, chapters 5 and 12.
use Rattle.std.specs.Prelude.{ℕ, ℤ, Bool, true, false}
use Rattle.objects.specs.declared.width.Width.TheVariants.{Four}
use Rattle.op_forest.specs.declared.op.Op.TheVariants as op
use Rattle.op_forest.specs.declared.suffix.Suffix.{Suffix}
use Rattle.op_forest.specs.declared.suffix.Suffix.TheVariants.{I, P}
use Rattle.c_meaning.specs.Values.{CoreTree}
use Rattle.c_rows_agree.specs.Templates.{Template, Given, Leaf, One, Two}
use Rattle.c_rows_agree.specs.Typed.{Typed, over}
use Rattle.c_rows_agree.specs.Integers.{number}
use Rattle.c_rows_agree.specs.Places.{loaded_pointer, stored_as}
use Rattle.c_pointers_agree.specs.Pointers.{local}
use Rattle.lowered_forms.specs.Asked.{Asked, asked}
use Rattle.lowered_forms.specs.Lows.{Low, with_entries, acted, slot_offset, with_slot}
use Rattle.lowered_forms.specs.Straight.{straight}

pub record Lowered : Type 0 where
  pub value : Typed
  pub low : Low

-- a part of an expression: what it comes to; and what a jump to a label where its truth is so comes to
pub record Part : Type 0 where
  pub tree : CoreTree
  pub value : Low → Lowered
  pub test : ℕ → Bool → Low → Low

abbrev pub with_value : Typed → Low → Lowered
with_value a l = record { value = a; low = l }

abbrev pub then_low : Lowered → (Typed → Low → Lowered) → Lowered
then_low r go = go r.value r.low

-- what has no value, and what no checked unit holds
abbrev pub nothing : Low → Lowered
nothing l = with_value (number true 0) l

-- ---- a template becomes a node

abbrev pub as_node : Suffix → Asked → Low → Lowered
as_node s a l = with_value (record { tree = Given a.node; suffix = s }) (with_entries a.entries l)

abbrev pub placed_tree : Suffix → Template → Low → Lowered
placed_tree s (Given n) l = with_value (record { tree = Given n; suffix = s }) l
placed_tree s (Leaf h) l = with_value (record { tree = Leaf h; suffix = s }) l
placed_tree s (One h a) l = as_node s (asked (One h a) l.entries) l
placed_tree s (Two h a b) l = as_node s (asked (Two h a b) l.entries) l

abbrev pub placed : Typed → Low → Lowered
placed a l = placed_tree a.suffix a.tree l

-- ---- values in slots

-- what a slot holds, a pointer or a number
abbrev pub slot_read : Suffix → ℤ → Typed
slot_read P z = loaded_pointer (local z)
slot_read s z = record { tree = over op.Indir I (local z).tree; suffix = I }

abbrev pub stored_in : ℤ → Typed → Low → Low
stored_in z a l = acted (stored_as Four (local z) a) l

-- a node is stored in a new slot, and read behind what follows
abbrev pub saved : Typed → Low → Lowered
saved a l = with_value (slot_read a.suffix (slot_offset l)) (stored_in (slot_offset l) a (with_slot l))

abbrev pub saved_tree : Template → Typed → Low → Lowered
saved_tree (Given n) a l = saved a l
saved_tree t a l = with_value a l

-- an operand that waits for another one, by whether that is straight
abbrev pub held : Bool → Typed → Low → Lowered
held true a l = with_value a l
held false a l = saved_tree a.tree a l

-- two operands, from left to right
abbrev pub of_two : Part → Part → Low → (Typed → Typed → Low → Lowered) → Lowered
of_two a b l go =
    then_low (a.value l) (λ v l1. then_low (held (straight b.tree) v l1) (λ x l2. then_low (b.value l2) (λ y l3. go x y l3)))
