-- What an expression comes to is an operand.
use Rattle.std.specs.Prelude.{ℕ, nat_lt, Bool, true, false, List, [], ◌∷◌}
use Rattle.lcc_base.specs.declared.order.Order.{Order}
use Rattle.op_forest.specs.declared.suffix.Suffix.{Suffix}
use Rattle.op_forest.specs.declared.suffix.Suffix.TheVariants.{I}
use Rattle.c_types.specs.CType.{CType}
use Rattle.c_meaning.specs.declared.core_expr.Conversion.TheVariants as to
use Rattle.c_meaning.specs.declared.core_expr.CoreKind.{CoreKind}
use Rattle.c_meaning.specs.declared.core_expr.CoreKind.TheVariants as kind
use Rattle.c_meaning.specs.CoreTrees.{Core, NoCore, Cores, type_of}
use Rattle.c_meaning.specs.Scalars.{is_signed}
use Rattle.c_meaning.specs.Types.{is_void, is_pointer, is_record}
use Rattle.c_meaning.specs.declared.core_expr.Change.{Change}
use Rattle.c_meaning.specs.Values.{CoreTree, CoreTrees}
use Rattle.c_runs.specs.Places.{Spot, spot_of}
use Rattle.c_rows_agree.specs.Templates.{Template, Given, Leaf, One, Two}
use Rattle.c_rows_agree.specs.Typed.{Typed}
use Rattle.c_rows_agree.specs.Integers.{number, converted_to, as_pointer, unary_of, binary_of}
use Rattle.c_pointers_agree.specs.Pointers.{moved_among, difference}
use Rattle.lowered_forms.specs.Accesses.{read, kept, copied}
use Rattle.lowered_forms.specs.Conditionals.{sort_of, sort_read, both_ways}
use Rattle.lowered_forms.specs.Places.{local_place, room_of, further}
use Rattle.lowered_forms.specs.Straight.{straight}
use Rattle.lowered_forms.specs.Tests.{truth_in, truth_of}
use Rattle.lowered_forms.specs.Calls.{given_by, made, called, call_stored, result_suffix, all_passed, with_arguments, first_passed}
use Rattle.lowered_forms.specs.Changes.{assigned_by, changed, changed_at, new_given, old_given}
use Rattle.lowered_forms.specs.Contexts.{Context}
use Rattle.lowered_forms.specs.Expressions.{comma_from, plain_row, tested_row, row, low_e, low_test, parts_of}
use Rattle.lowered_forms.specs.Lows.{Low, acted, with_label, with_slot, slot_offset}
use Rattle.lowered_forms.specs.Operands.{IsOperand}
use Rattle.lowered_forms.specs.Values.{Lowered, Part, placed_tree, placed, held, of_two, slot_read}

placed_tree_is : (s : Suffix) (t : Template) (l : Low) → IsOperand (placed_tree s t l).value.tree
placed_tree_is s (Given n) l = tt
placed_tree_is s (Leaf h) l = tt
placed_tree_is s (One h a) l = tt
placed_tree_is s (Two h a b) l = tt

pub placed_is : (a : Typed) (l : Low) → IsOperand (placed a l).value.tree
placed_is a l = placed_tree_is a.suffix a.tree l

two_is : (a b : Part) (go : Typed → Typed → Low → Lowered) → ((v w : Typed) (l : Low) → IsOperand (go v w l).value.tree) → (l : Low) → IsOperand (of_two a b l go).value.tree
two_is a b go h l =
    let x = held (straight b.tree) (a.value l).value (a.value l).low in
    let y = b.value x.low in
    h x.value y.value y.low

number_is : (signed : Bool) (n : ℕ) → IsOperand (number signed n).tree
number_is true n = tt
number_is false n = tt

assigned_is : (b : Bool) (s : Context) (of : CType) (x : Spot) (p v : Typed) (l : Low) → IsOperand (assigned_by b s of x p v l).value.tree
assigned_is true s of x p v l = placed_is p (copied s.unit.tags of p v l)
assigned_is false s of x p v l = placed_is (kept x v) l

changed_is : (order : Order) (by : Change) (x : Spot) (p v : Typed) (l : Low) → IsOperand (changed_at order by x new_given p v l).value.tree
changed_is order by x p v l =
    let old = placed (read order x p) l in
    let new = placed (changed by x old.value v) old.low in
    placed_is (kept x new.value) new.low

old_is : (order : Order) (by : Change) (x : Spot) (p v : Typed) (l : Low) → IsOperand (changed_at order by x old_given p v l).value.tree
old_is order by x p v l = placed_is (read order x p) l

given_is : (b void : Bool) (s : Context) (of : CType) (n : ℕ) (f : Typed) (vs : List Typed) (l : Low) → IsOperand (given_by b void s of n f vs l).value.tree
given_is true void s of n f vs l = placed_is (local_place s n of) (called f (all_passed (local_place s n of ∷ vs) l))
given_is false true s of n f vs l = tt
given_is false false s of n f vs l = placed_is (slot_read (result_suffix (is_pointer of)) (slot_offset l)) (acted (call_stored (slot_offset l) f) (all_passed vs (with_slot l)))

made_is : (s : Context) (of : CType) (n : ℕ) (vs : List Typed) (l : Low) → IsOperand (made s of n vs l).value.tree
made_is s of n [] l = tt
made_is s of n (f ∷ vs) l = given_is (is_record of) (is_void of) s of n f vs l

abbrev AreOperands : Context → CoreTrees → Type 0
AreOperands s NoCore = Unit {0}
AreOperands s (Cores c cs) = ((l : Low) → IsOperand (low_e s c l).value.tree) × AreOperands s cs

abbrev part : Context → CoreTree → Part
part s c = record { tree = c; value = λ l. low_e s c l; test = λ n when l. low_test s c n when l }

comma_is : (s : Context) (a : CoreTree) (cs : CoreTrees) → ((l : Low) → IsOperand (low_e s a l).value.tree) → AreOperands s cs → (l : Low) → IsOperand (comma_from (part s a) (parts_of s cs) l).value.tree
comma_is s a NoCore f h l = f l
comma_is s a (Cores b cs) f h l = comma_is s b cs h.0 h.1 (low_e s a l).low

plain_is : (s : Context) (what : CoreKind) (of : CType) (kids : CoreTrees) → AreOperands s kids → (l : Low) → IsOperand (plain_row s what of (parts_of s kids) l).value.tree
plain_is s (kind.Local n register) of NoCore h l = placed_is (local_place s n of) l
plain_is s (kind.Object n) of NoCore h l = tt
plain_is s (kind.Text n) of NoCore h l = tt
plain_is s (kind.Function n) of NoCore h l = tt
plain_is s (kind.BuiltIn b) of NoCore h l = tt
plain_is s (kind.Number n) of NoCore h l = number_is (is_signed of) n
plain_is s kind.Pointed of (Cores a NoCore) h l = h.0 l
plain_is s (kind.Member offset first width) of (Cores a NoCore) h l = placed_is (further (nat_lt offset (room_of s a)) offset (low_e s a l).value) (low_e s a l).low
plain_is s kind.Read of (Cores a NoCore) h l = placed_is (read s.order (spot_of a) (low_e s a l).value) (low_e s a l).low
plain_is s kind.Address of (Cores a NoCore) h l = h.0 l
plain_is s kind.First of (Cores a NoCore) h l = h.0 l
plain_is s (kind.Convert to.Void) of (Cores a NoCore) h l = tt
plain_is s (kind.Convert to.Pointer) of (Cores a NoCore) h l = placed_is (as_pointer (low_e s a l).value) (low_e s a l).low
plain_is s (kind.Convert (to.Integer x)) of (Cores a NoCore) h l = placed_is (converted_to x (low_e s a l).value) (low_e s a l).low
plain_is s (kind.Unary o) of (Cores a NoCore) h l = placed_is (unary_of o (low_e s a l).value) (low_e s a l).low
plain_is s (kind.Binary o signed) of (Cores a (Cores b NoCore)) h l = two_is (part s a) (part s b) (λ v w l1. placed (binary_of o signed v w) l1) (λ v w l1. placed_is (binary_of o signed v w) l1) l
plain_is s (kind.Move size back) of (Cores a (Cores b NoCore)) h l =
    two_is (part s a) (part s b) (λ v w l1. placed (moved_among size back (is_pointer (type_of a)) v w) l1) (λ v w l1. placed_is (moved_among size back (is_pointer (type_of a)) v w) l1) l
plain_is s (kind.Difference size) of (Cores a (Cores b NoCore)) h l = two_is (part s a) (part s b) (λ v w l1. placed (difference size v w) l1) (λ v w l1. placed_is (difference size v w) l1) l
plain_is s kind.Conditional of (Cores a (Cores b (Cores c NoCore))) h l =
    placed_is (sort_read (sort_of of) (slot_offset l)) (both_ways (sort_of of) (slot_offset l) (part s a) (part s b) (part s c) l.labels (with_label (with_slot l)).labels (with_label (with_label (with_slot l))))
plain_is s kind.Comma of (Cores a cs) h l = comma_is s a cs h.0 h.1 l
plain_is s kind.Assign of (Cores a (Cores b NoCore)) h l =
    two_is (part s a) (part s b) (λ p v l1. assigned_by (is_record of) s of (spot_of a) p v l1) (λ p v l1. assigned_is (is_record of) s of (spot_of a) p v l1) l
plain_is s (kind.Change by) of (Cores a (Cores b NoCore)) h l =
    two_is (part s a) (part s b) (λ p v l1. changed_at s.order by (spot_of a) new_given p v l1) (λ p v l1. changed_is s.order by (spot_of a) p v l1) l
plain_is s (kind.Postfix by) of (Cores a (Cores b NoCore)) h l =
    two_is (part s a) (part s b) (λ p v l1. changed_at s.order by (spot_of a) old_given p v l1) (λ p v l1. old_is s.order by (spot_of a) p v l1) l
plain_is s (kind.Call n) of (Cores f cs) h l =
    let p = with_arguments s (parts_of s cs) (first_passed n (low_e s f l)) in
    made_is s of p.next p.values p.low
plain_is s what of kids h l = tt

truth_is : (test : ℕ → Bool → Low → Low) (l : Low) → IsOperand (truth_of test l).value.tree
truth_is test l = placed_is (slot_read I (slot_offset l)) (truth_in test (slot_offset l) (with_slot l))

row_is : (s : Context) (what : CoreKind) (of : CType) (kids : CoreTrees) → AreOperands s kids → (l : Low) → IsOperand (row s what of (parts_of s kids) l).value.tree
row_is s kind.Not of kids h l = truth_is (λ n when l1. tested_row s kind.Not of (parts_of s kids) n when l1) l
row_is s kind.And of kids h l = truth_is (λ n when l1. tested_row s kind.And of (parts_of s kids) n when l1) l
row_is s kind.Or of kids h l = truth_is (λ n when l1. tested_row s kind.Or of (parts_of s kids) n when l1) l
row_is s (kind.Compare o signed) of kids h l = truth_is (λ n when l1. tested_row s (kind.Compare o signed) of (parts_of s kids) n when l1) l
row_is s what of kids h l = plain_is s what of kids h l

mutual
  pub value_is : (s : Context) (e : CoreTree) (l : Low) → IsOperand (low_e s e l).value.tree
  value_is s (Core what of line kids) l = row_is s what of kids (values_are s kids) l

  values_are : (s : Context) (cs : CoreTrees) → AreOperands s cs
  values_are s NoCore = tt
  values_are s (Cores c cs) = (λ l. value_is s c l, values_are s cs)
