-- Templates of operations name no label, if their operands name none.
use Rattle.std.specs.Prelude.{ℕ, zero, suc, ◌==◌, ℤ, pos, negsuc, Bool, true, false, Option, Some, None, if◌then◌else◌}
use Rattle.lcc_base.specs.declared.order.Order.{Order}
use Rattle.objects.specs.declared.field.Field.{Field}
use Rattle.objects.specs.declared.operators.Unary.{Unary}
use Rattle.objects.specs.declared.operators.Unary.TheVariants as unary
use Rattle.objects.specs.declared.operators.Binary.{Binary}
use Rattle.objects.specs.declared.width.Width.{Width}
use Rattle.objects.specs.declared.width.Width.TheVariants as width
use Rattle.objects.specs.declared.width.Scalar.{Scalar}
use Rattle.op_forest.specs.Nodes.{Head}
use Rattle.op_forest.specs.declared.op.Op.{Op}
use Rattle.op_forest.specs.declared.op.Op.TheVariants as op
use Rattle.op_forest.specs.declared.suffix.Suffix.{Suffix}
use Rattle.op_forest.specs.declared.suffix.Suffix.TheVariants.{C, S, I, U, P, B, V}
use Rattle.op_forest.specs.declared.sym.Sym.{Sym}
use Rattle.op_forest.specs.declared.sym.Sym.TheVariants as sym
use Rattle.c_meaning.specs.declared.core_expr.Change.{Change}
use Rattle.c_meaning.specs.declared.core_expr.Change.TheVariants as change
use Rattle.c_meaning.specs.Scalars.{scalar_of}
use Rattle.c_meaning.specs.Types.{is_pointer}
use Rattle.c_runs.specs.Places.{Spot, is_field, field_of}
use Rattle.c_rows_agree.specs.Templates.{Template, Given, Leaf, One, Two}
use Rattle.c_rows_agree.specs.Typed.{Typed, as_i_from, as_u_from, as_p_from, as_i, as_p, as_by}
use Rattle.c_rows_agree.specs.Integers.{number, integer_from, narrow_from, converted_by, unary_of, binary_of, has_sign, right_sign}
use Rattle.c_rows_agree.specs.Places.{loaded_by, lowered_by, field_value_by, field_bits, word_stored, stored_by}
use Rattle.c_pointers_agree.specs.Pointers.{Scaling, Single, Shifted, Multiplied, scaling_of, scaled_by, moved, moved_among, displaced, between, difference}
use Rattle.lowered_forms.specs.Accesses.{scalar_read, read_by, kept_by, written_by}
use Rattle.lowered_forms.specs.Changes.{changed}
use Rattle.lowered_forms.specs.Places.{address_at, local_by, name_further, local_further, leaf_further, tree_further, further}
use Rattle.lowered_forms.specs.Values.{slot_read}

-- no operator names a label
abbrev pub IsPlainSym : Sym → Type 0
IsPlainSym (sym.Label l) = ⊥
IsPlainSym x = Unit {0}

abbrev pub plain_with : Sym → Type 0 → Type 0
plain_with (sym.Label l) A = ⊥
plain_with sym.Nothing A = A
plain_with (sym.Global n z) A = A
plain_with (sym.Block size align) A = A

abbrev pub IsPlain : Template → Type 0
IsPlain (Given n) = Unit {0}
IsPlain (Leaf x) = IsPlainSym x.sym
IsPlain (One x a) = plain_with x.sym (IsPlain a)
IsPlain (Two x a b) = plain_with x.sym (IsPlain a × IsPlain b)

abbrev pub IsPlainValue : Typed → Type 0
IsPlainValue a = IsPlain a.tree

-- ---- suffixes

pub as_i_in : (s : Suffix) (t : Template) → IsPlain t → IsPlain (as_i_from s t)
as_i_in C t h = h
as_i_in S t h = h
as_i_in I t h = h
as_i_in U t h = h
as_i_in P t h = h
as_i_in B t h = h
as_i_in V t h = h

pub as_u_in : (s : Suffix) (t : Template) → IsPlain t → IsPlain (as_u_from s t)
as_u_in C t h = h
as_u_in S t h = h
as_u_in I t h = h
as_u_in U t h = h
as_u_in P t h = h
as_u_in B t h = h
as_u_in V t h = h

pub as_p_in : (s : Suffix) (t : Template) → IsPlain t → IsPlain (as_p_from s t)
as_p_in C t h = h
as_p_in S t h = h
as_p_in I t h = h
as_p_in U t h = h
as_p_in P t h = h
as_p_in B t h = h
as_p_in V t h = h

pub narrow_in : (x s : Suffix) (t : Template) → IsPlain t → IsPlain (narrow_from x s t)
narrow_in C s t h = h
narrow_in S s t h = h
narrow_in I s t h = h
narrow_in U s t h = h
narrow_in P s t h = h
narrow_in B s t h = h
narrow_in V s t h = h

pub integer_in : (s : Suffix) (t : Template) → IsPlain t → IsPlain (integer_from s t).tree
integer_in C t h = h
integer_in S t h = h
integer_in I t h = h
integer_in U t h = h
integer_in P t h = h
integer_in B t h = h
integer_in V t h = h

pub slot_in : (x : Suffix) (z : ℤ) → IsPlainValue (slot_read x z)
slot_in C z = tt
slot_in S z = tt
slot_in I z = tt
slot_in U z = tt
slot_in P z = tt
slot_in B z = tt
slot_in V z = tt

pub word_left : (s : Suffix) (a t : Template) → IsPlain a → IsPlain (word_stored s a t).left
word_left C a t h = h
word_left S a t h = h
word_left I a t h = h
word_left U a t h = h
word_left P a t h = h
word_left B a t h = h
word_left V a t h = h

pub word_right : (s : Suffix) (a t : Template) → IsPlain t → IsPlain (word_stored s a t).right
word_right C a t h = h
word_right S a t h = h
word_right I a t h = h
word_right U a t h = h
word_right P a t h = h
word_right B a t h = h
word_right V a t h = h

pub as_by_in : (b : Bool) (a : Typed) → IsPlainValue a → IsPlain (as_by b a)
as_by_in true a h = as_i_in a.suffix a.tree h
as_by_in false a h = as_u_in a.suffix a.tree h

-- ---- numbers

pub number_in : (signed : Bool) (m : ℕ) → IsPlainValue (number signed m)
number_in true m = tt
number_in false m = tt

pub converted_in : (w : Width) (signed : Bool) (a : Typed) → IsPlainValue a → IsPlainValue (converted_by w signed a)
converted_in width.One signed a h = narrow_in a.suffix C a.tree h
converted_in width.Two signed a h = narrow_in a.suffix S a.tree h
converted_in width.Four signed a h = integer_in a.suffix a.tree h

pub unary_in : (o : Unary) (a : Typed) → IsPlainValue a → IsPlainValue (unary_of o a)
unary_in unary.Plus a h = h
unary_in unary.Negate a h = as_i_in a.suffix a.tree h
unary_in unary.Complement a h = as_u_in a.suffix a.tree h

pub binary_in : (o : Binary) (signed : Bool) (a b : Typed) → IsPlainValue a → IsPlainValue b → IsPlainValue (binary_of o signed a b)
binary_in o signed a b f g = (as_by_in (has_sign signed o) a f, as_by_in (right_sign signed o) b g)

-- ---- pointers

scaled_in : (k : Scaling) (t : Template) → IsPlain t → IsPlain (scaled_by k t)
scaled_in Single t h = h
scaled_in (Shifted count) t h = (h, tt)
scaled_in (Multiplied size) t h = (h, tt)

pub moved_in : (size : ℕ) (back : Bool) (p q : Typed) → IsPlainValue p → IsPlainValue q → IsPlainValue (moved size back p q)
moved_in size back p q f g = (as_p_in p.suffix p.tree f, scaled_in (scaling_of size) (as_i q) (as_i_in q.suffix q.tree g))

pub among_in : (size : ℕ) (back b : Bool) (p q : Typed) → IsPlainValue p → IsPlainValue q → IsPlainValue (moved_among size back b p q)
among_in size back true p q f g = moved_in size back p q f g
among_in size back false p q f g = moved_in size back q p g f

either_in : (b : Bool) (x y : Typed) → IsPlainValue x → IsPlainValue y → IsPlainValue (if b then x else y)
either_in true x y f g = f
either_in false x y f g = g

pub difference_in : (size : ℕ) (p q : Typed) → IsPlainValue p → IsPlainValue q → IsPlainValue (difference size p q)
difference_in size p q f g =
    let h : IsPlainValue (between p q) = (as_u_in p.suffix p.tree f, as_u_in q.suffix q.tree g) in
    either_in (size == 1) (between p q) _ h (as_i_in U (between p q).tree h, tt)

displaced_in : (by : ℕ) (p : Typed) → IsPlainValue p → IsPlainValue (displaced by p)
displaced_in zero p h = h
displaced_in (suc by) p h = (as_p_in p.suffix p.tree h, tt)

name_in : (x : Sym) (by : ℕ) (p : Typed) → IsPlainValue p → IsPlainValue (name_further x by p)
name_in sym.Nothing by p h = displaced_in by p h
name_in (sym.Global m z) by p h = tt
name_in (sym.Label l) by p h = displaced_in by p h
name_in (sym.Block size align) by p h = displaced_in by p h

local_further_in : (z : Option ℤ) (by : ℕ) (p : Typed) → IsPlainValue p → IsPlainValue (local_further z by p)
local_further_in None by p h = displaced_in by p h
local_further_in (Some z) by p h = tt

leaf_in : (o : Op) (x : Head) (by : ℕ) (p : Typed) → IsPlainValue p → IsPlainValue (leaf_further o x by p)
leaf_in op.Addrg x by p h = name_in x.sym by p h
leaf_in op.Addrl x by p h = local_further_in x.value by p h
leaf_in o x by p h = displaced_in by p h

tree_in : (t : Template) (by : ℕ) (p : Typed) → IsPlainValue p → IsPlainValue (tree_further t by p)
tree_in (Given m) by p h = displaced_in by p h
tree_in (Leaf x) by p h = leaf_in x.operator.op x by p h
tree_in (One x a) by p h = displaced_in by p h
tree_in (Two x a b) by p h = displaced_in by p h

pub further_in : (b : Bool) (by : ℕ) (p : Typed) → IsPlainValue p → IsPlainValue (further b by p)
further_in true by p h = tree_in p.tree by p h
further_in false by p h = displaced_in by p h

address_in : (z : ℤ) → IsPlainValue (address_at z)
address_in (pos m) = tt
address_in (negsuc m) = tt

loaded_address : (z : ℤ) → IsPlainValue (local_by true (Some z))
loaded_address (pos m) = tt
loaded_address (negsuc m) = tt

pub local_in : (b : Bool) (z : Option ℤ) → IsPlainValue (local_by b z)
local_in true None = tt
local_in false None = tt
local_in true (Some z) = loaded_address z
local_in false (Some z) = address_in z

-- ---- reads and writes

lowered_in : (b : Bool) (f : Field) (t : Template) → IsPlain t → IsPlainValue (lowered_by b f t)
lowered_in true f t h = (h, tt)
lowered_in false f t h = (h, tt)

loaded_in : (w : Width) (signed : Bool) (t : Template) → IsPlain t → IsPlainValue (loaded_by w signed t)
loaded_in width.One signed t h = h
loaded_in width.Two signed t h = h
loaded_in width.Four signed t h = h

scalar_in : (b : Bool) (x : Scalar) (p : Typed) → IsPlainValue p → IsPlainValue (scalar_read b x p)
scalar_in true x p h = as_p_in p.suffix p.tree h
scalar_in false x p h = loaded_in x.width x.signed (as_p p) (as_p_in p.suffix p.tree h)

read_by_in : (b : Bool) (order : Order) (x : Spot) (p : Typed) → IsPlainValue p → IsPlainValue (read_by b order x p)
read_by_in true order x p h = lowered_in (field_of x).signed (field_of x) _ (as_p_in p.suffix p.tree h, tt)
read_by_in false order x p h = scalar_in (is_pointer x.of) (scalar_of x.of) p h

pub read_in : (order : Order) (x : Spot) (p : Typed) → IsPlainValue p → IsPlainValue (read_by (is_field x) order x p)
read_in order x p h = read_by_in (is_field x) order x p h

field_value_in : (b : Bool) (f : Field) (v : Typed) → IsPlainValue v → IsPlainValue (field_value_by b f v)
field_value_in true f v h = ((as_i_in v.suffix v.tree h, tt), tt)
field_value_in false f v h = (as_u_in v.suffix v.tree h, tt)

pub kept_in_block : (b : Bool) (x : Spot) (v : Typed) → IsPlainValue v → IsPlainValue (kept_by b x v)
kept_in_block true x v h = field_value_in (field_of x).signed (field_of x) v h
kept_in_block false x v h = h

bits_in : (b : Bool) (order : Order) (f : Field) (v : Typed) → IsPlainValue v → IsPlain (field_bits b order f v)
bits_in true order f v h = ((as_i_in v.suffix v.tree h, tt), tt)
bits_in false order f v h = ((as_u_in v.suffix v.tree h, tt), tt)

stored_left : (w : Width) (a : Template) (b : Typed) → IsPlain a → IsPlain (stored_by w a b).left
stored_left width.One a b h = h
stored_left width.Two a b h = h
stored_left width.Four a b h = word_left b.suffix a b.tree h

stored_right : (w : Width) (a : Template) (b : Typed) → IsPlainValue b → IsPlain (stored_by w a b).right
stored_right width.One a b h = narrow_in b.suffix C b.tree h
stored_right width.Two a b h = narrow_in b.suffix S b.tree h
stored_right width.Four a b h = word_right b.suffix a b.tree h

pub written_left : (b shared : Bool) (order : Order) (x : Spot) (p v : Typed) → IsPlainValue p → IsPlain (written_by b shared order x p v).left
written_left true shared order x p v h = as_p_in p.suffix p.tree h
written_left false shared order x p v h = stored_left (scalar_of x.of).width (as_p p) v (as_p_in p.suffix p.tree h)

pub written_right : (b shared : Bool) (order : Order) (x : Spot) (p v : Typed) → IsPlainValue p → IsPlainValue v → IsPlain (written_by b shared order x p v).right
written_right true shared order x p v f g = ((as_p_in p.suffix p.tree f, tt), bits_in _ order (field_of x) v g)
written_right false shared order x p v f g = stored_right (scalar_of x.of).width (as_p p) v g

pub changed_in : (by : Change) (x : Spot) (old v : Typed) → IsPlainValue old → IsPlainValue v → IsPlainValue (changed by x old v)
changed_in (change.Arithmetic o signed) x old v f g = converted_in (scalar_of x.of).width (scalar_of x.of).signed (binary_of o signed old v) (binary_in o signed old v f g)
changed_in (change.Pointer size back) x old v f g = moved_in size back old v f g
