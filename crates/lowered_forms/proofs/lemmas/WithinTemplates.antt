-- Templates of operations find no nodes but those that their operands find.
use Rattle.std.specs.Prelude.{ℕ, zero, suc, ◌==◌, ℤ, pos, negsuc, Bool, true, false, Option, Some, None, if◌then◌else◌}
use Rattle.lcc_base.specs.declared.order.Order.{Order}
use Rattle.objects.specs.declared.field.Field.{Field}
use Rattle.objects.specs.declared.operators.Unary.{Unary}
use Rattle.objects.specs.declared.operators.Unary.TheVariants as unary
use Rattle.objects.specs.declared.operators.Binary.{Binary}
use Rattle.objects.specs.declared.width.Width.{Width}
use Rattle.objects.specs.declared.width.Width.TheVariants as width
use Rattle.objects.specs.declared.width.Scalar.{Scalar}
use Rattle.op_forest.specs.Nodes.{Head}
use Rattle.op_forest.specs.declared.op.Op.{Op}
use Rattle.op_forest.specs.declared.op.Op.TheVariants as op
use Rattle.op_forest.specs.declared.suffix.Suffix.{Suffix}
use Rattle.op_forest.specs.declared.suffix.Suffix.TheVariants.{C, S, I, U, P, B, V}
use Rattle.op_forest.specs.declared.sym.Sym.{Sym}
use Rattle.op_forest.specs.declared.sym.Sym.TheVariants as sym
use Rattle.c_meaning.specs.declared.core_expr.Change.{Change}
use Rattle.c_meaning.specs.declared.core_expr.Change.TheVariants as change
use Rattle.c_meaning.specs.Scalars.{scalar_of}
use Rattle.c_meaning.specs.Types.{is_pointer}
use Rattle.c_runs.specs.Places.{Spot, is_field, field_of}
use Rattle.c_rows_agree.specs.Templates.{Template, Given, Leaf, One, Two}
use Rattle.c_rows_agree.specs.Typed.{Typed, as_i_from, as_u_from, as_p_from, as_i, as_p, as_by}
use Rattle.c_rows_agree.specs.Integers.{number, integer_from, narrow_from, converted_by, unary_of, binary_of, has_sign, right_sign}
use Rattle.c_rows_agree.specs.Places.{loaded_by, lowered_by, field_value_by, field_bits, word_stored, stored_by}
use Rattle.c_pointers_agree.specs.Pointers.{Scaling, Single, Shifted, Multiplied, scaling_of, scaled_by, moved, moved_among, displaced, between, difference}
use Rattle.lowered_forms.specs.Accesses.{scalar_read, read_by, kept_by, written_by}
use Rattle.lowered_forms.specs.Blocks.{IsWithin}
use Rattle.lowered_forms.specs.Changes.{changed}
use Rattle.lowered_forms.specs.Places.{address_at, local_by, name_further, local_further, leaf_further, tree_further, further}
use Rattle.lowered_forms.specs.Values.{slot_read}

abbrev pub HasIn : ℕ → Typed → Type 0
HasIn n a = IsWithin n a.tree

-- ---- suffixes

pub as_i_in : (n : ℕ) (s : Suffix) (t : Template) → IsWithin n t → IsWithin n (as_i_from s t)
as_i_in n C t h = h
as_i_in n S t h = h
as_i_in n I t h = h
as_i_in n U t h = h
as_i_in n P t h = h
as_i_in n B t h = h
as_i_in n V t h = h

pub as_u_in : (n : ℕ) (s : Suffix) (t : Template) → IsWithin n t → IsWithin n (as_u_from s t)
as_u_in n C t h = h
as_u_in n S t h = h
as_u_in n I t h = h
as_u_in n U t h = h
as_u_in n P t h = h
as_u_in n B t h = h
as_u_in n V t h = h

pub as_p_in : (n : ℕ) (s : Suffix) (t : Template) → IsWithin n t → IsWithin n (as_p_from s t)
as_p_in n C t h = h
as_p_in n S t h = h
as_p_in n I t h = h
as_p_in n U t h = h
as_p_in n P t h = h
as_p_in n B t h = h
as_p_in n V t h = h

pub narrow_in : (n : ℕ) (x s : Suffix) (t : Template) → IsWithin n t → IsWithin n (narrow_from x s t)
narrow_in n C s t h = h
narrow_in n S s t h = h
narrow_in n I s t h = h
narrow_in n U s t h = h
narrow_in n P s t h = h
narrow_in n B s t h = h
narrow_in n V s t h = h

pub integer_in : (n : ℕ) (s : Suffix) (t : Template) → IsWithin n t → IsWithin n (integer_from s t).tree
integer_in n C t h = h
integer_in n S t h = h
integer_in n I t h = h
integer_in n U t h = h
integer_in n P t h = h
integer_in n B t h = h
integer_in n V t h = h

pub slot_in : (n : ℕ) (x : Suffix) (z : ℤ) → HasIn n (slot_read x z)
slot_in n C z = tt
slot_in n S z = tt
slot_in n I z = tt
slot_in n U z = tt
slot_in n P z = tt
slot_in n B z = tt
slot_in n V z = tt

pub word_left : (n : ℕ) (s : Suffix) (a t : Template) → IsWithin n a → IsWithin n (word_stored s a t).left
word_left n C a t h = h
word_left n S a t h = h
word_left n I a t h = h
word_left n U a t h = h
word_left n P a t h = h
word_left n B a t h = h
word_left n V a t h = h

pub word_right : (n : ℕ) (s : Suffix) (a t : Template) → IsWithin n t → IsWithin n (word_stored s a t).right
word_right n C a t h = h
word_right n S a t h = h
word_right n I a t h = h
word_right n U a t h = h
word_right n P a t h = h
word_right n B a t h = h
word_right n V a t h = h

pub as_by_in : (n : ℕ) (b : Bool) (a : Typed) → HasIn n a → IsWithin n (as_by b a)
as_by_in n true a h = as_i_in n a.suffix a.tree h
as_by_in n false a h = as_u_in n a.suffix a.tree h

-- ---- numbers

pub number_in : (n : ℕ) (signed : Bool) (m : ℕ) → HasIn n (number signed m)
number_in n true m = tt
number_in n false m = tt

pub converted_in : (n : ℕ) (w : Width) (signed : Bool) (a : Typed) → HasIn n a → HasIn n (converted_by w signed a)
converted_in n width.One signed a h = narrow_in n a.suffix C a.tree h
converted_in n width.Two signed a h = narrow_in n a.suffix S a.tree h
converted_in n width.Four signed a h = integer_in n a.suffix a.tree h

pub unary_in : (n : ℕ) (o : Unary) (a : Typed) → HasIn n a → HasIn n (unary_of o a)
unary_in n unary.Plus a h = h
unary_in n unary.Negate a h = as_i_in n a.suffix a.tree h
unary_in n unary.Complement a h = as_u_in n a.suffix a.tree h

pub binary_in : (n : ℕ) (o : Binary) (signed : Bool) (a b : Typed) → HasIn n a → HasIn n b → HasIn n (binary_of o signed a b)
binary_in n o signed a b f g = (as_by_in n (has_sign signed o) a f, as_by_in n (right_sign signed o) b g)

-- ---- pointers

scaled_in : (n : ℕ) (k : Scaling) (t : Template) → IsWithin n t → IsWithin n (scaled_by k t)
scaled_in n Single t h = h
scaled_in n (Shifted count) t h = (h, tt)
scaled_in n (Multiplied size) t h = (h, tt)

pub moved_in : (n size : ℕ) (back : Bool) (p q : Typed) → HasIn n p → HasIn n q → HasIn n (moved size back p q)
moved_in n size back p q f g = (as_p_in n p.suffix p.tree f, scaled_in n (scaling_of size) (as_i q) (as_i_in n q.suffix q.tree g))

pub among_in : (n size : ℕ) (back b : Bool) (p q : Typed) → HasIn n p → HasIn n q → HasIn n (moved_among size back b p q)
among_in n size back true p q f g = moved_in n size back p q f g
among_in n size back false p q f g = moved_in n size back q p g f

either_in : (n : ℕ) (b : Bool) (x y : Typed) → HasIn n x → HasIn n y → HasIn n (if b then x else y)
either_in n true x y f g = f
either_in n false x y f g = g

pub difference_in : (n size : ℕ) (p q : Typed) → HasIn n p → HasIn n q → HasIn n (difference size p q)
difference_in n size p q f g =
    let h : HasIn n (between p q) = (as_u_in n p.suffix p.tree f, as_u_in n q.suffix q.tree g) in
    either_in n (size == 1) (between p q) _ h (as_i_in n U (between p q).tree h, tt)

displaced_in : (n by : ℕ) (p : Typed) → HasIn n p → HasIn n (displaced by p)
displaced_in n zero p h = h
displaced_in n (suc by) p h = (as_p_in n p.suffix p.tree h, tt)

name_in : (n : ℕ) (x : Sym) (by : ℕ) (p : Typed) → HasIn n p → HasIn n (name_further x by p)
name_in n sym.Nothing by p h = displaced_in n by p h
name_in n (sym.Global m z) by p h = tt
name_in n (sym.Label l) by p h = displaced_in n by p h
name_in n (sym.Block size align) by p h = displaced_in n by p h

local_further_in : (n : ℕ) (z : Option ℤ) (by : ℕ) (p : Typed) → HasIn n p → HasIn n (local_further z by p)
local_further_in n None by p h = displaced_in n by p h
local_further_in n (Some z) by p h = tt

leaf_in : (n : ℕ) (o : Op) (x : Head) (by : ℕ) (p : Typed) → HasIn n p → HasIn n (leaf_further o x by p)
leaf_in n op.Addrg x by p h = name_in n x.sym by p h
leaf_in n op.Addrl x by p h = local_further_in n x.value by p h
leaf_in n o x by p h = displaced_in n by p h

tree_in : (n : ℕ) (t : Template) (by : ℕ) (p : Typed) → HasIn n p → HasIn n (tree_further t by p)
tree_in n (Given m) by p h = displaced_in n by p h
tree_in n (Leaf x) by p h = leaf_in n x.operator.op x by p h
tree_in n (One x a) by p h = displaced_in n by p h
tree_in n (Two x a b) by p h = displaced_in n by p h

pub further_in : (n : ℕ) (b : Bool) (by : ℕ) (p : Typed) → HasIn n p → HasIn n (further b by p)
further_in n true by p h = tree_in n p.tree by p h
further_in n false by p h = displaced_in n by p h

address_in : (n : ℕ) (z : ℤ) → HasIn n (address_at z)
address_in n (pos m) = tt
address_in n (negsuc m) = tt

loaded_address : (n : ℕ) (z : ℤ) → HasIn n (local_by true (Some z))
loaded_address n (pos m) = tt
loaded_address n (negsuc m) = tt

pub local_in : (n : ℕ) (b : Bool) (z : Option ℤ) → HasIn n (local_by b z)
local_in n true None = tt
local_in n false None = tt
local_in n true (Some z) = loaded_address n z
local_in n false (Some z) = address_in n z

-- ---- reads and writes

lowered_in : (n : ℕ) (b : Bool) (f : Field) (t : Template) → IsWithin n t → HasIn n (lowered_by b f t)
lowered_in n true f t h = (h, tt)
lowered_in n false f t h = (h, tt)

loaded_in : (n : ℕ) (w : Width) (signed : Bool) (t : Template) → IsWithin n t → HasIn n (loaded_by w signed t)
loaded_in n width.One signed t h = h
loaded_in n width.Two signed t h = h
loaded_in n width.Four signed t h = h

scalar_in : (n : ℕ) (b : Bool) (x : Scalar) (p : Typed) → HasIn n p → HasIn n (scalar_read b x p)
scalar_in n true x p h = as_p_in n p.suffix p.tree h
scalar_in n false x p h = loaded_in n x.width x.signed (as_p p) (as_p_in n p.suffix p.tree h)

read_by_in : (n : ℕ) (b : Bool) (order : Order) (x : Spot) (p : Typed) → HasIn n p → HasIn n (read_by b order x p)
read_by_in n true order x p h = lowered_in n (field_of x).signed (field_of x) _ (as_p_in n p.suffix p.tree h, tt)
read_by_in n false order x p h = scalar_in n (is_pointer x.of) (scalar_of x.of) p h

pub read_in : (n : ℕ) (order : Order) (x : Spot) (p : Typed) → HasIn n p → HasIn n (read_by (is_field x) order x p)
read_in n order x p h = read_by_in n (is_field x) order x p h

field_value_in : (n : ℕ) (b : Bool) (f : Field) (v : Typed) → HasIn n v → HasIn n (field_value_by b f v)
field_value_in n true f v h = ((as_i_in n v.suffix v.tree h, tt), tt)
field_value_in n false f v h = (as_u_in n v.suffix v.tree h, tt)

pub kept_in_block : (n : ℕ) (b : Bool) (x : Spot) (v : Typed) → HasIn n v → HasIn n (kept_by b x v)
kept_in_block n true x v h = field_value_in n (field_of x).signed (field_of x) v h
kept_in_block n false x v h = h

bits_in : (n : ℕ) (b : Bool) (order : Order) (f : Field) (v : Typed) → HasIn n v → IsWithin n (field_bits b order f v)
bits_in n true order f v h = ((as_i_in n v.suffix v.tree h, tt), tt)
bits_in n false order f v h = ((as_u_in n v.suffix v.tree h, tt), tt)

stored_left : (n : ℕ) (w : Width) (a : Template) (b : Typed) → IsWithin n a → IsWithin n (stored_by w a b).left
stored_left n width.One a b h = h
stored_left n width.Two a b h = h
stored_left n width.Four a b h = word_left n b.suffix a b.tree h

stored_right : (n : ℕ) (w : Width) (a : Template) (b : Typed) → HasIn n b → IsWithin n (stored_by w a b).right
stored_right n width.One a b h = narrow_in n b.suffix C b.tree h
stored_right n width.Two a b h = narrow_in n b.suffix S b.tree h
stored_right n width.Four a b h = word_right n b.suffix a b.tree h

pub written_left : (n : ℕ) (b shared : Bool) (order : Order) (x : Spot) (p v : Typed) → HasIn n p → IsWithin n (written_by b shared order x p v).left
written_left n true shared order x p v h = as_p_in n p.suffix p.tree h
written_left n false shared order x p v h = stored_left n (scalar_of x.of).width (as_p p) v (as_p_in n p.suffix p.tree h)

pub written_right : (n : ℕ) (b shared : Bool) (order : Order) (x : Spot) (p v : Typed) → HasIn n p → HasIn n v → IsWithin n (written_by b shared order x p v).right
written_right n true shared order x p v f g = ((as_p_in n p.suffix p.tree f, tt), bits_in n _ order (field_of x) v g)
written_right n false shared order x p v f g = stored_right n (scalar_of x.of).width (as_p p) v g

pub changed_in : (n : ℕ) (by : Change) (x : Spot) (old v : Typed) → HasIn n old → HasIn n v → HasIn n (changed by x old v)
changed_in n (change.Arithmetic o signed) x old v f g = converted_in n (scalar_of x.of).width (scalar_of x.of).signed (binary_of o signed old v) (binary_in n o signed old v f g)
changed_in n (change.Pointer size back) x old v f g = moved_in n size back old v f g

abbrev address : ℤ → Head
address z = record { operator = record { op = op.Addrl; suffix = P }; sym = sym.Nothing; value = Some z }

-- what is written in a slot
pub slot_left : (n : ℕ) (z : ℤ) (a : Typed) → IsWithin n (stored_by width.Four (Leaf (address z)) a).left
slot_left n z a = word_left n a.suffix (Leaf (address z)) a.tree tt

pub slot_right : (n : ℕ) (z : ℤ) (a : Typed) → HasIn n a → IsWithin n (stored_by width.Four (Leaf (address z)) a).right
slot_right n z a h = word_right n a.suffix (Leaf (address z)) a.tree h
