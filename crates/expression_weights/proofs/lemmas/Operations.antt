-- Prices of the templates of operations, over operands that cost at most 10.
use Rattle.std.specs.Prelude.{◌≡◌, refl, ℕ, zero, suc, ◌+◌, ◌≤◌, ◌==◌, ℤ, pos, negsuc, Bool, true, false, Option, Some, None, if◌then◌else◌}
use Rattle.std.proofs.Common.{arith}
use Rattle.lcc_base.specs.declared.order.Order.{Order}
use Rattle.objects.specs.declared.field.Field.{Field}
use Rattle.objects.specs.declared.operators.Unary.{Unary}
use Rattle.objects.specs.declared.operators.Unary.TheVariants as unary
use Rattle.objects.specs.declared.operators.Binary.{Binary}
use Rattle.objects.specs.declared.operators.Binary.TheVariants as binary
use Rattle.objects.specs.declared.width.Width.{Width}
use Rattle.objects.specs.declared.width.Width.TheVariants as width
use Rattle.objects.specs.declared.width.Scalar.{Scalar}
use Rattle.op_forest.specs.Nodes.{Head}
use Rattle.op_forest.specs.declared.op.Op.{Op}
use Rattle.op_forest.specs.declared.op.Op.TheVariants as op
use Rattle.op_forest.specs.declared.suffix.Suffix.{Suffix}
use Rattle.op_forest.specs.declared.suffix.Suffix.TheVariants.{C, S, I, U, P, B, V}
use Rattle.op_forest.specs.declared.sym.Sym.{Sym}
use Rattle.op_forest.specs.declared.sym.Sym.TheVariants as sym
use Rattle.dag_forest.specs.Entries.{is_call}
use Rattle.c_meaning.specs.declared.core_expr.Change.{Change}
use Rattle.c_meaning.specs.declared.core_expr.Change.TheVariants as change
use Rattle.c_meaning.specs.Scalars.{scalar_of}
use Rattle.c_meaning.specs.Types.{is_pointer}
use Rattle.c_runs.specs.Places.{Spot, is_field, field_of}
use Rattle.c_rows_agree.specs.Templates.{Template, Given, Leaf, One, Two}
use Rattle.c_rows_agree.specs.Typed.{Typed, as_i_from, as_u_from, as_p_from, as_i, as_u, as_p, as_by}
use Rattle.c_rows_agree.specs.Integers.{number, integer_from, narrow_from, converted_by, converted_to, as_pointer, unary_of, operator_of, binary_of, has_sign, right_sign}
use Rattle.c_rows_agree.specs.Places.{loaded_by, lowered_by, field_value_by, field_bits, word_stored, stored_by, raised, unit_at, at_top, masked}
use Rattle.c_pointers_agree.specs.Pointers.{Scaling, Single, Shifted, Multiplied, scaling_of, scaled_by, move_op, moved, moved_among, displaced, between, difference, local}
use Rattle.lowered_forms.specs.Accesses.{scalar_read, read_by, kept_by, written_by}
use Rattle.lowered_forms.specs.Changes.{changed}
use Rattle.lowered_forms.specs.Places.{address_at, local_by, name_further, local_further, leaf_further, tree_further, further}
use Rattle.lowered_forms.specs.Values.{slot_read}
use Rattle.expression_weights.specs.Templates.{Priced, Asks}
use Rattle.expression_weights.proofs.lemmas.Templates.{priced_asks, priced_more}

abbrev pub PricedAt : ℕ → Typed → Type 0
PricedAt n a = Priced n a.tree

more : (j k : ℕ) (t : Template) → j ≤ k → Priced j t → Priced k t
more j k t l h = priced_more j k t l h

-- ---- suffixes

pub as_i_at : (n : ℕ) (s : Suffix) (t : Template) → 9 ≤ n → Priced n t → Priced (n + 2) (as_i_from s t)
as_i_at n C t l h = more n (n + 2) t (omega arith) h
as_i_at n S t l h = more n (n + 2) t (omega arith) h
as_i_at n I t l h = more n (n + 2) t (omega arith) h
as_i_at n U t l h = (refl, omega (arith, l), n, h, omega arith)
as_i_at n P t l h = (refl, omega (arith, l), n + 1, (refl, omega (arith, l), n, h, omega arith), omega arith)
as_i_at n B t l h = more n (n + 2) t (omega arith) h
as_i_at n V t l h = more n (n + 2) t (omega arith) h

pub as_u_at : (n : ℕ) (s : Suffix) (t : Template) → 9 ≤ n → Priced n t → Priced (n + 1) (as_u_from s t)
as_u_at n C t l h = more n (n + 1) t (omega arith) h
as_u_at n S t l h = more n (n + 1) t (omega arith) h
as_u_at n I t l h = (refl, omega (arith, l), n, h, omega arith)
as_u_at n U t l h = more n (n + 1) t (omega arith) h
as_u_at n P t l h = (refl, omega (arith, l), n, h, omega arith)
as_u_at n B t l h = more n (n + 1) t (omega arith) h
as_u_at n V t l h = more n (n + 1) t (omega arith) h

pub as_p_at : (n : ℕ) (s : Suffix) (t : Template) → 9 ≤ n → Priced n t → Priced (n + 2) (as_p_from s t)
as_p_at n C t l h = more n (n + 2) t (omega arith) h
as_p_at n S t l h = more n (n + 2) t (omega arith) h
as_p_at n I t l h = (refl, omega (arith, l), n + 1, (refl, omega (arith, l), n, h, omega arith), omega arith)
as_p_at n U t l h = (refl, omega (arith, l), n, h, omega arith)
as_p_at n P t l h = more n (n + 2) t (omega arith) h
as_p_at n B t l h = more n (n + 2) t (omega arith) h
as_p_at n V t l h = more n (n + 2) t (omega arith) h

pub narrow_at : (n : ℕ) (x s : Suffix) (t : Template) → 9 ≤ n → Priced n t → Priced (n + 2) (narrow_from x s t)
narrow_at n C s t l h = (refl, omega (arith, l), n, h, omega arith)
narrow_at n S s t l h = (refl, omega (arith, l), n, h, omega arith)
narrow_at n I s t l h = (refl, omega (arith, l), n, h, omega arith)
narrow_at n U s t l h = (refl, omega (arith, l), n, h, omega arith)
narrow_at n P s t l h = (refl, omega (arith, l), n + 1, (refl, omega (arith, l), n, h, omega arith), omega arith)
narrow_at n B s t l h = (refl, omega (arith, l), n, h, omega arith)
narrow_at n V s t l h = (refl, omega (arith, l), n, h, omega arith)

pub integer_at : (n : ℕ) (s : Suffix) (t : Template) → 9 ≤ n → Priced n t → PricedAt (n + 1) (integer_from s t)
integer_at n C t l h = more n (n + 1) t (omega arith) h
integer_at n S t l h = more n (n + 1) t (omega arith) h
integer_at n I t l h = more n (n + 1) t (omega arith) h
integer_at n U t l h = more n (n + 1) t (omega arith) h
integer_at n P t l h = (refl, omega (arith, l), n, h, omega arith)
integer_at n B t l h = more n (n + 1) t (omega arith) h
integer_at n V t l h = more n (n + 1) t (omega arith) h

pub i_priced : (a : Typed) → PricedAt 10 a → Priced 12 (as_i a)
i_priced a h = as_i_at 10 a.suffix a.tree (omega arith) h

pub u_priced : (a : Typed) → PricedAt 10 a → Priced 11 (as_u a)
u_priced a h = as_u_at 10 a.suffix a.tree (omega arith) h

pub p_priced : (a : Typed) → PricedAt 10 a → Priced 12 (as_p a)
p_priced a h = as_p_at 10 a.suffix a.tree (omega arith) h

pub by_priced : (b : Bool) (a : Typed) → PricedAt 10 a → Priced 12 (as_by b a)
by_priced true a h = i_priced a h
by_priced false a h = more 11 12 (as_u a) (omega arith) (u_priced a h)

pub slot_priced : (x : Suffix) (z : ℤ) → PricedAt 10 (slot_read x z)
slot_priced C z = (refl, omega arith, 1, (refl, omega arith), omega arith)
slot_priced S z = (refl, omega arith, 1, (refl, omega arith), omega arith)
slot_priced I z = (refl, omega arith, 1, (refl, omega arith), omega arith)
slot_priced U z = (refl, omega arith, 1, (refl, omega arith), omega arith)
slot_priced P z = (refl, omega arith, 1, (refl, omega arith), omega arith)
slot_priced B z = (refl, omega arith, 1, (refl, omega arith), omega arith)
slot_priced V z = (refl, omega arith, 1, (refl, omega arith), omega arith)

pub slot_asks : (x : Suffix) (z : ℤ) → Asks 2 (slot_read x z).tree
slot_asks C z = (refl, 1, (refl, omega arith), omega arith)
slot_asks S z = (refl, 1, (refl, omega arith), omega arith)
slot_asks I z = (refl, 1, (refl, omega arith), omega arith)
slot_asks U z = (refl, 1, (refl, omega arith), omega arith)
slot_asks P z = (refl, 1, (refl, omega arith), omega arith)
slot_asks B z = (refl, 1, (refl, omega arith), omega arith)
slot_asks V z = (refl, 1, (refl, omega arith), omega arith)

-- ---- numbers

pub number_priced : (signed : Bool) (m : ℕ) → PricedAt 1 (number signed m)
number_priced true m = (refl, omega arith)
number_priced false m = (refl, omega arith)

pub leaf_value : (signed : Bool) (m : ℕ) → PricedAt 10 (number signed m)
leaf_value true m = (refl, omega arith)
leaf_value false m = (refl, omega arith)

converted_at : (n : ℕ) (w : Width) (signed : Bool) (a : Typed) → 9 ≤ n → PricedAt n a → PricedAt (n + 3) (converted_by w signed a)
converted_at n width.One signed a l h = (refl, omega (arith, l), n + 2, narrow_at n a.suffix C a.tree l h, omega arith)
converted_at n width.Two signed a l h = (refl, omega (arith, l), n + 2, narrow_at n a.suffix S a.tree l h, omega arith)
converted_at n width.Four signed a l h = more (n + 1) (n + 3) _ (omega arith) (integer_at n a.suffix a.tree l h)

pub converted_priced : (x : Scalar) (a : Typed) → PricedAt 10 a → PricedAt 13 (converted_to x a)
converted_priced x a h = converted_at 10 x.width x.signed a (omega arith) h

pub unary_priced : (o : Unary) (a : Typed) → PricedAt 10 a → PricedAt 13 (unary_of o a)
unary_priced unary.Plus a h = more 10 13 a.tree (omega arith) h
unary_priced unary.Negate a h = (refl, omega arith, 12, i_priced a h, omega arith)
unary_priced unary.Complement a h = (refl, omega arith, 11, u_priced a h, omega arith)

no_call : (o : Binary) → is_call (operator_of o) ≡ false
no_call binary.Add = refl
no_call binary.Subtract = refl
no_call binary.Multiply = refl
no_call binary.Divide = refl
no_call binary.Remainder = refl
no_call binary.ShiftLeft = refl
no_call binary.ShiftRight = refl
no_call binary.And = refl
no_call binary.Or = refl
no_call binary.Xor = refl

pub binary_priced : (o : Binary) (signed : Bool) (a b : Typed) → PricedAt 10 a → PricedAt 10 b → PricedAt 25 (binary_of o signed a b)
binary_priced o signed a b f g = (no_call o, omega arith, 12, 12, by_priced (has_sign signed o) a f, by_priced (right_sign signed o) b g, omega arith)

-- ---- pointers

scaled_at : (x : Scaling) (t : Template) → Priced 12 t → Priced 14 (scaled_by x t)
scaled_at Single t h = more 12 14 t (omega arith) h
scaled_at (Shifted count) t h = (refl, omega arith, 12, 1, h, (refl, omega arith), omega arith)
scaled_at (Multiplied size) t h = (refl, omega arith, 12, 1, h, (refl, omega arith), omega arith)

no_move : (back : Bool) → is_call (move_op back) ≡ false
no_move true = refl
no_move false = refl

pub moved_priced : (size : ℕ) (back : Bool) (p q : Typed) → PricedAt 10 p → PricedAt 10 q → PricedAt 27 (moved size back p q)
moved_priced size back p q f g = (no_move back, omega arith, 12, 14, p_priced p f, scaled_at (scaling_of size) (as_i q) (i_priced q g), omega arith)

pub among_priced : (size : ℕ) (back b : Bool) (p q : Typed) → PricedAt 10 p → PricedAt 10 q → PricedAt 27 (moved_among size back b p q)
among_priced size back true p q f g = moved_priced size back p q f g
among_priced size back false p q f g = moved_priced size back q p g f

either_priced : (n : ℕ) (b : Bool) (x y : Typed) → PricedAt n x → PricedAt n y → PricedAt n (if b then x else y)
either_priced n true x y f g = f
either_priced n false x y f g = g

pub difference_priced : (size : ℕ) (p q : Typed) → PricedAt 10 p → PricedAt 10 q → PricedAt 27 (difference size p q)
difference_priced size p q f g =
    let h : PricedAt 23 (between p q) = (refl, omega arith, 11, 11, u_priced p f, u_priced q g, omega arith) in
    either_priced 27 (size == 1) (between p q) _ (more 23 27 (between p q).tree (omega arith) h) (refl, omega arith, 25, 1, as_i_at 23 U (between p q).tree (omega arith) h, (refl, omega arith), omega arith)

pub displaced_priced : (by : ℕ) (p : Typed) → PricedAt 10 p → PricedAt 14 (displaced by p)
displaced_priced zero p h = more 10 14 p.tree (omega arith) h
displaced_priced (suc by) p h = (refl, omega arith, 12, 1, p_priced p h, (refl, omega arith), omega arith)

name_priced : (x : Sym) (by : ℕ) (p : Typed) → PricedAt 10 p → PricedAt 14 (name_further x by p)
name_priced sym.Nothing by p h = displaced_priced by p h
name_priced (sym.Global m z) by p h = (refl, omega arith)
name_priced (sym.Label l) by p h = displaced_priced by p h
name_priced (sym.Block size align) by p h = displaced_priced by p h

local_further_priced : (z : Option ℤ) (by : ℕ) (p : Typed) → PricedAt 10 p → PricedAt 14 (local_further z by p)
local_further_priced None by p h = displaced_priced by p h
local_further_priced (Some z) by p h = (refl, omega arith)

leaf_priced : (o : Op) (x : Head) (by : ℕ) (p : Typed) → PricedAt 10 p → PricedAt 14 (leaf_further o x by p)
leaf_priced op.Addrg x by p h = name_priced x.sym by p h
leaf_priced op.Addrl x by p h = local_further_priced x.value by p h
leaf_priced o x by p h = displaced_priced by p h

tree_priced : (t : Template) (by : ℕ) (p : Typed) → PricedAt 10 p → PricedAt 14 (tree_further t by p)
tree_priced (Given m) by p h = displaced_priced by p h
tree_priced (Leaf x) by p h = leaf_priced x.operator.op x by p h
tree_priced (One x a) by p h = displaced_priced by p h
tree_priced (Two x a b) by p h = displaced_priced by p h

pub further_priced : (b : Bool) (by : ℕ) (p : Typed) → PricedAt 10 p → PricedAt 14 (further b by p)
further_priced true by p h = tree_priced p.tree by p h
further_priced false by p h = displaced_priced by p h

address_priced : (z : ℤ) → PricedAt 10 (address_at z)
address_priced (pos m) = (refl, omega arith)
address_priced (negsuc m) = (refl, omega arith)

loaded_address : (z : ℤ) → PricedAt 10 (local_by true (Some z))
loaded_address (pos m) = (refl, omega arith, 1, (refl, omega arith), omega arith)
loaded_address (negsuc m) = (refl, omega arith, 1, (refl, omega arith), omega arith)

pub local_priced : (b : Bool) (z : Option ℤ) → PricedAt 10 (local_by b z)
local_priced true None = (refl, omega arith)
local_priced false None = (refl, omega arith)
local_priced true (Some z) = loaded_address z
local_priced false (Some z) = address_priced z

address_asks : (z : ℤ) → Asks 2 (address_at z).tree
address_asks (pos m) = (refl, omega arith)
address_asks (negsuc m) = (refl, omega arith)

loaded_asks : (z : ℤ) → Asks 2 (local_by true (Some z)).tree
loaded_asks (pos m) = (refl, 1, (refl, omega arith), omega arith)
loaded_asks (negsuc m) = (refl, 1, (refl, omega arith), omega arith)

pub local_asks : (b : Bool) (z : Option ℤ) → Asks 2 (local_by b z).tree
local_asks true None = (refl, omega arith)
local_asks false None = (refl, omega arith)
local_asks true (Some z) = loaded_asks z
local_asks false (Some z) = address_asks z

-- ---- reads and writes

lowered_at : (b : Bool) (f : Field) (t : Template) → Priced 15 t → PricedAt 18 (lowered_by b f t)
lowered_at true f t h = (refl, omega arith, 15, 1, h, (refl, omega arith), omega arith)
lowered_at false f t h = (refl, omega arith, 16, 1, (refl, omega arith, 15, h, omega arith), (refl, omega arith), omega arith)

loaded_at : (w : Width) (signed : Bool) (t : Template) → Priced 12 t → PricedAt 18 (loaded_by w signed t)
loaded_at width.One signed t h = (refl, omega arith, 13, (refl, omega arith, 12, h, omega arith), omega arith)
loaded_at width.Two signed t h = (refl, omega arith, 13, (refl, omega arith, 12, h, omega arith), omega arith)
loaded_at width.Four signed t h = (refl, omega arith, 12, h, omega arith)

scalar_priced : (b : Bool) (x : Scalar) (p : Typed) → PricedAt 10 p → PricedAt 18 (scalar_read b x p)
scalar_priced true x p h = (refl, omega arith, 12, p_priced p h, omega arith)
scalar_priced false x p h = loaded_at x.width x.signed (as_p p) (p_priced p h)

read_by_priced : (b : Bool) (order : Order) (x : Spot) (p : Typed) → PricedAt 10 p → PricedAt 18 (read_by b order x p)
read_by_priced true order x p h =
    lowered_at (field_of x).signed (field_of x) (raised order (field_of x) (unit_at p)) (refl, omega arith, 13, 1, (refl, omega arith, 12, p_priced p h, omega arith), (refl, omega arith), omega arith)
read_by_priced false order x p h = scalar_priced (is_pointer x.of) (scalar_of x.of) p h

pub read_priced : (order : Order) (x : Spot) (p : Typed) → PricedAt 10 p → PricedAt 18 (read_by (is_field x) order x p)
read_priced order x p h = read_by_priced (is_field x) order x p h

top_at : (f : Field) (v : Typed) → PricedAt 10 v → Priced 14 (at_top f v)
top_at f v h = (refl, omega arith, 12, 1, i_priced v h, (refl, omega arith), omega arith)

masked_at : (f : Field) (v : Typed) → PricedAt 10 v → Priced 13 (masked f v)
masked_at f v h = (refl, omega arith, 11, 1, u_priced v h, (refl, omega arith), omega arith)

field_value_priced : (b : Bool) (f : Field) (v : Typed) → PricedAt 10 v → PricedAt 16 (field_value_by b f v)
field_value_priced true f v h = (refl, omega arith, 14, 1, top_at f v h, (refl, omega arith), omega arith)
field_value_priced false f v h = more 13 16 (masked f v) (omega arith) (masked_at f v h)

pub kept_priced : (b : Bool) (x : Spot) (v : Typed) → PricedAt 10 v → PricedAt 16 (kept_by b x v)
kept_priced true x v h = field_value_priced (field_of x).signed (field_of x) v h
kept_priced false x v h = more 10 16 v.tree (omega arith) h

bits_at : (b : Bool) (order : Order) (f : Field) (v : Typed) → PricedAt 10 v → Priced 17 (field_bits b order f v)
bits_at true order f v h = (refl, omega arith, 15, 1, (refl, omega arith, 14, top_at f v h, omega arith), (refl, omega arith), omega arith)
bits_at false order f v h = (refl, omega arith, 13, 1, masked_at f v h, (refl, omega arith), omega arith)

pub word_left : (n : ℕ) (s : Suffix) (a t : Template) → Priced n a → Priced n (word_stored s a t).left
word_left n C a t h = h
word_left n S a t h = h
word_left n I a t h = h
word_left n U a t h = h
word_left n P a t h = h
word_left n B a t h = h
word_left n V a t h = h

pub word_right : (s : Suffix) (a t : Template) → Priced 10 t → Priced 12 (word_stored s a t).right
word_right C a t h = as_i_at 10 C t (omega arith) h
word_right S a t h = as_i_at 10 S t (omega arith) h
word_right I a t h = as_i_at 10 I t (omega arith) h
word_right U a t h = as_i_at 10 U t (omega arith) h
word_right P a t h = more 10 12 t (omega arith) h
word_right B a t h = as_i_at 10 B t (omega arith) h
word_right V a t h = as_i_at 10 V t (omega arith) h

stored_left : (w : Width) (a : Template) (b : Typed) → Priced 12 a → Priced 12 (stored_by w a b).left
stored_left width.One a b h = h
stored_left width.Two a b h = h
stored_left width.Four a b h = word_left 12 b.suffix a b.tree h

stored_right : (w : Width) (a : Template) (b : Typed) → PricedAt 10 b → Priced 12 (stored_by w a b).right
stored_right width.One a b h = narrow_at 10 b.suffix C b.tree (omega arith) h
stored_right width.Two a b h = narrow_at 10 b.suffix S b.tree (omega arith) h
stored_right width.Four a b h = word_right b.suffix a b.tree h

pub written_left : (b shared : Bool) (order : Order) (x : Spot) (p v : Typed) → PricedAt 10 p → Priced 12 (written_by b shared order x p v).left
written_left true shared order x p v h = p_priced p h
written_left false shared order x p v h = stored_left (scalar_of x.of).width (as_p p) v (p_priced p h)

pub written_right : (b shared : Bool) (order : Order) (x : Spot) (p v : Typed) → PricedAt 10 p → PricedAt 10 v → Priced 35 (written_by b shared order x p v).right
written_right true shared order x p v f g = (
  refl,
  omega arith,
  34,
  (
    refl,
    omega arith,
    16,
    17,
    (refl, omega arith, 14, 1, (refl, omega arith, 13, (refl, omega arith, 12, p_priced p f, omega arith), omega arith), (refl, omega arith), omega arith),
    bits_at _ order (field_of x) v g,
    omega arith,
  ),
  omega arith,
)
written_right false shared order x p v f g = more 12 35 _ (omega arith) (stored_right (scalar_of x.of).width (as_p p) v g)

pub changed_priced : (by : Change) (x : Spot) (old v : Typed) → PricedAt 10 old → PricedAt 10 v → PricedAt 28 (changed by x old v)
changed_priced (change.Arithmetic o signed) x old v f g = converted_at 25 (scalar_of x.of).width (scalar_of x.of).signed (binary_of o signed old v) (omega arith) (binary_priced o signed old v f g)
changed_priced (change.Pointer size back) x old v f g = more 27 28 (moved size back old v).tree (omega arith) (moved_priced size back old v f g)
