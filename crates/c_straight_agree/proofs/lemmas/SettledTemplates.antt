-- Templates of operations are settled where their operands are, and what they read is apart from temporaries.
use Rattle.std.specs.Prelude.{ℕ, zero, suc, ◌==◌, ℤ, pos, negsuc, Bool, true, false, Option, Some, None, if◌then◌else◌}
use Rattle.lcc_base.specs.declared.order.Order.{Order}
use Rattle.objects.specs.declared.field.Field.{Field}
use Rattle.objects.specs.declared.operators.Unary.{Unary}
use Rattle.objects.specs.declared.operators.Unary.TheVariants as unary
use Rattle.objects.specs.declared.operators.Binary.{Binary}
use Rattle.objects.specs.declared.operators.Binary.TheVariants as binary
use Rattle.objects.specs.declared.width.Width.{Width}
use Rattle.objects.specs.declared.width.Width.TheVariants as width
use Rattle.objects.specs.declared.width.Scalar.{Scalar}
use Rattle.op_forest.specs.Nodes.{Head}
use Rattle.op_forest.specs.declared.op.Op.{Op}
use Rattle.op_forest.specs.declared.op.Op.TheVariants as op
use Rattle.op_forest.specs.declared.suffix.Suffix.{Suffix}
use Rattle.op_forest.specs.declared.suffix.Suffix.TheVariants.{C, S, I, U, P, B, V}
use Rattle.op_forest.specs.declared.sym.Sym.{Sym}
use Rattle.op_forest.specs.declared.sym.Sym.TheVariants as sym
use Rattle.forests.specs.Words.{Word}
use Rattle.dag_forest.specs.Meaning.{Keeps}
use Rattle.c_meaning.specs.declared.core_expr.Change.{Change}
use Rattle.c_meaning.specs.declared.core_expr.Change.TheVariants as change
use Rattle.c_meaning.specs.Scalars.{scalar_of}
use Rattle.c_meaning.specs.Types.{is_pointer}
use Rattle.c_runs.specs.Places.{Spot, is_field, field_of}
use Rattle.c_rows_agree.specs.Templates.{Template, Given, Leaf, One, Two, Scene, Gives}
use Rattle.c_rows_agree.specs.Typed.{Typed, as_i_from, as_u_from, as_p_from, as_i, as_p, as_by}
use Rattle.c_rows_agree.specs.Integers.{number, integer_from, narrow_from, converted_by, unary_of, binary_of, operator_of, has_sign, right_sign}
use Rattle.c_rows_agree.specs.Places.{loaded_by, lowered_by, field_value_by, field_bits, word_stored, stored_by}
use Rattle.c_pointers_agree.specs.Pointers.{Scaling, Single, Shifted, Multiplied, scaling_of, scaled_by, move_op, moved, moved_among, displaced, between, difference}
use Rattle.lowered_forms.specs.Accesses.{scalar_read, read_by, kept_by, written_by, copy_root}
use Rattle.lowered_forms.specs.Changes.{changed}
use Rattle.lowered_forms.specs.Places.{address_at, name_further, local_further, leaf_further, tree_further, further}
use Rattle.c_straight_agree.specs.Settled.{IsApart, IsMild, IsSettled}

module _ (keeps : Keeps) (k : Scene) where
  abbrev pub Set : Template → Type 0
  Set t = IsSettled keeps k t

  -- ---- suffixes

  pub as_i_set : (s : Suffix) (t : Template) → Set t → Set (as_i_from s t)
  as_i_set C t h = h
  as_i_set S t h = h
  as_i_set I t h = h
  as_i_set U t h = (h, tt)
  as_i_set P t h = ((h, tt), tt)
  as_i_set B t h = h
  as_i_set V t h = h

  pub as_u_set : (s : Suffix) (t : Template) → Set t → Set (as_u_from s t)
  as_u_set C t h = h
  as_u_set S t h = h
  as_u_set I t h = (h, tt)
  as_u_set U t h = h
  as_u_set P t h = (h, tt)
  as_u_set B t h = h
  as_u_set V t h = h

  pub as_p_set : (s : Suffix) (t : Template) → Set t → Set (as_p_from s t)
  as_p_set C t h = h
  as_p_set S t h = h
  as_p_set I t h = ((h, tt), tt)
  as_p_set U t h = (h, tt)
  as_p_set P t h = h
  as_p_set B t h = h
  as_p_set V t h = h

  narrow_set : (x s : Suffix) (t : Template) → Set t → Set (narrow_from x s t)
  narrow_set C s t h = (h, tt)
  narrow_set S s t h = (h, tt)
  narrow_set I s t h = (h, tt)
  narrow_set U s t h = (h, tt)
  narrow_set P s t h = ((h, tt), tt)
  narrow_set B s t h = (h, tt)
  narrow_set V s t h = (h, tt)

  integer_set : (s : Suffix) (t : Template) → Set t → Set (integer_from s t).tree
  integer_set C t h = h
  integer_set S t h = h
  integer_set I t h = h
  integer_set U t h = h
  integer_set P t h = (h, tt)
  integer_set B t h = h
  integer_set V t h = h

  pub word_left_set : (s : Suffix) (a t : Template) → Set a → Set (word_stored s a t).left
  word_left_set C a t h = h
  word_left_set S a t h = h
  word_left_set I a t h = h
  word_left_set U a t h = h
  word_left_set P a t h = h
  word_left_set B a t h = h
  word_left_set V a t h = h

  pub word_right_set : (s : Suffix) (a t : Template) → Set t → Set (word_stored s a t).right
  word_right_set C a t h = h
  word_right_set S a t h = h
  word_right_set I a t h = h
  word_right_set U a t h = (h, tt)
  word_right_set P a t h = h
  word_right_set B a t h = h
  word_right_set V a t h = h

  pub as_by_set : (b : Bool) (a : Typed) → Set a.tree → Set (as_by b a)
  as_by_set true a h = as_i_set a.suffix a.tree h
  as_by_set false a h = as_u_set a.suffix a.tree h

  -- ---- numbers

  pub number_set : (signed : Bool) (m : ℕ) → Set (number signed m).tree
  number_set true m = tt
  number_set false m = tt

  converted_by_set : (w : Width) (signed : Bool) (a : Typed) → Set a.tree → Set (converted_by w signed a).tree
  converted_by_set width.One signed a h = (narrow_set a.suffix C a.tree h, tt)
  converted_by_set width.Two signed a h = (narrow_set a.suffix S a.tree h, tt)
  converted_by_set width.Four signed a h = integer_set a.suffix a.tree h

  pub converted_set : (x : Scalar) (a : Typed) → Set a.tree → Set (converted_by x.width x.signed a).tree
  converted_set x a h = converted_by_set x.width x.signed a h

  pub unary_set : (o : Unary) (a : Typed) → Set a.tree → Set (unary_of o a).tree
  unary_set unary.Plus a h = h
  unary_set unary.Negate a h = (as_i_set a.suffix a.tree h, tt)
  unary_set unary.Complement a h = (as_u_set a.suffix a.tree h, tt)

  operator_mild : (o : Binary) → IsMild (operator_of o) ⊥
  operator_mild binary.Add = tt
  operator_mild binary.Subtract = tt
  operator_mild binary.Multiply = tt
  operator_mild binary.Divide = tt
  operator_mild binary.Remainder = tt
  operator_mild binary.ShiftLeft = tt
  operator_mild binary.ShiftRight = tt
  operator_mild binary.And = tt
  operator_mild binary.Or = tt
  operator_mild binary.Xor = tt

  pub binary_set : (o : Binary) (signed : Bool) (a b : Typed) → Set a.tree → Set b.tree → Set (binary_of o signed a b).tree
  binary_set o signed a b f g = (as_by_set (has_sign signed o) a f, (as_by_set (right_sign signed o) b g, operator_mild o))

  -- ---- pointers

  scaled_set : (x : Scaling) (t : Template) → Set t → Set (scaled_by x t)
  scaled_set Single t h = h
  scaled_set (Shifted count) t h = (h, (tt, tt))
  scaled_set (Multiplied size) t h = (h, (tt, tt))

  move_mild : (back : Bool) → IsMild (move_op back) ⊥
  move_mild true = tt
  move_mild false = tt

  pub moved_set : (size : ℕ) (back : Bool) (p q : Typed) → Set p.tree → Set q.tree → Set (moved size back p q).tree
  moved_set size back p q f g = (as_p_set p.suffix p.tree f, (scaled_set (scaling_of size) (as_i q) (as_i_set q.suffix q.tree g), move_mild back))

  pub among_set : (size : ℕ) (back b : Bool) (p q : Typed) → Set p.tree → Set q.tree → Set (moved_among size back b p q).tree
  among_set size back true p q f g = moved_set size back p q f g
  among_set size back false p q f g = moved_set size back q p g f

  either_set : (b : Bool) (x y : Typed) → Set x.tree → Set y.tree → Set (if b then x else y).tree
  either_set true x y f g = f
  either_set false x y f g = g

  pub difference_set : (size : ℕ) (p q : Typed) → Set p.tree → Set q.tree → Set (difference size p q).tree
  difference_set size p q f g =
      let h : Set (between p q).tree = (as_u_set p.suffix p.tree f, (as_u_set q.suffix q.tree g, tt)) in
      either_set (size == 1) (between p q) _ h (as_i_set U (between p q).tree h, (tt, tt))

  pub displaced_set : (by : ℕ) (p : Typed) → Set p.tree → Set (displaced by p).tree
  displaced_set zero p h = h
  displaced_set (suc by) p h = (as_p_set p.suffix p.tree h, (tt, tt))

  name_set : (x : Sym) (by : ℕ) (p : Typed) → Set p.tree → Set (name_further x by p).tree
  name_set sym.Nothing by p h = displaced_set by p h
  name_set (sym.Global m z) by p h = tt
  name_set (sym.Label l) by p h = displaced_set by p h
  name_set (sym.Block size align) by p h = displaced_set by p h

  local_further_set : (z : Option ℤ) (by : ℕ) (p : Typed) → Set p.tree → Set (local_further z by p).tree
  local_further_set None by p h = displaced_set by p h
  local_further_set (Some z) by p h = tt

  leaf_set : (o : Op) (x : Head) (by : ℕ) (p : Typed) → Set p.tree → Set (leaf_further o x by p).tree
  leaf_set op.Addrg x by p h = name_set x.sym by p h
  leaf_set op.Addrl x by p h = local_further_set x.value by p h
  leaf_set o x by p h = displaced_set by p h

  tree_set : (t : Template) (by : ℕ) (p : Typed) → Set p.tree → Set (tree_further t by p).tree
  tree_set (Given m) by p h = displaced_set by p h
  tree_set (Leaf x) by p h = leaf_set x.operator.op x by p h
  tree_set (One x a) by p h = displaced_set by p h
  tree_set (Two x a b) by p h = displaced_set by p h

  pub further_set : (b : Bool) (by : ℕ) (p : Typed) → Set p.tree → Set (further b by p).tree
  further_set true by p h = tree_set p.tree by p h
  further_set false by p h = displaced_set by p h

  pub address_set : (z : ℤ) → Set (address_at z).tree
  address_set (pos m) = tt
  address_set (negsuc m) = tt

  -- ---- reads and writes

  -- what a place reads is apart
  abbrev pub ReadsApart : Typed → Type 0
  ReadsApart p = (x : Word) → Gives k (as_p p) x → IsApart keeps x

  lowered_set : (b : Bool) (f : Field) (t : Template) → Set t → Set (lowered_by b f t).tree
  lowered_set true f t h = (h, (tt, tt))
  lowered_set false f t h = ((h, tt), (tt, tt))

  loaded_set : (w : Width) (signed : Bool) (t : Template) → Set t → ((x : Word) → Gives k t x → IsApart keeps x) → Set (loaded_by w signed t).tree
  loaded_set width.One signed t h r = ((h, r), tt)
  loaded_set width.Two signed t h r = ((h, r), tt)
  loaded_set width.Four signed t h r = (h, r)

  scalar_set : (b : Bool) (x : Scalar) (p : Typed) → Set p.tree → ReadsApart p → Set (scalar_read b x p).tree
  scalar_set true x p h r = (as_p_set p.suffix p.tree h, r)
  scalar_set false x p h r = loaded_set x.width x.signed (as_p p) (as_p_set p.suffix p.tree h) r

  read_by_set : (b : Bool) (order : Order) (x : Spot) (p : Typed) → Set p.tree → ReadsApart p → Set (read_by b order x p).tree
  read_by_set true order x p h r = lowered_set (field_of x).signed (field_of x) _ ((as_p_set p.suffix p.tree h, r), (tt, tt))
  read_by_set false order x p h r = scalar_set (is_pointer x.of) (scalar_of x.of) p h r

  pub read_set : (order : Order) (x : Spot) (p : Typed) → Set p.tree → ReadsApart p → Set (read_by (is_field x) order x p).tree
  read_set order x p h r = read_by_set (is_field x) order x p h r

  field_value_set : (b : Bool) (f : Field) (v : Typed) → Set v.tree → Set (field_value_by b f v).tree
  field_value_set true f v h = ((as_i_set v.suffix v.tree h, (tt, tt)), (tt, tt))
  field_value_set false f v h = (as_u_set v.suffix v.tree h, (tt, tt))

  pub kept_by_set : (b : Bool) (x : Spot) (v : Typed) → Set v.tree → Set (kept_by b x v).tree
  kept_by_set true x v h = field_value_set (field_of x).signed (field_of x) v h
  kept_by_set false x v h = h

  bits_set : (b : Bool) (order : Order) (f : Field) (v : Typed) → Set v.tree → Set (field_bits b order f v)
  bits_set true order f v h = (((as_i_set v.suffix v.tree h, (tt, tt)), tt), (tt, tt))
  bits_set false order f v h = ((as_u_set v.suffix v.tree h, (tt, tt)), (tt, tt))

  stored_left_set : (w : Width) (a : Template) (b : Typed) → Set a → Set (stored_by w a b).left
  stored_left_set width.One a b h = h
  stored_left_set width.Two a b h = h
  stored_left_set width.Four a b h = word_left_set b.suffix a b.tree h

  stored_right_set : (w : Width) (a : Template) (b : Typed) → Set b.tree → Set (stored_by w a b).right
  stored_right_set width.One a b h = narrow_set b.suffix C b.tree h
  stored_right_set width.Two a b h = narrow_set b.suffix S b.tree h
  stored_right_set width.Four a b h = word_right_set b.suffix a b.tree h

  pub written_left_set : (b shared : Bool) (order : Order) (x : Spot) (p v : Typed) → Set p.tree → Set (written_by b shared order x p v).left
  written_left_set true shared order x p v h = as_p_set p.suffix p.tree h
  written_left_set false shared order x p v h = stored_left_set (scalar_of x.of).width (as_p p) v (as_p_set p.suffix p.tree h)

  pub written_right_set : (b shared : Bool) (order : Order) (x : Spot) (p v : Typed) → Set p.tree → Set v.tree → ReadsApart p → Set (written_by b shared order x p v).right
  written_right_set true shared order x p v f g r = (((((as_p_set p.suffix p.tree f, r), tt), (tt, tt)), (bits_set _ order (field_of x) v g, tt)), tt)
  written_right_set false shared order x p v f g r = stored_right_set (scalar_of x.of).width (as_p p) v g

  pub copy_left_set : (size align : ℕ) (p v : Typed) → Set p.tree → Set (copy_root size align p v).left
  copy_left_set size align p v h = as_p_set p.suffix p.tree h

  pub copy_right_set : (size align : ℕ) (p v : Typed) → Set v.tree → ReadsApart v → Set (copy_root size align p v).right
  copy_right_set size align p v h r = (as_p_set v.suffix v.tree h, r)

  pub changed_set : (by : Change) (x : Spot) (old v : Typed) → Set old.tree → Set v.tree → Set (changed by x old v).tree
  changed_set (change.Arithmetic o signed) x old v f g = converted_set (scalar_of x.of) (binary_of o signed old v) (binary_set o signed old v f g)
  changed_set (change.Pointer size back) x old v f g = moved_set size back old v f g
