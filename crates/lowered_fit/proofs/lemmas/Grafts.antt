-- Templates over other templates: what C's operations come to over any operands is what they come to over nodes, with the operands in the
-- nodes' places. So what holds of the operations over nodes holds over addresses of locals, too.
use Rattle.std.specs.Prelude.{◌≡◌, List, [], ◌∷◌, ℕ, zero, suc, ◌==◌, ◌-◌, ◌^◌, Bool, true, false, Option, Some, None, if◌then◌else◌}
use Rattle.std.proofs.Common.{refl, ◌∙◌, subst}
use Rattle.lcc_base.specs.declared.order.Order.{Order}
use Rattle.objects.specs.declared.field.Field.{Field}
use Rattle.objects.specs.declared.operators.Binary.{Binary}
use Rattle.objects.specs.declared.operators.Comparison.{Comparison}
use Rattle.objects.specs.declared.width.Scalar.{Scalar}
use Rattle.objects.specs.declared.width.Width.{Width}
use Rattle.objects.specs.declared.width.Width.TheVariants as width
use Rattle.objects.specs.Fields.{shift_of}
use Rattle.op_forest.specs.declared.op.Op.{Op}
use Rattle.op_forest.specs.declared.op.Op.TheVariants as op
use Rattle.op_forest.specs.declared.suffix.Suffix.{Suffix}
use Rattle.op_forest.specs.declared.suffix.Suffix.TheVariants.{C, S, I, U, P, B, V}
use Rattle.op_forest.specs.declared.sym.Sym.TheVariants as sym
use Rattle.op_forest.specs.Nodes.{Head}
use Rattle.c_match_fields.specs.Fields.{other_bits}
use Rattle.c_pointers_agree.specs.Pointers.{Scaling, Single, Shifted, Multiplied, scaling_of, scaled_by, scaled, move_op, moved, displaced, between, difference}
use Rattle.c_rows_agree.specs.Fitting as rows
use Rattle.c_rows_agree.specs.Fitting.{IsOrdinary, IsScalar}
use Rattle.c_rows_agree.specs.Integers.{integer_from, narrow_from, converted_by, converted_to, as_pointer, operator_of, has_sign, right_sign, binary_of, jump_of, comparison_where, compares_signed, compared, jump_by_zero, tested}
use Rattle.c_rows_agree.specs.Places.{loaded_by, loaded, loaded_pointer, word_stored, stored_by, stored_as, unit_at, raised, lowered_by, field_loaded, at_top, masked, field_value_by, field_value, field_bits, field_stored}
use Rattle.c_rows_agree.specs.Templates.{Template, Given, Leaf, One, Two, Root}
use Rattle.c_rows_agree.specs.Typed.{Typed, head, head_with, over, over_two, constant_i, constant_u, as_i_from, as_u_from, as_p_from, as_i, as_p, suffix_by, as_by}
use Rattle.lowered_fit.specs.Fitted.{Standing, FitsHead, FitsValue, FitsTree, FitsTyped, FitsRoot}

-- ---- templates in the places of nodes

abbrev pub grafted : (ℕ → Template) → Template → Template
grafted f (Given n) = f n
grafted f (Leaf h) = Leaf h
grafted f (One h a) = One h (grafted f a)
grafted f (Two h a b) = Two h (grafted f a) (grafted f b)

abbrev pub grafted_typed : (ℕ → Template) → Typed → Typed
grafted_typed f a = record { tree = grafted f a.tree; suffix = a.suffix }

abbrev pub grafted_root : (ℕ → Template) → Root → Root
grafted_root f r = record { head = r.head; left = grafted f r.left; right = grafted f r.right }

-- ---- what fits over nodes fits over templates that do

no_local : (o : Op) → IsOrdinary o → o ≡ op.Addrl → ⊥
no_local o k e = subst IsOrdinary e k

head_in : (g : Standing) (h : Head) (ss : List Suffix) → rows.FitsHead h ss → FitsHead g.slots h ss
head_in g h ss k = record { operator = k.operator; part = k.part; operands = k.operands; local = λ e. absurd (no_local h.operator.op k.ordinary e) }

value_in : (g : Standing) (h : Head) (ss : List Suffix) (s : Suffix) → rows.FitsNode h ss s → FitsValue g.slots h ss s
value_in g h ss s k = record { fits = head_in g h ss k.fits; value = k.value; suffix = k.suffix }

module _ (g : Standing) (given : ℕ → Option Suffix) (f : ℕ → Template) (fit : (n : ℕ) (s : Suffix) → given n ≡ Some s → FitsTree g (f n) s) where
  pub tree_in : (t : Template) (s : Suffix) → rows.Fits given t s → FitsTree g (grafted f t) s
  tree_in (Given n) s h = fit n s h
  tree_in (Leaf x) s h = value_in g x [] s h
  tree_in (One x a) s h = (h.0, value_in g x (h.0 ∷ []) s h.1, tree_in a h.0 h.2)
  tree_in (Two x a b) s h = (h.0, h.1, value_in g x (h.0 ∷ h.1 ∷ []) s h.2, tree_in a h.0 h.3, tree_in b h.1 h.4)

  pub typed_in : (a : Typed) → rows.FitsTyped given a → FitsTyped g (grafted_typed f a)
  typed_in a h = record { fits = tree_in a.tree a.suffix h.fits; scalar = h.scalar }

  pub root_in : (r : Root) → rows.FitsRoot given r → FitsRoot g (grafted_root f r)
  root_in r h = record {
    first = h.first;
    second = h.second;
    fits = head_in g r.head (h.first ∷ h.second ∷ []) h.fits;
    left = tree_in r.left h.first h.left;
    right = tree_in r.right h.second h.right;
  }

-- ---- the operations over nodes, and over what stands in their places

module _ (f : ℕ → Template) where
  pub i_is : (s : Suffix) (t : Template) → grafted f (as_i_from s t) ≡ as_i_from s (grafted f t)
  i_is C t = refl
  i_is S t = refl
  i_is I t = refl
  i_is U t = refl
  i_is P t = refl
  i_is B t = refl
  i_is V t = refl

  pub u_is : (s : Suffix) (t : Template) → grafted f (as_u_from s t) ≡ as_u_from s (grafted f t)
  u_is C t = refl
  u_is S t = refl
  u_is I t = refl
  u_is U t = refl
  u_is P t = refl
  u_is B t = refl
  u_is V t = refl

  p_is : (s : Suffix) (t : Template) → grafted f (as_p_from s t) ≡ as_p_from s (grafted f t)
  p_is C t = refl
  p_is S t = refl
  p_is I t = refl
  p_is U t = refl
  p_is P t = refl
  p_is B t = refl
  p_is V t = refl

  narrow_is : (s to : Suffix) (t : Template) → grafted f (narrow_from s to t) ≡ narrow_from s to (grafted f t)
  narrow_is C to t = refl
  narrow_is S to t = refl
  narrow_is I to t = refl
  narrow_is U to t = refl
  narrow_is P to t = refl
  narrow_is B to t = refl
  narrow_is V to t = refl

  integer_is : (s : Suffix) (t : Template) → grafted_typed f (integer_from s t) ≡ integer_from s (grafted f t)
  integer_is C t = refl
  integer_is S t = refl
  integer_is I t = refl
  integer_is U t = refl
  integer_is P t = refl
  integer_is B t = refl
  integer_is V t = refl

  by_is : (signed : Bool) (a : Typed) → grafted f (as_by signed a) ≡ as_by signed (grafted_typed f a)
  by_is true a = i_is a.suffix a.tree
  by_is false a = u_is a.suffix a.tree

  converted_by_is : (w : Width) (signed : Bool) (a : Typed) → grafted_typed f (converted_by w signed a) ≡ converted_by w signed (grafted_typed f a)
  converted_by_is width.One signed a = λ i. record { tree = over op.Cvc (suffix_by signed) (narrow_is a.suffix C a.tree i); suffix = suffix_by signed }
  converted_by_is width.Two signed a = λ i. record { tree = over op.Cvs (suffix_by signed) (narrow_is a.suffix S a.tree i); suffix = suffix_by signed }
  converted_by_is width.Four signed a = integer_is a.suffix a.tree

  pub converted_is : (x : Scalar) (a : Typed) → grafted_typed f (converted_to x a) ≡ converted_to x (grafted_typed f a)
  converted_is x a = converted_by_is x.width x.signed a

  pub pointer_is : (a : Typed) → grafted_typed f (as_pointer a) ≡ as_pointer (grafted_typed f a)
  pointer_is a = λ i. record { tree = p_is a.suffix a.tree i; suffix = P }

  pub binary_is : (o : Binary) (signed : Bool) (a b : Typed) → grafted_typed f (binary_of o signed a b) ≡ binary_of o signed (grafted_typed f a) (grafted_typed f b)
  binary_is o signed a b = λ i. record {
    tree = over_two (operator_of o) (suffix_by (has_sign signed o)) (by_is (has_sign signed o) a i) (by_is (right_sign signed o) b i);
    suffix = suffix_by (has_sign signed o);
  }

  -- ---- tests

  pub compared_is : (o : Comparison) (signed when : Bool) (l : ℕ) (a b : Typed)
      → grafted_root f (compared o signed when l a b) ≡ compared o signed when l (grafted_typed f a) (grafted_typed f b)
  compared_is o signed when l a b =
      let c = comparison_where when o in
      let by = compares_signed signed c in
      λ i. record { head = head_with (jump_of c) (suffix_by by) (sym.Label l) None; left = by_is by a i; right = by_is by b i }

  pub tested_is : (when : Bool) (l : ℕ) (a : Typed) → grafted_root f (tested when l a) ≡ tested when l (grafted_typed f a)
  tested_is when l a = λ i. record { head = head_with (jump_by_zero when) I (sym.Label l) None; left = i_is a.suffix a.tree i; right = constant_i 0 }

  -- ---- scalars in memory

  loaded_by_is : (w : Width) (signed : Bool) (t : Template) → grafted_typed f (loaded_by w signed t) ≡ loaded_by w signed (grafted f t)
  loaded_by_is width.One signed t = refl
  loaded_by_is width.Two signed t = refl
  loaded_by_is width.Four signed t = refl

  pub loaded_is : (x : Scalar) (a : Typed) → grafted_typed f (loaded x a) ≡ loaded x (grafted_typed f a)
  loaded_is x a = loaded_by_is x.width x.signed (as_p a) ∙ (λ i. loaded_by x.width x.signed (p_is a.suffix a.tree i))

  pub loaded_pointer_is : (a : Typed) → grafted_typed f (loaded_pointer a) ≡ loaded_pointer (grafted_typed f a)
  loaded_pointer_is a = λ i. record { tree = over op.Indir P (p_is a.suffix a.tree i); suffix = P }

  word_is : (s : Suffix) (a t : Template) → grafted_root f (word_stored s a t) ≡ word_stored s (grafted f a) (grafted f t)
  word_is C a t = refl
  word_is S a t = refl
  word_is I a t = refl
  word_is U a t = refl
  word_is P a t = refl
  word_is B a t = refl
  word_is V a t = refl

  stored_by_is : (w : Width) (a : Template) (b : Typed) → grafted_root f (stored_by w a b) ≡ stored_by w (grafted f a) (grafted_typed f b)
  stored_by_is width.One a b = λ i. record { head = head op.Asgn C; left = grafted f a; right = narrow_is b.suffix C b.tree i }
  stored_by_is width.Two a b = λ i. record { head = head op.Asgn S; left = grafted f a; right = narrow_is b.suffix S b.tree i }
  stored_by_is width.Four a b = word_is b.suffix a b.tree

  pub stored_is : (w : Width) (a b : Typed) → grafted_root f (stored_as w a b) ≡ stored_as w (grafted_typed f a) (grafted_typed f b)
  stored_is w a b = stored_by_is w (as_p a) b ∙ (λ i. stored_by w (p_is a.suffix a.tree i) (grafted_typed f b))

  -- ---- bit-fields

  lowered_is : (signed : Bool) (x : Field) (t : Template) → grafted_typed f (lowered_by signed x t) ≡ lowered_by signed x (grafted f t)
  lowered_is true x t = refl
  lowered_is false x t = refl

  pub field_loaded_is : (order : Order) (x : Field) (a : Typed) → grafted_typed f (field_loaded order x a) ≡ field_loaded order x (grafted_typed f a)
  field_loaded_is order x a = lowered_is x.signed x (raised order x (unit_at a)) ∙ (λ i. lowered_by x.signed x (raised order x (over op.Indir I (p_is a.suffix a.tree i))))

  top_is : (x : Field) (b : Typed) → grafted f (at_top x b) ≡ at_top x (grafted_typed f b)
  top_is x b = λ i. over_two op.Lsh I (i_is b.suffix b.tree i) (constant_i (32 - x.width))

  masked_is : (x : Field) (b : Typed) → grafted f (masked x b) ≡ masked x (grafted_typed f b)
  masked_is x b = λ i. over_two op.Band U (u_is b.suffix b.tree i) (constant_u (2 ^ x.width - 1))

  field_value_by_is : (signed : Bool) (x : Field) (b : Typed) → grafted_typed f (field_value_by signed x b) ≡ field_value_by signed x (grafted_typed f b)
  field_value_by_is true x b = lowered_is true x (at_top x b) ∙ (λ i. lowered_by true x (top_is x b i))
  field_value_by_is false x b = λ i. record { tree = masked_is x b i; suffix = U }

  pub field_value_is : (x : Field) (b : Typed) → grafted_typed f (field_value x b) ≡ field_value x (grafted_typed f b)
  field_value_is x b = field_value_by_is x.signed x b

  bits_is : (top : Bool) (order : Order) (x : Field) (b : Typed) → grafted f (field_bits top order x b) ≡ field_bits top order x (grafted_typed f b)
  bits_is true order x b = λ i. over_two op.Rsh U (over op.Cvi U (top_is x b i)) (constant_i (32 - x.width - shift_of order x))
  bits_is false order x b = λ i. over_two op.Lsh U (masked_is x b i) (constant_i (shift_of order x))

  pub field_stored_is : (top : Bool) (order : Order) (x : Field) (a b : Typed)
      → grafted_root f (field_stored top order x a b) ≡ field_stored top order x (grafted_typed f a) (grafted_typed f b)
  field_stored_is top order x a b = λ i. record {
    head = head op.Asgn I;
    left = p_is a.suffix a.tree i;
    right = over op.Cvu I (over_two op.Bor U
        (over_two op.Band U (over op.Cvp U (over op.Indir P (p_is a.suffix a.tree i))) (constant_u (other_bits order x)))
        (bits_is top order x b i));
  }

  -- ---- pointers

  scaled_by_is : (s : Scaling) (t : Template) → grafted f (scaled_by s t) ≡ scaled_by s (grafted f t)
  scaled_by_is Single t = refl
  scaled_by_is (Shifted count) t = refl
  scaled_by_is (Multiplied size) t = refl

  scaled_is : (size : ℕ) (n : Typed) → grafted f (scaled size n) ≡ scaled size (grafted_typed f n)
  scaled_is size n = scaled_by_is (scaling_of size) (as_i n) ∙ (λ i. scaled_by (scaling_of size) (i_is n.suffix n.tree i))

  pub moved_is : (size : ℕ) (back : Bool) (a b : Typed) → grafted_typed f (moved size back a b) ≡ moved size back (grafted_typed f a) (grafted_typed f b)
  moved_is size back a b = λ i. record { tree = over_two (move_op back) P (p_is a.suffix a.tree i) (scaled_is size b i); suffix = P }

  pub displaced_is : (by : ℕ) (a : Typed) → grafted_typed f (displaced by a) ≡ displaced by (grafted_typed f a)
  displaced_is zero a = refl
  displaced_is (suc n) a = λ i. record { tree = over_two op.Add P (p_is a.suffix a.tree i) (constant_i (suc n)); suffix = P }

  between_is : (a b : Typed) → grafted_typed f (between a b) ≡ between (grafted_typed f a) (grafted_typed f b)
  between_is a b = λ i. record { tree = over_two op.Sub U (u_is a.suffix a.tree i) (u_is b.suffix b.tree i); suffix = U }

  divided_is : (whole : Bool) (size : ℕ) (a : Typed) → grafted_typed f (if whole then a else record { tree = over_two op.Div I (as_i a) (constant_i size); suffix = I })
      ≡ (if whole then grafted_typed f a else record { tree = over_two op.Div I (as_i (grafted_typed f a)) (constant_i size); suffix = I })
  divided_is true size a = refl
  divided_is false size a = λ i. record { tree = over_two op.Div I (i_is a.suffix a.tree i) (constant_i size); suffix = I }

  abbrev divided : ℕ → Typed → Typed
  divided size d = if size == 1 then d else record { tree = over_two op.Div I (as_i d) (constant_i size); suffix = I }

  pub difference_is : (size : ℕ) (a b : Typed) → grafted_typed f (difference size a b) ≡ difference size (grafted_typed f a) (grafted_typed f b)
  difference_is size a b = divided_is (size == 1) size (between a b) ∙ (λ i. divided size (between_is a b i))
