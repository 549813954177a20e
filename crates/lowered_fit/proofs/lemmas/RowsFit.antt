-- The templates of C's operations fit over operands that do.
use Rattle.std.specs.Prelude.{◌≡◌, ◌≤◌, ◌<◌, ℕ, zero, suc, ◌+◌, ◌^◌, Bool, true, Option, Some}
use Rattle.std.proofs.Common.{refl, subst}
use Rattle.std.proofs.lemmas.Option.{same_Some}
use Rattle.lcc_base.specs.declared.order.Order.{Order}
use Rattle.objects.specs.declared.field.Field.{Field}
use Rattle.objects.specs.declared.operators.Binary.{Binary}
use Rattle.objects.specs.declared.operators.Comparison.{Comparison}
use Rattle.objects.specs.declared.width.Scalar.{Scalar}
use Rattle.objects.specs.declared.width.Width.{Width}
use Rattle.objects.specs.declared.width.Width.TheVariants.{One}
use Rattle.op_forest.specs.declared.suffix.Suffix.{Suffix}
use Rattle.op_forest.specs.declared.suffix.Suffix.TheVariants.{I, U}
use Rattle.c_pointers_agree.specs.Pointers.{moved, displaced, difference}
use Rattle.c_pointers_agree.proofs.lemmas.Fitting as pointers
use Rattle.c_rows_agree.proofs.lemmas.Fitting as laws
use Rattle.c_rows_agree.specs.Fitting as rows
use Rattle.c_rows_agree.specs.Integers.{converted_to, as_pointer, binary_of, compared, tested}
use Rattle.c_rows_agree.specs.Places.{loaded, loaded_pointer, stored_as, field_loaded, field_value, field_stored}
use Rattle.c_rows_agree.specs.Templates.{Template, Given, Root}
use Rattle.c_rows_agree.specs.Typed.{Typed, as_i, as_u}
use Rattle.lowered_fit.specs.Fitted.{Standing, FitsTree, FitsTyped, FitsRoot}
use Rattle.lowered_fit.proofs.lemmas.Grafts.{grafted_typed, grafted_root, tree_in, i_is, u_is, typed_in, root_in, converted_is, pointer_is, binary_is, compared_is, tested_is, loaded_is, loaded_pointer_is, stored_is, field_loaded_is, field_value_is, field_stored_is, moved_is, displaced_is, difference_is}

-- ---- two operands as nodes

abbrev trees : Template → Template → ℕ → Template
trees a b zero = a
trees a b (suc n) = b

abbrev suffixes : Suffix → Suffix → ℕ → Option Suffix
suffixes s t zero = Some s
suffixes s t (suc n) = Some t

abbrev first : Typed → Typed
first a = record { tree = Given zero; suffix = a.suffix }

abbrev second : Typed → Typed
second a = record { tree = Given (suc zero); suffix = a.suffix }

-- any
abbrev char : Scalar
char = record { width = One; signed = true }

module _ (g : Standing) (a b : Typed) (h : FitsTyped g a) (k : FitsTyped g b) where
  abbrev f : ℕ → Template
  f n = trees a.tree b.tree n

  abbrev given : ℕ → Option Suffix
  given n = suffixes a.suffix b.suffix n

  fit : (n : ℕ) (s : Suffix) → given n ≡ Some s → FitsTree g (f n) s
  fit zero s e = subst (λ t. FitsTree g a.tree t) (same_Some a.suffix s e) h.fits
  fit (suc n) s e = subst (λ t. FitsTree g b.tree t) (same_Some b.suffix s e) k.fits

  one : rows.FitsTyped given (first a)
  one = record { fits = refl; scalar = h.scalar }

  two : rows.FitsTyped given (second b)
  two = record { fits = refl; scalar = k.scalar }

  typed : (x y : Typed) → grafted_typed f x ≡ y → rows.FitsTyped given x → FitsTyped g y
  typed x y e d = subst (λ z. FitsTyped g z) e (typed_in g given f fit x d)

  whole : (x y : Typed) → grafted_typed f x ≡ y → rows.FitsInteger given x → FitsTyped g y
  whole x y e d = typed x y e (laws.typed_integer given x d)

  root : (x y : Root) → grafted_root f x ≡ y → rows.FitsRoot given x → FitsRoot g y
  root x y e d = subst (λ z. FitsRoot g z) e (root_in g given f fit x d)

  pub i_fits : FitsTree g (as_i a) I
  i_fits = subst (λ t. FitsTree g t I) (i_is f a.suffix (Given zero)) (tree_in g given f fit (as_i (first a)) I (laws.suffixes_fit given (first a) one).0)

  pub u_fits : FitsTree g (as_u a) U
  u_fits = subst (λ t. FitsTree g t U) (u_is f a.suffix (Given zero)) (tree_in g given f fit (as_u (first a)) U (laws.suffixes_fit given (first a) one).1)

  pub converted_fits : (x : Scalar) → FitsTyped g (converted_to x a)
  converted_fits x = whole (converted_to x (first a)) (converted_to x a) (converted_is f x (first a)) (laws.conversion_fits given x (first a) one)

  pub pointer_fits : FitsTyped g (as_pointer a)
  pointer_fits = typed (as_pointer (first a)) (as_pointer a) (pointer_is f (first a)) (laws.pointer_fits given (first a) one)

  pub binary_fits : (o : Binary) (signed : Bool) → FitsTyped g (binary_of o signed a b)
  binary_fits o signed = whole (binary_of o signed (first a) (second b)) (binary_of o signed a b) (binary_is f o signed (first a) (second b)) (laws.binary_fits given o signed (first a) (second b) one two)

  pub comparison_fits : (o : Comparison) (signed when : Bool) (l : ℕ) → FitsRoot g (compared o signed when l a b)
  comparison_fits o signed when l = root (compared o signed when l (first a) (second b)) (compared o signed when l a b) (compared_is f o signed when l (first a) (second b)) (laws.comparison_fits given o signed when l (first a) (second b) one two)

  pub test_fits : (when : Bool) (l : ℕ) → FitsRoot g (tested when l a)
  test_fits when l = root (tested when l (first a)) (tested when l a) (tested_is f when l (first a)) (laws.test_fits given when l (first a) one)

  pub read_fits : (x : Scalar) → FitsTyped g (loaded x a)
  read_fits x = whole (loaded x (first a)) (loaded x a) (loaded_is f x (first a)) (laws.read_fits given x (first a) one).0

  pub pointer_read_fits : FitsTyped g (loaded_pointer a)
  pointer_read_fits =
      typed (loaded_pointer (first a)) (loaded_pointer a) (loaded_pointer_is f (first a)) (laws.read_fits given char (first a) one).1

  pub store_fits : (w : Width) → FitsRoot g (stored_as w a b)
  store_fits w = root (stored_as w (first a) (second b)) (stored_as w a b) (stored_is f w (first a) (second b)) (laws.store_fits given w (first a) (second b) one two)

  pub field_read_fits : (order : Order) (x : Field) → FitsTyped g (field_loaded order x a)
  field_read_fits order x = whole (field_loaded order x (first a)) (field_loaded order x a) (field_loaded_is f order x (first a)) (laws.field_read_fits given order x (first a) one)

  pub field_value_fits : (x : Field) → x.width ≤ 32 → FitsTyped g (field_value x a)
  field_value_fits x le = whole (field_value x (first a)) (field_value x a) (field_value_is f x (first a)) (laws.field_value_fits given x (first a) le one)

  pub field_store_fits : (top : Bool) (order : Order) (x : Field) → x.first + x.width ≤ 32 → FitsRoot g (field_stored top order x a b)
  field_store_fits top order x le = root (field_stored top order x (first a) (second b)) (field_stored top order x a b) (field_stored_is f top order x (first a) (second b)) (laws.field_store_fits given top order x (first a) (second b) le one two)

  pub move_fits : (size : ℕ) (back : Bool) → size < 2 ^ 32 → FitsTyped g (moved size back a b)
  move_fits size back small = typed (moved size back (first a) (second b)) (moved size back a b) (moved_is f size back (first a) (second b)) (pointers.elements_fit given size back (first a) (second b) small one two)

  pub member_fits : (by : ℕ) → by < 2 ^ 32 → FitsTyped g (displaced by a)
  member_fits by small = typed (displaced by (first a)) (displaced by a) (displaced_is f by (first a)) (pointers.member_fits given by (first a) small one)

  pub difference_fits : (size : ℕ) → size < 2 ^ 32 → FitsTyped g (difference size a b)
  difference_fits size small = whole (difference size (first a) (second b)) (difference size a b) (difference_is f size (first a) (second b)) (pointers.differences_fit given size (first a) (second b) small one two)
