-- What stores, copies, tests and returns add, over operands of any price.
use Rattle.std.specs.Prelude.{refl, ℕ, ◌+◌, ◌≤◌, ℤ, Bool, true, false}
use Rattle.std.proofs.Common.{arith}
use Rattle.lcc_base.specs.declared.order.Order.{Order}
use Rattle.objects.specs.declared.operators.Comparison.{Comparison}
use Rattle.objects.specs.declared.width.Width.{Width}
use Rattle.objects.specs.declared.width.Width.TheVariants as width
use Rattle.objects.specs.declared.width.Width.TheVariants.{Four}
use Rattle.op_forest.specs.declared.suffix.Suffix.{Suffix}
use Rattle.op_forest.specs.declared.suffix.Suffix.TheVariants.{C, S, I, U, P, B, V}
use Rattle.c_meaning.specs.Scalars.{scalar_of}
use Rattle.c_runs.specs.Places.{Spot, is_field, field_of}
use Rattle.c_rows_agree.specs.Integers.{number, compared, comparison_where}
use Rattle.c_rows_agree.specs.Integers.{compares_signed as signed_for}
use Rattle.c_rows_agree.specs.Places.{field_bits, word_stored, stored_by, stored_as, at_top, masked}
use Rattle.c_rows_agree.specs.Templates.{Template}
use Rattle.c_rows_agree.specs.Typed.{Typed, as_p}
use Rattle.c_pointers_agree.specs.Pointers.{local}
use Rattle.lowered_forms.specs.Accesses.{copy_root, written_by}
use Rattle.lowered_forms.specs.Lows.{Low, acted, branched}
use Rattle.lowered_forms.specs.Values.{slot_read, stored_in}
use Rattle.expression_weights.specs.Rises.{Risen, Rises}
use Rattle.expression_weights.specs.Templates.{Priced}
use Rattle.expression_weights.proofs.lemmas.Operands.{branched_rises}
use Rattle.expression_weights.proofs.lemmas.Operations.{PricedAt, as_i_at, as_p_at, narrow_at, i_priced, u_priced, p_priced, by_priced, slot_priced, leaf_value, word_left}
use Rattle.expression_weights.proofs.lemmas.Templates.{priced_more}

-- ---- templates

word_at : (n : ℕ) (s : Suffix) (a t : Template) → 9 ≤ n → Priced n t → Priced (n + 2) (word_stored s a t).right
word_at n C a t l h = as_i_at n C t l h
word_at n S a t l h = as_i_at n S t l h
word_at n I a t l h = as_i_at n I t l h
word_at n U a t l h = as_i_at n U t l h
word_at n P a t l h = priced_more n (n + 2) t (omega arith) h
word_at n B a t l h = as_i_at n B t l h
word_at n V a t l h = as_i_at n V t l h

left_at : (n : ℕ) (w : Width) (a : Template) (b : Typed) → Priced n a → Priced n (stored_by w a b).left
left_at n width.One a b h = h
left_at n width.Two a b h = h
left_at n width.Four a b h = word_left n b.suffix a b.tree h

right_at : (n : ℕ) (w : Width) (a : Template) (b : Typed) → 9 ≤ n → PricedAt n b → Priced (n + 2) (stored_by w a b).right
right_at n width.One a b l h = narrow_at n b.suffix C b.tree l h
right_at n width.Two a b l h = narrow_at n b.suffix S b.tree l h
right_at n width.Four a b l h = word_at n b.suffix a b.tree l h

place_at : (n : ℕ) (p : Typed) → 9 ≤ n → PricedAt n p → Priced (n + 2) (as_p p)
place_at n p l h = as_p_at n p.suffix p.tree l h

top_at : (x : Spot) (v : Typed) → PricedAt 10 v → Priced 14 (at_top (field_of x) v)
top_at x v h = (refl, omega arith, 12, 1, i_priced v h, (refl, omega arith), omega arith)

masked_at : (x : Spot) (v : Typed) → PricedAt 10 v → Priced 13 (masked (field_of x) v)
masked_at x v h = (refl, omega arith, 11, 1, u_priced v h, (refl, omega arith), omega arith)

bits_at : (b : Bool) (order : Order) (x : Spot) (v : Typed) → PricedAt 10 v → Priced 17 (field_bits b order (field_of x) v)
bits_at true order x v h = (refl, omega arith, 15, 1, (refl, omega arith, 14, top_at x v h, omega arith), (refl, omega arith), omega arith)
bits_at false order x v h = (refl, omega arith, 13, 1, masked_at x v h, (refl, omega arith), omega arith)

written_left_at : (b shared : Bool) (order : Order) (x : Spot) (p v : Typed) → PricedAt 14 p → Priced 16 (written_by b shared order x p v).left
written_left_at true shared order x p v h = place_at 14 p (omega arith) h
written_left_at false shared order x p v h = left_at 16 (scalar_of x.of).width (as_p p) v (place_at 14 p (omega arith) h)

written_right_at : (b shared : Bool) (order : Order) (x : Spot) (p v : Typed) → PricedAt 14 p → PricedAt 10 v → Priced 39 (written_by b shared order x p v).right
written_right_at true shared order x p v f g = (
  refl,
  omega arith,
  38,
  (
    refl,
    omega arith,
    20,
    17,
    (refl, omega arith, 18, 1, (refl, omega arith, 17, (refl, omega arith, 16, place_at 14 p (omega arith) f, omega arith), omega arith), (refl, omega arith), omega arith),
    bits_at _ order x v g,
    omega arith,
  ),
  omega arith,
)
written_right_at false shared order x p v f g = priced_more 12 39 _ (omega arith) (right_at 10 (scalar_of x.of).width (as_p p) v (omega arith) g)

-- ---- steps

module _ (R : Risen) (k : Rises R) where
  pub joined : {m n : ℕ} {a b c : Low} → R m a b → R n b c → R (m + n) a c
  joined {m} {n} {a} {b} {c} x y = k.joins m n a b c x y

  pub at_most : {m : ℕ} {a b : Low} (n : ℕ) → R m a b → m ≤ n → R n a b
  at_most {m} {a} {b} n x le = k.weakens m n a b le x

  pub stores : (m n : ℕ) (w : Width) (p v : Typed) (l : Low) → 9 ≤ m → 9 ≤ n → PricedAt m p → PricedAt n v → R (5 + (m + n)) l (acted (stored_as w p v) l)
  stores m n w p v l f g h i =
      at_most (5 + (m + n)) (k.acts (m + 2) (n + 2) (stored_as w p v) l (left_at (m + 2) w (as_p p) v (place_at m p f h)) (right_at n w (as_p p) v g i)) (omega arith)

  pub keeps : (n : ℕ) (z : ℤ) (v : Typed) (l : Low) → 9 ≤ n → PricedAt n v → R (4 + n) l (stored_in z v l)
  keeps n z v l g h =
      at_most (4 + n) (k.acts 1 (n + 2) (stored_as Four (local z) v) l (left_at 1 Four (local z).tree v (refl, omega arith)) (right_at n Four (local z).tree v g h)) (omega arith)

  pub copies : (size align : ℕ) (to from : Typed) (l : Low) → PricedAt 14 to → PricedAt 10 from → R 30 l (acted (copy_root size align to from) l)
  copies size align to from l f g = k.acts 16 13 (copy_root size align to from) l (place_at 14 to (omega arith) f) (refl, omega arith, 12, p_priced from g, omega arith)

  pub writes : (order : Order) (x : Spot) (p v : Typed) (l : Low) → PricedAt 14 p → PricedAt 10 v → R 56 l (acted (written_by (is_field x) false order x p v) l)
  writes order x p v l f g =
      k.acts 16 39 (written_by (is_field x) false order x p v) l (written_left_at (is_field x) false order x p v f) (written_right_at (is_field x) false order x p v f g)

  pub compares : (o : Comparison) (signed other : Bool) (to n : ℕ) (z : ℤ) (l : Low) → R 25 l (branched (compared o signed true to (slot_read I z) (number other n)) l)
  compares o signed other to n z l =
      branched_rises R k 12 12 (compared o signed true to (slot_read I z) (number other n)) l (by_priced (signed_for signed (comparison_where true o)) (slot_read I z) (slot_priced I z))
      (by_priced (signed_for signed (comparison_where true o)) (number other n) (leaf_value other n))
