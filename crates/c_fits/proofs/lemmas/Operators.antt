-- Operators whose operands are numbers or pointers: sums, differences, comparisons, tests.
use Rattle.std.proofs.Common.{◌≡◌, ◌⊎◌, ℕ, true, false, not, ◌&&◌, ◌||◌, List, refl, sym, subst, inl, inr}
use Rattle.c_ast.specs.declared.operator.BinaryOperator.{BinaryOperator}
use Rattle.c_ast.specs.declared.operator.BinaryOperator.TheVariants as binary
use Rattle.objects.specs.declared.operators.Binary.{Binary}
use Rattle.objects.specs.declared.operators.Binary.TheVariants as operator
use Rattle.objects.specs.declared.operators.Comparison.{Comparison}
use Rattle.objects.specs.declared.operators.Comparison.TheVariants as comparison
use Rattle.objects.specs.Arithmetic.{is_shift}
use Rattle.c_types.specs.CType.{Int, CType, basic}
use Rattle.c_types.specs.Conversions.{is_integer}
use Rattle.c_types.specs.Layout.{Tag}
use Rattle.c_meaning.specs.declared.core_expr.CoreKind.TheVariants as kind
use Rattle.c_meaning.specs.CoreTrees.{Core, type_of, two}
use Rattle.c_meaning.specs.ExprConstraints.{are_integers, are_ordered, can_add, can_combine, can_compare, can_equal, can_order, can_subtract, can_test, cannot_move, differ_in_targets, have_order, moves_nowhere, pointers_fit}
use Rattle.c_meaning.specs.Scalars.{is_signed}
use Rattle.c_meaning.specs.Types.{has_size, is_pointer, is_scalar, target}
use Rattle.c_meaning.specs.Values.{CoreTree, usual_type}
use Rattle.c_meaning.specs.Rows.{arithmetic, at_usual, beside, combined, compared, difference, less, moved, shift, sum}
use Rattle.c_fits.proofs.lemmas.Booleans.{not_false, and_left, and_right, and_beside, or_cases, or_left, or_right, or_true, or_false}
use Rattle.c_fits.proofs.lemmas.Values.{IsPart, IsOperand}
use Rattle.c_fits.proofs.lemmas.Numbers.{pointer_scalar}
use Rattle.c_fits.proofs.lemmas.Arithmetic.{and_part, or_part, arithmetic_part, shift_part, compared_part}
use Rattle.c_fits.proofs.lemmas.Pointers.{integer_no_pointer, forward_part, behind_part, difference_part, pointers_compared}
use Rattle.c_fits.proofs.lemmas.Conditionals.{pointers_cases, pointers_scalars}

-- a pointer that moves is of elements with a size
pub elements_sized : (tags : List Tag) (t : CType) → is_pointer t ≡ true → moves_nowhere tags t ≡ false → has_size tags (target t) ≡ true
elements_sized tags t h k = not_false (has_size tags (target t)) (and_beside (is_pointer t) (not (has_size tags (target t))) h k)

module _ (tags : List Tag) (line : ℕ) (v w : CoreTree) (o : IsOperand tags v) (p : IsOperand tags w) where
  numbers_part : (op : Binary) → is_shift op ≡ false → are_integers (type_of v) (type_of w) ≡ true → IsPart tags (arithmetic op line v w)
  numbers_part op e h =
      arithmetic_part tags line v w o p (and_left (is_integer (type_of v)) (is_integer (type_of w)) h) (and_right (is_integer (type_of v)) (is_integer (type_of w)) h) op e

  shifted_part : (op : Binary) → is_shift op ≡ true → are_integers (type_of v) (type_of w) ≡ true → IsPart tags (shift op line v w)
  shifted_part op e h =
      shift_part tags line v w o p (and_left (is_integer (type_of v)) (is_integer (type_of w)) h) (and_right (is_integer (type_of v)) (is_integer (type_of w)) h) op e

  no_pointers : are_integers (type_of v) (type_of w) ≡ true → (is_pointer (type_of v) || is_pointer (type_of w)) ≡ false
  no_pointers h =
      or_false (is_pointer (type_of v)) (is_pointer (type_of w)) (integer_no_pointer (type_of v) (and_left (is_integer (type_of v)) (is_integer (type_of w)) h))
      (integer_no_pointer (type_of w) (and_right (is_integer (type_of v)) (is_integer (type_of w)) h))

  -- ---- sums and differences

  sum_of_numbers : are_integers (type_of v) (type_of w) ≡ true → sum tags line v w ≡ arithmetic operator.Add line v w
  sum_of_numbers h = rw (no_pointers h)

  sum_of_pointer : (is_pointer (type_of v) || is_pointer (type_of w)) ≡ true → sum tags line v w ≡ moved tags false line v w
  sum_of_pointer h = rw h

  pub sum_part : can_add (type_of v) (type_of w) ≡ true → cannot_move tags binary.Add (type_of v) (type_of w) ≡ false → IsPart tags (sum tags line v w)
  sum_part h n = first (or_cases (are_integers (type_of v) (type_of w)) ((is_pointer (type_of v) && is_integer (type_of w)) || (is_integer (type_of v) && is_pointer (type_of w))) h)
    where
      second : ((is_pointer (type_of v) && is_integer (type_of w)) ≡ true) ⊎ ((is_integer (type_of v) && is_pointer (type_of w)) ≡ true) → IsPart tags (sum tags line v w)
      second (inl k) =
          let a = and_left (is_pointer (type_of v)) (is_integer (type_of w)) k in
          let z = elements_sized tags (type_of v) a (or_left (moves_nowhere tags (type_of v)) (moves_nowhere tags (type_of w)) n) in
          subst (IsPart tags) (sym (sum_of_pointer (or_true (is_pointer (type_of v)) (is_pointer (type_of w)) (inl a)))) (forward_part tags line v w o p false a z (and_right (is_pointer (type_of v)) (is_integer (type_of w)) k))
      second (inr k) =
          let a = and_right (is_integer (type_of v)) (is_pointer (type_of w)) k in
          let z = elements_sized tags (type_of w) a (or_right (moves_nowhere tags (type_of v)) (moves_nowhere tags (type_of w)) n) in
          subst (IsPart tags) (sym (sum_of_pointer (or_true (is_pointer (type_of v)) (is_pointer (type_of w)) (inr a)))) (behind_part tags line v w o p (and_left (is_integer (type_of v)) (is_pointer (type_of w)) k) a z)

      first : (are_integers (type_of v) (type_of w) ≡ true) ⊎ (((is_pointer (type_of v) && is_integer (type_of w)) || (is_integer (type_of v) && is_pointer (type_of w))) ≡ true) → IsPart tags (sum tags line v w)
      first (inl k) = subst (IsPart tags) (sym (sum_of_numbers k)) (numbers_part operator.Add refl k)
      first (inr k) = second (or_cases (is_pointer (type_of v) && is_integer (type_of w)) (is_integer (type_of v) && is_pointer (type_of w)) k)

  less_numbers : is_pointer (type_of v) ≡ false → less tags line v w ≡ arithmetic operator.Subtract line v w
  less_numbers h = rw h

  less_integer : is_pointer (type_of v) ≡ true → is_pointer (type_of w) ≡ false → less tags line v w ≡ moved tags true line v w
  less_integer h k = rw (h, k)

  less_pointer : is_pointer (type_of v) ≡ true → is_pointer (type_of w) ≡ true → less tags line v w ≡ difference tags line v w
  less_pointer h k = rw (h, k)

  pub less_part : can_subtract (type_of v) (type_of w) ≡ true → cannot_move tags binary.Subtract (type_of v) (type_of w) ≡ false → IsPart tags (less tags line v w)
  less_part h n = first (or_cases (are_integers (type_of v) (type_of w)) ((is_pointer (type_of v) && is_integer (type_of w)) || (is_pointer (type_of v) && is_pointer (type_of w))) h)
    where
      sized : is_pointer (type_of v) ≡ true → has_size tags (target (type_of v)) ≡ true
      sized a = elements_sized tags (type_of v) a (or_left (moves_nowhere tags (type_of v)) (moves_nowhere tags (type_of w) || differ_in_targets (type_of v) (type_of w)) n)

      second : ((is_pointer (type_of v) && is_integer (type_of w)) ≡ true) ⊎ ((is_pointer (type_of v) && is_pointer (type_of w)) ≡ true) → IsPart tags (less tags line v w)
      second (inl k) =
          let a = and_left (is_pointer (type_of v)) (is_integer (type_of w)) k in
          let i = and_right (is_pointer (type_of v)) (is_integer (type_of w)) k in
          subst (IsPart tags) (sym (less_integer a (integer_no_pointer (type_of w) i))) (forward_part tags line v w o p true a (sized a) i)
      second (inr k) =
          let a = and_left (is_pointer (type_of v)) (is_pointer (type_of w)) k in
          let b = and_right (is_pointer (type_of v)) (is_pointer (type_of w)) k in
          subst (IsPart tags) (sym (less_pointer a b)) (difference_part tags line v w o p a b (sized a))

      first : (are_integers (type_of v) (type_of w) ≡ true) ⊎ (((is_pointer (type_of v) && is_integer (type_of w)) || (is_pointer (type_of v) && is_pointer (type_of w))) ≡ true) → IsPart tags (less tags line v w)
      first (inl k) =
          subst (IsPart tags) (sym (less_numbers (integer_no_pointer (type_of v) (and_left (is_integer (type_of v)) (is_integer (type_of w)) k)))) (numbers_part operator.Subtract refl k)
      first (inr k) = second (or_cases (is_pointer (type_of v) && is_integer (type_of w)) (is_pointer (type_of v) && is_pointer (type_of w)) k)

  -- ---- comparisons

  compared_numbers : (op : Comparison) → are_integers (type_of v) (type_of w) ≡ true → IsPart tags (compared op line v w)
  compared_numbers op h =
      let e : compared op line v w ≡ at_usual (kind.Compare op (is_signed (usual_type v w))) (basic Int) (usual_type v w) line v w = rw (no_pointers h) in
      subst (IsPart tags) (sym e)
      (compared_part tags line v w o p (and_left (is_integer (type_of v)) (is_integer (type_of w)) h) (and_right (is_integer (type_of v)) (is_integer (type_of w)) h) op)

  compared_pointers : (op : Comparison) → is_scalar (type_of v) ≡ true → is_scalar (type_of w) ≡ true → (is_pointer (type_of v) || is_pointer (type_of w)) ≡ true → IsPart tags (compared op line v w)
  compared_pointers op h k e =
      let d : compared op line v w ≡ Core (kind.Compare op false) (basic Int) line (two (beside (type_of w) v) (beside (type_of v) w)) = rw e in
      subst (IsPart tags) (sym d) (pointers_compared tags line op v w o p h k (or_cases (is_pointer (type_of v)) (is_pointer (type_of w)) e))

  pub equal_part : (op : Comparison) → can_equal v w ≡ true → IsPart tags (compared op line v w)
  equal_part op h = by (or_cases (are_integers (type_of v) (type_of w)) (pointers_fit v w) h)
    where
      by : (are_integers (type_of v) (type_of w) ≡ true) ⊎ (pointers_fit v w ≡ true) → IsPart tags (compared op line v w)
      by (inl k) = compared_numbers op k
      by (inr k) = let s = pointers_scalars tags v w o p (pointers_cases v w k) in compared_pointers op s.0 s.1.0 s.1.1

  pub order_part : (op : Comparison) → can_order tags v w ≡ true → IsPart tags (compared op line v w)
  order_part op h = by (or_cases (are_integers (type_of v) (type_of w)) (have_order tags (type_of v) (type_of w)) h)
    where
      by : (are_integers (type_of v) (type_of w) ≡ true) ⊎ (have_order tags (type_of v) (type_of w) ≡ true) → IsPart tags (compared op line v w)
      by (inl k) = compared_numbers op k
      by (inr k) =
          let b = and_left (is_pointer (type_of v) && is_pointer (type_of w)) (are_ordered tags (target (type_of v)) (target (type_of w))) k in
          let m = and_left (is_pointer (type_of v)) (is_pointer (type_of w)) b in
          let n = and_right (is_pointer (type_of v)) (is_pointer (type_of w)) b in
          compared_pointers op (pointer_scalar (type_of v) m) (pointer_scalar (type_of w) n) (or_true (is_pointer (type_of v)) (is_pointer (type_of w)) (inl m))

  -- ---- all of them

  pub combined_part : (op : BinaryOperator) → can_combine op (type_of v) (type_of w) ≡ true → cannot_move tags op (type_of v) (type_of w) ≡ false → can_compare tags op v w ≡ true → can_test op (type_of v) (type_of w) ≡ true
      → IsPart tags (combined tags line op v w)
  combined_part binary.Or c m k t = or_part tags line v w o p (and_left (is_scalar (type_of v)) (is_scalar (type_of w)) t) (and_right (is_scalar (type_of v)) (is_scalar (type_of w)) t)
  combined_part binary.And c m k t = and_part tags line v w o p (and_left (is_scalar (type_of v)) (is_scalar (type_of w)) t) (and_right (is_scalar (type_of v)) (is_scalar (type_of w)) t)
  combined_part binary.BitOr c m k t = numbers_part operator.Or refl c
  combined_part binary.BitXor c m k t = numbers_part operator.Xor refl c
  combined_part binary.BitAnd c m k t = numbers_part operator.And refl c
  combined_part binary.Equal c m k t = equal_part comparison.Equal k
  combined_part binary.NotEqual c m k t = equal_part comparison.NotEqual k
  combined_part binary.Less c m k t = order_part comparison.Less k
  combined_part binary.Greater c m k t = order_part comparison.Greater k
  combined_part binary.LessEqual c m k t = order_part comparison.LessEqual k
  combined_part binary.GreaterEqual c m k t = order_part comparison.GreaterEqual k
  combined_part binary.ShiftLeft c m k t = shifted_part operator.ShiftLeft refl c
  combined_part binary.ShiftRight c m k t = shifted_part operator.ShiftRight refl c
  combined_part binary.Add c m k t = sum_part c m
  combined_part binary.Subtract c m k t = less_part c m
  combined_part binary.Multiply c m k t = numbers_part operator.Multiply refl c
  combined_part binary.Divide c m k t = numbers_part operator.Divide refl c
  combined_part binary.Remainder c m k t = numbers_part operator.Remainder refl c
