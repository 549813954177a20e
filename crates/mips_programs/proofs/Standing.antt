-- Where items stand in code: a first part of them, and what is behind it.
use Rattle.std.proofs.Common.{◌≡◌, ℕ, suc, ◌+◌, ◌≤◌, List, [], ◌∷◌, ◌++◌, length, Option, refl, ap, subst, arith}
use Rattle.std.proofs.lemmas.Option.{slice_get_within}
use Rattle.asm_text.specs.Program.{MInstruction}
use Rattle.mips_target.specs.FunctionCode.{unmarked}
use Rattle.unit_text.specs.Items.{CodeItem, Line, Mark, lines_in, StandsIn}

-- instructions without labels, in two parts
pub unmarked_append : (xs ys : List MInstruction) → unmarked (xs ++ ys) ≡ unmarked xs ++ unmarked ys
unmarked_append [] ys = refl
unmarked_append (x ∷ xs) ys = ap (λ z. Line x ∷ z) (unmarked_append xs ys)

pub lines_unmarked : (is : List MInstruction) (xs : List (CodeItem MInstruction)) → lines_in (unmarked is ++ xs) ≡ is ++ lines_in xs
lines_unmarked [] xs = refl
lines_unmarked (i ∷ is) xs = ap (λ z. i ∷ z) (lines_unmarked is xs)

module _ (code : List MInstruction) (found : ℕ → Option ℕ) where
  pub front_stands : (i : ℕ) (xs ys : List (CodeItem MInstruction)) → StandsIn code found i (xs ++ ys) → StandsIn code found i xs
  front_stands i [] ys h = tt
  front_stands i (Line x ∷ xs) ys h = (h.0, front_stands (suc i) xs ys h.1)
  front_stands i (Mark l ∷ xs) ys h = (h.0, front_stands i xs ys h.1)

  -- what stands behind instructions without labels
  pub stands_behind : (i : ℕ) (is : List MInstruction) (ys : List (CodeItem MInstruction)) → StandsIn code found i (unmarked is ++ ys) → StandsIn code found (i + length is) ys
  stands_behind i [] ys h = let e : i ≡ i + 0 = omega arith in subst (λ x. StandsIn code found x ys) e h
  stands_behind i (x ∷ is) ys h =
      let e : suc i + length is ≡ i + suc (length is) = omega arith in subst (λ n. StandsIn code found n ys) e (stands_behind (suc i) is ys h.1)

  -- instructions in two parts
  pub both_stand : (i : ℕ) (xs ys : List MInstruction) → StandsIn code found i (unmarked (xs ++ ys)) → StandsIn code found i (unmarked xs ++ unmarked ys)
  both_stand i xs ys h = subst (λ z. StandsIn code found i z) (unmarked_append xs ys) h

  -- what stands in code is no longer than it
  stands_within : (i : ℕ) (xs : List (CodeItem MInstruction)) → i ≤ length code → StandsIn code found i xs → i + length (lines_in xs) ≤ length code
  stands_within i [] low h = omega (arith, low)
  stands_within i (Line x ∷ xs) low h =
      let a = slice_get_within code i x h.0 in
      let b = stands_within (suc i) xs (omega (arith, a)) h.1 in
      omega (arith, b)
  stands_within i (Mark l ∷ xs) low h = stands_within i xs low h.1

  pub no_longer : (i : ℕ) (xs : List (CodeItem MInstruction)) → StandsIn code found i xs → length (lines_in xs) ≤ length code
  no_longer i [] h = omega arith
  no_longer i (Line x ∷ xs) h =
      let a = slice_get_within code i x h.0 in
      let b = stands_within (suc i) xs (omega (arith, a)) h.1 in
      omega (arith, b)
  no_longer i (Mark l ∷ xs) h = no_longer i xs h.1
