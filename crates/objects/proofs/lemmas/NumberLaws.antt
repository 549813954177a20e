-- Lemmas: numbers and their bytes: what is written is read, and the other way round, in each order of 1, 2 and 4 bytes.
use Rattle.std.specs.Prelude.{◌≡◌, ◌<◌, ℕ, ◌+◌, ◌*◌, ◌%◌, ◌^◌, List, [], ◌∷◌, ◌++◌, length, All}
use Rattle.std.proofs.Common.{arith, ap, sym, ◌∙◌}
use Rattle.std.proofs.lemmas.List.Elements.{recursion_from_All}
use Rattle.lcc_base.specs.declared.order.Order.{Order}
use Rattle.lcc_base.specs.declared.order.Order.TheVariants.{Big, Little}
use Rattle.lcc_base.specs.NumberIn.{number_in}
use Rattle.objects.specs.Bytes.{number_bytes}
use Rattle.objects.specs.NumberLaws.{by_order}

same_four : (a b c d e f g h : ℕ) → a ≡ e → b ≡ f → c ≡ g → d ≡ h → a ∷ b ∷ c ∷ d ∷ [] ≡ e ∷ f ∷ g ∷ h ∷ []
same_four a b c d e f g h p q r s = cc

-- the bytes of four bytes' number are these
pub bytes_of_number : (order : Order) (a b c d : ℕ) → a < 256 → b < 256 → c < 256 → d < 256 → number_bytes order 4 (number_in order (a ∷ b ∷ c ∷ d ∷ [])) ≡ a ∷ b ∷ c ∷ d ∷ []
bytes_of_number Big a b c d ha hb hc hd = same_four _ _ _ _ a b c d (omega arith) (omega arith) (omega arith) (omega arith)
bytes_of_number Little a b c d ha hb hc hd = same_four _ _ _ _ a b c d (omega arith) (omega arith) (omega arith) (omega arith)

pub split_is : (order : Order) (n : ℕ) (bytes : List ℕ) → number_in order bytes ≡ n → length bytes ≡ 4 → All (λ b. b < 256) bytes → bytes ≡ number_bytes order 4 n
split_is order n [] e l h = absurd (let never : ⊥ = omega arith in never)
split_is order n (a ∷ []) e l h = absurd (let never : ⊥ = omega arith in never)
split_is order n (a ∷ b ∷ []) e l h = absurd (let never : ⊥ = omega arith in never)
split_is order n (a ∷ b ∷ c ∷ []) e l h = absurd (let never : ⊥ = omega arith in never)
split_is order n (a ∷ b ∷ c ∷ d ∷ []) e l h =
    let each = recursion_from_All (λ b. b < 256) (a ∷ b ∷ c ∷ d ∷ []) h in
    sym (bytes_of_number order a b c d each.0 each.1.0 each.1.1.0 each.1.1.1.0) ∙ ap (number_bytes order 4) e
split_is order n (a ∷ b ∷ c ∷ d ∷ x ∷ xs) e l h = absurd (let never : ⊥ = omega arith in never)

-- the number of a number's low bytes
pub number_of_four : (order : Order) (n : ℕ) → number_in order (number_bytes order 4 n) ≡ n % 2 ^ 32
number_of_four Big n = omega arith
number_of_four Little n = omega arith

pub number_of_two : (order : Order) (n : ℕ) → number_in order (number_bytes order 2 n) ≡ n % 2 ^ 16
number_of_two Big n = omega arith
number_of_two Little n = omega arith

pub number_of_one : (order : Order) (n : ℕ) → number_in order (number_bytes order 1 n) ≡ n % 2 ^ 8
number_of_one Big n = omega arith
number_of_one Little n = omega arith

-- a number's halves, one behind the other
pub number_of_halves : (order : Order) (a b : ℕ) → number_in order (number_bytes order 2 a ++ number_bytes order 2 b) ≡ by_order order (a % 2 ^ 16 * 2 ^ 16 + b % 2 ^ 16) (b % 2 ^ 16 * 2 ^ 16 + a % 2 ^ 16)
number_of_halves Big a b = omega arith
number_of_halves Little a b = omega arith
