-- The bytes of a word, and numbers of one and two bytes.
use Rattle.std.proofs.Common.{◌≡◌, ℕ, ◌+◌, ◌*◌, ◌/◌, ◌%◌, ◌^◌, ◌<◌, List, [], ◌∷◌, length, refl, sym, arith}
use Rattle.std.specs.Prelude.{All}
use Rattle.std.specs.List.{AllByRecursion}
use Rattle.std.proofs.lemmas.List.Elements.{recursion_from_All}
use Rattle.lcc_base.specs.declared.order.Order.{Order}
use Rattle.lcc_base.specs.declared.order.Order.TheVariants.{Big, Little}
use Rattle.lcc_base.specs.NumberIn.{number_in}
use Rattle.asm_text.specs.Linked.{word_bytes}

abbrev pub IsByte : ℕ → Type 0
IsByte b = b < 256

-- the four digits of a number in base 256
digits : (a b c d n : ℕ) → a < 256 → b < 256 → c < 256 → d < 256 → a * 16777216 + b * 65536 + c * 256 + d ≡ n → (n / 2 ^ 24 % 256 ≡ a) × (n / 2 ^ 16 % 256 ≡ b) × (n / 2 ^ 8 % 256 ≡ c) × (n % 256 ≡ d)
digits a b c d n ha hb hc hd e = (omega arith, omega arith, omega arith, omega arith)

small_bytes : (order : Order) (bytes : List ℕ) (n : ℕ) → length bytes ≡ 4 → AllByRecursion IsByte bytes → number_in order bytes ≡ n → word_bytes order n ≡ bytes
small_bytes order [] n four small e = absurd (omega arith)
small_bytes order (a ∷ []) n four small e = absurd (omega arith)
small_bytes order (a ∷ b ∷ []) n four small e = absurd (omega arith)
small_bytes order (a ∷ b ∷ c ∷ []) n four small e = absurd (omega arith)
small_bytes Big (a ∷ b ∷ c ∷ d ∷ []) n four small e =
    let parts = digits a b c d n small.0 small.1.0 small.1.1.0 small.1.1.1.0 (omega arith) in
    rw (parts.0, parts.1, parts.2, parts.3) refl
small_bytes Little (a ∷ b ∷ c ∷ d ∷ []) n four small e =
    let parts = digits d c b a n small.1.1.1.0 small.1.1.0 small.1.0 small.0 (omega arith) in
    rw (parts.0, parts.1, parts.2, parts.3) refl
small_bytes order (a ∷ b ∷ c ∷ d ∷ x ∷ bytes) n four small e = absurd (omega arith)

-- four bytes that are a number are its bytes
pub word_bytes-number : (order : Order) (bytes : List ℕ) (n : ℕ) → length bytes ≡ 4 → All IsByte bytes → number_in order bytes ≡ n → bytes ≡ word_bytes order n
word_bytes-number order bytes n four small e = sym (small_bytes order bytes n four (recursion_from_All IsByte bytes small) e)
