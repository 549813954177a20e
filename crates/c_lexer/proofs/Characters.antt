-- Characters between quotes, one after the other.
use Rattle.std.proofs.Common.{◌≡◌, ◌+◌, ◌-◌, ℕ, List, length, take, drop, sym, ap, ◌∙◌, arith}
use Rattle.std.proofs.lemmas.Grind.{common_steps}
use Rattle.c_lexer.specs.declared.quoted.Quoted.TheVariants.{Character}
use Rattle.c_lexer.specs.Chains.{Chain}
use Rattle.c_lexer.specs.Quoted.{quoted, behind_quoted, next_character}
use Rattle.c_lexer.proofs.Chains.{chain_more}

pub all_of : (bytes : List ℕ) (n : ℕ) → take (length bytes - n) (drop n bytes) ≡ drop n bytes
all_of bytes n = grind (arith, common_steps)

-- one more character
pub character_more : (quote : ℕ) (bytes : List ℕ) (count n value len : ℕ) → Chain (next_character quote bytes) count 0 n → Character value len ≡ quoted quote (take (length bytes - n) (drop n bytes)) → Chain (next_character quote bytes) (count + 1) 0 (n + len)
character_more quote bytes count n value len c e =
    chain_more (next_character quote bytes) count 0 n (n + len) c (ap (λ x. behind_quoted x n) (ap (quoted quote) (sym (all_of bytes n)) ∙ sym e))
