-- Texts with numbers beside them.
use Rattle.std.proofs.Common.{◌≡◌, ◌<◌, ◌+◌, ℕ, zero, suc, Bool, true, false, Some, List, [], ◌∷◌, length, get_or, drop, sym, ◌∙◌, arith, add-one}
use Rattle.std.specs.Str.{bytes_eq}
use Rattle.std.specs.Borrow.{Bor}
use Rattle.c_ast.specs.Spelling.{number_among}

found_suc : (text : List ℕ) (cs : List (Bor (List ℕ) × ℕ)) (n : ℕ) (d : Bor (List ℕ) × ℕ) → n < length cs → bytes_eq text (get_or cs n d).0.now ≡ true → number_among text (drop n cs) ≡ Some (get_or cs n d).1
found_suc text [] n d h e = absurd (omega arith)
found_suc text (c ∷ cs) zero d h e = rw e
found_suc text (c ∷ cs) (suc n) d h e = found_suc text cs n d (omega arith) e

passed_suc : (text : List ℕ) (cs : List (Bor (List ℕ) × ℕ)) (n : ℕ) (d : Bor (List ℕ) × ℕ) → n < length cs → bytes_eq text (get_or cs n d).0.now ≡ false → number_among text (drop n cs) ≡ number_among text (drop (suc n) cs)
passed_suc text [] n d h e = absurd (omega arith)
passed_suc text (c ∷ cs) zero d h e = rw e
passed_suc text (c ∷ cs) (suc n) d h e = passed_suc text cs n d (omega arith) e

-- the choice at n is the first that has the text
pub found : (text : List ℕ) (cs : List (Bor (List ℕ) × ℕ)) (n : ℕ) (d : Bor (List ℕ) × ℕ) (r : Bool) → n < length cs → number_among text cs ≡ number_among text (drop n cs) → r ≡ bytes_eq text (get_or cs n d).0.now → r ≡ true → Some (get_or cs n d).1 ≡ number_among text cs
found text cs n d r h i e f = sym (i ∙ found_suc text cs n d h (sym e ∙ f))

-- the choice at n hasn't the text
pub passed : (text : List ℕ) (cs : List (Bor (List ℕ) × ℕ)) (n : ℕ) (d : Bor (List ℕ) × ℕ) (r : Bool) → n < length cs → number_among text cs ≡ number_among text (drop n cs) → r ≡ bytes_eq text (get_or cs n d).0.now → r ≡ false → number_among text cs ≡ number_among text (drop (n + 1) cs)
passed text cs n d r h i e f = rw add-one (i ∙ passed_suc text cs n d h (sym e ∙ f))
