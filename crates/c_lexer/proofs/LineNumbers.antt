-- The numbers of control lines have nine digits at most.
use Rattle.std.proofs.Common.{◌≡◌, ◌≤◌, ◌+◌, ◌*◌, ℕ, zero, suc, true, Option, Some, IfSome, List, [], ◌∷◌, length, sym, ◌∙◌, subst, arith}
use Rattle.std.specs.Char.{is_ascii_digit}
use Rattle.std.proofs.lemmas.Bool.Decides.{nat_tests}
use Rattle.lcc_text.specs.declared.class.Class.TheVariants.{Digit}
use Rattle.lcc_text.specs.Classes.{in_class, AllIn}
use Rattle.c_lexer.specs.Numbers.{digit_value, value_behind, number_in}
use Rattle.c_lexer.specs.ControlLines.{spaces, starts_named, number_named}
use Rattle.c_lexer.proofs.Numbers.{word_some}

abbrev nines : ℕ → ℕ → ℕ
nines zero v = v
nines (suc k) v = nines k (10 * v + 9)

digit_nine : (d : ℕ) → is_ascii_digit d ≡ true → digit_value d ≤ 9
digit_nine d h = grind (arith, nat_tests)

nines_more : (k v : ℕ) → v ≤ nines k v
nines_more zero v = omega arith
nines_more (suc k) v = let e = nines_more k (10 * v + 9) in omega arith

below_nines : (k v w : ℕ) (ds : List ℕ) → AllIn (in_class Digit) ds → length ds ≤ k → v ≤ w → value_behind 10 v ds ≤ nines k w
below_nines k v w [] a l h = let e = nines_more k w in omega arith
below_nines zero v w (d ∷ ds) a l h = absurd (omega arith)
below_nines (suc k) v w (d ∷ ds) a l h =
    let e = digit_nine d a.0 in
    below_nines k (10 * v + digit_value d) (10 * w + 9) ds a.1 (omega arith) (omega arith)

nine_digits : (ds : List ℕ) → AllIn (in_class Digit) ds → length ds ≤ 9 → value_behind 10 0 ds ≤ 999999999
nine_digits ds a l = below_nines 9 0 0 ds a l (omega arith)

named : (ds after : List ℕ) → 1 ≤ length ds → length ds ≤ 9 → starts_named (spaces after) ≡ true → Some (value_behind 10 0 ds) ≡ number_named ds after
named ds after h k s = grind (arith, nat_tests)

pub is_named : (ds after : List ℕ) (r : Option ℕ) → AllIn (in_class Digit) ds → 1 ≤ length ds → length ds ≤ 9 → starts_named (spaces after) ≡ true → r ≡ number_in 10 ds → r ≡ number_named ds after
is_named ds after r a h k s e = e ∙ sym (word_some (value_behind 10 0 ds) (let f = nine_digits ds a k in omega arith)) ∙ named ds after h k s

pub is_low : (ds : List ℕ) (r : Option ℕ) → AllIn (in_class Digit) ds → length ds ≤ 9 → r ≡ number_in 10 ds → IfSome r (λ n. n ≤ 999999999)
is_low ds r a k e = subst (λ (o : Option ℕ). IfSome o (λ n. n ≤ 999999999)) (sym (e ∙ sym (word_some (value_behind 10 0 ds) (let f = nine_digits ds a k in omega arith)))) (nine_digits ds a k)
