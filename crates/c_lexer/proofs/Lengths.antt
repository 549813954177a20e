-- What a reading takes is the longest that stands there.
use Rattle.std.proofs.Common.{◌≡◌, ◌≤◌, ◌+◌, ℕ, Bool, true, false, Option, Some, None, List, [], ◌∷◌, ◌++◌, length, take, refl, ap, arith, ◌&&◌, nat_le}
use Rattle.std.specs.Prelude.{if◌then◌else◌}
use Rattle.std.specs.List.{list_all, position_from}
use Rattle.std.specs.Str.{bytes_eq}
use Rattle.std.proofs.lemmas.List.{length-take}
use Rattle.std.proofs.lemmas.Bool.Decides.{nat_tests}
use Rattle.std.proofs.lemmas.Slice.Eq.{bytes_eq-Decides}
use Rattle.lcc_text.specs.Classes.{AllIn}
use Rattle.c_ast.specs.Signs.{signs, sign_of}
use Rattle.c_lexer.specs.Runs.{run}
use Rattle.c_lexer.specs.LongestSigns.{or_else, with_length, longest_sign}

-- no front that the class makes is longer than the run
pub longest_run : (class : ℕ → Bool) (u z : List ℕ) → AllIn class u → length u ≤ length (run class (u ++ z))
longest_run class [] z a = omega arith
longest_run class (b ∷ u) z a = let h = longest_run class u z a.1 in rw a.0 (omega arith)

abbrev chosen : Option ℕ → Option ℕ → Option ℕ → ℕ → ℕ → ℕ → Option (ℕ × ℕ)
chosen o3 o2 o1 l3 l2 l1 = or_else (with_length o3 l3) (or_else (with_length o2 l2) (with_length o1 l1))

abbrev HasOne : Option (ℕ × ℕ) → ℕ → Type 0
HasOne o len = (x : ℕ × ℕ) × (o ≡ Some x) × (len ≤ x.1)

third : (o3 o2 o1 : Option ℕ) (l3 l2 l1 n len : ℕ) → o3 ≡ Some n → len ≤ l3 → HasOne (chosen o3 o2 o1 l3 l2 l1) len
third (Some k) o2 o1 l3 l2 l1 n len e h = ((k, l3), refl, h)
third None o2 o1 l3 l2 l1 n len e h = absurd cc

second : (o3 o2 o1 : Option ℕ) (l3 l2 l1 n len : ℕ) → o2 ≡ Some n → len ≤ l2 → l2 ≤ l3 → HasOne (chosen o3 o2 o1 l3 l2 l1) len
second (Some k) o2 o1 l3 l2 l1 n len e h i = ((k, l3), refl, omega arith)
second None (Some k) o1 l3 l2 l1 n len e h i = ((k, l2), refl, h)
second None None o1 l3 l2 l1 n len e h i = absurd cc

first : (o3 o2 o1 : Option ℕ) (l3 l2 l1 n len : ℕ) → o1 ≡ Some n → len ≤ l1 → l1 ≤ l2 → l2 ≤ l3 → HasOne (chosen o3 o2 o1 l3 l2 l1) len
first (Some k) o2 o1 l3 l2 l1 n len e h i j = ((k, l3), refl, omega arith)
first None (Some k) o1 l3 l2 l1 n len e h i j = ((k, l2), refl, omega arith)
first None None (Some k) l3 l2 l1 n len e h i j = ((k, l1), refl, h)
first None None None l3 l2 l1 n len e h i j = absurd cc

fronts : (i j : ℕ) (bytes : List ℕ) → i ≤ j → length (take i bytes) ≤ length (take j bytes)
fronts i j bytes h = simp length-take (omega arith)

both_true : (a b : Bool) → (a && b) ≡ true → (a ≡ true) × (b ≡ true)
both_true true b h = (refl, h)
both_true false b h = absurd cc

unlike : (u x : List ℕ) → 4 ≤ length u → nat_le (length x) 3 ≡ true → bytes_eq u x ≡ true → ⊥
unlike u x h s e = let l : length u ≡ length x = ap length ((bytes_eq-Decides u x).0 e) in let m : length x ≤ 3 = grind (arith, nat_tests) in omega arith

skipped : (t : Bool) (o r : Option ℕ) → (t ≡ true → ⊥) → r ≡ None → (if t then o else r) ≡ None
skipped true o r f e = absurd (f refl)
skipped false o r f e = e

no_place : (u : List ℕ) (i : ℕ) (xs : List (List ℕ)) → 4 ≤ length u → list_all (λ x. nat_le (length x) 3) xs ≡ true → position_from (bytes_eq u) i xs ≡ None
no_place u i [] h a = refl
no_place u i (x ∷ xs) h a =
    let p = both_true (nat_le (length x) 3) (list_all (λ y. nat_le (length y) 3) xs) a in
    skipped (bytes_eq u x) (Some i) _ (unlike u x h p.0) (no_place u (i + 1) xs h p.1)

-- no sign is longer than the longest
pub longest_of_signs : (u z : List ℕ) (n : ℕ) → sign_of u ≡ Some n → HasOne (longest_sign (u ++ z)) (length u)
longest_of_signs [] z n e = absurd cc
longest_of_signs (a ∷ []) z n e = first (sign_of (take 3 (a ∷ z))) (sign_of (take 2 (a ∷ z))) (sign_of (a ∷ [])) _ _ _ n 1 e (omega arith) (fronts 1 2 (a ∷ z) (omega arith)) (fronts 2 3 (a ∷ z) (omega arith))
longest_of_signs (a ∷ b ∷ []) z n e = second (sign_of (take 3 (a ∷ b ∷ z))) (sign_of (a ∷ b ∷ [])) (sign_of (a ∷ [])) _ _ _ n 2 e (omega arith) (fronts 2 3 (a ∷ b ∷ z) (omega arith))
longest_of_signs (a ∷ b ∷ c ∷ []) z n e = third (sign_of (a ∷ b ∷ c ∷ [])) (sign_of (a ∷ b ∷ [])) (sign_of (a ∷ [])) _ _ _ n 3 e (omega arith)
longest_of_signs (a ∷ b ∷ c ∷ d ∷ u) z n e = absurd (let f = no_place (a ∷ b ∷ c ∷ d ∷ u) 0 signs (omega arith) refl in cc)
