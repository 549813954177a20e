-- What the tokens of string literals denote.
use Rattle.std.proofs.Common.{◌≡◌, ◌≤◌, ◌<◌, ◌+◌, ℕ, zero, suc, Bool, true, false, if◌then◌else◌, Option, Some, None, Ok, List, [], ◌∷◌, ◌++◌, length, drop, refl, sym, ap, ◌∙◌, subst, arith, append_assoc}
use Rattle.std.specs.Prelude.{nat_le, ◌==◌}
use Rattle.std.proofs.lemmas.Grind.{common_steps}
use Rattle.c_lexer.specs.declared.class.LexClass.TheVariants.{Octal, Hex}
use Rattle.c_lexer.specs.declared.quoted.Quoted.{Quoted}
use Rattle.c_lexer.specs.declared.quoted.Quoted.TheVariants.{Close, Character, Fault}
use Rattle.c_lexer.specs.Classes.{in_lex}
use Rattle.c_lexer.specs.Runs.{run}
use Rattle.c_lexer.specs.Numbers.{value_behind}
use Rattle.c_lexer.specs.Chains.{Chain}
use Rattle.c_lexer.specs.Quoted.{simple_escape, simple_or_fault, numeric, hexadecimal, escape, quoted, next_character}
use Rattle.c_lexer.specs.Characters.{Characters, Values}
use Rattle.c_lexer.specs.Texts.{len_of, value_before, values_from}
use Rattle.c_lexer.proofs.Values.{is_character, have_values}

-- ---- a character is written by at least one byte

abbrev IsLong : Quoted → Type 0
IsLong (Character v len) = 1 ≤ len
IsLong Close = Unit {0}
IsLong (Fault kind) = Unit {0}

either : (b : Bool) (x y : Quoted) → IsLong x → IsLong y → IsLong (if b then x else y)
either true x y h k = h
either false x y h k = k

long_numeric : (value len : ℕ) → 1 ≤ len → IsLong (numeric value len)
long_numeric value len h = either (nat_le value 255) (Character value len) _ h tt

long_simple : (o : Option ℕ) → IsLong (simple_or_fault o)
long_simple None = tt
long_simple (Some v) = omega arith

long_hexadecimal : (ds : List ℕ) → IsLong (hexadecimal ds)
long_hexadecimal [] = tt
long_hexadecimal (d ∷ ds) = long_numeric (value_behind 16 0 (d ∷ ds)) (2 + length (d ∷ ds)) (omega arith)

long_escape : (bytes : List ℕ) → IsLong (escape bytes)
long_escape [] = tt
long_escape (b ∷ bs) =
    either (b == 10) _ _ tt
    (either (in_lex Octal b) _ _ (long_numeric _ _ (omega arith))
    (either (b == 120) _ _ (long_hexadecimal (run (in_lex Hex) bs)) (long_simple (simple_escape b))))

long_quoted : (quote : ℕ) (bytes : List ℕ) → IsLong (quoted quote bytes)
long_quoted quote [] = tt
long_quoted quote (b ∷ bs) = either (b == quote) Close _ tt (either (b == 10) _ _ tt (either (b == 92) _ (Character b 1) (long_escape bs) (omega arith)))

character_long : (k : Quoted) (v len : ℕ) → k ≡ Character v len → IsLong k → 1 ≤ len
character_long k v len e h = subst IsLong e h

-- ---- so there are no more characters than bytes

chain_count : (quote : ℕ) (bytes : List ℕ) (count n m : ℕ) → Chain (next_character quote bytes) count n m → n + count ≤ m
chain_count quote bytes zero n m c = omega (arith, c)
chain_count quote bytes (suc count) n m (mid, f, c) =
    let k = is_character (quoted quote (drop n bytes)) n mid f in
    let one = character_long (quoted quote (drop n bytes)) k.0 k.1 k.2 (long_quoted quote (drop n bytes)) in
    let more = chain_count quote bytes count mid m c in
    let at = k.3 in
    omega arith

ends_before : (quote : ℕ) (bytes : List ℕ) → quoted quote bytes ≡ Close → 0 < length bytes
ends_before quote [] e = absurd cc
ends_before quote (b ∷ bs) e = omega arith

dropped_length : (n : ℕ) (bytes : List ℕ) → 0 < length (drop n bytes) → n < length bytes
dropped_length n bytes h = grind (arith, common_steps)

count_within : (quote : ℕ) (bytes : List ℕ) (x : ℕ × ℕ) → Characters quote bytes (Ok x) → x.0 ≤ length bytes
count_within quote bytes x c =
    let a = chain_count quote bytes x.0 0 x.1 c.0 in
    let b = dropped_length x.1 bytes (ends_before quote (drop x.1 bytes) c.1) in
    omega arith

-- ---- their values

are_from : (n : ℕ) (bytes vs : List ℕ) → Values 34 bytes vs → length vs ≤ n → values_from n bytes ≡ vs
are_from zero bytes [] h l = refl
are_from zero bytes (v ∷ vs) h l = absurd (omega (arith, l))
are_from (suc n) bytes [] h l = ap (λ k. value_before k (values_from n (drop (len_of (quoted 34 bytes)) bytes))) h
are_from (suc n) bytes (v ∷ vs) (len, h, more) l =
    let e = ap (λ k. value_before k (values_from n (drop (len_of k) bytes))) h in
    e ∙ ap (λ r. v ∷ r) (are_from n (drop len bytes) vs more (omega (arith, l)))

-- the characters up to the quote have these values
pub literal_values : (n : ℕ) (bytes : List ℕ) (x : ℕ × ℕ) → length bytes ≤ n → Characters 34 bytes (Ok x) → Values 34 bytes (values_from n bytes)
literal_values n bytes x l c =
    let (vs, h, many) = have_values 34 bytes x c in
    let most = count_within 34 bytes x c in
    subst (λ (z : List ℕ). Values 34 bytes z) (sym (are_from n bytes vs h (omega (arith, many, most, l)))) h

-- ---- one character after the other

abbrev pub Goes : ℕ → List ℕ → List ℕ → List ℕ → Type 0
Goes n rest values all = (length rest ≤ n) × (values ++ values_from n rest ≡ all)

within : (n : ℕ) (bytes : List ℕ) → 0 < n → n ≤ length bytes → length (drop n bytes) + 1 ≤ length bytes
within n bytes h k = grind (arith, common_steps)

append_nothing : (xs : List ℕ) → xs ++ [] ≡ xs
append_nothing [] = refl
append_nothing (x ∷ xs) = ap (λ z. x ∷ z) (append_nothing xs)

-- a character was taken
pub one_more : (n v len : ℕ) (rest after values more all : List ℕ) → Goes n rest values all → quoted 34 rest ≡ Character v len → (1 ≤ len) × (len ≤ length rest) → after ≡ drop len rest → more ≡ values ++ v ∷ [] → (m : ℕ) × Goes m after more all
one_more zero v len rest after values more all g e w a b = absurd (omega (arith, g.0, w.0, w.1))
one_more (suc n) v len rest after values more all g e w a b =
    let l = within len rest w.0 w.1 in
    let f = ap (λ k. values ++ value_before k (values_from n (drop (len_of k) rest))) e in
    let h : more ++ values_from n after ≡ values ++ (v ∷ values_from n (drop len rest)) = ap (λ z. z ++ values_from n after) b ∙ append_assoc values (v ∷ []) (values_from n after) ∙ ap (λ z. values ++ (v ∷ values_from n z)) a in
    let s = ap (λ (z : List ℕ). length z) a in
    (n, (omega (arith, s, l, g.0), h ∙ (sym f ∙ g.1)))

-- none is next
pub no_more : (n : ℕ) (k : Quoted) (rest values all : List ℕ) → Goes n rest values all → quoted 34 rest ≡ k → ((v len : ℕ) → Character v len ≡ k → ⊥) → values ≡ all
no_more zero k rest values all g e none = sym (append_nothing values) ∙ g.1
no_more (suc n) k rest values all g e none = sym (append_nothing values) ∙ (ap (λ z. values ++ z) (sym (no_value k _ none)) ∙ (ap (λ z. values ++ value_before z (values_from n (drop (len_of (quoted 34 rest)) rest))) (sym e) ∙ g.1))
  where
    no_value : (k : Quoted) (vs : List ℕ) → ((v len : ℕ) → Character v len ≡ k → ⊥) → value_before k vs ≡ []
    no_value (Character v len) vs h = absurd (h v len refl)
    no_value Close vs h = refl
    no_value (Fault kind) vs h = refl
