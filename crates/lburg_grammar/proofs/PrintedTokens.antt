-- Bytes that are put together of tokens and blanks spell these tokens.
use Rattle.std.proofs.Common.{◌≡◌, ℕ, Bool, true, false, ◌==◌, List, [], ◌∷◌, ◌++◌, length, take, drop, refl, sym, ap, subst, append_assoc, arith, inl}
use Rattle.std.specs.Prelude.{not}
use Rattle.std.proofs.lemmas.Bool.Decides.{nat_tests}
use Rattle.std.proofs.lemmas.List.{append-nil}
use Rattle.std.proofs.Math.Seq.{drop-append_seam, take-append_seam}
use Rattle.lcc_text.specs.declared.class.Class.TheVariants.{Blank, Letter, Digit, Name}
use Rattle.lcc_text.specs.Classes.{in_class, AllIn, StartsIn, StopsIn}
use Rattle.lcc_text.specs.Lines.{lines_of}
use Rattle.lburg_lines.specs.declared.token.Sign.TheVariants.{Open, Close, Comma, Colon, Equals, OpenBracket, CloseBracket}
use Rattle.lburg_lines.specs.Tokens.{Tok, Word, Number, Negative, Template, Keyword, Mark, Bound, Wrong, text_of, IsToken, is_quoted}
use Rattle.lburg_lines.specs.Spelling.{IsNext, Starts, Spells}
use Rattle.lburg_lines.proofs.lemmas.LongestTokens.{word_next, number_next, negative_next, keyword_next, text_next, sign_next}

-- ---- the longest token

-- the token goes no further than here
abbrev pub Ends : Tok → List ℕ → Type 0
Ends (Word n) rest = StopsIn (in_class Name) rest
Ends (Keyword n) rest = StopsIn (in_class Name) rest
Ends (Number n) rest = StopsIn (in_class Digit) rest
Ends (Negative n) rest = StopsIn (in_class Digit) rest
Ends t rest = Unit {0}

starts_front : (c : ℕ → Bool) (n rest : List ℕ) → StartsIn c n → StartsIn c (n ++ rest)
starts_front c [] rest h = absurd h
starts_front c (b ∷ n) rest h = h

-- a run that is cut off where it ends
module _ (n rest : List ℕ) where
  all_front : (c : ℕ → Bool) → AllIn c n → AllIn c (take (length n) (n ++ rest))
  all_front c h = let P : List ℕ → Type 0 = λ l. AllIn c l in subst P (sym (take-append_seam n rest)) h

  stops_back : (c : ℕ → Bool) → StopsIn c rest → StopsIn c (drop (length n) (n ++ rest))
  stops_back c h = let P : List ℕ → Type 0 = λ l. StopsIn c l in subst P (sym (drop-append_seam n rest)) h

  cut : (bytes : List ℕ) (token : List ℕ → Tok) → IsNext bytes (token (take (length n) (n ++ rest))) (drop (length n) (n ++ rest)) → IsNext bytes (token n) rest
  cut bytes token h =
      let P : List ℕ → Type 0 = λ l. IsNext bytes (token l) (drop (length n) (n ++ rest)) in
      let Q : List ℕ → Type 0 = λ l. IsNext bytes (token n) l in
      subst Q (drop-append_seam n rest) (subst P (take-append_seam n rest) h)

template_next : (n rest : List ℕ) → IsToken (Template n) → IsNext (34 ∷ (n ++ 34 ∷ rest)) (Template n) rest
template_next n rest p =
    let front = take-append_seam n (34 ∷ rest) in
    let P : List ℕ → Type 0 = λ l. IsNext (34 ∷ (n ++ 34 ∷ rest)) (Template l) rest in
    let Q : List ℕ → Type 0 = λ l. IsToken (Template l) in
    let q = subst Q (sym front) p in
    subst P front (text_next (n ++ 34 ∷ rest) rest (length n) q.0 q.1 (drop-append_seam n (34 ∷ rest)))

-- a token that goes no further is the longest
next_of : (t : Tok) (rest : List ℕ) → IsToken t → Ends t rest → IsNext (text_of t ++ rest) t rest
next_of (Word n) rest p e = cut n rest (n ++ rest) (λ l. Word l) (word_next (n ++ rest) (length n) (starts_front (in_class Letter) n rest p.0) (all_front n rest (in_class Name) p.1) (stops_back n rest (in_class Name) e))
next_of (Number n) rest p e = cut n rest (n ++ rest) (λ l. Number l) (number_next (n ++ rest) (length n) (starts_front (in_class Digit) n rest p.0) (all_front n rest (in_class Digit) p.1) (stops_back n rest (in_class Digit) e))
next_of (Negative n) rest p e = cut n rest (45 ∷ (n ++ rest)) (λ l. Negative l) (negative_next (n ++ rest) (length n) (starts_front (in_class Digit) n rest p.0) (all_front n rest (in_class Digit) p.1) (stops_back n rest (in_class Digit) e))
next_of (Keyword n) rest p e = cut n rest (37 ∷ (n ++ rest)) (λ l. Keyword l) (keyword_next (n ++ rest) (length n) (starts_front (in_class Letter) n rest p.0) (all_front n rest (in_class Name) p.1) (stops_back n rest (in_class Name) e))
next_of (Template n) rest p e = let P : List ℕ → Type 0 = λ l. IsNext (34 ∷ l) (Template n) rest in subst P (sym (append_assoc n (34 ∷ []) rest)) (template_next n rest p)
next_of (Mark s) rest p e = sign_next s rest
next_of (Bound b) rest p e = absurd p
next_of Wrong rest p e = absurd p

-- ---- first bytes

letter_blank : (b : ℕ) → in_class Letter b ≡ true → in_class Blank b ≡ false
letter_blank b h = grind (arith, nat_tests)

digit_blank : (b : ℕ) → in_class Digit b ≡ true → in_class Blank b ≡ false
digit_blank b h = grind (arith, nat_tests)

starts_of : (t : Tok) (rest : List ℕ) → IsToken t → Starts (text_of t ++ rest)
starts_of (Word []) rest p = absurd p.0
starts_of (Word (b ∷ n)) rest p = letter_blank b p.0
starts_of (Number []) rest p = absurd p.0
starts_of (Number (b ∷ n)) rest p = digit_blank b p.0
starts_of (Negative n) rest p = refl
starts_of (Template n) rest p = refl
starts_of (Keyword n) rest p = refl
starts_of (Mark Open) rest p = refl
starts_of (Mark Close) rest p = refl
starts_of (Mark Comma) rest p = refl
starts_of (Mark Colon) rest p = refl
starts_of (Mark Equals) rest p = refl
starts_of (Mark OpenBracket) rest p = refl
starts_of (Mark CloseBracket) rest p = refl
starts_of (Bound b) rest p = absurd p
starts_of Wrong rest p = absurd p

-- ---- line feeds

abbrev pub is_inline : ℕ → Bool
is_inline b = not (b == 10)

all_append : (c : ℕ → Bool) (a b : List ℕ) → AllIn c a → AllIn c b → AllIn c (a ++ b)
all_append c [] b h k = k
all_append c (x ∷ a) b h k = (h.0, all_append c a b h.1 k)

all_weaker : (c e : ℕ → Bool) → ((b : ℕ) → c b ≡ true → e b ≡ true) → (bytes : List ℕ) → AllIn c bytes → AllIn e bytes
all_weaker c e f [] h = tt
all_weaker c e f (b ∷ bytes) h = (f b h.0, all_weaker c e f bytes h.1)

name_inline : (b : ℕ) → in_class Name b ≡ true → is_inline b ≡ true
name_inline b h = grind (arith, nat_tests)

digit_inline : (b : ℕ) → in_class Digit b ≡ true → is_inline b ≡ true
digit_inline b h = grind (arith, nat_tests)

quoted_inline : (b : ℕ) → is_quoted b ≡ true → is_inline b ≡ true
quoted_inline b h = grind (arith, nat_tests)

names_inline : (n : List ℕ) → AllIn (in_class Name) n → AllIn is_inline n
names_inline n h = all_weaker (in_class Name) is_inline name_inline n h

digits_inline : (n : List ℕ) → AllIn (in_class Digit) n → AllIn is_inline n
digits_inline n h = all_weaker (in_class Digit) is_inline digit_inline n h

token_inline : (t : Tok) → IsToken t → AllIn is_inline (text_of t)
token_inline (Word n) p = names_inline n p.1
token_inline (Number n) p = digits_inline n p.1
token_inline (Negative n) p = (refl, digits_inline n p.1)
token_inline (Keyword n) p = (refl, names_inline n p.1)
token_inline (Template n) p = (refl, all_append is_inline n (34 ∷ []) (all_weaker is_quoted is_inline quoted_inline n p.0) (refl, tt))
token_inline (Mark Open) p = (refl, tt)
token_inline (Mark Close) p = (refl, tt)
token_inline (Mark Comma) p = (refl, tt)
token_inline (Mark Colon) p = (refl, tt)
token_inline (Mark Equals) p = (refl, tt)
token_inline (Mark OpenBracket) p = (refl, tt)
token_inline (Mark CloseBracket) p = (refl, tt)
token_inline (Bound b) p = absurd p
token_inline Wrong p = absurd p

no_feed : (b : ℕ) → is_inline b ≡ true → (b == 10) ≡ false
no_feed b h = grind (arith, nat_tests)

-- a line feed ends a line that has none
pub line_break : (line rest : List ℕ) → AllIn is_inline line → lines_of (line ++ 10 ∷ rest) ≡ line ∷ lines_of rest
line_break [] rest h = refl
line_break (b ∷ line) rest h = rw (no_feed b h.0, line_break line rest h.1) refl

-- ---- bytes of tokens and blanks

-- the bytes are of one line, and spell the tokens
pub record Writes (ts : List Tok) (bytes : List ℕ) : Type 0 where
  pub spells : Spells ts bytes
  pub inline : AllIn is_inline bytes

pub nothing : Writes [] []
nothing = record { spells = tt; inline = tt }

pub token_then : (t : Tok) (ts : List Tok) (rest : List ℕ) → IsToken t → Ends t rest → Writes ts rest → Writes (t ∷ ts) (text_of t ++ rest)
token_then t ts rest p e w = record {
  spells = ([], text_of t ++ rest, tt, starts_of t rest p, refl, inl (rest, next_of t rest p e, w.spells));
  inline = all_append is_inline (text_of t) rest (token_inline t p) w.inline;
}

blank_more : (ts : List Tok) (bytes : List ℕ) → Spells ts bytes → Spells ts (32 ∷ bytes)
blank_more [] bytes s = (refl, s)
blank_more (t ∷ ts) bytes s = (32 ∷ s.0, s.1, (refl, s.2), s.3, ap (λ (l : List ℕ). 32 ∷ l) s.4, s.5)

pub blank_then : (ts : List Tok) (bytes : List ℕ) → Writes ts bytes → Writes ts (32 ∷ bytes)
blank_then ts bytes w = record { spells = blank_more ts bytes w.spells; inline = (refl, w.inline) }

pub template_then : (n : List ℕ) (ts : List Tok) (rest : List ℕ) → IsToken (Template n) → Writes ts rest → Writes (Template n ∷ ts) (34 ∷ (n ++ 34 ∷ rest))
template_then n ts rest p w =
    let P : List ℕ → Type 0 = λ l. Writes (Template n ∷ ts) (34 ∷ l) in
    subst P (append_assoc n (34 ∷ []) rest) (token_then (Template n) ts rest p tt w)

pub last_token : (t : Tok) → IsToken t → Ends t [] → Writes (t ∷ []) (text_of t)
last_token t p e = let P : List ℕ → Type 0 = λ l. Writes (t ∷ []) l in subst P (append-nil (text_of t)) (token_then t [] [] p e nothing)
