-- Tokens that are written without blanks between them are read back.
use Rattle.std.proofs.Common.{◌≡◌, ℕ, Bool, true, false, List, [], ◌∷◌, ◌++◌, refl, sym, ap, ◌∙◌, arith, inl}
use Rattle.std.specs.Prelude.{◌≢◌, ◌==◌, not}
use Rattle.std.proofs.lemmas.Bool.Decides.{nat_tests}
use Rattle.lcc_text.specs.declared.class.Class.TheVariants.{Digit}
use Rattle.lcc_text.specs.Classes.{in_class, AllIn, StartsIn, StopsIn}
use Rattle.lcc_text.specs.Lines.{lines_of}
use Rattle.asm_lines.specs.declared.class.AsmClass.TheVariants.{Symbol, Space}
use Rattle.asm_lines.specs.declared.token.Kind.TheVariants as kinds
use Rattle.asm_lines.specs.Classes.{in_asm}
use Rattle.asm_lines.specs.Tokens.{Tok, Word, Decimal, Hexadecimal, Dollar, Colon, Comma, Open, Close, Plus, Minus, Wrong, Spaced, text_of, IsName, IsToken}
use Rattle.asm_lines.specs.Spelling.{IsNext, Starts, Spells}
use Rattle.asm_lines.specs.ReadBack.{NoFeed}
use Rattle.asm_lines.proofs.lemmas.Next.{name_symbols, word_is_next, decimal_is_next, dollar_is_next, sign_next}

-- ---- bytes of classes

-- each byte may stand in a name
abbrev pub AreSymbols : List ℕ → Type 0
AreSymbols bs = AllIn (in_asm Symbol) bs

symbol_space : (b : ℕ) → in_asm Symbol b ≡ true → in_asm Space b ≡ false
symbol_space b h = grind (arith, nat_tests)

symbol_hash : (b : ℕ) → in_asm Symbol b ≡ true → b ≢ 35
symbol_hash b h = λ e. (let f : in_asm Symbol b ≡ false = rw e refl in let g : true ≡ false = sym h ∙ f in cc)

symbol_feed : (b : ℕ) → in_asm Symbol b ≡ true → not (b == 10) ≡ true
symbol_feed b h = grind (arith, nat_tests)

digit_symbol : (b : ℕ) → in_class Digit b ≡ true → in_asm Symbol b ≡ true
digit_symbol b h = grind (arith, nat_tests)

pub starts_symbol : (n : List ℕ) → StartsIn (in_class Digit) n → StartsIn (in_asm Symbol) n
starts_symbol [] h = h
starts_symbol (b ∷ n) h = digit_symbol b h

pub digits_symbols : (n : List ℕ) → AllIn (in_class Digit) n → AllIn (in_asm Symbol) n
digits_symbols [] h = tt
digits_symbols (b ∷ n) h = (digit_symbol b h.0, digits_symbols n h.1)

no_digit : (b : ℕ) → in_asm Symbol b ≡ false → in_class Digit b ≡ false
no_digit b h = grind (arith, nat_tests)

stops_digits : (rest : List ℕ) → StopsIn (in_asm Symbol) rest → StopsIn (in_class Digit) rest
stops_digits [] h = tt
stops_digits (b ∷ rest) h = no_digit b h

-- ---- the longest token

-- decimal digits with no symbol behind them begin no hexadecimal number
no_hex_digits : (n rest m z : List ℕ) → StartsIn (in_class Digit) n → AllIn (in_class Digit) n → StopsIn (in_asm Symbol) rest → n ++ rest ≡ 48 ∷ 120 ∷ (m ++ z) → ⊥
no_hex_digits [] rest m z s f k e = s
no_hex_digits (a ∷ []) [] m z s f k e = cc
no_hex_digits (a ∷ []) (b ∷ rest) m z s f k e = let g : b ≡ 120 = cc in let h : false ≡ true = sym k ∙ ap (in_asm Symbol) g in cc
no_hex_digits (a ∷ b ∷ n) rest m z s f k e = let g : b ≡ 120 = cc in let h : true ≡ false = sym f.1.0 ∙ ap (in_class Digit) g in cc

-- the token goes no further than here
abbrev pub Ends : Tok → List ℕ → Type 0
Ends (Word n) rest = StopsIn (in_asm Symbol) rest
Ends (Decimal n) rest = StopsIn (in_asm Symbol) rest
Ends (Hexadecimal n) rest = ⊥
Ends (Dollar n) rest = StopsIn (in_asm Symbol) rest
Ends t rest = Unit {0}

pub next_of : (t : Tok) (rest : List ℕ) → IsToken t → Ends t rest → IsNext (text_of t ++ rest) t rest
next_of (Word n) rest p e = word_is_next n rest p e
next_of (Decimal n) rest p e = decimal_is_next n rest p.0 p.1 (stops_digits rest e) (λ m z q f. no_hex_digits n rest m z p.0 p.1 e f)
next_of (Hexadecimal n) rest p e = absurd e
next_of (Dollar n) rest p e = dollar_is_next n rest p.0 p.1 e
next_of Colon rest p e = sign_next kinds.Colon 58 rest tt refl
next_of Comma rest p e = sign_next kinds.Comma 44 rest tt refl
next_of Open rest p e = sign_next kinds.Open 40 rest tt refl
next_of Close rest p e = sign_next kinds.Close 41 rest tt refl
next_of Plus rest p e = sign_next kinds.Plus 43 rest tt refl
next_of Minus rest p e = sign_next kinds.Minus 45 rest tt refl
next_of Wrong rest p e = absurd p

pub starts_of : (t : Tok) (rest : List ℕ) → IsToken t → Starts (text_of t ++ rest)
starts_of (Word []) rest p = absurd p
starts_of (Word (b ∷ n)) rest p = (symbol_space b p.1.0, symbol_hash b p.1.0)
starts_of (Decimal []) rest p = absurd p.0
starts_of (Decimal (b ∷ n)) rest p = (symbol_space b (digit_symbol b p.0), symbol_hash b (digit_symbol b p.0))
starts_of (Hexadecimal n) rest p = (refl, λ e. omega arith)
starts_of (Dollar n) rest p = (refl, λ e. omega arith)
starts_of Colon rest p = (refl, λ e. omega arith)
starts_of Comma rest p = (refl, λ e. omega arith)
starts_of Open rest p = (refl, λ e. omega arith)
starts_of Close rest p = (refl, λ e. omega arith)
starts_of Plus rest p = (refl, λ e. omega arith)
starts_of Minus rest p = (refl, λ e. omega arith)
starts_of Wrong rest p = absurd p

-- ---- tokens one after another

-- the first with or without a blank before it, the others joined to it
abbrev pub spaced : Bool → List Tok → List Spaced
spaced s [] = []
spaced s (t ∷ ts) = record { tok = t; is_spaced = s } ∷ spaced false ts

abbrev pub written : List Tok → List ℕ
written [] = []
written (t ∷ ts) = text_of t ++ written ts

-- each token ends where the next begins
abbrev pub Fits : List Tok → Type 0
Fits [] = Unit {0}
Fits (t ∷ ts) = IsToken t × Ends t (written ts) × Fits ts

pub spelled : (ts : List Tok) → Fits ts → Spells (spaced false ts) (written ts)
spelled [] f = ([], [], tt, tt, refl)
spelled (t ∷ ts) f = ([], text_of t ++ written ts, tt, starts_of t (written ts) f.0, refl, refl, inl (written ts, next_of t (written ts) f.0 f.1, spelled ts f.2))

-- the same behind a tab
pub tab_spelled : (ts : List Tok) → Fits ts → Spells (spaced true ts) (9 ∷ written ts)
tab_spelled [] f = (9 ∷ [], [], (refl, tt), tt, refl)
tab_spelled (t ∷ ts) f = (9 ∷ [], text_of t ++ written ts, (refl, tt), starts_of t (written ts) f.0, refl, refl, inl (written ts, next_of t (written ts) f.0 f.1, spelled ts f.2))

-- a word between tabs
pub word_spelled : (word : List ℕ) (ts : List Spaced) (bytes : List ℕ) → IsName word → Spells ts (9 ∷ bytes) → Spells (record { tok = Word word; is_spaced = true } ∷ ts) (9 ∷ (word ++ 9 ∷ bytes))
word_spelled word ts bytes p s = (9 ∷ [], word ++ 9 ∷ bytes, (refl, tt), starts_of (Word word) (9 ∷ bytes) p, refl, refl, inl (9 ∷ bytes, word_is_next word (9 ∷ bytes) p refl, s))

-- a name and a colon before what is spelled
pub label_spelled : (name line : List ℕ) (ts : List Spaced) → IsName name → Spells ts line → Spells (record { tok = Word name; is_spaced = false } ∷ record { tok = Colon; is_spaced = false } ∷ ts) (name ++ 58 ∷ line)
label_spelled name line ts p s = ([], name ++ 58 ∷ line, tt, starts_of (Word name) (58 ∷ line) p, refl, refl, inl (58 ∷ line, word_is_next name (58 ∷ line) p refl, ([], 58 ∷ line, tt, starts_of Colon line tt, refl, refl, inl (line, sign_next kinds.Colon 58 line tt refl, s))))

-- ---- line feeds

pub feed_append : (a b : List ℕ) → NoFeed a → NoFeed b → NoFeed (a ++ b)
feed_append [] b h k = k
feed_append (x ∷ a) b h k = (h.0, feed_append a b h.1 k)

symbols_feed : (n : List ℕ) → AllIn (in_asm Symbol) n → NoFeed n
symbols_feed [] h = tt
symbols_feed (b ∷ n) h = (symbol_feed b h.0, symbols_feed n h.1)

pub name_feed : (n : List ℕ) → IsName n → NoFeed n
name_feed n p = symbols_feed n (name_symbols n p)

token_feed : (t : Tok) (rest : List ℕ) → IsToken t → Ends t rest → NoFeed (text_of t)
token_feed (Word n) rest p e = name_feed n p
token_feed (Decimal n) rest p e = symbols_feed n (digits_symbols n p.1)
token_feed (Hexadecimal n) rest p e = absurd e
token_feed (Dollar n) rest p e = (refl, symbols_feed n p.1)
token_feed Wrong rest p e = absurd p
token_feed Colon rest p e = (refl, tt)
token_feed Comma rest p e = (refl, tt)
token_feed Open rest p e = (refl, tt)
token_feed Close rest p e = (refl, tt)
token_feed Plus rest p e = (refl, tt)
token_feed Minus rest p e = (refl, tt)

pub no_feed : (ts : List Tok) → Fits ts → NoFeed (written ts)
no_feed [] f = tt
no_feed (t ∷ ts) f = feed_append (text_of t) (written ts) (token_feed t (written ts) f.0 f.1) (no_feed ts f.2)

feed_test : (b : ℕ) → not (b == 10) ≡ true → (b == 10) ≡ false
feed_test b h = grind (arith, nat_tests)

-- a line feed ends a line that has none
pub line_break : (line rest : List ℕ) → NoFeed line → lines_of ((line ++ 10 ∷ []) ++ rest) ≡ line ∷ lines_of rest
line_break [] rest h = refl
line_break (b ∷ line) rest h = let e = feed_test b h.0 in rw (e, line_break line rest h.1) refl
