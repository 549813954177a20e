-- The characters of a list of bytes have the values of bytes.
use Rattle.std.proofs.Common.{◌≡◌, ◌+◌, ℕ, zero, suc, Bool, true, false, if◌then◌else◌, Option, Some, None, List, [], ◌∷◌, length, drop, refl}
use Rattle.std.specs.Prelude.{nat_le, take, ◌==◌, ◌||◌, ◌&&◌}
use Rattle.std.specs.Char.{is_ascii_digit}
use Rattle.c_ast.specs.declared.class.Class.{Class}
use Rattle.c_ast.specs.declared.class.Class.TheVariants as class
use Rattle.c_ast.specs.Lexemes.{Lexeme, Name, Keyword, Integer, Character, Text, Sign, Placed}
use Rattle.c_ast.specs.Marks.{lexemes}
use Rattle.c_lexer.specs.declared.token.Token.{Token}
use Rattle.c_lexer.specs.Runs.{run}
use Rattle.c_lexer.specs.Numbers.{value_behind}
use Rattle.c_lexer.specs.Quoted.{simple_escape, simple_or_fault, numeric, hexadecimal, octal, escape, quoted}
use Rattle.c_lexer.specs.Characters.{Values}
use Rattle.c_lexer.specs.Texts.{value_before}
use Rattle.c_lexer.specs.PrintedTokens.{AreBytes}
use Rattle.c_lexer.specs.SourceUnits.{IsLexeme, AreLexemes}

pub dropped_bytes : (n : ℕ) (bs : List ℕ) → AreBytes bs → AreBytes (drop n bs)
dropped_bytes zero bs h = h
dropped_bytes (suc n) [] h = tt
dropped_bytes (suc n) (b ∷ bs) h = dropped_bytes n bs h.1

-- ---- one character; its value, if it has one, is the only item of `value_before`

either : {Q : Type 0} (f : Q → List ℕ) (b : Bool) (x y : Q) → (b ≡ true → AreBytes (f x)) → AreBytes (f y) → AreBytes (f (if b then x else y))
either f true x y h k = h refl
either f false x y h k = k

either_or_none : (b : Bool) (x y : Option ℕ) → AreBytes (value_before (simple_or_fault x) []) → AreBytes (value_before (simple_or_fault y) []) → AreBytes (value_before (simple_or_fault (if b then x else y)) [])
either_or_none true x y h k = h
either_or_none false x y h k = k

number : (v len : ℕ) → AreBytes (value_before (numeric v len) [])
number v len = either (λ q. value_before q []) (nat_le v 255) _ _ (λ e. (e, tt)) tt

hexadecimal_number : (ds : List ℕ) → AreBytes (value_before (hexadecimal ds) [])
hexadecimal_number [] = tt
hexadecimal_number (d ∷ ds) = number (value_behind 16 0 (d ∷ ds)) (2 + length (d ∷ ds))

simple_byte : (b : ℕ) → nat_le b 255 ≡ true → AreBytes (value_before (simple_or_fault (simple_escape b)) [])
simple_byte b h =
    either_or_none (((b == 39 || b == 34) || b == 63) || b == 92) (Some b) _ (h, tt)
    (either_or_none (b == 97) (Some 7) _ (refl, tt) (either_or_none (b == 98) (Some 8) _ (refl, tt) (either_or_none (b == 102) (Some 12) _ (refl, tt)
    (either_or_none (b == 110) (Some 10) _ (refl, tt) (either_or_none (b == 114) (Some 13) _ (refl, tt) (either_or_none (b == 116) (Some 9) _ (refl, tt)
    (either_or_none (b == 118) (Some 11) None (refl, tt) tt)))))))

octal_number : (ds : List ℕ) → AreBytes (value_before (octal ds) [])
octal_number ds = number (value_behind 8 0 ds) (1 + length ds)

abbrev is_octal : ℕ → Bool
is_octal b = nat_le 48 b && nat_le b 55

abbrev is_hex : ℕ → Bool
is_hex b = is_ascii_digit b || ((nat_le 97 b && nat_le b 102) || (nat_le 65 b && nat_le b 70))

escaped : (bs : List ℕ) → AreBytes bs → AreBytes (value_before (escape bs) [])
escaped [] h = tt
escaped (b ∷ bs) h =
    either (λ q. value_before q []) (b == 10) _ _ (λ e. tt)
    (either (λ q. value_before q []) (is_octal b) (octal (run is_octal (take 3 (b ∷ bs)))) _ (λ e. octal_number (run is_octal (take 3 (b ∷ bs))))
    (either (λ q. value_before q []) (b == 120) (hexadecimal (run is_hex bs)) _ (λ e. hexadecimal_number (run is_hex bs)) (simple_byte b h.0)))

pub quoted_byte : (quote : ℕ) (bs : List ℕ) → AreBytes bs → AreBytes (value_before (quoted quote bs) [])
quoted_byte quote [] h = tt
quoted_byte quote (b ∷ bs) h =
    either (λ q. value_before q []) (b == quote) _ _ (λ e. tt)
    (either (λ q. value_before q []) (b == 10) _ _ (λ e. tt) (either (λ q. value_before q []) (b == 92) _ _ (λ e. escaped bs h.1) (h.0, tt)))

-- ---- the characters of a text

pub value_bytes : (quote : ℕ) (bs vs : List ℕ) → AreBytes bs → Values quote bs vs → AreBytes vs
value_bytes quote bs [] h k = tt
value_bytes quote bs (v ∷ vs) h (len, e, more) = ((rw e at (quoted_byte quote bs h)).0, value_bytes quote (drop len bs) vs (dropped_bytes len bs h) more)

-- ---- the texts of a source

abbrev pub HasBytes : Lexeme → Type 0
HasBytes (Name n) = Unit {0}
HasBytes (Keyword k) = Unit {0}
HasBytes (Integer v kind) = Unit {0}
HasBytes (Character v) = Unit {0}
HasBytes (Text bs) = AreBytes bs
HasBytes (Sign k) = Unit {0}

abbrev pub HaveBytes : List Lexeme → Type 0
HaveBytes [] = Unit {0}
HaveBytes (l ∷ ls) = HasBytes l × HaveBytes ls

one_text : (c : Class) (source : List ℕ) (t : Token) (l : Lexeme) → AreBytes source → IsLexeme c source t l → HasBytes l
one_text class.Name source t l h e = rw e tt
one_text (class.Keyword k) source t l h e = rw e tt
one_text (class.Integer v kind) source t l h e = rw e tt
one_text (class.Character v) source t l h e = rw e tt
one_text class.Text source t l h (bs, vs, e) = rw e (value_bytes 34 (drop (t.start + 1) source) bs (dropped_bytes (t.start + 1) source h) vs)
one_text (class.Sign k) source t l h e = rw e tt

-- the texts among a source's lexemes are of bytes, where the source is
pub have_bytes : (source : List ℕ) (ts : List Token) (ps : List Placed) → AreBytes source → AreLexemes source ts ps → HaveBytes (lexemes ps)
have_bytes source [] [] h a = tt
have_bytes source [] (p ∷ ps) h a = absurd a
have_bytes source (t ∷ ts) [] h a = absurd a
have_bytes source (t ∷ ts) (p ∷ ps) h a = (one_text t.class source t p.lexeme h a.0, have_bytes source ts ps h a.2)
