-- The longest token of each kind, and the first byte of its text, which tells the kind.
use Rattle.std.proofs.Common.{◌≡◌, ◌≤◌, ◌+◌, ℕ, Bool, zero, suc, true, false, cond, List, [], ◌∷◌, ◌++◌, length, take, drop, get_or, refl, sym, ap, subst, ◌∙◌, arith, ◌-◌}
use Rattle.std.proofs.lemmas.List.{take-append-drop, take_all}
use Rattle.std.specs.Prelude.{◌≢◌}
use Rattle.lcc_text.specs.declared.class.Class.TheVariants.{Digit}
use Rattle.lcc_text.specs.Classes.{in_class, AllIn, StartsIn, StopsIn}
use Rattle.lcc_text.proofs.lemmas.Runs.{run_pos, starts_take, longest_run}
use Rattle.asm_lines.specs.declared.class.AsmClass.TheVariants.{Symbol, HexDigit}
use Rattle.asm_lines.specs.declared.token.Kind.{Kind}
use Rattle.asm_lines.specs.declared.token.Kind.TheVariants as kinds
use Rattle.asm_lines.specs.Classes.{in_asm}
use Rattle.asm_lines.specs.Tokens.{Tok, Word, Decimal, Hexadecimal, Dollar, Colon, Comma, Open, Close, Plus, Minus, Wrong, text_of, tok_of, IsName, IsToken}
use Rattle.asm_lines.specs.Spelling.{IsNext, NoToken}

-- ---- the first byte

-- kinds of first bytes: 0 a digit, 1 another symbol, 2 where there is none, and of other bytes their number and three
abbrev pick : Bool → Bool → ℕ → ℕ
pick digit symbol b = cond digit 0 (cond symbol 1 (b + 3))

abbrev pub kind : ℕ → ℕ
kind b = pick (in_class Digit b) (in_asm Symbol b) b

abbrev pub kind_at : List ℕ → ℕ
kind_at [] = 2
kind_at (b ∷ bs) = kind b

abbrev pub kind_of : Tok → ℕ
kind_of (Word b) = 1
kind_of (Decimal d) = 0
kind_of (Hexadecimal d) = 0
kind_of (Dollar b) = 36 + 3
kind_of Colon = 58 + 3
kind_of Comma = 44 + 3
kind_of Open = 40 + 3
kind_of Close = 41 + 3
kind_of Plus = 43 + 3
kind_of Minus = 45 + 3
kind_of Wrong = 2

of_digit : (d s : Bool) (b : ℕ) → d ≡ true → pick d s b ≡ 0
of_digit d s b e = rw e refl

of_symbol : (d s : Bool) (b : ℕ) → d ≡ false → s ≡ true → pick d s b ≡ 1
of_symbol d s b e f = rw (e, f) refl

of_other : (d s : Bool) (b : ℕ) → d ≡ false → s ≡ false → pick d s b ≡ b + 3
of_other d s b e f = rw (e, f) refl

pub other_kind : (b : ℕ) → in_class Digit b ≡ false → in_asm Symbol b ≡ false → kind b ≡ b + 3
other_kind b d s = of_other (in_class Digit b) (in_asm Symbol b) b d s

kind_is : (u : Tok) (z : List ℕ) → IsToken u → kind_at (text_of u ++ z) ≡ kind_of u
kind_is (Word []) z p = absurd p
kind_is (Word (b ∷ m)) z p = of_symbol (in_class Digit b) (in_asm Symbol b) b p.0 p.1.0
kind_is (Decimal []) z p = absurd p.0
kind_is (Decimal (d ∷ m)) z p = of_digit (in_class Digit d) (in_asm Symbol d) d p.0
kind_is (Hexadecimal m) z p = refl
kind_is (Dollar m) z p = refl
kind_is Wrong z p = absurd p
kind_is Colon z p = refl
kind_is Comma z p = refl
kind_is Open z p = refl
kind_is Close z p = refl
kind_is Plus z p = refl
kind_is Minus z p = refl

-- a token that bytes begin with is of the kind of the first of them
pub first_kind : (bytes : List ℕ) (u : Tok) (z : List ℕ) → IsToken u → bytes ≡ text_of u ++ z → kind_at bytes ≡ kind_of u
first_kind bytes u z p e = ap kind_at e ∙ kind_is u z p

-- tokens that begin the same bytes are of one kind
pub same_kind : (t u : Tok) (x z : List ℕ) → IsToken t → IsToken u → text_of t ++ x ≡ text_of u ++ z → kind_of t ≡ kind_of u
same_kind t u x z p q e = sym (kind_is t x p) ∙ first_kind (text_of t ++ x) u z q e

same_tail : (a b : ℕ) (x y : List ℕ) → a ∷ x ≡ b ∷ y → x ≡ y
same_tail a b x y e = cc

starts_front : (c : ℕ → Bool) (bytes m z : List ℕ) → StartsIn c m → bytes ≡ m ++ z → StartsIn c bytes
starts_front c bytes [] z h e = absurd h
starts_front c bytes (b ∷ m) z h e = rw e h

-- ---- names

pub name_symbols : (n : List ℕ) → IsName n → AllIn (in_asm Symbol) n
name_symbols [] h = absurd h
name_symbols (b ∷ n) h = h.1

name_front : (bytes : List ℕ) (n : ℕ) → 1 ≤ n → StartsIn (in_asm Symbol) bytes → StopsIn (in_class Digit) bytes → AllIn (in_asm Symbol) (take n bytes) → IsName (take n bytes)
name_front [] n k h d f = absurd h
name_front (b ∷ bs) zero k h d f = absurd (omega arith)
name_front (b ∷ bs) (suc n) k h d f = (d, f)

pub word_is_next : (n rest : List ℕ) → IsName n → StopsIn (in_asm Symbol) rest → IsNext (n ++ rest) (Word n) rest
word_is_next n rest t k = record { token = t; parts = refl; longest = longest } where
  longest : (u : Tok) (z : List ℕ) → IsToken u → n ++ rest ≡ text_of u ++ z → length (text_of u) ≤ length n
  longest (Word m) z p e = longest_run (in_asm Symbol) n m rest z (name_symbols m p) k e
  longest u z p e = let h : 1 ≡ kind_of u = same_kind (Word n) u rest z t p e in absurd (omega arith)

at_front : (bytes : List ℕ) (n : ℕ) (t : Tok) → IsNext (take n bytes ++ drop n bytes) t (drop n bytes) → IsNext bytes t (drop n bytes)
at_front bytes n t h = rw (take-append-drop n bytes) at h

pub word_next : (bytes : List ℕ) (n : ℕ) → StartsIn (in_asm Symbol) bytes → StopsIn (in_class Digit) bytes → AllIn (in_asm Symbol) (take n bytes) → StopsIn (in_asm Symbol) (drop n bytes) → IsNext bytes (Word (take n bytes)) (drop n bytes)
word_next bytes n h d f k = at_front bytes n (Word (take n bytes)) (word_is_next (take n bytes) (drop n bytes) (name_front bytes n (run_pos (in_asm Symbol) bytes n h k) h d f) k)

-- ---- numbers

hex_is_next : (n rest : List ℕ) → StartsIn (in_asm HexDigit) n → AllIn (in_asm HexDigit) n → StopsIn (in_asm HexDigit) rest → IsNext (48 ∷ 120 ∷ (n ++ rest)) (Hexadecimal n) rest
hex_is_next n rest s f k = record { token = (s, f); parts = refl; longest = longest } where
  longest : (u : Tok) (z : List ℕ) → IsToken u → 48 ∷ 120 ∷ (n ++ rest) ≡ text_of u ++ z → length (text_of u) ≤ suc (suc (length n))
  longest (Hexadecimal m) z p e = let h = longest_run (in_asm HexDigit) n m rest z p.1 k (same_tail _ _ _ _ (same_tail _ _ _ _ e)) in omega arith
  longest (Decimal m) z p e = let h = longest_run (in_class Digit) (48 ∷ []) m (120 ∷ (n ++ rest)) z p.1 refl e in omega arith
  longest u z p e = let h : 0 ≡ kind_of u = first_kind (48 ∷ 120 ∷ (n ++ rest)) u z p e in absurd (omega arith)

pub hex_next : (bytes : List ℕ) (n : ℕ) → StartsIn (in_asm HexDigit) bytes → AllIn (in_asm HexDigit) (take n bytes) → StopsIn (in_asm HexDigit) (drop n bytes) → IsNext (48 ∷ 120 ∷ bytes) (Hexadecimal (take n bytes)) (drop n bytes)
hex_next bytes n h f k = rw (take-append-drop n bytes) at (hex_is_next (take n bytes) (drop n bytes) (starts_take (in_asm HexDigit) bytes n h (run_pos (in_asm HexDigit) bytes n h k)) f k)

-- the same, where the digits are what two bytes leave of all
pub hex_behind : (bytes : List ℕ) (n : ℕ) → 2 ≤ length bytes → get_or bytes 0 0 ≡ 48 → get_or bytes 1 0 ≡ 120 → StartsIn (in_asm HexDigit) (take (length bytes - 2) (drop 2 bytes)) → AllIn (in_asm HexDigit) (take n (take (length bytes - 2) (drop 2 bytes))) → StopsIn (in_asm HexDigit) (drop n (take (length bytes - 2) (drop 2 bytes))) → IsNext bytes (Hexadecimal (take n (take (length bytes - 2) (drop 2 bytes)))) (drop n (take (length bytes - 2) (drop 2 bytes)))
hex_behind [] n h a b s f k = absurd (omega arith)
hex_behind (x ∷ []) n h a b s f k = absurd (omega arith)
hex_behind (x ∷ y ∷ bytes) n h a b s f k =
    let e : take (length (x ∷ y ∷ bytes) - 2) bytes ≡ bytes = take_all _ bytes (omega arith) in
    let P : List ℕ → Type 0 = λ l. IsNext (x ∷ y ∷ bytes) (Hexadecimal (take n l)) (drop n l) in
    let next = hex_next bytes n (rw e at s) (rw e at f) (rw e at k) in
    subst P (sym e) (rw (a, b) next)

-- no hexadecimal number stands first
abbrev pub NoHex : List ℕ → Type 0
NoHex bytes = (m z : List ℕ) → IsToken (Hexadecimal m) → bytes ≡ text_of (Hexadecimal m) ++ z → ⊥

-- `0x` begins no hexadecimal number without a digit
pub no_hex : (bytes : List ℕ) → (StartsIn (in_asm HexDigit) bytes → ⊥) → (m z : List ℕ) → IsToken (Hexadecimal m) → 48 ∷ 120 ∷ bytes ≡ text_of (Hexadecimal m) ++ z → ⊥
no_hex bytes h m z p e = h (starts_front (in_asm HexDigit) bytes m z p.0 (same_tail _ _ _ _ (same_tail _ _ _ _ e)))

pub decimal_is_next : (n rest : List ℕ) → StartsIn (in_class Digit) n → AllIn (in_class Digit) n → StopsIn (in_class Digit) rest → NoHex (n ++ rest) → IsNext (n ++ rest) (Decimal n) rest
decimal_is_next n rest s f k x = record { token = (s, f); parts = refl; longest = longest } where
  longest : (u : Tok) (z : List ℕ) → IsToken u → n ++ rest ≡ text_of u ++ z → length (text_of u) ≤ length n
  longest (Decimal m) z p e = longest_run (in_class Digit) n m rest z p.1 k e
  longest (Hexadecimal m) z p e = absurd (x m z p e)
  longest u z p e = let h : 0 ≡ kind_of u = same_kind (Decimal n) u rest z (s, f) p e in absurd (omega arith)

pub decimal_next : (bytes : List ℕ) (n : ℕ) → StartsIn (in_class Digit) bytes → AllIn (in_class Digit) (take n bytes) → StopsIn (in_class Digit) (drop n bytes) → ((m z : List ℕ) → IsToken (Hexadecimal m) → bytes ≡ text_of (Hexadecimal m) ++ z → ⊥) → IsNext bytes (Decimal (take n bytes)) (drop n bytes)
decimal_next bytes n h f k x = at_front bytes n (Decimal (take n bytes)) (decimal_is_next (take n bytes) (drop n bytes) (starts_take (in_class Digit) bytes n h (run_pos (in_class Digit) bytes n h k)) f k (rw (take-append-drop n bytes) x))

-- ---- what stands behind a dollar sign

pub dollar_is_next : (n rest : List ℕ) → StartsIn (in_asm Symbol) n → AllIn (in_asm Symbol) n → StopsIn (in_asm Symbol) rest → IsNext (36 ∷ (n ++ rest)) (Dollar n) rest
dollar_is_next n rest s f k = record { token = (s, f); parts = refl; longest = longest } where
  longest : (u : Tok) (z : List ℕ) → IsToken u → 36 ∷ (n ++ rest) ≡ text_of u ++ z → length (text_of u) ≤ suc (length n)
  longest (Dollar m) z p e = let h = longest_run (in_asm Symbol) n m rest z p.1 k (same_tail _ _ _ _ e) in omega arith
  longest u z p e = let h : 36 + 3 ≡ kind_of u = first_kind (36 ∷ (n ++ rest)) u z p e in absurd (omega arith)

pub dollar_next : (bytes : List ℕ) (n : ℕ) → StartsIn (in_asm Symbol) bytes → AllIn (in_asm Symbol) (take n bytes) → StopsIn (in_asm Symbol) (drop n bytes) → IsNext (36 ∷ bytes) (Dollar (take n bytes)) (drop n bytes)
dollar_next bytes n h f k = rw (take-append-drop n bytes) at (dollar_is_next (take n bytes) (drop n bytes) (starts_take (in_asm Symbol) bytes n h (run_pos (in_asm Symbol) bytes n h k)) f k)

-- a dollar sign begins nothing without a name
pub no_dollar : (bytes : List ℕ) → (StartsIn (in_asm Symbol) bytes → ⊥) → NoToken (36 ∷ bytes)
no_dollar bytes h = none where
  none : (u : Tok) (z : List ℕ) → IsToken u → 36 ∷ bytes ≡ text_of u ++ z → ⊥
  none (Dollar m) z p e = h (starts_front (in_asm Symbol) bytes m z p.0 (same_tail _ _ _ _ e))
  none u z p e = let k : 36 + 3 ≡ kind_of u = first_kind (36 ∷ bytes) u z p e in omega arith

-- ---- signs, and no token

-- a token of another kind is one byte long
one_long : (u : Tok) → IsToken u → 3 ≤ kind_of u → kind_of u ≢ 36 + 3 → length (text_of u) ≡ 1
one_long (Word m) p h k = absurd (omega arith)
one_long (Decimal m) p h k = absurd (omega arith)
one_long (Hexadecimal m) p h k = absurd (omega arith)
one_long (Dollar m) p h k = absurd (k refl)
one_long Wrong p h k = absurd p
one_long Colon p h k = refl
one_long Comma p h k = refl
one_long Open p h k = refl
one_long Close p h k = refl
one_long Plus p h k = refl
one_long Minus p h k = refl

-- the kinds that have no text of their own are signs
is_sign : (k : Kind) → IsToken (tok_of k []) → (3 ≤ kind_of (tok_of k [])) × (kind_of (tok_of k []) ≢ 36 + 3)
is_sign kinds.Word p = absurd p
is_sign kinds.Decimal p = absurd p.0
is_sign kinds.Hexadecimal p = absurd p.0
is_sign kinds.Dollar p = absurd p.0
is_sign kinds.Bad p = absurd p
is_sign kinds.Colon p = (omega arith, λ e. omega arith)
is_sign kinds.Comma p = (omega arith, λ e. omega arith)
is_sign kinds.Open p = (omega arith, λ e. omega arith)
is_sign kinds.Close p = (omega arith, λ e. omega arith)
is_sign kinds.Plus p = (omega arith, λ e. omega arith)
is_sign kinds.Minus p = (omega arith, λ e. omega arith)

pub sign_next : (k : Kind) (b : ℕ) (rest : List ℕ) → IsToken (tok_of k []) → text_of (tok_of k []) ≡ b ∷ [] → IsNext (b ∷ rest) (tok_of k []) rest
sign_next k b rest t w = record { token = t; parts = parts; longest = longest } where
  parts : b ∷ rest ≡ text_of (tok_of k []) ++ rest
  parts = ap (λ (l : List ℕ). l ++ rest) (sym w)

  sign : (3 ≤ kind_of (tok_of k [])) × (kind_of (tok_of k []) ≢ 36 + 3)
  sign = is_sign k t

  longest : (u : Tok) (z : List ℕ) → IsToken u → b ∷ rest ≡ text_of u ++ z → length (text_of u) ≤ length (text_of (tok_of k []))
  longest u z p e =
      let h = same_kind (tok_of k []) u rest z t p (sym parts ∙ e) in
      let f = one_long u p (omega (arith, h, sign.0)) (λ g. sign.1 (h ∙ g)) in
      let g = one_long (tok_of k []) t sign.0 sign.1 in
      omega (arith, f, g)

none_at : (b : ℕ) (bs : List ℕ) → kind b ≡ b + 3 → b ≢ 36 → ((k : Kind) → IsToken (tok_of k []) → text_of (tok_of k []) ≢ b ∷ []) → (u : Tok) (z : List ℕ) → IsToken u → b ∷ bs ≡ text_of u ++ z → ⊥
none_at b bs h q s Colon z p e = s kinds.Colon tt cc
none_at b bs h q s Comma z p e = s kinds.Comma tt cc
none_at b bs h q s Open z p e = s kinds.Open tt cc
none_at b bs h q s Close z p e = s kinds.Close tt cc
none_at b bs h q s Plus z p e = s kinds.Plus tt cc
none_at b bs h q s Minus z p e = s kinds.Minus tt cc
none_at b bs h q s Wrong z p e = p
none_at b bs h q s u z p e = let k : kind b ≡ kind_of u = first_kind (b ∷ bs) u z p e in q (omega arith)

pub none_next : (b : ℕ) (bs : List ℕ) → ((k : Kind) → IsToken (tok_of k []) → text_of (tok_of k []) ≢ b ∷ []) → b ≢ 36 → in_class Digit b ≡ false → in_asm Symbol b ≡ false → NoToken (b ∷ bs)
none_next b bs s q d l = none_at b bs (other_kind b d l) q s

none_empty_at : (u : Tok) (z : List ℕ) → IsToken u → [] ≡ text_of u ++ z → ⊥
none_empty_at Wrong z p e = p
none_empty_at u z p e = let k : 2 ≡ kind_of u = first_kind [] u z p e in omega arith

pub none_empty : NoToken []
none_empty = none_empty_at

-- no sign is this byte
pub no_sign : (b : ℕ) → b ≢ 58 → b ≢ 44 → b ≢ 40 → b ≢ 41 → b ≢ 43 → b ≢ 45 → (k : Kind) → IsToken (tok_of k []) → text_of (tok_of k []) ≢ b ∷ []
no_sign b e f g h i j kinds.Word p = absurd p
no_sign b e f g h i j kinds.Decimal p = absurd p.0
no_sign b e f g h i j kinds.Hexadecimal p = absurd p.0
no_sign b e f g h i j kinds.Dollar p = absurd p.0
no_sign b e f g h i j kinds.Bad p = absurd p
no_sign b e f g h i j kinds.Colon p = λ q. e cc
no_sign b e f g h i j kinds.Comma p = λ q. f cc
no_sign b e f g h i j kinds.Open p = λ q. g cc
no_sign b e f g h i j kinds.Close p = λ q. h cc
no_sign b e f g h i j kinds.Plus p = λ q. i cc
no_sign b e f g h i j kinds.Minus p = λ q. j cc
