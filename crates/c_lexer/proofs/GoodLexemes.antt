-- What a lexeme is made of that a source of bytes has.
use Rattle.std.proofs.Common.{◌≡◌, ◌+◌, ◌-◌, ℕ, Bool, true, false, if◌then◌else◌, Option, Some, None, Result, Ok, Err, List, [], ◌∷◌, length, drop, take, refl, sym, ap, ◌∙◌, subst, arith}
use Rattle.std.specs.Prelude.{nat_le, ◌==◌, ◌||◌, ◌&&◌}
use Rattle.std.specs.Int.{cast_signed, w8}
use Rattle.std.specs.Char.{is_ascii_digit}
use Rattle.lcc_text.specs.declared.class.Class.TheVariants.{Digit, Name as NameBytes}
use Rattle.lcc_text.specs.Classes.{in_class, AllIn}
use Rattle.c_ast.specs.declared.class.Class.{Class}
use Rattle.c_ast.specs.declared.class.Class.TheVariants as class
use Rattle.c_ast.specs.declared.class.IntKind.{IntKind}
use Rattle.c_ast.specs.Keywords.{keyword_of}
use Rattle.c_ast.specs.Signs.{sign_of}
use Rattle.c_ast.specs.Lexemes.{Lexeme, Name, Keyword, Integer, Character, Text, Sign, Placed}
use Rattle.c_ast.specs.Marks.{lexemes}
use Rattle.c_lexer.specs.declared.class.LexClass.TheVariants.{Constant as ConstantBytes, Octal, Hex}
use Rattle.c_lexer.specs.declared.integer.Suffix.{Suffix}
use Rattle.c_lexer.specs.declared.lex_fault.LexFault.{LexFault}
use Rattle.c_lexer.specs.declared.lex_fault.LexFaultKind.{LexFaultKind}
use Rattle.c_lexer.specs.declared.place.Place.{Place}
use Rattle.c_lexer.specs.declared.quoted.Quoted.{Quoted}
use Rattle.c_lexer.specs.declared.quoted.Quoted.TheVariants as written
use Rattle.c_lexer.specs.declared.start.Start.{Start}
use Rattle.c_lexer.specs.declared.start.Start.TheVariants as start
use Rattle.c_lexer.specs.declared.token.Token.{Token}
use Rattle.c_lexer.specs.Classes.{in_lex}
use Rattle.c_lexer.specs.Runs.{run, behind}
use Rattle.c_lexer.specs.Integers.{greatest, kinds, first_holding, integer_class, integer_in, starts_x, integer_of, suffix_of}
use Rattle.c_lexer.specs.Numbers.{number_in}
use Rattle.c_lexer.specs.Constants.{is_floating, class_or_fault}
use Rattle.c_lexer.specs.Quoted.{quoted}
use Rattle.c_lexer.specs.LongestSigns.{or_else, with_length, longest_sign}
use Rattle.c_lexer.specs.Starts.{starts_with, starts_wide, starts_comment, start_of}
use Rattle.c_lexer.specs.Readings.{Reading, class_of_word, of_length, one_character, character_of, text_of, sign_or_fault, ReadsFrom}
use Rattle.c_lexer.specs.Texts.{value_before}
use Rattle.c_lexer.specs.Tokens.{answer_at, AreTokens}
use Rattle.c_lexer.specs.SourceUnits.{IsLexeme, AreLexemes}
use Rattle.c_lexer.specs.PrintedTokens.{AreBytes}
use Rattle.c_lexer.proofs.ByteValues.{dropped_bytes, quoted_byte, value_bytes}

-- letters, digits and `_`, and no digit first
abbrev pub IsWord : List ℕ → Type 0
IsWord [] = ⊥
IsWord (b ∷ bs) = (is_ascii_digit b ≡ false) × AllIn (in_class NameBytes) (b ∷ bs)

-- a name is no keyword, a constant fits its type, a character is a byte as a signed char, a text is of bytes, and keywords and signs have their spelling
abbrev pub IsGood : Lexeme → Type 0
IsGood (Name n) = IsWord n × (keyword_of n ≡ None)
IsGood (Keyword k) = (w : List ℕ) × IsWord w × (keyword_of w ≡ Some k)
IsGood (Integer v kind) = nat_le v (greatest kind) ≡ true
IsGood (Character v) = (b : ℕ) × (nat_le b 255 ≡ true) × (v ≡ cast_signed w8 b)
IsGood (Text bs) = AreBytes bs
IsGood (Sign k) = (x : List ℕ) × (sign_of x ≡ Some k)

abbrev pub AreGood : List Lexeme → Type 0
AreGood [] = Unit {0}
AreGood (l ∷ ls) = IsGood l × AreGood ls

-- the same of a token's class at the front of bytes; what a text denotes is no matter of its class
abbrev IsGoodAs : Class → List ℕ → ℕ → Type 0
IsGoodAs class.Name bytes len = IsWord (take len bytes) × (keyword_of (take len bytes) ≡ None)
IsGoodAs (class.Keyword k) bytes len = (w : List ℕ) × IsWord w × (keyword_of w ≡ Some k)
IsGoodAs (class.Integer v kind) bytes len = nat_le v (greatest kind) ≡ true
IsGoodAs (class.Character v) bytes len = (b : ℕ) × (nat_le b 255 ≡ true) × (v ≡ cast_signed w8 b)
IsGoodAs class.Text bytes len = Unit {0}
IsGoodAs (class.Sign k) bytes len = (x : List ℕ) × (sign_of x ≡ Some k)

abbrev IsGoodReading : List ℕ → Reading → Type 0
IsGoodReading bytes (Ok (Some x)) = IsGoodAs x.0 bytes x.1
IsGoodReading bytes (Ok None) = Unit {0}
IsGoodReading bytes (Err kind) = Unit {0}

-- ---- constants

abbrev IsGoodClass : Option Class → Type 0
IsGoodClass None = Unit {0}
IsGoodClass (Some c) = (bytes : List ℕ) (len : ℕ) → IsGoodAs c bytes len

either : (b : Bool) (x y : Option Class) → (b ≡ true → IsGoodClass x) → IsGoodClass y → IsGoodClass (if b then x else y)
either true x y h k = h refl
either false x y h k = k

good_first : (v : ℕ) (ks : List IntKind) → IsGoodClass (first_holding v ks)
good_first v [] = tt
good_first v (k ∷ ks) = either (nat_le v (greatest k)) (Some (class.Integer v k)) (first_holding v ks) (λ e bytes len. e) (good_first v ks)

good_class : (decimal : Bool) (v : Option ℕ) (s : Option Suffix) → IsGoodClass (integer_class decimal v s)
good_class decimal (Some v) (Some s) = good_first v (kinds decimal s)
good_class decimal (Some v) None = tt
good_class decimal None s = tt

good_integer_in : (base : ℕ) (ds after : List ℕ) → IsGoodClass (integer_in base ds after)
good_integer_in base [] after = tt
good_integer_in base (d ∷ ds) after = good_class (base == 10) (number_in base (d ∷ ds)) (suffix_of after)

good_integer : (t : List ℕ) → IsGoodClass (integer_of t)
good_integer [] = tt
good_integer (a ∷ bs) = either (a == 48) _ _ (λ e. either (starts_x bs) _ _ (λ f. good_integer_in 16 (run (in_lex Hex) (drop 1 bs)) (behind (in_lex Hex) (drop 1 bs))) (good_integer_in 8 (run (in_lex Octal) (a ∷ bs)) (behind (in_lex Octal) (a ∷ bs)))) (good_integer_in 10 (run (in_class Digit) (a ∷ bs)) (behind (in_class Digit) (a ∷ bs)))

good_constant : (o : Option Class) (floating : Bool) (bytes : List ℕ) (len : ℕ) → IsGoodClass o → IsGoodReading bytes (of_length (class_or_fault o floating) len)
good_constant (Some c) floating bytes len h = h bytes len
good_constant None true bytes len h = tt
good_constant None false bytes len h = tt

-- ---- words

run_front : (c : ℕ → Bool) (bytes : List ℕ) → take (length (run c bytes)) bytes ≡ run c bytes
run_front c [] = refl
run_front c (b ∷ bs) = by (c b) (run_front c bs)
  where
    by : (t : Bool) → take (length (run c bs)) bs ≡ run c bs → take (length (if t then b ∷ run c bs else [])) (b ∷ bs) ≡ (if t then b ∷ run c bs else [])
    by true h = ap (λ z. b ∷ z) h
    by false h = refl

pub run_all : (c : ℕ → Bool) (bytes : List ℕ) → AllIn c (run c bytes)
run_all c [] = tt
run_all c (b ∷ bs) = by (c b) refl (run_all c bs)
  where
    by : (t : Bool) → c b ≡ t → AllIn c (run c bs) → AllIn c (if t then b ∷ run c bs else [])
    by true e h = (e, h)
    by false e h = tt

abbrev pick : Bool → Bool → Bool → Bool → Bool → Bool → Start
pick a b c d e f = if a then start.Constant else (if b then start.Wide else (if c then start.Word else (if d then start.Character else (if e then start.Text else (if f then start.Comment else start.Sign)))))

pick_word : (digit point b c d e f : Bool) → pick (digit || point) b c d e f ≡ start.Word → (digit ≡ false) × (c ≡ true)
pick_word true point b c d e f h = absurd cc
pick_word false true b c d e f h = absurd cc
pick_word false false true c d e f h = absurd cc
pick_word false false false true d e f h = (refl, refl)
pick_word false false false false true e f h = absurd cc
pick_word false false false false false true f h = absurd cc
pick_word false false false false false false true h = absurd cc
pick_word false false false false false false false h = absurd cc

word_run : (b : ℕ) (bs : List ℕ) → is_ascii_digit b ≡ false → in_class NameBytes b ≡ true → IsWord (run (in_class NameBytes) (b ∷ bs))
word_run b bs d h = rw h (d, (h, run_all (in_class NameBytes) bs))

is_word : (bytes : List ℕ) → start_of bytes ≡ start.Word → IsWord (run (in_class NameBytes) bytes)
is_word [] e = absurd cc
is_word (b ∷ bs) e =
    let h = pick_word (is_ascii_digit b) (b == 46 && starts_with is_ascii_digit bs) (starts_wide b bs) (in_class NameBytes b) (b == 39) (b == 34) (starts_comment b bs) e in
    word_run b bs h.0 h.1

good_word : (bytes w : List ℕ) (o : Option ℕ) → keyword_of w ≡ o → IsWord w → take (length w) bytes ≡ w → IsGoodAs (class_of_word o) bytes (length w)
good_word bytes w (Some k) e h f = (w, h, e)
good_word bytes w None e h f = subst (λ (z : List ℕ). IsWord z × (keyword_of z ≡ None)) (sym f) (h, e)

-- ---- characters

good_one : (bytes : List ℕ) (q : Quoted) (all : ℕ) → AreBytes (value_before q []) → IsGoodReading bytes (one_character q all)
good_one bytes (written.Character v len) all h = (v, h.0, refl)
good_one bytes written.Close all h = tt
good_one bytes (written.Fault kind) all h = tt

good_either : (bytes : List ℕ) (b : Bool) (r s : Reading) → IsGoodReading bytes r → IsGoodReading bytes s → IsGoodReading bytes (if b then r else s)
good_either bytes true r s h k = h
good_either bytes false r s h k = k

good_character : (bytes all : List ℕ) (x : Result (ℕ × ℕ) LexFaultKind) → AreBytes bytes → IsGoodReading all (character_of bytes x)
good_character bytes all (Ok x) h = good_either all (x.0 == 1) _ _ (good_one all (quoted 39 bytes) x.1 (quoted_byte 39 bytes h)) tt
good_character bytes all (Err kind) h = tt

good_text : (bytes : List ℕ) (x : Result (ℕ × ℕ) LexFaultKind) → IsGoodReading bytes (text_of x)
good_text bytes (Ok x) = tt
good_text bytes (Err kind) = tt

-- ---- signs

abbrev IsGoodSign : Option (ℕ × ℕ) → Type 0
IsGoodSign None = Unit {0}
IsGoodSign (Some x) = (t : List ℕ) × (sign_of t ≡ Some x.0)

good_length : (t : List ℕ) (o : Option ℕ) (len : ℕ) → sign_of t ≡ o → IsGoodSign (with_length o len)
good_length t None len e = tt
good_length t (Some k) len e = (t, e)

good_or : (o p : Option (ℕ × ℕ)) → IsGoodSign o → IsGoodSign p → IsGoodSign (or_else o p)
good_or None p h k = k
good_or (Some x) p h k = h

good_sign : (bytes : List ℕ) (o : Option (ℕ × ℕ)) → IsGoodSign o → IsGoodReading bytes (sign_or_fault o)
good_sign bytes None h = tt
good_sign bytes (Some x) h = h

longest_good : (bytes : List ℕ) → IsGoodSign (longest_sign bytes)
longest_good bytes =
    good_or _ _ (good_length (take 3 bytes) (sign_of (take 3 bytes)) (length (take 3 bytes)) refl)
    (good_or _ _ (good_length (take 2 bytes) (sign_of (take 2 bytes)) (length (take 2 bytes)) refl) (good_length (take 1 bytes) (sign_of (take 1 bytes)) (length (take 1 bytes)) refl))

-- ---- each token of a source

good_from : (k : Start) (bytes : List ℕ) (r : Reading) → AreBytes bytes → start_of bytes ≡ k → ReadsFrom k bytes r → IsGoodReading bytes r
good_from start.End bytes r h s e = subst (IsGoodReading bytes) (sym e) tt
good_from start.Constant bytes r h s e =
    let t = run (in_lex ConstantBytes) bytes in
    subst (IsGoodReading bytes) (sym e) (good_constant (integer_of t) (is_floating t) bytes (length t) (good_integer t))
good_from start.Wide bytes r h s e = subst (IsGoodReading bytes) (sym e) tt
good_from start.Word bytes r h s e =
    let w = run (in_class NameBytes) bytes in
    subst (IsGoodReading bytes) (sym e) (good_word bytes w (keyword_of w) refl (is_word bytes s) (run_front (in_class NameBytes) bytes))
good_from start.Character bytes r h s (x, c, e) = subst (IsGoodReading bytes) (sym e) (good_character (drop 1 bytes) bytes x (dropped_bytes 1 bytes h))
good_from start.Text bytes r h s (x, c, e) = subst (IsGoodReading bytes) (sym e) (good_text bytes x)
good_from start.Comment bytes r h s e = subst (IsGoodReading bytes) (sym e) tt
good_from start.Sign bytes r h s e = subst (IsGoodReading bytes) (sym e) (good_sign bytes (longest_sign bytes) (longest_good bytes))

abbrev token_at : Class → Place → ℕ → Token
token_at c p len = record { class = c; start = p.offset; end = p.offset + len; line = p.line }

behind_start : (a n : ℕ) → a + n - a ≡ n
behind_start a n = omega arith

good_lexeme : (c : Class) (source : List ℕ) (p : Place) (len : ℕ) (l : Lexeme) → AreBytes source → IsGoodAs c (drop p.offset source) len → IsLexeme c source (token_at c p len) l → IsGood l
good_lexeme class.Name source p len l b g e = subst IsGood (sym (e ∙ ap (λ n. Name (take n (drop p.offset source))) (behind_start p.offset len))) g
good_lexeme (class.Keyword k) source p len l b g e = subst IsGood (sym e) g
good_lexeme (class.Integer v kind) source p len l b g e = subst IsGood (sym e) g
good_lexeme (class.Character v) source p len l b g e = subst IsGood (sym e) g
good_lexeme class.Text source p len l b g (bs, vs, e) = subst IsGood (sym e) (value_bytes 34 (drop (p.offset + 1) source) bs (dropped_bytes (p.offset + 1) source b) vs)
good_lexeme (class.Sign k) source p len l b g e = subst IsGood (sym e) g

good_token : (source : List ℕ) (p : Place) (r : Reading) (t : Token) (l : Lexeme) → AreBytes source → IsGoodReading (drop p.offset source) r → ◌≡◌ {A = Result (Option Token) LexFault} (Ok (Some t)) (answer_at p r) → IsLexeme t.class source t l → IsGood l
good_token source p (Ok (Some x)) t l b g e h =
    let f : t ≡ token_at x.0 p x.1 = cc in
    good_lexeme x.0 source p x.1 l b g (subst (λ (z : Token). IsLexeme z.class source z l) f h)
good_token source p (Ok None) t l b g e h = absurd cc
good_token source p (Err kind) t l b g e h = absurd cc

pub good_lexemes : (source : List ℕ) (p : Place) (ts : List Token) (ps : List Placed) (e : Option LexFault) → AreBytes source → AreTokens source p ts e → AreLexemes source ts ps → AreGood (lexemes ps)
good_lexemes source p [] [] e b c a = tt
good_lexemes source p [] (l ∷ ps) e b c a = absurd a
good_lexemes source p (t ∷ ts) [] e b c a = absurd a
good_lexemes source p (t ∷ ts) (l ∷ ps) e b (q, c, more) a =
    let bytes = drop c.here.offset source in (
      good_token source c.here c.reading t l.lexeme b (good_from (start_of bytes) bytes c.reading (dropped_bytes c.here.offset source b) refl c.reads) c.answers a.0,
      good_lexemes source q ts ps e b more a.2,
    )
