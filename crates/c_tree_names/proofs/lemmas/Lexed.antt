-- The names among the tokens of a source are of letters, digits and `_`.
use Rattle.std.proofs.Common.{◌≡◌, ℕ, ◌+◌, ◌-◌, Bool, true, false, if◌then◌else◌, Option, Some, None, Result, Ok, Err, List, [], ◌∷◌, length, drop, take, refl, sym, ap, ◌∙◌, subst, arith}
use Rattle.std.specs.Prelude.{nat_le, ◌==◌, ◌||◌, ◌&&◌}
use Rattle.std.specs.Char.{is_ascii_digit}
use Rattle.lcc_text.specs.declared.class.Class.TheVariants.{Digit, Name as NameBytes}
use Rattle.lcc_text.specs.Classes.{in_class}
use Rattle.c_ast.specs.declared.class.Class.{Class}
use Rattle.c_ast.specs.declared.class.Class.TheVariants as class
use Rattle.c_ast.specs.declared.class.IntKind.{IntKind}
use Rattle.c_ast.specs.Keywords.{keyword_of}
use Rattle.c_ast.specs.Lexemes.{Lexeme, Name, Placed}
use Rattle.c_ast.specs.Marks.{lexemes}
use Rattle.c_lexer.specs.declared.lex_fault.LexFault.{LexFault}
use Rattle.c_lexer.specs.declared.lex_fault.LexFaultKind.{LexFaultKind}
use Rattle.c_lexer.specs.declared.place.Place.{Place}
use Rattle.c_lexer.specs.declared.token.Token.{Token}
use Rattle.c_lexer.specs.Runs.{run, behind}
use Rattle.c_lexer.specs.Integers.{greatest, kinds, first_holding, integer_class, integer_in, starts_x, integer_of, suffix_of}
use Rattle.c_lexer.specs.Numbers.{number_in, value_behind}
use Rattle.c_lexer.specs.Constants.{is_floating, class_or_fault}
use Rattle.c_lexer.specs.Quoted.{escape, hexadecimal, numeric, quoted, simple_escape, simple_or_fault}
use Rattle.c_lexer.specs.LongestSigns.{longest_sign}
use Rattle.c_lexer.specs.Starts.{starts_constant, starts_wide, starts_comment}
use Rattle.c_lexer.specs.Readings.{Reading, class_of_word, of_length, number_of, one_character, character_of, text_of, sign_or_fault, Reads}
use Rattle.c_lexer.specs.Tokens.{answer_at, AreTokens}
use Rattle.c_lexer.specs.SourceUnits.{IsLexeme, AreLexemes}
use Rattle.c_tree_names.specs.Names.{IsName, are_name_bytes, is_name_byte}
use Rattle.c_tree_names.proofs.lemmas.Named.{AreNamed, IsNamed}

-- ---- a token's class at the front of bytes

abbrev is_name_class : Class → Bool
is_name_class class.Name = true
is_name_class (class.Keyword k) = false
is_name_class (class.Integer v kind) = false
is_name_class (class.Character v) = false
is_name_class class.Text = false
is_name_class (class.Sign k) = false

-- a name's bytes are those of one
abbrev IsNamedAs : Class → List ℕ → ℕ → Type 0
IsNamedAs class.Name bytes len = IsName (take len bytes)
IsNamedAs c bytes len = Unit {0}

abbrev IsNamedReading : List ℕ → Reading → Type 0
IsNamedReading bytes (Ok (Some x)) = IsNamedAs x.0 bytes x.1
IsNamedReading bytes (Ok None) = Unit {0}
IsNamedReading bytes (Err kind) = Unit {0}

abbrev reads_name : Reading → Bool
reads_name (Ok (Some x)) = is_name_class x.0
reads_name (Ok None) = false
reads_name (Err kind) = false

other_class : (c : Class) (bytes : List ℕ) (len : ℕ) → is_name_class c ≡ false → IsNamedAs c bytes len
other_class class.Name bytes len h = absurd cc
other_class (class.Keyword k) bytes len h = tt
other_class (class.Integer v kind) bytes len h = tt
other_class (class.Character v) bytes len h = tt
other_class class.Text bytes len h = tt
other_class (class.Sign k) bytes len h = tt

other_reading : (bytes : List ℕ) (r : Reading) → reads_name r ≡ false → IsNamedReading bytes r
other_reading bytes (Ok (Some x)) h = other_class x.0 bytes x.1 h
other_reading bytes (Ok None) h = tt
other_reading bytes (Err kind) h = tt

-- ---- constants

abbrev is_name_found : Option Class → Bool
is_name_found None = false
is_name_found (Some c) = is_name_class c

either : (b : Bool) (x y : Option Class) → is_name_found x ≡ false → is_name_found y ≡ false → is_name_found (if b then x else y) ≡ false
either true x y h k = h
either false x y h k = k

other_first : (v : ℕ) (ks : List IntKind) → is_name_found (first_holding v ks) ≡ false
other_first v [] = refl
other_first v (k ∷ ks) = either (nat_le v (greatest k)) (Some (class.Integer v k)) (first_holding v ks) refl (other_first v ks)

other_integer_class : (decimal : Bool) (v : Option ℕ) (after : List ℕ) → is_name_found (integer_class decimal v (suffix_of after)) ≡ false
other_integer_class decimal (Some v) after = elim (suffix_of after) as (λ s. is_name_found (integer_class decimal (Some v) s) ≡ false) [ Some s ↦ other_first v (kinds decimal s) | None ↦ refl ]
other_integer_class decimal None after = refl

other_integer_in : (base : ℕ) (ds after : List ℕ) → is_name_found (integer_in base ds after) ≡ false
other_integer_in base [] after = refl
other_integer_in base (d ∷ ds) after = other_integer_class (base == 10) (number_in base (d ∷ ds)) after

-- the bytes of constants, and digits in base 8 and 16
abbrev is_constant_byte : ℕ → Bool
is_constant_byte b = in_class NameBytes b || b == 46

abbrev is_octal : ℕ → Bool
is_octal b = nat_le 48 b && nat_le b 55

abbrev is_hexadecimal : ℕ → Bool
is_hexadecimal b = is_ascii_digit b || ((nat_le 97 b && nat_le b 102) || (nat_le 65 b && nat_le b 70))

other_integer : (t : List ℕ) → is_name_found (integer_of t) ≡ false
other_integer [] = refl
other_integer (a ∷ bs) =
    either (a == 48) _ _
    (either (starts_x bs) _ _ (other_integer_in 16 (run is_hexadecimal (drop 1 bs)) (behind is_hexadecimal (drop 1 bs))) (other_integer_in 8 (run is_octal (a ∷ bs)) (behind is_octal (a ∷ bs))))
    (other_integer_in 10 (run (in_class Digit) (a ∷ bs)) (behind (in_class Digit) (a ∷ bs)))

other_constant : (o : Option Class) (floating : Bool) (len : ℕ) → is_name_found o ≡ false → reads_name (of_length (class_or_fault o floating) len) ≡ false
other_constant (Some c) floating len h = h
other_constant None true len h = refl
other_constant None false len h = refl

other_number : (t : List ℕ) → reads_name (number_of t) ≡ false
other_number t = other_constant (integer_of t) (is_floating t) (length t) (other_integer t)

-- ---- characters, texts and signs

other_numeric : (value len all : ℕ) → reads_name (one_character (numeric value len) all) ≡ false
other_numeric value len all = by (nat_le value 255) refl
  where
    by : (t : Bool) → nat_le value 255 ≡ t → reads_name (one_character (numeric value len) all) ≡ false
    by true e = rw e refl
    by false e = rw e refl

other_hexadecimal : (digits : List ℕ) (all : ℕ) → reads_name (one_character (hexadecimal digits) all) ≡ false
other_hexadecimal [] all = refl
other_hexadecimal (d ∷ ds) all = other_numeric (value_behind 16 0 (d ∷ ds)) (2 + length (d ∷ ds)) all

other_simple : (o : Option ℕ) (all : ℕ) → reads_name (one_character (simple_or_fault o) all) ≡ false
other_simple (Some v) all = refl
other_simple None all = refl

other_escape : (bytes : List ℕ) (all : ℕ) → reads_name (one_character (escape bytes) all) ≡ false
other_escape [] all = refl
other_escape (b ∷ bs) all = at_feed (b == 10) refl
  where
    at_x : (t : Bool) → (b == 10) ≡ false → is_octal b ≡ false → (b == 120) ≡ t → reads_name (one_character (escape (b ∷ bs)) all) ≡ false
    at_x true f o e = rw (f, o, e) (other_hexadecimal (run is_hexadecimal bs) all)
    at_x false f o e = rw (f, o, e) (other_simple (simple_escape b) all)

    at_octal : (t : Bool) → (b == 10) ≡ false → is_octal b ≡ t → reads_name (one_character (escape (b ∷ bs)) all) ≡ false
    at_octal true f e = rw (f, e) (other_numeric _ _ all)
    at_octal false f e = at_x (b == 120) f e refl

    at_feed : (t : Bool) → (b == 10) ≡ t → reads_name (one_character (escape (b ∷ bs)) all) ≡ false
    at_feed true e = rw e refl
    at_feed false e = at_octal (is_octal b) e refl

other_one : (bytes : List ℕ) (all : ℕ) → reads_name (one_character (quoted 39 bytes) all) ≡ false
other_one [] all = refl
other_one (b ∷ bs) all = at_quote (b == 39) refl
  where
    at_backslash : (t : Bool) → (b == 39) ≡ false → (b == 10) ≡ false → (b == 92) ≡ t → reads_name (one_character (quoted 39 (b ∷ bs)) all) ≡ false
    at_backslash true q f e = rw (q, f, e) (other_escape bs all)
    at_backslash false q f e = rw (q, f, e) refl

    at_feed : (t : Bool) → (b == 39) ≡ false → (b == 10) ≡ t → reads_name (one_character (quoted 39 (b ∷ bs)) all) ≡ false
    at_feed true q e = rw (q, e) refl
    at_feed false q e = at_backslash (b == 92) q e refl

    at_quote : (t : Bool) → (b == 39) ≡ t → reads_name (one_character (quoted 39 (b ∷ bs)) all) ≡ false
    at_quote true e = rw e refl
    at_quote false e = at_feed (b == 10) e refl

either_reading : (b : Bool) (r s : Reading) → reads_name r ≡ false → reads_name s ≡ false → reads_name (if b then r else s) ≡ false
either_reading true r s h k = h
either_reading false r s h k = k

other_character : (bytes : List ℕ) (x : Result (ℕ × ℕ) LexFaultKind) → reads_name (character_of bytes x) ≡ false
other_character bytes (Ok x) = either_reading (x.0 == 1) _ _ (other_one bytes x.1) refl
other_character bytes (Err kind) = refl

other_text : (x : Result (ℕ × ℕ) LexFaultKind) → reads_name (text_of x) ≡ false
other_text (Ok x) = refl
other_text (Err kind) = refl

other_sign : (o : Option (ℕ × ℕ)) → reads_name (sign_or_fault o) ≡ false
other_sign None = refl
other_sign (Some x) = refl

-- ---- words

both : (a b : Bool) → a ≡ true → b ≡ true → (a && b) ≡ true
both true b h k = k
both false b h k = h

abbrev word : List ℕ → List ℕ
word bytes = run (in_class NameBytes) bytes

run_front : (bytes : List ℕ) → take (length (word bytes)) bytes ≡ word bytes
run_front [] = refl
run_front (b ∷ bs) = by (in_class NameBytes b) (run_front bs)
  where
    by : (t : Bool) → take (length (word bs)) bs ≡ word bs → take (length (if t then b ∷ word bs else [])) (b ∷ bs) ≡ (if t then b ∷ word bs else [])
    by true h = ap (λ z. b ∷ z) h
    by false h = refl

run_bytes : (bytes : List ℕ) → are_name_bytes (word bytes) ≡ true
run_bytes [] = refl
run_bytes (b ∷ bs) = by (in_class NameBytes b) refl (run_bytes bs)
  where
    by : (t : Bool) → in_class NameBytes b ≡ t → are_name_bytes (word bs) ≡ true → are_name_bytes (if t then b ∷ word bs else []) ≡ true
    by true e h = both (is_name_byte b) (are_name_bytes (word bs)) e h
    by false e h = refl

word_named : (b : ℕ) (bs : List ℕ) → in_class NameBytes b ≡ true → IsName (word (b ∷ bs))
word_named b bs h = subst (λ t. IsName (if t then b ∷ word bs else [])) (sym h) (both (is_name_byte b) (are_name_bytes (word bs)) h (run_bytes bs))

word_class : (bytes w : List ℕ) (o : Option ℕ) → IsName w → take (length w) bytes ≡ w → IsNamedAs (class_of_word o) bytes (length w)
word_class bytes w (Some k) h e = tt
word_class bytes w None h e = subst IsName (sym e) h

-- ---- each token of a source

-- of which class it is, is told by the first bytes
named_reading : (bytes : List ℕ) (r : Reading) → Reads bytes r → IsNamedReading bytes r
named_reading [] r h = subst (IsNamedReading []) (sym h) tt
named_reading (b ∷ bs) r h = at_constant (starts_constant b bs) refl h
  where
    other : (s : Reading) → reads_name s ≡ false → r ≡ s → IsNamedReading (b ∷ bs) r
    other s h e = other_reading (b ∷ bs) r (ap reads_name e ∙ h)

    at_comment : (t : Bool) → starts_constant b bs ≡ false → starts_wide b bs ≡ false → in_class NameBytes b ≡ false → (b == 39) ≡ false → (b == 34) ≡ false → starts_comment b bs ≡ t → Reads (b ∷ bs) r → IsNamedReading (b ∷ bs) r
    at_comment true a w n c q e = rw (a, w, n, c, q, e) (λ h. other _ refl h)
    at_comment false a w n c q e = rw (a, w, n, c, q, e) (λ h. other _ (other_sign (longest_sign (b ∷ bs))) h)

    at_text : (t : Bool) → starts_constant b bs ≡ false → starts_wide b bs ≡ false → in_class NameBytes b ≡ false → (b == 39) ≡ false → (b == 34) ≡ t → Reads (b ∷ bs) r → IsNamedReading (b ∷ bs) r
    at_text true a w n c e = rw (a, w, n, c, e) (λ h. other _ (other_text h.0) h.2)
    at_text false a w n c e = at_comment (starts_comment b bs) a w n c e refl

    at_character : (t : Bool) → starts_constant b bs ≡ false → starts_wide b bs ≡ false → in_class NameBytes b ≡ false → (b == 39) ≡ t → Reads (b ∷ bs) r → IsNamedReading (b ∷ bs) r
    at_character true a w n e = rw (a, w, n, e) (λ h. other _ (other_character bs h.0) h.2)
    at_character false a w n e = at_text (b == 34) a w n e refl

    at_word : (t : Bool) → starts_constant b bs ≡ false → starts_wide b bs ≡ false → in_class NameBytes b ≡ t → Reads (b ∷ bs) r → IsNamedReading (b ∷ bs) r
    at_word true a w e =
        rw (a, w, e)
        (λ h. subst (IsNamedReading (b ∷ bs)) (sym h)
        (word_class (b ∷ bs) (word (b ∷ bs)) (keyword_of (word (b ∷ bs))) (word_named b bs e) (run_front (b ∷ bs))))
    at_word false a w e = at_character (b == 39) a w e refl

    at_wide : (t : Bool) → starts_constant b bs ≡ false → starts_wide b bs ≡ t → Reads (b ∷ bs) r → IsNamedReading (b ∷ bs) r
    at_wide true a e = rw (a, e) (λ h. other _ refl h)
    at_wide false a e = at_word (in_class NameBytes b) a e refl

    at_constant : (t : Bool) → starts_constant b bs ≡ t → Reads (b ∷ bs) r → IsNamedReading (b ∷ bs) r
    at_constant true e = rw e (λ h. other (number_of (run is_constant_byte (b ∷ bs))) (other_number (run is_constant_byte (b ∷ bs))) h)
    at_constant false e = at_wide (starts_wide b bs) e refl

abbrev token_at : Class → Place → ℕ → Token
token_at c p len = record { class = c; start = p.offset; end = p.offset + len; line = p.line }

behind_start : (a n : ℕ) → a + n - a ≡ n
behind_start a n = omega arith

named_lexeme : (c : Class) (source : List ℕ) (p : Place) (len : ℕ) (l : Lexeme) → IsNamedAs c (drop p.offset source) len → IsLexeme c source (token_at c p len) l → IsNamed l
named_lexeme class.Name source p len l g e = subst IsNamed (sym (e ∙ ap (λ n. Name (take n (drop p.offset source))) (behind_start p.offset len))) g
named_lexeme (class.Keyword k) source p len l g e = subst IsNamed (sym e) tt
named_lexeme (class.Integer v kind) source p len l g e = subst IsNamed (sym e) tt
named_lexeme (class.Character v) source p len l g e = subst IsNamed (sym e) tt
named_lexeme class.Text source p len l g (bs, vs, e) = subst IsNamed (sym e) tt
named_lexeme (class.Sign k) source p len l g e = subst IsNamed (sym e) tt

named_token : (source : List ℕ) (p : Place) (r : Reading) (t : Token) (l : Lexeme) → IsNamedReading (drop p.offset source) r → ◌≡◌ {A = Result (Option Token) LexFault} (Ok (Some t)) (answer_at p r) → IsLexeme t.class source t l → IsNamed l
named_token source p (Ok (Some x)) t l g e h =
    let f : t ≡ token_at x.0 p x.1 = cc in
    named_lexeme x.0 source p x.1 l g (subst (λ (z : Token). IsLexeme z.class source z l) f h)
named_token source p (Ok None) t l g e h = absurd cc
named_token source p (Err kind) t l g e h = absurd cc

pub lexemes_named : (source : List ℕ) (p : Place) (ts : List Token) (ps : List Placed) (e : Option LexFault) → AreTokens source p ts e → AreLexemes source ts ps → AreNamed (lexemes ps)
lexemes_named source p [] [] e c a = tt
lexemes_named source p [] (l ∷ ps) e c a = absurd a
lexemes_named source p (t ∷ ts) [] e c a = absurd a
lexemes_named source p (t ∷ ts) (l ∷ ps) e (q, c, more) a =
    let bytes = drop c.here.offset source in
    (named_token source c.here c.reading t l.lexeme (named_reading bytes c.reading c.reads) c.answers a.0, lexemes_named source q ts ps e more a.2)
