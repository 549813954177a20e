-- A source's tokens are these lexemes.
use Rattle.std.proofs.Common.{◌≡◌, ◌≤◌, ◌+◌, ℕ, Bool, true, false, if◌then◌else◌, Option, Some, None, Result, Ok, Err, List, [], ◌∷◌, length, drop, refl, sym, ap, ◌∙◌, subst, arith}
use Rattle.std.specs.Prelude.{nat_le, ◌==◌}
use Rattle.std.proofs.lemmas.Grind.{common_steps}
use Rattle.lcc_text.specs.declared.class.Class.TheVariants.{Digit, Name as NameBytes}
use Rattle.lcc_text.specs.Classes.{in_class}
use Rattle.c_ast.specs.declared.class.Class.{Class}
use Rattle.c_ast.specs.declared.class.Class.TheVariants as class
use Rattle.c_ast.specs.declared.class.IntKind.{IntKind}
use Rattle.c_ast.specs.Keywords.{keyword_of}
use Rattle.c_lexer.specs.declared.class.LexClass.TheVariants.{Constant as ConstantBytes, Octal, Hex}
use Rattle.c_lexer.specs.declared.integer.Suffix.{Suffix}
use Rattle.c_lexer.specs.declared.lex_fault.LexFault.{LexFault}
use Rattle.c_lexer.specs.declared.lex_fault.LexFaultKind.{LexFaultKind}
use Rattle.c_lexer.specs.declared.place.Place.{Place}
use Rattle.c_lexer.specs.declared.quoted.Quoted.{Quoted}
use Rattle.c_lexer.specs.declared.quoted.Quoted.TheVariants as written
use Rattle.c_lexer.specs.declared.start.Start.{Start}
use Rattle.c_lexer.specs.declared.start.Start.TheVariants as start
use Rattle.c_lexer.specs.declared.token.Token.{Token}
use Rattle.c_lexer.specs.Classes.{in_lex}
use Rattle.c_lexer.specs.Runs.{run, behind}
use Rattle.c_lexer.specs.Integers.{greatest, kinds, first_holding, integer_class, integer_in, starts_x, integer_of, suffix_of}
use Rattle.c_lexer.specs.Numbers.{number_in}
use Rattle.c_lexer.specs.Constants.{is_floating, class_or_fault, constant_of}
use Rattle.c_lexer.specs.Quoted.{quoted}
use Rattle.c_lexer.specs.Characters.{Characters}
use Rattle.c_lexer.specs.LongestSigns.{longest_sign}
use Rattle.c_lexer.specs.Starts.{start_of}
use Rattle.c_lexer.specs.Readings.{Reading, class_of_word, of_length, one_character, character_of, text_of, sign_or_fault, ReadsFrom, Reads}
use Rattle.c_lexer.specs.Tokens.{answer_at, AreTokens}
use Rattle.c_lexer.specs.Texts
use Rattle.c_lexer.specs.Texts.{TextBytes}
use Rattle.c_lexer.specs.SourceUnits.{IsLexeme, AreLexemes}
use Rattle.c_lexer.specs.PlacedTokens.{lexeme_as, placed}
use Rattle.c_lexer.proofs.Values.{dropped}
use Rattle.c_lexer.proofs.Literals.{literal_values}

-- ---- no constant is a string literal

abbrev NoText : Option Class → Type 0
NoText None = Unit {0}
NoText (Some c) = c ≡ class.Text → ⊥

either : (b : Bool) (x y : Option Class) → NoText x → NoText y → NoText (if b then x else y)
either true x y h k = h
either false x y h k = k

an_integer : (v : ℕ) (k : IntKind) → NoText (Some (class.Integer v k))
an_integer v k = λ e. absurd cc

no_first : (v : ℕ) (ks : List IntKind) → NoText (first_holding v ks)
no_first v [] = tt
no_first v (k ∷ ks) = either (nat_le v (greatest k)) (Some (class.Integer v k)) (first_holding v ks) (an_integer v k) (no_first v ks)

no_class : (decimal : Bool) (v : Option ℕ) (s : Option Suffix) → NoText (integer_class decimal v s)
no_class decimal (Some v) (Some s) = no_first v (kinds decimal s)
no_class decimal (Some v) None = tt
no_class decimal None s = tt

no_integer_in : (base : ℕ) (ds after : List ℕ) → NoText (integer_in base ds after)
no_integer_in base [] after = tt
no_integer_in base (d ∷ ds) after = no_class (base == 10) (number_in base (d ∷ ds)) (suffix_of after)

no_integer : (t : List ℕ) → NoText (integer_of t)
no_integer [] = tt
no_integer (a ∷ bs) = either (a == 48) _ _ (either (starts_x bs) _ _ (no_integer_in 16 (run (in_lex Hex) (drop 1 bs)) (behind (in_lex Hex) (drop 1 bs))) (no_integer_in 8 (run (in_lex Octal) (a ∷ bs)) (behind (in_lex Octal) (a ∷ bs)))) (no_integer_in 10 (run (in_class Digit) (a ∷ bs)) (behind (in_class Digit) (a ∷ bs)))

no_fault : (o : Option Class) (b : Bool) → NoText o → class_or_fault o b ≡ Ok class.Text → ⊥
no_fault (Some c) b h e = h cc
no_fault None true h e = absurd cc
no_fault None false h e = absurd cc

-- ---- a token that is a string literal was read as one

abbrev IsText : Reading → Type 0
IsText (Ok (Some x)) = x.0 ≡ class.Text
IsText (Ok None) = ⊥
IsText (Err kind) = ⊥

text_length : (r : Result Class LexFaultKind) (len : ℕ) → IsText (of_length r len) → r ≡ Ok class.Text
text_length (Ok c) len h = ap (λ (x : Class). Ok x) h
text_length (Err kind) len h = absurd h

no_word : (o : Option ℕ) → class_of_word o ≡ class.Text → ⊥
no_word (Some k) e = absurd cc
no_word None e = absurd cc

no_one : (k : Quoted) (all : ℕ) → IsText (one_character k all) → ⊥
no_one (written.Character v len) all h = absurd cc
no_one written.Close all h = h
no_one (written.Fault kind) all h = h

no_either : (b : Bool) (r s : Reading) → (IsText r → ⊥) → (IsText s → ⊥) → IsText (if b then r else s) → ⊥
no_either true r s h k t = h t
no_either false r s h k t = k t

no_character : (bytes : List ℕ) (x : Result (ℕ × ℕ) LexFaultKind) → IsText (character_of bytes x) → ⊥
no_character bytes (Ok x) h = no_either (x.0 == 1) _ _ (no_one (quoted 39 bytes) x.1) (λ t. t) h
no_character bytes (Err kind) h = h

no_sign : (o : Option (ℕ × ℕ)) → IsText (sign_or_fault o) → ⊥
no_sign (Some x) h = absurd cc
no_sign None h = h

abbrev HasCharacters : List ℕ → Type 0
HasCharacters bytes = (x : ℕ × ℕ) × Characters 34 (drop 1 bytes) (Ok x)

read_text : (bytes : List ℕ) (x : Result (ℕ × ℕ) LexFaultKind) → Characters 34 (drop 1 bytes) x → IsText (text_of x) → HasCharacters bytes
read_text bytes (Ok x) c h = (x, c)
read_text bytes (Err kind) c h = absurd h

text_from : (k : Start) (bytes : List ℕ) (r : Reading) → ReadsFrom k bytes r → IsText r → HasCharacters bytes
text_from start.End bytes r e h = absurd (subst IsText e h)
text_from start.Constant bytes r e h =
    let t = run (in_lex ConstantBytes) bytes in
    absurd (no_fault (integer_of t) (is_floating t) (no_integer t) (text_length (constant_of t) (length t) (subst IsText e h)))
text_from start.Wide bytes r e h = absurd (subst IsText e h)
text_from start.Word bytes r e h = absurd (no_word (keyword_of (run (in_class NameBytes) bytes)) (subst IsText e h))
text_from start.Character bytes r (x, c, e) h = absurd (no_character (drop 1 bytes) x (subst IsText e h))
text_from start.Text bytes r (x, c, e) h = read_text bytes x c (subst IsText e h)
text_from start.Comment bytes r e h = absurd (subst IsText e h)
text_from start.Sign bytes r e h = absurd (no_sign (longest_sign bytes) (subst IsText e h))

-- ---- the lexemes of the tokens

-- what the token of an answer is, at a place
abbrev CutAt : Token → Place → Reading → Type 0
CutAt t p r = ◌≡◌ {A = Result (Option Token) LexFault} (Ok (Some t)) (answer_at p r)

text_start : (t : Token) (p : Place) (r : Reading) → CutAt t p r → t.class ≡ class.Text → IsText r × (t.start ≡ p.offset)
text_start t p (Ok (Some x)) e h =
    let f : t ≡ record { class = x.0; start = p.offset; end = p.offset + x.1; line = p.line } = cc in
    (sym (ap (λ (z : Token). z.class) f) ∙ h, ap (λ (z : Token). z.start) f)
text_start t p (Ok None) e h = absurd cc
text_start t p (Err kind) e h = absurd cc

pub shorter : (n : ℕ) (bytes : List ℕ) → length (drop n bytes) ≤ length bytes
shorter n bytes = grind (arith, common_steps)

text_values : (source : List ℕ) (t : Token) (p : Place) (r : Reading) → Reads (drop p.offset source) r → CutAt t p r → t.class ≡ class.Text → TextBytes source t (Texts.text_of source t)
text_values source t p r reads cut is =
    let s = text_start t p r cut is in
    let (x, c) = text_from (start_of (drop p.offset source)) (drop p.offset source) r reads s.0 in
    let at : drop 1 (drop p.offset source) ≡ drop (t.start + 1) source = sym (dropped source p.offset 1 (p.offset + 1) refl) ∙ ap (λ n. drop (n + 1) source) (sym s.1) in
    literal_values (length source) (drop (t.start + 1) source) x (shorter (t.start + 1) source) (subst (λ (l : List ℕ). Characters 34 l (Ok x)) at c)

lexeme : (c : Class) (source : List ℕ) (t : Token) → (c ≡ class.Text → TextBytes source t (Texts.text_of source t)) → IsLexeme c source t (lexeme_as c source t)
lexeme class.Name source t h = refl
lexeme (class.Keyword k) source t h = refl
lexeme (class.Integer v kind) source t h = refl
lexeme (class.Character v) source t h = refl
lexeme class.Text source t h = (Texts.text_of source t, h refl, refl)
lexeme (class.Sign k) source t h = refl

pub placed_tokens : (source : List ℕ) (p : Place) (ts : List Token) (end' : Option LexFault) → AreTokens source p ts end' → AreLexemes source ts (placed source ts)
placed_tokens source p [] end' h = tt
placed_tokens source p (t ∷ ts) end' (q, c, more) =
    (lexeme t.class source t (λ e. text_values source t c.here c.reading c.reads c.answers e), refl, placed_tokens source q ts end' more)
