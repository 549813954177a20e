-- What a tree is spelled by: its tokens, and between them what comes into force and what has to be next.
use Rattle.std.specs.Prelude.{◌≡◌, ℕ, Bool, true, false, not, ◌&&◌, ◌||◌, ◌==◌, nat_eq, if◌then◌else◌, Option, Some, None, List, [], ◌∷◌}
use Rattle.std.specs.List.{list_any}
use Rattle.c_ast.specs.Lexemes.{Lexeme, Name, Keyword, Integer, Character, Text, Sign, Placed}
use Rattle.c_ast.specs.InForce.{InForce, is_typedef, put, opened, closed, closed_kept, reopened, forgotten}
use Rattle.c_ast.specs.Signs.{open_bracket, open_parenthesis, close_parenthesis, star_sign, colon_sign}
use Rattle.c_ast.specs.Keywords.{auto_word, char_word, const_word, double_word, enum_word, extern_word, float_word, int_word, long_word, register_word, short_word, signed_word, static_word, struct_word, typedef_word, union_word, unsigned_word, void_word, volatile_word}

-- a question about what is next
pub data Test : Type 0 where
  IsSpecifier : (typed : Bool) → Test  -- one more specifier, where a type specifier stood before it or none
  IsDeclaration : Test  -- a declaration, and no label
  IsLabel : Test  -- a name before `:`
  IsSized : Test  -- a type's name in parentheses
  IsDeclarator : Test  -- a declarator
  IsCore : Test  -- a declared name, or a declarator in parentheses
  IsSuffix : Test  -- `[` or `(`
  IsQualifier : Test
  IsText : Test
  IsSign : (number : ℕ) → Test
  IsKeyword : (number : ℕ) → Test

pub data Mark : Type 0 where
  Tok : (l : Lexeme) → Mark  -- this token
  Plain : (name : List ℕ) → Mark  -- this name, which is no typedef name
  Typed : (name : List ℕ) → Mark  -- this name, which is a typedef name
  Here : (line : ℕ) → Mark  -- the next token stands on this line
  Ask : (test : Test) (answer : Bool) → Mark  -- what is next is so, or isn't
  Put : (name : List ℕ) (typedef : Bool) → Mark  -- the name is in force from here on
  Open : Mark  -- a scope begins
  Close : Mark  -- it ends
  Keep : Mark  -- it ends, and its names are kept
  Reopen : Mark  -- a scope begins with the names that were kept
  Forget : Mark  -- no names are kept

-- auto char const double enum extern float int long register short signed static struct typedef union unsigned void volatile
abbrev pub specifier_words : List ℕ
specifier_words = auto_word ∷ char_word ∷ const_word ∷ double_word ∷ enum_word ∷ extern_word ∷ float_word ∷ int_word ∷ long_word ∷ register_word ∷ short_word ∷ signed_word ∷ static_word ∷ struct_word ∷ typedef_word ∷ union_word ∷ unsigned_word ∷ void_word ∷ volatile_word ∷ []

-- the token is one more specifier: a typedef name is one where no type specifier stood before it
abbrev pub is_specifier : InForce → Bool → Lexeme → Bool
is_specifier names typed (Name n) = if typed then false else is_typedef names n
is_specifier names typed (Keyword k) = list_any (nat_eq k) specifier_words
is_specifier names typed (Integer v k) = false
is_specifier names typed (Character v) = false
is_specifier names typed (Text b) = false
is_specifier names typed (Sign k) = false

abbrev pub is_name : Lexeme → Bool
is_name (Name n) = true
is_name (Keyword k) = false
is_name (Integer v k) = false
is_name (Character v) = false
is_name (Text b) = false
is_name (Sign k) = false

abbrev pub is_text : Lexeme → Bool
is_text (Text b) = true
is_text (Name n) = false
is_text (Keyword k) = false
is_text (Integer v k) = false
is_text (Character v) = false
is_text (Sign k) = false

abbrev pub is_sign : ℕ → Lexeme → Bool
is_sign number (Sign k) = k == number
is_sign number (Name n) = false
is_sign number (Keyword k) = false
is_sign number (Integer v k) = false
is_sign number (Character v) = false
is_sign number (Text b) = false

abbrev pub is_keyword : ℕ → Lexeme → Bool
is_keyword number (Keyword k) = k == number
is_keyword number (Name n) = false
is_keyword number (Integer v k) = false
is_keyword number (Character v) = false
is_keyword number (Text b) = false
is_keyword number (Sign k) = false

abbrev pub first_is : (Lexeme → Bool) → List Lexeme → Bool
first_is is [] = false
first_is is (l ∷ ls) = is l

abbrev pub first_two : (Lexeme → Bool) → (Lexeme → Bool) → List Lexeme → Bool
first_two is then_is [] = false
first_two is then_is (l ∷ ls) = is l && first_is then_is ls

-- with these names in force, what is next is so
abbrev pub holds : Test → InForce → List Lexeme → Bool
holds (IsSpecifier typed) names ls = first_is (is_specifier names typed) ls
holds IsDeclaration names ls = first_is (is_specifier names false) ls && not (first_two is_name (is_sign colon_sign) ls)
holds IsLabel names ls = first_two is_name (is_sign colon_sign) ls
holds IsSized names ls = first_two (is_sign open_parenthesis) (is_specifier names false) ls
holds IsDeclarator names ls = first_is (λ l. is_name l || (is_sign star_sign l || (is_sign open_parenthesis l || is_sign open_bracket l))) ls
holds IsCore names ls = first_is is_name ls || (first_is (is_sign open_parenthesis) ls && not (first_two (is_sign open_parenthesis) (λ l. is_sign close_parenthesis l || is_specifier names false l) ls))
holds IsSuffix names ls = first_is (λ l. is_sign open_bracket l || is_sign open_parenthesis l) ls
holds IsQualifier names ls = first_is (λ l. is_keyword const_word l || is_keyword volatile_word l) ls
holds IsText names ls = first_is is_text ls
holds (IsSign k) names ls = first_is (is_sign k) ls
holds (IsKeyword k) names ls = first_is (is_keyword k) ls

abbrev pub lexemes : List Placed → List Lexeme
lexemes [] = []
lexemes (t ∷ ts) = t.lexeme ∷ lexemes ts

abbrev pub next_line : List Placed → Option ℕ
next_line [] = None
next_line (t ∷ ts) = Some t.line

-- with these names in force the tokens are those of the marks
abbrev pub Runs : List Mark → InForce → List Placed → Type 0
Runs [] names ts = ts ≡ []
Runs (Tok l ∷ ms) names ts = (line : ℕ) × (rest : List Placed) × (ts ≡ record { lexeme = l; line = line } ∷ rest) × Runs ms names rest
Runs (Plain n ∷ ms) names ts = (is_typedef names n ≡ false) × (line : ℕ) × (rest : List Placed) × (ts ≡ record { lexeme = Name n; line = line } ∷ rest) × Runs ms names rest
Runs (Typed n ∷ ms) names ts = (is_typedef names n ≡ true) × (line : ℕ) × (rest : List Placed) × (ts ≡ record { lexeme = Name n; line = line } ∷ rest) × Runs ms names rest
Runs (Here line ∷ ms) names ts = (next_line ts ≡ Some line) × Runs ms names ts
Runs (Ask test answer ∷ ms) names ts = (holds test names (lexemes ts) ≡ answer) × Runs ms names ts
Runs (Put n typedef ∷ ms) names ts = Runs ms (put names n typedef) ts
Runs (Open ∷ ms) names ts = Runs ms (opened names) ts
Runs (Close ∷ ms) names ts = Runs ms (closed names) ts
Runs (Keep ∷ ms) names ts = Runs ms (closed_kept names) ts
Runs (Reopen ∷ ms) names ts = Runs ms (reopened names) ts
Runs (Forget ∷ ms) names ts = Runs ms (forgotten names) ts

-- the tokens among the marks
abbrev pub tokens_of : List Mark → List Lexeme
tokens_of [] = []
tokens_of (Tok l ∷ ms) = l ∷ tokens_of ms
tokens_of (Plain n ∷ ms) = Name n ∷ tokens_of ms
tokens_of (Typed n ∷ ms) = Name n ∷ tokens_of ms
tokens_of (Here line ∷ ms) = tokens_of ms
tokens_of (Ask test answer ∷ ms) = tokens_of ms
tokens_of (Put n typedef ∷ ms) = tokens_of ms
tokens_of (Open ∷ ms) = tokens_of ms
tokens_of (Close ∷ ms) = tokens_of ms
tokens_of (Keep ∷ ms) = tokens_of ms
tokens_of (Reopen ∷ ms) = tokens_of ms
tokens_of (Forget ∷ ms) = tokens_of ms

-- the token that is next
abbrev pub next : List Mark → Option Lexeme
next [] = None
next (Tok l ∷ ms) = Some l
next (Plain n ∷ ms) = Some (Name n)
next (Typed n ∷ ms) = Some (Name n)
next (Here line ∷ ms) = next ms
next (Ask test answer ∷ ms) = next ms
next (Put n typedef ∷ ms) = next ms
next (Open ∷ ms) = next ms
next (Close ∷ ms) = next ms
next (Keep ∷ ms) = next ms
next (Reopen ∷ ms) = next ms
next (Forget ∷ ms) = next ms
