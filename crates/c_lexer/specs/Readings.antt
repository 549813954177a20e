-- The token at the front of bytes, each the longest that stands there: its class and its length; or the fault.
-- Source: C89 3.1.
use Rattle.std.specs.Prelude.{◌≡◌, ◌≤◌, ◌+◌, ◌==◌, ℕ, List, length, drop, Option, Some, None, Result, Ok, Err, if◌then◌else◌}
use Rattle.std.specs.Int.{cast_signed, w8}
use Rattle.lcc_text.specs.declared.class.Class.TheVariants.{Name as NameBytes}
use Rattle.lcc_text.specs.Classes.{in_class}
use Rattle.c_ast.specs.declared.class.Class.{Class}
use Rattle.c_ast.specs.declared.class.Class.TheVariants.{Name, Keyword, Character, Text, Sign}
use Rattle.c_ast.specs.Keywords.{keyword_of}
use Rattle.c_lexer.specs.declared.class.LexClass.TheVariants.{Constant as ConstantBytes}
use Rattle.c_lexer.specs.declared.lex_fault.LexFaultKind.{LexFaultKind}
use Rattle.c_lexer.specs.declared.lex_fault.LexFaultKind.TheVariants.{BadByte, BadConstant, OpenComment, WideConstant}
use Rattle.c_lexer.specs.declared.quoted.Quoted.{Quoted}
use Rattle.c_lexer.specs.declared.quoted.Quoted.TheVariants.{Close, Character as Written, Fault}
use Rattle.c_lexer.specs.declared.start.Start.{Start}
use Rattle.c_lexer.specs.declared.start.Start.TheVariants as start
use Rattle.c_lexer.specs.Classes.{in_lex}
use Rattle.c_lexer.specs.Runs.{run}
use Rattle.c_lexer.specs.Constants.{constant_of}
use Rattle.c_lexer.specs.Quoted.{quoted}
use Rattle.c_lexer.specs.Characters.{Characters}
use Rattle.c_lexer.specs.LongestSigns.{longest_sign}
use Rattle.c_lexer.specs.Starts.{start_of}

-- a class and a length, nothing at the end, or a fault
abbrev pub Reading : Type 0
Reading = Result (Option (Class × ℕ)) LexFaultKind

abbrev pub class_of_word : Option ℕ → Class
class_of_word (Some number) = Keyword number
class_of_word None = Name

abbrev pub word_of : List ℕ → Reading
word_of word = Ok (Some (class_of_word (keyword_of word), length word))

abbrev pub of_length : Result Class LexFaultKind → ℕ → Reading
of_length (Ok class) len = Ok (Some (class, len))
of_length (Err kind) len = Err kind

abbrev pub number_of : List ℕ → Reading
number_of text = of_length (constant_of text) (length text)

-- the value of one character is that of a signed char
abbrev pub one_character : Quoted → ℕ → Reading
one_character (Written value len) all = Ok (Some (Character (cast_signed w8 value), all + 2))
one_character Close all = Err BadConstant
one_character (Fault kind) all = Err BadConstant

abbrev pub character_of : List ℕ → Result (ℕ × ℕ) LexFaultKind → Reading
character_of bytes (Ok x) = if x.0 == 1 then one_character (quoted 39 bytes) x.1 else Err BadConstant
character_of bytes (Err kind) = Err kind

abbrev pub text_of : Result (ℕ × ℕ) LexFaultKind → Reading
text_of (Ok x) = Ok (Some (Text, x.1 + 2))
text_of (Err kind) = Err kind

abbrev pub sign_or_fault : Option (ℕ × ℕ) → Reading
sign_or_fault (Some x) = Ok (Some (Sign x.0, x.1))
sign_or_fault None = Err BadByte

abbrev pub ReadsFrom : Start → List ℕ → Reading → Type 0
ReadsFrom start.End bytes r = r ≡ Ok None
ReadsFrom start.Constant bytes r = r ≡ number_of (run (in_lex ConstantBytes) bytes)
ReadsFrom start.Wide bytes r = r ≡ Err WideConstant
ReadsFrom start.Word bytes r = r ≡ word_of (run (in_class NameBytes) bytes)
ReadsFrom start.Character bytes r = (x : Result (ℕ × ℕ) LexFaultKind) × Characters 39 (drop 1 bytes) x × (r ≡ character_of (drop 1 bytes) x)
ReadsFrom start.Text bytes r = (x : Result (ℕ × ℕ) LexFaultKind) × Characters 34 (drop 1 bytes) x × (r ≡ text_of x)
ReadsFrom start.Comment bytes r = r ≡ Err OpenComment
ReadsFrom start.Sign bytes r = r ≡ sign_or_fault (longest_sign bytes)

abbrev pub Reads : List ℕ → Reading → Type 0
Reads bytes r = ReadsFrom (start_of bytes) bytes r

-- a token has at least one byte, and no more than there are
abbrev pub IsOfLength : Reading → ℕ → Type 0
IsOfLength (Ok (Some x)) n = (1 ≤ x.1) × (x.1 ≤ n)
IsOfLength (Ok None) n = Unit {0}
IsOfLength (Err kind) n = Unit {0}
