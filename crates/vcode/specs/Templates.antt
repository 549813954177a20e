-- Templates: what a rule's template says once its marks are filled in, and which texts and instruction lines the
-- templates of derivations give. Names and labels have texts: each name by its number, and each label of the function.
-- Source: Fraser and Hanson, A Retargetable C Compiler, chapter 13 (templates) and chapter 14.
use Rattle.std.specs.Prelude.{◌≡◌, ℕ, ◌+◌, ◌-◌, ◌<◌, ◌==◌, ◌&&◌, List, [], ◌∷◌, ◌++◌, Bool, true, false, Option, Some, None, ℤ, pos, negsuc, decimal, get_or, slice_get, if◌then◌else◌}
use Rattle.lcc_text.specs.Lines.{lines_of}
use Rattle.lburg_model.specs.Derivation.{MDerivation, Apply}
use Rattle.lburg_model.specs.DerivationOf.{parts_of}
use Rattle.op_forest.specs.declared.sym.Sym.{Sym}
use Rattle.op_forest.specs.declared.sym.Sym.TheVariants as sym
use Rattle.op_forest.specs.Nodes.{Node, head_of}
use Rattle.vcode.specs.Patterns.{Meeting, leaves_at}
use Rattle.vcode.specs.RuleSets.{Row}

-- what the marks of a template stand for: the assigned register's bare name, the root's symbol or constant, the
-- frame's size, and the texts of the pattern's nonterminals from left to right
pub record Fillings : Type 0 where
  pub register : List ℕ
  pub symbol : List ℕ
  pub frame : List ℕ
  pub parts : List (List ℕ)

-- the text of a mark: `%c`, `%a`, `%F`, `%%`, and `%0` to `%9`
abbrev pub mark_text : Fillings → ℕ → List ℕ
mark_text x mark =
    if mark == 99 then x.register
    else (if mark == 97 then x.symbol
    else (if mark == 70 then x.frame
    else (if mark == 37 then 37 ∷ []
    else get_or x.parts (mark - 48) [])))

-- a line end, a tab or a backslash
abbrev pub escape_text : ℕ → List ℕ
escape_text mark =
    if mark == 110 then 10 ∷ []
    else (if mark == 116 then 9 ∷ []
    else mark ∷ [])

-- the byte with what it does to the byte behind it, where it begins a mark or an escape
abbrev pub expanded : Fillings → List ℕ → List ℕ
expanded x [] = []
expanded x (b ∷ []) = b ∷ []
expanded x (b ∷ c ∷ rest) =
    if b == 37 then mark_text x c ++ expanded x rest
    else (if b == 92 then escape_text c ++ expanded x rest
    else b ∷ expanded x (c ∷ rest))

-- whether the template ends in a line end: then it is one or more instructions, and any other is a part of one
abbrev pub is_instruction : List ℕ → Bool
is_instruction [] = false
is_instruction (b ∷ []) = false
is_instruction (b ∷ c ∷ []) = (b == 92) && (c == 110)
is_instruction (b ∷ c ∷ d ∷ rest) = is_instruction (c ∷ d ∷ rest)

abbrev pub signed_decimal : ℤ → List ℕ
signed_decimal (pos n) = decimal n
signed_decimal (negsuc n) = 45 ∷ decimal (n + 1)

-- a name, and what is added to it
abbrev pub moved_name : List ℕ → ℤ → List ℕ
moved_name name (pos n) = if n == 0 then name else name ++ 43 ∷ decimal n
moved_name name (negsuc n) = name ++ 45 ∷ decimal (n + 1)

abbrev pub constant_text : Option ℤ → List ℕ
constant_text None = []
constant_text (Some z) = signed_decimal z

-- a node's symbol or constant
abbrev pub symbol_text : List (List ℕ) → (ℕ → List ℕ) → Sym → Option ℤ → List ℕ
symbol_text names labels sym.Nothing value = constant_text value
symbol_text names labels (sym.Global name offset) value = moved_name (get_or names name []) offset
symbol_text names labels (sym.Label l) value = labels l
symbol_text names labels (sym.Block size align) value = decimal size

abbrev pub fillings : List (List ℕ) → (ℕ → List ℕ) → List ℕ → Node → List ℕ → List (List ℕ) → Fillings
fillings names labels frame t register parts = record {
  register = register;
  symbol = symbol_text names labels (head_of t).sym (head_of t).value;
  frame = frame;
  parts = parts;
}

-- the rule of this number, from 1
abbrev pub RowIs : List Row → ℕ → Row → Type 0
RowIs rows number row = (place : ℕ) × (number ≡ place + 1) × (slice_get rows place ≡ Some row)

-- The text that a derivation at a node hands up, and the instruction lines that it gives, without their line feeds, with
-- any registers of the machine in the places of assigned registers and of register operands. A part's lines stand before
-- the rule's, from left to right; a rule's are those of its template.
mutual
  pub data Writes (rows : List Row) (names : List (List ℕ)) (labels : ℕ → List ℕ) (frame : List ℕ) : MDerivation → Node → List ℕ → List (List ℕ) → Type 0 where
    APart : {number : ℕ} {row : Row} {xs : List MDerivation} {t : Node} {meetings : List Meeting} {texts lines : List (List ℕ)} → RowIs rows number row → leaves_at row.pattern t ≡ Some meetings → WritesAll rows names labels frame xs meetings texts lines → is_instruction row.template ≡ false → Writes rows names labels frame (Apply number (parts_of xs)) t (expanded (fillings names labels frame t [] texts) row.template) lines
    ALine : {number : ℕ} {row : Row} {xs : List MDerivation} {t : Node} {meetings : List Meeting} {texts lines : List (List ℕ)} (register operand : ℕ) → RowIs rows number row → leaves_at row.pattern t ≡ Some meetings → WritesAll rows names labels frame xs meetings texts lines → is_instruction row.template ≡ true → register < 64 → operand < 64 → Writes rows names labels frame (Apply number (parts_of xs)) t (decimal operand) (lines ++ lines_of (expanded (fillings names labels frame t (decimal register) texts) row.template))

  pub data WritesAll (rows : List Row) (names : List (List ℕ)) (labels : ℕ → List ℕ) (frame : List ℕ) : List MDerivation → List Meeting → List (List ℕ) → List (List ℕ) → Type 0 where
    NoText : WritesAll rows names labels frame [] [] [] []
    OneText : {xs : List MDerivation} {meetings : List Meeting} {texts lines : List (List ℕ)} {x : MDerivation} {text : List ℕ} {more : List (List ℕ)} (meeting : Meeting) → WritesAll rows names labels frame xs meetings texts lines → Writes rows names labels frame x meeting.1 text more → WritesAll rows names labels frame (xs ++ x ∷ []) (meetings ++ meeting ∷ []) (texts ++ text ∷ []) (lines ++ more)

-- the instruction lines of the derivations of roots, in order
pub data WritesRoots (rows : List Row) (names : List (List ℕ)) (labels : ℕ → List ℕ) (frame : List ℕ) : List MDerivation → List Node → List (List ℕ) → Type 0 where
  NoLine : WritesRoots rows names labels frame [] [] []
  OneLine : {xs : List MDerivation} {ts : List Node} {lines : List (List ℕ)} {x : MDerivation} {t : Node} {text : List ℕ} {more : List (List ℕ)} → WritesRoots rows names labels frame xs ts lines → Writes rows names labels frame x t text more → WritesRoots rows names labels frame (xs ++ x ∷ []) (ts ++ t ∷ []) (lines ++ more)
