-- The lines of a description, as tokens:
--   declaration = "%start" name | "%term" {name "=" digits}
--   rule        = name ":" tree template [cost]
--   cost        = digits | "range" "(" "a" "," number "," number ")"
use Rattle.std.specs.Prelude.{◌≡◌, ℕ, List, [], ◌∷◌, map, codes}
use Rattle.lburg_lines.specs.declared.token.Sign.TheVariants.{Open, Close, Comma, Colon, Equals}
use Rattle.lburg_lines.specs.declared.token.Border.TheVariants.{Divider, PrologueStart, PrologueEnd}
use Rattle.lburg_lines.specs.declared.rule_line.RuleLine.{RuleLine}
use Rattle.lburg_lines.specs.declared.rule_line.CostWritten.{CostWritten}
use Rattle.lburg_lines.specs.declared.rule_line.CostWritten.TheVariants as cost
use Rattle.lburg_lines.specs.declared.declaration.Declaration.{Declaration}
use Rattle.lburg_lines.specs.declared.declaration.Declaration.TheVariants as declaration
use Rattle.lburg_lines.specs.declared.declaration.NamedNumber.{NamedNumber}
use Rattle.lburg_lines.specs.declared.line.Line.{Line}
use Rattle.lburg_lines.specs.declared.line.Line.TheVariants as line
use Rattle.lburg_lines.specs.declared.section.Section.{Section}
use Rattle.lburg_lines.specs.declared.section.Section.TheVariants.{Head, Prologue, Declarations, Rules}
use Rattle.lburg_lines.specs.Tokens.{Tok, Word, Number, Template, Keyword, Mark, Bound}
use Rattle.lburg_lines.specs.Numbers.{MNumber, IsNumber, number_token, written}
use Rattle.lburg_lines.specs.NamedTree.{MNamed, named_of, tree_then}

-- a cost as it is written
pub data MCost : Type 0 where
  Omitted : MCost
  Fixed : (digits : List ℕ) → MCost
  Between : (low high : MNumber) → MCost

abbrev pub cost_of : CostWritten → MCost
cost_of cost.Omitted = Omitted
cost_of (cost.Fixed digits) = Fixed digits.now
cost_of (cost.Range low high) = Between (written low) (written high)

abbrev pub cost_tokens : MCost → List Tok
cost_tokens Omitted = []
cost_tokens (Fixed digits) = Number digits ∷ []
cost_tokens (Between low high) =
    Word (codes "range") ∷ (Mark Open ∷ (Word (codes "a") ∷ (Mark Comma ∷ (number_token low ∷ (Mark Comma ∷ (number_token high ∷ (Mark Close ∷ [])))))))

-- the ends of a range are numbers from -2147483648 to 4294967295
abbrev pub IsCost : MCost → Type 0
IsCost Omitted = Unit {0}
IsCost (Fixed digits) = Unit {0}
IsCost (Between low high) = IsNumber low × IsNumber high

pub record MRule : Type 0 where
  pub left : List ℕ
  pub tree : MNamed
  pub template : List ℕ
  pub cost : MCost

abbrev pub rule_of : RuleLine → MRule
rule_of r = record { left = r.left.now; tree = named_of r.tree; template = r.template.now; cost = cost_of r.cost }

abbrev pub rule_tokens : MRule → List Tok
rule_tokens r = Word r.left ∷ (Mark Colon ∷ tree_then r.tree (Template r.template ∷ cost_tokens r.cost))

-- a name with its number's digits
abbrev pub MNumbered : Type 0
MNumbered = List ℕ × List ℕ

pub data MDeclaration : Type 0 where
  Starts : (name : List ℕ) → MDeclaration
  Declares : (terminals : List MNumbered) → MDeclaration

abbrev pub numbered_of : NamedNumber → MNumbered
numbered_of n = (n.name.now, n.digits.now)

abbrev pub declaration_of : Declaration → MDeclaration
declaration_of (declaration.Start name) = Starts name.now
declaration_of (declaration.Terminals all) = Declares (map numbered_of all.items)

abbrev pub terminal_tokens : List MNumbered → List Tok
terminal_tokens [] = []
terminal_tokens (t ∷ ts) = Word t.0 ∷ (Mark Equals ∷ (Number t.1 ∷ terminal_tokens ts))

abbrev pub declaration_tokens : MDeclaration → List Tok
declaration_tokens (Starts name) = Keyword (codes "start") ∷ (Word name ∷ [])
declaration_tokens (Declares ts) = Keyword (codes "term") ∷ terminal_tokens ts

-- ---- lines

pub data MLine : Type 0 where
  Blank : MLine
  Divides : MLine
  Opens : MLine
  Closes : MLine
  Declared : (declaration : MDeclaration) → MLine
  Ruled : (rule : MRule) → MLine

abbrev pub line_of : Line → MLine
line_of line.Blank = Blank
line_of line.Divider = Divides
line_of line.PrologueStart = Opens
line_of line.PrologueEnd = Closes
line_of (line.Declaration d) = Declared (declaration_of d)
line_of (line.Rule r) = Ruled (rule_of r)

abbrev pub line_tokens : MLine → List Tok
line_tokens Blank = []
line_tokens Divides = Bound Divider ∷ []
line_tokens Opens = Bound PrologueStart ∷ []
line_tokens Closes = Bound PrologueEnd ∷ []
line_tokens (Declared d) = declaration_tokens d
line_tokens (Ruled r) = rule_tokens r

-- the line may stand in the section
abbrev pub MayStand : Section → MLine → Type 0
MayStand section Blank = Unit {0}
MayStand Head Divides = Unit {0}
MayStand Head Opens = Unit {0}
MayStand Head (Declared d) = Unit {0}
MayStand Prologue Closes = Unit {0}
MayStand Declarations Divides = Unit {0}
MayStand Declarations (Declared d) = Unit {0}
MayStand Rules Divides = Unit {0}
MayStand Rules (Ruled r) = IsCost r.cost
MayStand section line = ⊥

-- the tokens are those of this line of the section
abbrev pub IsLine : Section → List Tok → MLine → Type 0
IsLine section tokens line = MayStand section line × (tokens ≡ line_tokens line)

-- the tokens are those of a line of the section
abbrev pub AreLineOf : Section → List Tok → Type 0
AreLineOf section tokens = (line : MLine) × IsLine section tokens line
