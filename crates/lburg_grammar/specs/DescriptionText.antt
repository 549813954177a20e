-- The text of a description: its lines before the tail, and what they mean.
-- A name that is declared by %term is a terminal, any other a nonterminal. A terminal's arity is that of its uses.
-- Without %start the first rule's left side is the start symbol. An omitted cost is 0, and so is that of a range.
-- Source: Fraser and Hanson, A Retargetable C Compiler, chapter 14.
use Rattle.std.specs.Prelude.{◌≡◌, ℕ, Option, Some, None, List, [], ◌∷◌, map, slice_get}
use Rattle.lcc_text.specs.Decimal.{value_of}
use Rattle.lcc_text.specs.Lines.{lines_of}
use Rattle.lburg_lines.specs.declared.section.Section.TheVariants.{Head}
use Rattle.lburg_lines.specs.NamedTree.{MNamed, Alone, Over, Both}
use Rattle.lburg_lines.specs.Numbers.{number_value}
use Rattle.lburg_lines.specs.Grammar.{MRule, MCost, Omitted, Fixed, Between, MLine, MNumbered}
use Rattle.lburg_lines.specs.Sections.{TokenLine, AreLinesFrom}
use Rattle.lburg_faults.specs.Written.{AreWritten, rules_in, terminals_in, starts_in}
use Rattle.lburg_model.specs.declared.range.Range.{Range}
use Rattle.lburg_model.specs.declared.rule.Rule.{Rule}
use Rattle.lburg_model.specs.declared.terminal.Terminal.{Terminal}
use Rattle.lburg_model.specs.Pattern.{MPattern, PHole, PLeaf, POne, PTwo, pattern_of}
use Rattle.lburg_model.specs.Description.{MDescription, IsDescription, terminal_at}

-- the operator has this name
abbrev pub IsNamed : MDescription → ℕ → List ℕ → Type 0
IsNamed d op name = (t : Terminal) × (terminal_at d op ≡ Some t) × (t.name ≡ name)

abbrev pub PatternMeans : MDescription → MNamed → MPattern → Type 0
PatternMeans d (Alone name) (PHole n) = slice_get d.nonterminals n ≡ Some name
PatternMeans d (Alone name) (PLeaf op) = IsNamed d op name
PatternMeans d (Over name a) (POne op p) = IsNamed d op name × PatternMeans d a p
PatternMeans d (Both name a b) (PTwo op p q) = IsNamed d op name × (PatternMeans d a p × PatternMeans d b q)
PatternMeans d s p = ⊥

-- a rule's cost and range
abbrev pub CostMeans : MCost → ℕ → Option Range → Type 0
CostMeans Omitted cost range = (cost ≡ 0) × (range ≡ None)
CostMeans (Fixed digits) cost range = (cost ≡ value_of digits) × (range ≡ None)
CostMeans (Between low high) cost range = (cost ≡ 0) × (range ≡ Some (record { low = number_value low; high = number_value high }))

pub record RuleMeans (d : MDescription) (s : MRule) (r : Rule) : Type 0 where
  pub left : slice_get d.nonterminals r.left ≡ Some s.left
  pub pattern : PatternMeans d s.tree (pattern_of r.pattern)
  pub template : r.template ≡ s.template
  pub cost : CostMeans s.cost r.cost r.range

abbrev pub RulesMean : MDescription → List MRule → List Rule → Type 0
RulesMean d [] [] = Unit {0}
RulesMean d (s ∷ ss) (r ∷ rs) = RuleMeans d s r × RulesMean d ss rs
RulesMean d ss rs = ⊥

abbrev pub StartMeans : MDescription → List (List ℕ) → Type 0
StartMeans d [] = d.start ≡ 0
StartMeans d (name ∷ []) = slice_get d.nonterminals d.start ≡ Some name
StartMeans d (name ∷ other ∷ names) = ⊥

-- a terminal's name and number
abbrev pub named_number : Terminal → List ℕ × ℕ
named_number t = (t.name, t.number)

abbrev pub declared_number : MNumbered → List ℕ × ℕ
declared_number n = (n.0, value_of n.1)

-- what lines mean
pub record Means (written : List MLine) (d : MDescription) : Type 0 where
  pub terminals : map named_number d.terminals ≡ map declared_number (terminals_in written)
  pub start : StartMeans d (starts_in written)
  pub rules : RulesMean d (rules_in written) d.rules
  pub is : IsDescription d

-- the bytes before the tail are a text of the description
pub record IsText (d : MDescription) (text : List ℕ) : Type 0 where
  pub lines : List TokenLine
  pub are : AreLinesFrom Head (lines_of text) lines
  pub written : List MLine
  pub are_written : AreWritten lines written
  pub means : Means written d
