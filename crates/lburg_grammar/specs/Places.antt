-- Rules with places for names, under the names of terminals and of nonterminals.
use Rattle.std.specs.Prelude.{◌≡◌, ◌≤◌, ◌+◌, ◌⊎◌, ℕ, Option, Some, None, List, [], ◌∷◌, length, option_map, slice_get}
use Rattle.lcc_text.specs.Decimal.{value_of}
use Rattle.lcc_text.specs.Names.{place_of}
use Rattle.lburg_lines.specs.NamedTree.{MNamed, Alone, Over, Both}
use Rattle.lburg_lines.specs.Grammar.{MRule, MCost, Omitted, Fixed, Between, IsCost}
use Rattle.lburg_faults.specs.Terminals.{Among}
use Rattle.lburg_model.specs.declared.rule.Rule.{Rule}
use Rattle.lburg_model.specs.Range.{IsRangeFor}
use Rattle.lburg_model.specs.Pattern.{MPattern, PHole, PLeaf, POne, PTwo, pattern_of}
use Rattle.lburg_grammar.specs.DescriptionText.{CostMeans}

-- each name with operands is a terminal, each other a terminal or a nonterminal
abbrev pub AreKnown : List (List ℕ) → List (List ℕ) → MNamed → Type 0
AreKnown ts ns (Alone name) = Among name ts ⊎ Among name ns
AreKnown ts ns (Over name a) = Among name ts × AreKnown ts ns a
AreKnown ts ns (Both name a b) = Among name ts × (AreKnown ts ns a × AreKnown ts ns b)

-- the cost is one of the language, at most 32,766
abbrev pub IsPrice : MCost → Type 0
IsPrice Omitted = Unit {0}
IsPrice (Fixed digits) = value_of digits ≤ 32766
IsPrice (Between low high) = IsCost (Between low high)

-- a rule whose names are all known
pub record IsResolvable (ts ns : List (List ℕ)) (s : MRule) : Type 0 where
  pub left : Among s.left ns
  pub tree : AreKnown ts ns s.tree
  pub cost : IsPrice s.cost

abbrev pub AreResolvable : List (List ℕ) → List (List ℕ) → List MRule → Type 0
AreResolvable ts ns ss = (i : ℕ) (s : MRule) → slice_get ss i ≡ Some s → IsResolvable ts ns s

-- a terminal's place, from 1
abbrev pub operator_of : List (List ℕ) → List ℕ → Option ℕ
operator_of terminals name = option_map (λ place. place + 1) (place_of terminals name)

-- a name alone is a terminal's, or else a nonterminal's
abbrev pub alone_for : Option ℕ → Option ℕ → Option MPattern
alone_for (Some op) n = Some (PLeaf op)
alone_for None (Some n) = Some (PHole n)
alone_for None None = None

abbrev pub over_for : Option ℕ → Option MPattern → Option MPattern
over_for None p = None
over_for (Some op) None = None
over_for (Some op) (Some p) = Some (POne op p)

abbrev pub both_for : Option ℕ → Option MPattern → Option MPattern → Option MPattern
both_for None p q = None
both_for (Some op) None q = None
both_for (Some op) (Some p) None = None
both_for (Some op) (Some p) (Some q) = Some (PTwo op p q)

-- the pattern of a tree, if each of its names is known
abbrev pub pattern_for : List (List ℕ) → List (List ℕ) → MNamed → Option MPattern
pattern_for ts ns (Alone name) = alone_for (operator_of ts name) (place_of ns name)
pattern_for ts ns (Over name a) = over_for (operator_of ts name) (pattern_for ts ns a)
pattern_for ts ns (Both name a b) = both_for (operator_of ts name) (pattern_for ts ns a) (pattern_for ts ns b)

pub record RuleFor (ts ns : List (List ℕ)) (s : MRule) (r : Rule) : Type 0 where
  pub left : place_of ns s.left ≡ Some r.left
  pub pattern : pattern_for ts ns s.tree ≡ Some (pattern_of r.pattern)
  pub template : r.template ≡ s.template
  pub cost : CostMeans s.cost r.cost r.range
  pub small : r.cost ≤ 32766
  pub range : IsRangeFor r.cost r.range

-- rule for rule
pub record RulesFor (ts ns : List (List ℕ)) (ss : List MRule) (rs : List Rule) : Type 0 where
  pub many : length rs ≡ length ss
  pub each : (i : ℕ) (s : MRule) → slice_get ss i ≡ Some s → (r : Rule) × (slice_get rs i ≡ Some r) × RuleFor ts ns s r

-- the start symbol's place: that of the one name that is declared, or else the first
abbrev pub StartFor : List (List ℕ) → List (List ℕ) → ℕ → Type 0
StartFor ns [] start = start ≡ 0
StartFor ns (name ∷ []) start = slice_get ns start ≡ Some name
StartFor ns (name ∷ other ∷ names) start = ⊥
