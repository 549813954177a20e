-- What a description is made of, and the rules and limits that it keeps.
-- Source: Fraser and Hanson, A Retargetable C Compiler, chapter 14.
use Rattle.std.specs.Prelude.{◌≡◌, ℕ, zero, suc, ◌+◌, ◌<◌, ◌≤◌, Option, Some, None, List, length, map, slice_get, ◌⊎◌}
use Rattle.lburg_lines.specs.Tokens.{Word, Template, IsToken}
use Rattle.lburg_model.specs.declared.rule.Rule.{Rule}
use Rattle.lburg_model.specs.declared.terminal.Terminal.{Terminal}
use Rattle.lburg_model.specs.Range.{IsRangeFor}
use Rattle.lburg_model.specs.Pattern.{MPattern, PHole, PLeaf, POne, PTwo, pattern_of, pattern_nodes}

-- Terminals in the order of their declarations; the names of nonterminals in the order of the first rules with
-- them as left side; the start symbol's place among these; rules, of which the first has the number 1.
pub record MDescription : Type 0 where
  pub terminals : List Terminal
  pub nonterminals : List (List ℕ)
  pub start : ℕ
  pub rules : List Rule

-- the terminal of an operator
abbrev pub terminal_at : MDescription → ℕ → Option Terminal
terminal_at d zero = None
terminal_at d (suc place) = slice_get d.terminals place

-- the operator's terminal has this many operands
abbrev pub HasArity : MDescription → ℕ → ℕ → Type 0
HasArity d op n = (t : Terminal) × (terminal_at d op ≡ Some t) × (t.arity ≡ Some n)

-- each name of the pattern is one of the description's, each operator used with its arity
abbrev pub FitsIn : MDescription → MPattern → Type 0
FitsIn d (PHole n) = n < length d.nonterminals
FitsIn d (PLeaf op) = HasArity d op 0
FitsIn d (POne op p) = HasArity d op 1 × FitsIn d p
FitsIn d (PTwo op p q) = HasArity d op 2 × (FitsIn d p × FitsIn d q)

-- the operator stands in the pattern
abbrev pub Uses : ℕ → MPattern → Type 0
Uses op (PHole n) = ⊥
Uses op (PLeaf op') = op' ≡ op
Uses op (POne op' p) = (op' ≡ op) ⊎ Uses op p
Uses op (PTwo op' p q) = (op' ≡ op) ⊎ (Uses op p ⊎ Uses op q)

-- no value stands at two places
abbrev pub AreDistinct : {A : Type 0} → List A → Type 0
AreDistinct {A} xs = (i j : ℕ) (x : A) → slice_get xs i ≡ Some x → slice_get xs j ≡ Some x → i ≡ j

-- each may stand as a name in a text
abbrev pub AreNames : List (List ℕ) → Type 0
AreNames names = (i : ℕ) (name : List ℕ) → slice_get names i ≡ Some name → IsToken (Word name)

abbrev pub terminal_names : MDescription → List (List ℕ)
terminal_names d = map (λ t. t.name) d.terminals

abbrev pub terminal_numbers : MDescription → List ℕ
terminal_numbers d = map (λ t. t.number) d.terminals

abbrev pub RuleAt : MDescription → ℕ → Rule → Type 0
RuleAt d i r = slice_get d.rules i ≡ Some r

-- what a rule keeps
pub record IsRuleOf (d : MDescription) (r : Rule) : Type 0 where
  pub left : r.left < length d.nonterminals
  pub fits : FitsIn d (pattern_of r.pattern)
  pub nodes : pattern_nodes (pattern_of r.pattern) ≤ 16
  -- a template may stand between quotes
  pub template : IsToken (Template r.template)
  pub cost : r.cost ≤ 32766
  pub range : IsRangeFor r.cost r.range

-- what a description keeps
pub record IsDescription (d : MDescription) : Type 0 where
  pub terminals : length d.terminals ≤ 1023
  pub names : AreDistinct (terminal_names d)
  -- a name is a letter, then letters, digits and underscores
  pub names_spelled : AreNames (terminal_names d)
  pub numbers : AreDistinct (terminal_numbers d)
  pub number_limit : (i n : ℕ) → slice_get (terminal_numbers d) i ≡ Some n → n ≤ 2147483647
  -- a terminal has an arity where a rule uses it
  pub used : (i : ℕ) (t : Terminal) (n : ℕ) → slice_get d.terminals i ≡ Some t → t.arity ≡ Some n → (j : ℕ) × (r : Rule) × RuleAt d j r × Uses (i + 1) (pattern_of r.pattern)
  pub nonterminals : length d.nonterminals ≤ 127
  pub nonterminal_names : AreDistinct d.nonterminals
  pub nonterminals_spelled : AreNames d.nonterminals
  -- no name is a terminal's and a nonterminal's
  pub apart : (i j : ℕ) (name : List ℕ) → slice_get (terminal_names d) i ≡ Some name → slice_get d.nonterminals j ≡ Some name → ⊥
  pub start : d.start < length d.nonterminals
  pub some_rule : 1 ≤ length d.rules
  pub rule_limit : length d.rules ≤ 4095
  pub rules : (i : ℕ) (r : Rule) → RuleAt d i r → IsRuleOf d r
  -- each nonterminal has a rule
  pub ruled : (n : ℕ) → n < length d.nonterminals → (i : ℕ) × (r : Rule) × RuleAt d i r × (r.left ≡ n)
  -- nonterminals stand in the order of their first rules
  pub in_order : (j : ℕ) (r : Rule) (n : ℕ) → RuleAt d j r → n < r.left → (i : ℕ) × (q : Rule) × (i < j) × RuleAt d i q × (q.left ≡ n)
