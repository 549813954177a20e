-- Two descriptions with the same parts, wherever their patterns stand in memory.
use Rattle.std.specs.Prelude.{◌≡◌, ℕ, length}
use Rattle.lburg_model.specs.declared.rule.Rule.{Rule}
use Rattle.lburg_model.specs.Pattern.{pattern_of}
use Rattle.lburg_model.specs.Description.{MDescription, RuleAt}

pub record SameRule (r q : Rule) : Type 0 where
  pub left : r.left ≡ q.left
  pub pattern : pattern_of r.pattern ≡ pattern_of q.pattern
  pub template : r.template ≡ q.template
  pub cost : r.cost ≡ q.cost
  pub range : r.range ≡ q.range

pub record SameParts (d e : MDescription) : Type 0 where
  pub terminals : d.terminals ≡ e.terminals
  pub nonterminals : d.nonterminals ≡ e.nonterminals
  pub start : d.start ≡ e.start
  pub many : length d.rules ≡ length e.rules
  pub rules : (i : ℕ) (r : Rule) → RuleAt d i r → (q : Rule) × RuleAt e i q × SameRule r q
