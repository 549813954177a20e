-- The shipped description of MIPS as one fact, and that it derives each root of a well-formed forest
-- whose operators have rules.
-- Source: Fraser and Hanson, A Retargetable C Compiler, chapters 14 and 16.
use Rattle.std.specs.Prelude.{◌≡◌, All, map}
use Rattle.lburg_model.specs.Derivation.{MDerivation, Derives}
use Rattle.lburg_model.specs.Description.{MDescription}
use Rattle.lburg_model.specs.Best.{HasNone}
use Rattle.op_forest.specs.declared.forest.Forest.{Forest}
use Rattle.op_forest.specs.Nodes.{Node, tree_of}
use Rattle.forests.specs.WellFormed.{IsWellFormed, HasKinds}
use Rattle.forests.specs.HasRules.{IsRuled, HasRules}
use Rattle.vcode.specs.RuleSets.{row_of}
use Rattle.frame_rules.specs.Rows.{nonterminals, stmt}
use Rattle.mips_rules.specs.MipsRows.{rows, costs, ranges}
use Rattle.mips_rules.specs.MipsTerminals.{terminals}

-- the terminals, the nonterminals, the start symbol and the rules with their costs are those of the tables, and no rule
-- has a range
pub record IsShipped (d : MDescription) : Type 0 where
  pub terminals : d.terminals ≡ terminals
  pub nonterminals : d.nonterminals ≡ nonterminals
  pub start : d.start ≡ stmt
  pub rows : map row_of d.rules ≡ rows
  pub costs : map (λ r. r.cost) d.rules ≡ costs
  pub ranges : map (λ r. r.range) d.rules ≡ ranges

-- the start symbol derives each tree that is no address alone, whose operators have rules and what they need
abbrev pub DerivesStatements : MDescription → Type 0
DerivesStatements d = (t : Node) → HasKinds t → IsRuled t → (x : MDerivation) × Derives d.rules d.start (tree_of t) x

-- each root of a well-formed forest whose operators have rules has a derivation
abbrev pub CoversRoots : MDescription → Type 0
CoversRoots d = (f : Forest) → IsWellFormed f → HasRules f.roots → All (λ t. HasNone d (tree_of t) → ⊥) f.roots
