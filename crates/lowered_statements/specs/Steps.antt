-- What holds between a body and a later one, where it holds for each step: a node, a root, a slot or a label more, a block that is finished, a
-- label that is marked, and a table more.
use Rattle.std.specs.Prelude.{ℕ, List}
use Rattle.op_forest.specs.Nodes.{Head}
use Rattle.c_rows_agree.specs.Templates.{Template, Root}
use Rattle.lowered_forms.specs.Asked.{asked}
use Rattle.lowered_forms.specs.Lows.{with_entries, acted, acted_one, ended, marked, with_label, with_slot}
use Rattle.lowered_statements.specs.Bodies.{Body, with_low, with_table, returned}
use Rattle.lowered_statements.specs.Functions.{Function, Exits}
use Rattle.lowered_statements.specs.Statements.{StmtTree, low_s}

abbrev pub BodyRelation : Type 1
BodyRelation = Body → Body → Type 0

pub record BodySteps (R : BodyRelation) : Type 0 where
  pub same : (b : Body) → R b b
  pub joins : (a b c : Body) → R a b → R b c → R a c
  pub asks : (t : Template) (b : Body) → R b (with_low (with_entries (asked t b.low.entries).entries b.low) b)
  pub acts : (r : Root) (b : Body) → R b (with_low (acted r b.low) b)
  pub acts_one : (h : Head) (t : Template) (b : Body) → R b (with_low (acted_one h t b.low) b)
  pub returns : (b : Body) → R b (with_low (returned b.low) b)
  pub slot : (b : Body) → R b (with_low (with_slot b.low) b)
  pub ends : (b : Body) → R b (with_low (ended b.low) b)
  pub marks : (n : ℕ) (b : Body) → R b (with_low (marked n b.low) b)
  pub label : (b : Body) → R b (with_low (with_label b.low) b)
  pub table : (labels : List ℕ) (b : Body) → R b (with_table labels b)

-- so it holds for a statement
abbrev pub StatementsStep : Type 1
StatementsStep = (R : BodyRelation) → BodySteps R → (f : Function) (y : Exits) (t : StmtTree) (b : Body) → R b (low_s f y t b)
