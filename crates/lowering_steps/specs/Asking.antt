-- What a block answers where it is asked for nodes and roots: a node's number, and its entries then.
-- Source: Fraser and Hanson, A Retargetable C Compiler, chapter 12 (common subexpressions).
use Rattle.std.specs.Prelude.{◌≡◌, ℕ, List, [], ◌∷◌, ◌++◌}
use Rattle.op_forest.specs.Nodes.{Head}
use Rattle.dag_forest.specs.declared.entry.Entry.{Entry}
use Rattle.dag_forest.specs.declared.entry.Entry.TheVariants.{Root}
use Rattle.dag_forest.specs.declared.kids.Kids.{Kids}
use Rattle.dag_forest.specs.declared.parts.Parts.{Parts}
use Rattle.c_rows_agree.specs.Templates.{Template}
use Rattle.c_rows_agree.specs.Typed.{Typed}
use Rattle.lowered_forms.specs.Asked.{Asked, asked_parts, asked, with_kids}
use Rattle.lowered_forms.specs.Lows.{Low, with_entries}
use Rattle.lowered_forms.specs.Values.{with_value, placed}
use Rattle.lowering_steps.specs.declared.operand.Operand.{Operand}
use Rattle.lowering_steps.specs.Operands.{typed_of}

-- a node, and the entries behind which it is there
abbrev pub answer : ℕ → List Entry → Asked
answer n es = record { node = n; entries = es }

-- the node of an operator over nodes
pub record Answers (old : List Entry) (x : Parts) (n : ℕ) (new : List Entry) : Type 0 where
  pub is : asked_parts x old ≡ answer n new

-- the node of a template
pub record Asks (old : List Entry) (t : Template) (n : ℕ) (new : List Entry) : Type 0 where
  pub is : asked t old ≡ answer n new

-- a root of an operator over nodes
abbrev pub IsRoot : List Entry → Head → Kids → List Entry → Type 0
IsRoot old h ks new = new ≡ old ++ Root (with_kids h ks) ∷ []

-- what the step does to the open block
pub record Acts (old : List Entry) (step : Low → Low) (new : List Entry) : Type 0 where
  pub is : (l : Low) → l.entries ≡ old → step l ≡ with_entries new l

-- What is computed is a node of the block that is open; an address, a constant and a node stay as they are.
pub record Places (old : List Entry) (t : Typed) (v : Operand) (new : List Entry) : Type 0 where
  pub is : (l : Low) → l.entries ≡ old → placed t l ≡ with_value (typed_of v) (with_entries new l)
