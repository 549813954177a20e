-- How much an expression adds at most, for each expression in it: to a bound of the nodes and temporaries of what is lowered, with one use
-- more of its value; and to the nodes of the open block.
-- Source: Fraser and Hanson, A Retargetable C Compiler, chapter 12 (common subexpressions and temporaries).
use Rattle.std.specs.Prelude.{ℕ, ◌≤◌, ◌+◌, ◌*◌, Bool}
use Rattle.c_meaning.specs.CoreTrees.{parts}
use Rattle.c_meaning.specs.Values.{CoreTree}
use Rattle.dag_forest.specs.Tally.{node_count}
use Rattle.lowered_forms.specs.Blocks.{IsBlock}
use Rattle.lowered_forms.specs.Contexts.{Context}
use Rattle.lowered_forms.specs.Expressions.{low_e, low_test}
use Rattle.lowered_forms.specs.Handed.{Handed, low_node}
use Rattle.lowered_forms.specs.Lows.{Low}
use Rattle.lowered_forms.specs.Sizes.{weight_by, with_use}
use Rattle.expression_weights.specs.Weighs.{Weighs, IsFormed}

-- A change of a bit-field costs most beside its operands: its place may have to be saved, and be used three times behind that; the old
-- and the new value may each be found, and kept from then on; so may each node of the word that is stored.
abbrev pub each : ℕ
each = 69

pub record IsSmall (e : CoreTree) (l : Low) (h : Handed) : Type 0 where
  pub nodes : node_count h.low.entries ≤ node_count l.entries + each * parts e
  pub weights : (w : ℕ) → Weighs w l → weight_by (with_use h.node h.low.entries) h.low ≤ w + each * parts e

abbrev pub ExpressionsAreSmall : Type 0
ExpressionsAreSmall = (s : Context) (e : CoreTree) (l : Low) → IsBlock l.entries → IsFormed (low_node s e l).low → IsSmall e l (low_node s e l)

-- between two states
pub record AddsFew (e : CoreTree) (a b : Low) : Type 0 where
  pub nodes : node_count b.entries ≤ node_count a.entries + each * parts e
  pub weights : (w : ℕ) → Weighs w a → Weighs (w + each * parts e) b

abbrev pub ValuesAddFew : Type 0
ValuesAddFew = (s : Context) (e : CoreTree) (l : Low) → IsFormed (low_e s e l).low → AddsFew e l (low_e s e l).low

abbrev pub TestsAddFew : Type 0
TestsAddFew = (s : Context) (e : CoreTree) (n : ℕ) (when : Bool) (l : Low) → IsFormed (low_test s e n when l) → AddsFew e l (low_test s e n when l)
