-- An expression's node in the open block, for what stands behind it: a pointer's and a structure's place has suffix P, any other value suffix I; where
-- there is no value it is the constant 0.
-- Source: Fraser and Hanson, A Retargetable C Compiler, chapter 5.
use Rattle.std.specs.Prelude.{ℕ, ◌<◌}
use Rattle.op_forest.specs.declared.suffix.Suffix.{Suffix}
use Rattle.op_forest.specs.declared.suffix.Suffix.TheVariants.{P}
use Rattle.c_meaning.specs.Values.{CoreTree}
use Rattle.dag_forest.specs.Tally.{node_count}
use Rattle.c_rows_agree.specs.Templates.{Template}
use Rattle.c_rows_agree.specs.Typed.{as_i_from}
use Rattle.lowered_forms.specs.Asked.{Asked, asked}
use Rattle.lowered_forms.specs.Blocks.{IsBlock}
use Rattle.lowered_forms.specs.Contexts.{Context}
use Rattle.lowered_forms.specs.Expressions.{low_e}
use Rattle.lowered_forms.specs.Lows.{Low, with_entries}
use Rattle.lowered_forms.specs.Values.{Lowered}

pub record Handed : Type 0 where
  pub node : ℕ
  pub low : Low

abbrev pub handed_as : Suffix → Template → Template
handed_as P t = t
handed_as s t = as_i_from s t

abbrev pub with_asked : Asked → Low → Handed
with_asked a l = record { node = a.node; low = with_entries a.entries l }

abbrev pub handed : Lowered → Handed
handed r = with_asked (asked (handed_as r.value.suffix r.value.tree) r.low.entries) r.low

abbrev pub low_node : Context → CoreTree → Low → Handed
low_node s e l = handed (low_e s e l)

-- it is one of the open block
pub record IsNode (h : Handed) : Type 0 where
  pub block : IsBlock h.low.entries
  pub below : h.node < node_count h.low.entries

abbrev pub ExpressionsAreNodes : Type 0
ExpressionsAreNodes = (s : Context) (e : CoreTree) (l : Low) → IsBlock l.entries → IsNode (low_node s e l)
