-- How far a function's body is lowered: its pieces, its slots and its labels; and the tables of its switches so far, of which each is the
-- labels to which it leads.
-- Source: Fraser and Hanson, A Retargetable C Compiler, chapters 10 and 12 (tables of labels, forests).
use Rattle.std.specs.Prelude.{ℕ, List, [], ◌∷◌, ◌++◌}
use Rattle.op_forest.specs.declared.op.Op.TheVariants as op
use Rattle.op_forest.specs.declared.suffix.Suffix.TheVariants.{V}
use Rattle.op_forest.specs.Nodes.{Head}
use Rattle.dag_forest.specs.declared.entry.Entry.TheVariants.{Root}
use Rattle.dag_forest.specs.declared.kids.Kids.TheVariants.{Zero}
use Rattle.c_rows_agree.specs.Typed.{head}
use Rattle.lowered_forms.specs.Asked.{with_kids}
use Rattle.lowered_forms.specs.Lows.{Low, with_entries}

pub record Body : Type 0 where
  pub low : Low
  pub tables : List (List ℕ)

abbrev pub with_low : Low → Body → Body
with_low l b = record { low = l; tables = b.tables }

abbrev pub on_low : (Low → Low) → Body → Body
on_low go b = with_low (go b.low) b

-- with one table more
abbrev pub with_table : List ℕ → Body → Body
with_table labels b = record { low = b.low; tables = b.tables ++ labels ∷ [] }

-- a root without operands
abbrev pub acted_alone : Head → Low → Low
acted_alone h l = with_entries (l.entries ++ Root (with_kids h Zero) ∷ []) l

-- a return without a value
abbrev pub returned : Low → Low
returned l = acted_alone (head op.Ret V) l
