-- Blocks and labels of what is lowered: operands are nodes of their block, no two of whose nodes are equal; no root is a label, and each
-- label that a block names, and each that is marked, has been used.
-- Source: Fraser and Hanson, A Retargetable C Compiler, chapters 5 and 12 (forests, basic blocks, labels).
use Rattle.std.specs.Prelude.{◌<◌, ℕ, Bool, List, [], ◌∷◌}
use Rattle.op_forest.specs.declared.op.Op.{Op}
use Rattle.op_forest.specs.declared.op.Op.TheVariants as op
use Rattle.op_forest.specs.declared.sym.Sym.{Sym}
use Rattle.op_forest.specs.declared.sym.Sym.TheVariants as sym
use Rattle.c_meaning.specs.Values.{CoreTree}
use Rattle.dag_forest.specs.declared.entry.Entry.{Entry}
use Rattle.dag_forest.specs.declared.entry.Entry.TheVariants.{Value, Root}
use Rattle.piece_runs.specs.Pieces.{Piece, OfBlock, Mark}
use Rattle.lowered_forms.specs.Blocks.{IsBlock}
use Rattle.lowered_forms.specs.Contexts.{Context}
use Rattle.lowered_forms.specs.Expressions.{low_e, low_test}
use Rattle.lowered_forms.specs.Lows.{Low}

-- a label is one of the first k
abbrev pub IsBelow : ℕ → Sym → Type 0
IsBelow k (sym.Label l) = l < k
IsBelow k x = Unit {0}

abbrev pub IsNoLabel : Op → Type 0
IsNoLabel op.Label = ⊥
IsNoLabel o = Unit {0}

abbrev pub AreNamed : ℕ → List Entry → Type 0
AreNamed k [] = Unit {0}
AreNamed k (Value x ∷ es) = IsBelow k x.sym × AreNamed k es
AreNamed k (Root x ∷ es) = (IsNoLabel x.operator.op × IsBelow k x.sym) × AreNamed k es

abbrev pub AreKnown : ℕ → List Piece → Type 0
AreKnown k [] = Unit {0}
AreKnown k (OfBlock before es ∷ ps) = (IsBlock es × AreNamed k es) × AreKnown k ps
AreKnown k (Mark n ∷ ps) = (n < k) × AreKnown k ps

pub record IsKnown (l : Low) : Type 0 where
  pub pieces : AreKnown l.labels l.pieces
  pub block : IsBlock l.entries
  pub named : AreNamed l.labels l.entries

abbrev pub ExpressionsKeepKnown : Type 0
ExpressionsKeepKnown = (s : Context) (e : CoreTree) (l : Low) → IsKnown l → IsKnown (low_e s e l).low

-- a test goes to a label that has been used
abbrev pub TestsKeepKnown : Type 0
TestsKeepKnown = (s : Context) (e : CoreTree) (n : ℕ) (when : Bool) (l : Low) → n < l.labels → IsKnown l → IsKnown (low_test s e n when l)
