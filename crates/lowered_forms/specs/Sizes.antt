-- How much an expression adds, against how many expressions stand in it: nodes of the open block, labels, and nodes and temporaries together. These are
-- bounded by weights, which are at least as many, with one use more of the expression's node.
-- Source: Fraser and Hanson, A Retargetable C Compiler, chapter 12 (common subexpressions and temporaries).
use Rattle.std.specs.Prelude.{ℕ, ◌≤◌, ◌+◌, ◌-◌, ◌*◌, None, List, [], ◌∷◌, ◌++◌, length}
use Rattle.op_forest.specs.declared.op.Op.TheVariants as op
use Rattle.op_forest.specs.declared.suffix.Suffix.TheVariants.{I}
use Rattle.op_forest.specs.declared.sym.Sym.TheVariants as sym
use Rattle.c_meaning.specs.CoreTrees.{parts}
use Rattle.c_meaning.specs.Values.{CoreTree}
use Rattle.dag_forest.specs.declared.entry.Entry.{Entry}
use Rattle.dag_forest.specs.declared.entry.Entry.TheVariants.{Root}
use Rattle.dag_forest.specs.declared.kids.Kids.TheVariants.{One}
use Rattle.dag_forest.specs.Entries.{parts_of}
use Rattle.dag_forest.specs.Split.{room_count}
use Rattle.dag_forest.specs.Tally.{node_count}
use Rattle.dag_sizes.specs.Weights.{weight}
use Rattle.piece_runs.specs.Pieces.{Piece, OfBlock, Mark}
use Rattle.lowered_forms.specs.Handed.{Handed}
use Rattle.lowered_forms.specs.Lows.{Low}

-- of finished blocks, with their own temporaries, and labels
abbrev pub pieces_weight : List Piece → ℕ
pieces_weight [] = 0
pieces_weight (OfBlock before es ∷ ps) = weight es + pieces_weight ps
pieces_weight (Mark n ∷ ps) = 1 + pieces_weight ps

abbrev pub pieces_rooms : List Piece → ℕ
pieces_rooms [] = 0
pieces_rooms (OfBlock before es ∷ ps) = room_count es + pieces_rooms ps
pieces_rooms (Mark n ∷ ps) = pieces_rooms ps

-- the slots of the frame but those
abbrev pub other_slots : Low → ℕ
other_slots l = length l.slots - pieces_rooms l.pieces

abbrev pub weight_by : List Entry → Low → ℕ
weight_by es l = pieces_weight l.pieces + other_slots l + weight es

-- a node is used once more
abbrev pub with_use : ℕ → List Entry → List Entry
with_use n es = es ++ Root (parts_of (record { op = op.Ret; suffix = I }) (One n) sym.Nothing None) ∷ []

-- at most 15 more of each for each expression
pub record IsSmall (e : CoreTree) (l : Low) (h : Handed) : Type 0 where
  pub nodes : node_count h.low.entries ≤ node_count l.entries + 15 * parts e
  pub labels : h.low.labels ≤ l.labels + 15 * parts e
  pub weights : weight_by (with_use h.node h.low.entries) h.low ≤ weight_by l.entries l + 15 * parts e
