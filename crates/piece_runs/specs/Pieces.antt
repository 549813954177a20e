-- A function's roots as pieces: blocks that were split into trees, and labels between them.
-- Source: Fraser and Hanson, A Retargetable C Compiler, chapters 5 and 12 (forests, basic blocks, labels).
use Rattle.std.specs.Prelude.{◌≡◌, ℕ, None, List, [], ◌∷◌, ◌++◌}
use Rattle.lcc_base.specs.declared.order.Order.{Order}
use Rattle.op_forest.specs.declared.frame.Slot.{Slot}
use Rattle.op_forest.specs.declared.op.Op.TheVariants as op
use Rattle.op_forest.specs.declared.suffix.Suffix.TheVariants.{V}
use Rattle.op_forest.specs.declared.sym.Sym.TheVariants as sym
use Rattle.op_forest.specs.Nodes.{Node, Leaf}
use Rattle.forests.specs.Addresses.{Home}
use Rattle.dag_forest.specs.declared.entry.Entry.{Entry}
use Rattle.dag_forest.specs.Split.{split_trees}

-- a block, split behind these slots of the frame; or a label
pub data Piece : Type 0 where
  OfBlock : (before : List Slot) (entries : List Entry) → Piece
  Mark : (label : ℕ) → Piece

abbrev pub label_root : ℕ → Node
label_root l = Leaf (record { operator = record { op = op.Label; suffix = V }; sym = sym.Label l; value = None })

-- the roots of the pieces, where the function's body is at home
abbrev pub roots_of : Order → Home → List Piece → List Node
roots_of order home [] = []
roots_of order home (OfBlock before entries ∷ ps) = split_trees order home before entries (roots_of order home ps)
roots_of order home (Mark l ∷ ps) = label_root l ∷ roots_of order home ps

-- While a block is open behind pieces that are done, what all pieces come to be: it goes on with more entries, is split behind these slots, and others
-- follow.
pub record Front (all done : List Piece) (entries : List Entry) : Type 0 where
  pub more : List Entry
  pub before : List Slot
  pub rest : List Piece
  pub is : all ≡ done ++ OfBlock before (entries ++ more) ∷ rest
