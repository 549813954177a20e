-- How far a function is lowered: the blocks that are finished and the labels between them, the open block, the slots of the frame, and
-- how many labels were used.
-- Source: Fraser and Hanson, A Retargetable C Compiler, chapters 5 and 12 (forests, basic blocks, labels).
use Rattle.std.specs.Prelude.{ℕ, suc, ℤ, None, List, [], ◌∷◌, ◌++◌}
use Rattle.op_forest.specs.declared.frame.Slot.{Slot}
use Rattle.op_forest.specs.declared.op.Op.TheVariants as op
use Rattle.op_forest.specs.declared.suffix.Suffix.TheVariants.{P, V}
use Rattle.op_forest.specs.declared.sym.Sym.TheVariants as sym
use Rattle.op_forest.specs.Frames.{lowest}
use Rattle.op_forest.specs.Nodes.{Head}
use Rattle.dag_forest.specs.declared.entry.Entry.{Entry}
use Rattle.dag_forest.specs.NewSlots.{offset_below, slot_below}
use Rattle.dag_forest.specs.Split.{split_frame}
use Rattle.piece_runs.specs.Pieces.{Piece, OfBlock, Mark}
use Rattle.c_rows_agree.specs.Templates.{Template, Leaf, Root}
use Rattle.c_rows_agree.specs.Typed.{head, head_with}
use Rattle.lowered_forms.specs.Asked.{rooted, rooted_one}

-- the entries are the open block's
pub record Low : Type 0 where
  pub pieces : List Piece
  pub entries : List Entry
  pub slots : List Slot
  pub labels : ℕ

-- ---- steps

abbrev pub with_entries : List Entry → Low → Low
with_entries es l = record { pieces = l.pieces; entries = es; slots = l.slots; labels = l.labels }

-- a root of the open block, with two operands or one
abbrev pub acted : Root → Low → Low
acted r l = with_entries (rooted r l.entries) l

abbrev pub acted_one : Head → Template → Low → Low
acted_one h a l = with_entries (rooted_one h a l.entries) l

-- the open block is finished
abbrev pub ended : Low → Low
ended l = record { pieces = l.pieces ++ OfBlock l.slots l.entries ∷ []; entries = []; slots = split_frame l.slots l.entries; labels = l.labels }

abbrev pub with_mark : ℕ → Low → Low
with_mark n l = record { pieces = l.pieces ++ Mark n ∷ []; entries = l.entries; slots = l.slots; labels = l.labels }

-- so it is before a label
abbrev pub marked : ℕ → Low → Low
marked n l = with_mark n (ended l)

-- and behind a root that jumps, or goes on
abbrev pub branched : Root → Low → Low
branched r l = ended (acted r l)

abbrev pub jumped : ℕ → Low → Low
jumped n l = ended (acted_one (head op.Jump V) (Leaf (head_with op.Addrg P (sym.Label n) None)) l)

-- ---- what is new

-- with one label more, which has the number of those before it
abbrev pub with_label : Low → Low
with_label l = record { pieces = l.pieces; entries = l.entries; slots = l.slots; labels = suc l.labels }

-- with one slot more, of four bytes; and where it begins
abbrev pub slot_offset : Low → ℤ
slot_offset l = offset_below (lowest l.slots) 0

abbrev pub with_slot : Low → Low
with_slot l = record { pieces = l.pieces; entries = l.entries; slots = l.slots ++ slot_below (lowest l.slots) 0 ∷ []; labels = l.labels }
