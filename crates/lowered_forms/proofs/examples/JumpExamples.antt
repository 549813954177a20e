-- Expressions that jump: the pieces of which they end blocks.
use Rattle.std.specs.Prelude.{◌≡◌, refl, pos, negsuc, false, None, List, [], ◌∷◌}
use Rattle.op_forest.specs.declared.frame.Slot.{Slot}
use Rattle.op_forest.specs.declared.op.Op.TheVariants as op
use Rattle.op_forest.specs.declared.suffix.Suffix.TheVariants.{I, P, V}
use Rattle.op_forest.specs.declared.sym.Sym.TheVariants as sym
use Rattle.c_meaning.specs.declared.core_expr.CoreKind.TheVariants as kind
use Rattle.c_meaning.specs.CoreTrees.{two, three}
use Rattle.c_meaning.specs.Values.{CoreTree}
use Rattle.dag_forest.specs.declared.kids.Kids.TheVariants.{Zero, One, Two}
use Rattle.lowered_forms.specs.Expressions.{low_e}
use Rattle.piece_runs.specs.Pieces.{OfBlock, Mark}
use Rattle.lowered_forms.specs.Lows.{Low}
use Rattle.lowered_forms.specs.Straight.{straight}
use Rattle.lowered_forms.specs.Values.{Lowered}
use Rattle.lowered_forms.proofs.examples.Samples.{context, begun, int, tree, x, y, z, read_int, assign, node, over, slot, address, constant, root, jump, given}

-- the frame with one slot more
abbrev slots : List Slot
slots = record { offset = negsuc 3; size = 4 } ∷ record { offset = negsuc 7; size = 4 } ∷ record { offset = negsuc 11; size = 4 } ∷ []

-- x = y && z
abbrev both : CoreTree
both = assign x (tree kind.And int (two (read_int y) (read_int z)))

abbrev both_lowered : Low
both_lowered = (low_e context both begun).low

both_pieces : both_lowered.pieces
    ≡ OfBlock slots (slot (negsuc 11) ∷ constant (pos 0) ∷ root op.Asgn I (Two 0 1) ∷ address 1 ∷ over op.Indir I (One 2) ∷ jump op.Eq 3 1 0 ∷ [])
    ∷ OfBlock slots (address 2 ∷ over op.Indir I (One 0) ∷ constant (pos 0) ∷ jump op.Eq 1 2 0 ∷ [])
    ∷ OfBlock slots (slot (negsuc 11) ∷ constant (pos 1) ∷ root op.Asgn I (Two 0 1) ∷ []) ∷ Mark 0 ∷ []
both_pieces = refl

both_entries : both_lowered.entries ≡ slot (negsuc 11) ∷ over op.Indir I (One 0) ∷ address 0 ∷ root op.Asgn I (Two 2 1) ∷ []
both_entries = refl

both_labels : both_lowered.labels ≡ 1
both_labels = refl

both_jumps : straight both ≡ false
both_jumps = refl

-- z ? x : y as a value
abbrev chosen : Lowered
chosen = low_e context (tree kind.Conditional int (three (read_int z) (read_int x) (read_int y))) begun

chosen_pieces : chosen.low.pieces
    ≡ OfBlock slots (address 2 ∷ over op.Indir I (One 0) ∷ constant (pos 0) ∷ jump op.Eq 1 2 0 ∷ [])
    ∷ OfBlock slots (address 0 ∷ over op.Indir I (One 0) ∷ slot (negsuc 11) ∷ root op.Asgn I (Two 2 1) ∷ node op.Addrg P Zero (sym.Label 1) None ∷ root op.Jump V (One 3) ∷ [])
    ∷ OfBlock slots [] ∷ Mark 0
    ∷ OfBlock slots (address 1 ∷ over op.Indir I (One 0) ∷ slot (negsuc 11) ∷ root op.Asgn I (Two 2 1) ∷ []) ∷ Mark 1 ∷ []
chosen_pieces = refl

chosen_entries : chosen.low.entries ≡ slot (negsuc 11) ∷ over op.Indir I (One 0) ∷ []
chosen_entries = refl

chosen_value : chosen.value ≡ given 1 I
chosen_value = refl
