-- Loops and choices, and the blocks and labels that they become.
use Rattle.std.specs.Prelude.{◌≡◌, refl, pos, negsuc, Some, None, [], ◌∷◌}
use Rattle.op_forest.specs.declared.op.Op.TheVariants as op
use Rattle.op_forest.specs.declared.suffix.Suffix.TheVariants.{I}
use Rattle.op_forest.specs.declared.sym.Sym.TheVariants as sym
use Rattle.c_meaning.specs.StmtTrees as stmt
use Rattle.dag_forest.specs.declared.kids.Kids.TheVariants.{One, Two}
use Rattle.piece_runs.specs.Pieces.{OfBlock, Mark}
use Rattle.lowered_statements.specs.Bodies.{Body}
use Rattle.lowered_statements.specs.Statements.{low_s}
use Rattle.lowered_statements.proofs.examples.Samples.{function_with, slots, begun_with, exits, number, local_read, all, over, slot, constant, root, jump}

-- while (x) break;
abbrev left : Body
left = low_s (function_with []) exits (stmt.While local_read stmt.Break) (begun_with 0)

left_pieces : left.low.pieces
    ≡ OfBlock slots (jump 1) ∷ OfBlock slots [] ∷ Mark 0
    ∷ OfBlock slots (jump 2) ∷ OfBlock slots [] ∷ Mark 1
    ∷ OfBlock slots (slot (negsuc 3) ∷ over op.Indir I (One 0) ∷ constant (pos 0) ∷ root op.Ne I (Two 1 2) (sym.Label 0) ∷ [])
    ∷ OfBlock slots [] ∷ Mark 2 ∷ []
left_pieces = refl

left_labels : left.low.labels ≡ 3
left_labels = refl

-- do continue; while (x);
again_pieces : (low_s (function_with []) exits (stmt.Do stmt.Continue local_read) (begun_with 0)).low.pieces
    ≡ OfBlock slots [] ∷ Mark 0
    ∷ OfBlock slots (jump 1) ∷ OfBlock slots [] ∷ Mark 1
    ∷ OfBlock slots (slot (negsuc 3) ∷ over op.Indir I (One 0) ∷ constant (pos 0) ∷ root op.Ne I (Two 1 2) (sym.Label 0) ∷ [])
    ∷ OfBlock slots [] ∷ Mark 2 ∷ []
again_pieces = refl

-- for (;;) ;
for_ever_pieces : (low_s (function_with []) exits (stmt.For None None None stmt.Nothing) (begun_with 0)).low.pieces
    ≡ OfBlock slots (jump 3) ∷ OfBlock slots [] ∷ Mark 0 ∷ OfBlock slots [] ∷ Mark 1 ∷ OfBlock slots [] ∷ Mark 3
    ∷ OfBlock slots (jump 0) ∷ OfBlock slots [] ∷ Mark 2 ∷ []
for_ever_pieces = refl

-- if (x) return 1; behind which the label 9 of the program stands, the first one: its number is 0
abbrev chosen : Body
chosen =
    low_s (function_with (9 ∷ [])) exits (stmt.Block 0 0 (all (stmt.If local_read (stmt.Return (Some (number 1))) stmt.Nothing ∷ stmt.Label 9 (stmt.Goto 9) ∷ []))) (begun_with 1)

chosen_pieces : chosen.low.pieces
    ≡ OfBlock slots (slot (negsuc 3) ∷ over op.Indir I (One 0) ∷ constant (pos 0) ∷ root op.Eq I (Two 1 2) (sym.Label 1) ∷ [])
    ∷ OfBlock slots (constant (pos 1) ∷ root op.Ret I (One 0) sym.Nothing ∷ []) ∷ Mark 1
    ∷ OfBlock slots [] ∷ Mark 0 ∷ OfBlock slots (jump 0) ∷ []
chosen_pieces = refl
