-- Switches: their tables, and the tests for them.
use Rattle.std.specs.Prelude.{◌≡◌, refl, pos, negsuc, Some, None, List, [], ◌∷◌}
use Rattle.op_forest.specs.declared.frame.Slot.{Slot}
use Rattle.op_forest.specs.declared.op.Op.TheVariants as op
use Rattle.op_forest.specs.declared.suffix.Suffix.TheVariants.{I, P, V}
use Rattle.op_forest.specs.declared.sym.Sym.TheVariants as sym
use Rattle.c_meaning.specs.declared.core_stmt.CoreCase.{CoreCase}
use Rattle.c_meaning.specs.StmtTrees as stmt
use Rattle.c_runs.specs.Statements.{chosen}
use Rattle.dag_forest.specs.declared.kids.Kids.TheVariants.{Zero, One, Two}
use Rattle.piece_runs.specs.Pieces.{OfBlock, Mark}
use Rattle.lowered_statements.specs.Bodies.{Body}
use Rattle.lowered_statements.specs.Functions.{Function}
use Rattle.lowered_statements.specs.Statements.{StmtTree, low_s}
use Rattle.lowered_statements.proofs.examples.Samples.{function_with, begun_with, exits, local_read, all, case, node, over, slot, constant, root, jump}

-- the labels of the cases, in their order
abbrev function : Function
function = function_with (7 ∷ 8 ∷ 9 ∷ 4 ∷ [])

abbrev body : StmtTree
body = stmt.Block 0 0 (all (stmt.Label 7 stmt.Break ∷ stmt.Label 8 stmt.Break ∷ stmt.Label 9 stmt.Break ∷ stmt.Label 4 stmt.Break ∷ []))

abbrev switched : List CoreCase → Body
switched cases = low_s function exits (stmt.Switch local_read cases None body) (begun_with 4)

-- the four cases 1, 2, 3 and 6 make one table of six labels: those of the two numbers between are the end's
one_table : (switched (case 6 4 ∷ case 1 7 ∷ case 2 8 ∷ case 3 9 ∷ [])).tables ≡ (0 ∷ 1 ∷ 2 ∷ 4 ∷ 4 ∷ 3 ∷ []) ∷ []
one_table = refl

-- the cases 1, 2 and 30 make one table of two labels, and a test for 30
table_and_test : (switched (case 1 7 ∷ case 2 8 ∷ case 30 9 ∷ [])).tables ≡ (0 ∷ 1 ∷ []) ∷ []
table_and_test = refl

-- ---- one case, and none

abbrev wide : List Slot
wide = record { offset = negsuc 3; size = 4 } ∷ record { offset = negsuc 7; size = 4 } ∷ []

abbrev short : List CoreCase → Body
short cases = low_s (function_with (7 ∷ [])) exits (stmt.Switch local_read cases None (stmt.Label 7 stmt.Nothing)) (begun_with 1)

one_case : (short (case 5 7 ∷ [])).low.pieces
    ≡ OfBlock wide (slot (negsuc 3) ∷ over op.Indir I (One 0) ∷ slot (negsuc 7) ∷ root op.Asgn I (Two 2 1) sym.Nothing
    ∷ over op.Indir I (One 2) ∷ constant (pos 5) ∷ root op.Eq I (Two 3 4) (sym.Label 0) ∷ [])
    ∷ OfBlock wide (jump 1) ∷ OfBlock wide [] ∷ Mark 0 ∷ OfBlock wide [] ∷ Mark 1 ∷ []
one_case = refl

no_case : (short []).low.pieces
    ≡ OfBlock wide (slot (negsuc 3) ∷ over op.Indir I (One 0) ∷ slot (negsuc 7) ∷ root op.Asgn I (Two 2 1) sym.Nothing
    ∷ node op.Addrg P Zero (sym.Label 1) None ∷ root op.Jump V (One 3) sym.Nothing ∷ [])
    ∷ OfBlock wide [] ∷ Mark 0 ∷ OfBlock wide [] ∷ Mark 1 ∷ []
no_case = refl

-- ---- a table: below its first number and above its last one it is left

table_jump : (short (case 5 7 ∷ case 6 7 ∷ [])).low.pieces
    ≡ OfBlock wide (slot (negsuc 3) ∷ over op.Indir I (One 0) ∷ slot (negsuc 7) ∷ root op.Asgn I (Two 2 1) sym.Nothing
    ∷ over op.Indir I (One 2) ∷ constant (pos 5) ∷ root op.Lt I (Two 3 4) (sym.Label 1) ∷ [])
    ∷ OfBlock wide (slot (negsuc 7) ∷ over op.Indir I (One 0) ∷ constant (pos 6) ∷ root op.Gt I (Two 1 2) (sym.Label 1) ∷ [])
    ∷ OfBlock wide (node op.Addrg P Zero (sym.Global 5 (pos 0)) None ∷ slot (negsuc 7) ∷ over op.Indir I (One 1) ∷ constant (pos 5) ∷ over op.Sub I (Two 2 3)
    ∷ constant (pos 2) ∷ over op.Lsh I (Two 4 5) ∷ over op.Add P (Two 0 6) ∷ over op.Indir P (One 7) ∷ root op.Jump V (One 8) sym.Nothing ∷ [])
    ∷ OfBlock wide [] ∷ Mark 0 ∷ OfBlock wide [] ∷ Mark 1 ∷ []
table_jump = refl

-- C chooses the same
chosen_label : chosen (case 1 7 ∷ case 2 8 ∷ []) (Some 9) 2 ≡ Some 8
chosen_label = refl

chosen_default : chosen (case 1 7 ∷ case 2 8 ∷ []) (Some 9) 3 ≡ Some 9
chosen_default = refl
