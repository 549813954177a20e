-- Functions: their frames, and whole bodies.
use Rattle.std.specs.Prelude.{◌≡◌, refl, ℕ, pos, negsuc, codes, false, Some, None, List, [], ◌∷◌}
use Rattle.lcc_base.specs.declared.order.Order.TheVariants.{Little}
use Rattle.op_forest.specs.declared.op.Op.TheVariants as op
use Rattle.op_forest.specs.declared.suffix.Suffix.TheVariants.{C, I, P, B, V}
use Rattle.op_forest.specs.declared.sym.Sym.TheVariants as sym
use Rattle.c_types.specs.CType.{CType, Plain, Array, Char, Void, Function, Open, basic}
use Rattle.c_meaning.specs.declared.core_expr.CoreKind.TheVariants as kind
use Rattle.c_meaning.specs.CoreTrees.{Core, none}
use Rattle.c_meaning.specs.StmtTrees as stmt
use Rattle.c_meaning.specs.Units.{FunctionTree, UnitTree}
use Rattle.dag_forest.specs.declared.kids.Kids.TheVariants.{Zero, One, Two}
use Rattle.piece_runs.specs.Pieces.{OfBlock}
use Rattle.lowered_statements.specs.Bodies.{Body}
use Rattle.lowered_statements.specs.FunctionBodies.{low_f}
use Rattle.lowered_statements.specs.Layouts.{layout, words_of}
use Rattle.lowered_statements.specs.Statements.{StmtTree}
use Rattle.lowered_statements.proofs.examples.Samples.{int, unit_with, number, all, over, slot, constant, root, node}

abbrev giving : CType → CType
giving result = Plain 0 (Function result Open)

abbrev function : CType → ℕ → List CType → StmtTree → FunctionTree
function result parameters locals body = record { name = codes "f"; of = giving result; parameters = parameters; locals = locals; body = body }

-- ---- int main(void) { return 3; }: the end gives 0

abbrev three : FunctionTree
three = function int 0 [] (stmt.Return (Some (number 3)))

abbrev three_lowered : Body
three_lowered = low_f (unit_with (three ∷ [])) Little 0 2 three

three_pieces : three_lowered.low.pieces
    ≡ OfBlock [] (constant (pos 3) ∷ root op.Ret I (One 0) sym.Nothing ∷ constant (pos 0) ∷ root op.Ret I (One 1) sym.Nothing ∷ []) ∷ []
three_pieces = refl

-- ---- void g(c, i) char c; int i; { char a[6] = "ab"; return; }: the narrow parameter has a slot, and the array two words

abbrev char : CType
char = basic Char

abbrev text : UnitTree
text = record { functions = []; objects = []; texts = codes "ab" ∷ []; tags = []; main = 0 }

abbrev named : FunctionTree
named =
    function (basic Void) 2 (char ∷ int ∷ Array char (Some 6) ∷ [])
    (stmt.Block 2 1 (all (
    stmt.Initialise 2 false (record { of = Array char (Some 6); offset = 0; first = 0; width = 0; value = Core (kind.Text 0) (Array char (Some 3)) 1 none } ∷ [])
    ∷ stmt.Return None ∷ [])))

named_places : (layout [] named).places ≡ negsuc 3 ∷ pos 4 ∷ negsuc 11 ∷ []
named_places = refl

named_slots : (layout [] named).slots ≡ record { offset = negsuc 3; size = 4 } ∷ record { offset = negsuc 11; size = 8 } ∷ []
named_slots = refl

named_words : words_of named ≡ 2
named_words = refl

-- three bytes of the text, and three zeros
named_pieces : (low_f text Little 1 2 named).low.pieces
    ≡ OfBlock (layout [] named).slots (
    slot (negsuc 3) ∷ node op.Addrf P Zero sym.Nothing (Some (pos 0)) ∷ over op.Indir I (One 1) ∷ over op.Cvi C (One 2) ∷ root op.Asgn C (Two 0 3) sym.Nothing
    ∷ slot (negsuc 11) ∷ node op.Addrg P Zero (sym.Global 0 (pos 0)) None ∷ over op.Indir B (One 5) ∷ root op.Asgn B (Two 4 6) (sym.Block 3 1)
    ∷ slot (negsuc 8) ∷ constant (pos 0) ∷ over op.Cvi C (One 8) ∷ root op.Asgn C (Two 7 9) sym.Nothing
    ∷ slot (negsuc 7) ∷ root op.Asgn C (Two 10 9) sym.Nothing ∷ slot (negsuc 6) ∷ root op.Asgn C (Two 11 9) sym.Nothing
    ∷ root op.Ret V Zero sym.Nothing ∷ []) ∷ []
named_pieces = refl
