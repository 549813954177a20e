-- Locals that a string, a list and a structure initialise.
use Rattle.std.specs.Prelude.{◌≡◌, refl, ℕ, ℤ, pos, negsuc, true, false, Some, None, List, [], ◌∷◌, length}
use Rattle.lcc_base.specs.declared.order.Order.TheVariants.{Little}
use Rattle.op_forest.specs.declared.frame.Slot.{Slot}
use Rattle.op_forest.specs.declared.op.Op.TheVariants as op
use Rattle.op_forest.specs.declared.suffix.Suffix.TheVariants.{B, C, I, P}
use Rattle.op_forest.specs.declared.sym.Sym.TheVariants as sym
use Rattle.dag_forest.specs.declared.kids.Kids.TheVariants.{Zero, One, Two}
use Rattle.c_types.specs.CType.{CType}
use Rattle.c_meaning.specs.declared.core_expr.CoreKind.TheVariants as kind
use Rattle.c_meaning.specs.CoreTrees.{Core, none}
use Rattle.c_meaning.specs.StmtTrees.{FilledOf}
use Rattle.c_meaning.specs.Units.{UnitTree}
use Rattle.c_meaning.specs.Values.{CoreTree}
use Rattle.c_runs.specs.Samples as sample
use Rattle.lowered_forms.specs.Lows.{Low}
use Rattle.lowered_statements.specs.Functions.{Function}
use Rattle.lowered_statements.specs.Initialisers.{initialised}
use Rattle.lowered_statements.proofs.examples.Samples.{number, node, over, slot, constant, root}

-- the text "ab", and the structure of the samples
abbrev source : UnitTree
source = record { functions = []; objects = []; texts = (97 ∷ 98 ∷ []) ∷ []; tags = sample.pair_tag ∷ []; main = 0 }

-- a function with these locals
abbrev function : List CType → List ℤ → Function
function locals places = record { context = record { unit = source; order = Little; parameters = 0; places = places }; locals = locals; result = sample.int; gives_zero = false; labels = []; tables = 0 }

abbrev start : List Slot → Low
start slots = record { pieces = []; entries = []; slots = slots; labels = 0 }

-- ---- char s[4] = "ab": three bytes are copied, and one becomes zero

abbrev text : FilledOf CType
text = sample.filling (sample.array sample.char 4) 0 (Core (kind.Text 0) (sample.array sample.char 3) 1 none)

spelled : (initialised (function (sample.array sample.char 4 ∷ []) (negsuc 3 ∷ [])) 0 false (text ∷ []) (start (record { offset = negsuc 3; size = 4 } ∷ []))).entries
    ≡ slot (negsuc 3) ∷ node op.Addrg P Zero (sym.Global 0 (pos 0)) None ∷ over op.Indir B (One 1) ∷ root op.Asgn B (Two 0 2) (sym.Block 3 1)
    ∷ slot (negsuc 0) ∷ constant (pos 0) ∷ over op.Cvi C (One 4) ∷ root op.Asgn C (Two 3 5) sym.Nothing ∷ []
spelled = refl

-- ---- int a[8] = { 1 }: eight words become zero by a loop, and then the first one gets its value

abbrev listed : Low
listed = initialised (function (sample.array sample.int 8 ∷ []) (negsuc 31 ∷ [])) 0 true (sample.filling sample.int 0 (number 1) ∷ []) (start (record { offset = negsuc 31; size = 32 } ∷ []))

-- a block before the loop, its label, and the turn
in_turn : length listed.pieces ≡ 3
in_turn = refl

one_label : listed.labels ≡ 1
one_label = refl

valued : listed.entries ≡ slot (negsuc 31) ∷ constant (pos 1) ∷ root op.Asgn I (Two 0 1) sym.Nothing ∷ []
valued = refl
