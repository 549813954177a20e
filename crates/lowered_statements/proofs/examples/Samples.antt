-- Small statements of C as checked trees, where they stand, and nodes and roots of blocks.
use Rattle.std.specs.Prelude.{ℕ, ℤ, negsuc, true, false, Option, Some, None, List, [], ◌∷◌}
use Rattle.lcc_base.specs.declared.order.Order.TheVariants.{Little}
use Rattle.op_forest.specs.declared.frame.Slot.{Slot}
use Rattle.op_forest.specs.declared.op.Op.{Op}
use Rattle.op_forest.specs.declared.op.Op.TheVariants as op
use Rattle.op_forest.specs.declared.suffix.Suffix.{Suffix}
use Rattle.op_forest.specs.declared.suffix.Suffix.TheVariants.{I, P, V}
use Rattle.op_forest.specs.declared.sym.Sym.{Sym}
use Rattle.op_forest.specs.declared.sym.Sym.TheVariants as sym
use Rattle.c_types.specs.CType.{CType, Int, basic}
use Rattle.c_meaning.specs.declared.core_expr.CoreKind.TheVariants as kind
use Rattle.c_meaning.specs.declared.core_stmt.CoreCase.{CoreCase}
use Rattle.c_meaning.specs.CoreTrees.{Core, none, one}
use Rattle.c_meaning.specs.StmtTrees.{StmtsOf}
use Rattle.c_meaning.specs.StmtTrees as stmt
use Rattle.c_meaning.specs.Units.{FunctionTree, UnitTree}
use Rattle.c_meaning.specs.Values.{CoreTree}
use Rattle.dag_forest.specs.declared.entry.Entry.{Entry}
use Rattle.dag_forest.specs.declared.entry.Entry.TheVariants.{Value, Root}
use Rattle.dag_forest.specs.declared.kids.Kids.{Kids}
use Rattle.dag_forest.specs.declared.kids.Kids.TheVariants.{Zero, One}
use Rattle.dag_forest.specs.Entries.{parts_of}
use Rattle.lowered_statements.specs.Bodies.{Body}
use Rattle.lowered_statements.specs.Functions.{Function, Exits}
use Rattle.lowered_statements.specs.Statements.{StmtTree, StmtTrees}

-- ---- where

abbrev pub int : CType
int = basic Int

abbrev pub unit_with : List FunctionTree → UnitTree
unit_with fs = record { functions = fs; objects = []; texts = []; tags = []; main = 0 }

-- a local of four bytes below the frame's top, and the labels of the program
abbrev pub function_with : List ℕ → Function
function_with labels =
    record {
      context = record { unit = unit_with []; order = Little; parameters = 0; places = negsuc 3 ∷ [] };
      locals = int ∷ [];
      result = int;
      gives_zero = true;
      labels = labels;
      tables = 5;
    }

abbrev pub slots : List Slot
slots = record { offset = negsuc 3; size = 4 } ∷ []

abbrev pub begun_with : ℕ → Body
begun_with labels = record { low = record { pieces = []; entries = []; slots = slots; labels = labels }; tables = [] }

abbrev pub exits : Exits
exits = record { breaks = 0; continues = 0 }

-- ---- checked statements

abbrev pub number : ℕ → CoreTree
number n = Core (kind.Number n) int 1 none

-- the local read
abbrev pub local_read : CoreTree
local_read = Core kind.Read int 1 (one (Core (kind.Local 0 false) int 1 none))

abbrev pub all : List StmtTree → StmtTrees
all [] = stmt.NoStmt
all (t ∷ ts) = stmt.Stmts t (all ts)

abbrev pub case : ℕ → ℕ → CoreCase
case number label = record { number = number; label = label }

-- ---- nodes and roots

abbrev pub node : Op → Suffix → Kids → Sym → Option ℤ → Entry
node o s kids x z = Value (parts_of (record { op = o; suffix = s }) kids x z)

abbrev pub over : Op → Suffix → Kids → Entry
over o s kids = node o s kids sym.Nothing None

abbrev pub slot : ℤ → Entry
slot z = node op.Addrl P Zero sym.Nothing (Some z)

abbrev pub constant : ℤ → Entry
constant z = node op.Cnst I Zero sym.Nothing (Some z)

abbrev pub root : Op → Suffix → Kids → Sym → Entry
root o s kids x = Root (parts_of (record { op = o; suffix = s }) kids x None)

-- a block that jumps to a label
abbrev pub jump : ℕ → List Entry
jump l = node op.Addrg P Zero (sym.Label l) None ∷ root op.Jump V (One 0) sym.Nothing ∷ []
