-- Small expressions of C as checked trees, and nodes and roots of blocks.
use Rattle.std.specs.Prelude.{ℕ, ℤ, pos, negsuc, false, Option, Some, None, [], ◌∷◌}
use Rattle.lcc_base.specs.declared.order.Order.TheVariants.{Little}
use Rattle.op_forest.specs.declared.op.Op.{Op}
use Rattle.op_forest.specs.declared.op.Op.TheVariants as op
use Rattle.op_forest.specs.declared.suffix.Suffix.{Suffix}
use Rattle.op_forest.specs.declared.suffix.Suffix.TheVariants.{I, P}
use Rattle.op_forest.specs.declared.sym.Sym.{Sym}
use Rattle.op_forest.specs.declared.sym.Sym.TheVariants as sym
use Rattle.c_types.specs.CType.{CType, Plain, Structure, Int, basic}
use Rattle.c_types.specs.Layout.{MemberType, Tag}
use Rattle.c_meaning.specs.declared.core_expr.CoreKind.{CoreKind}
use Rattle.c_meaning.specs.declared.core_expr.CoreKind.TheVariants as kind
use Rattle.c_meaning.specs.CoreTrees.{Core, none, one, two}
use Rattle.c_meaning.specs.Units.{UnitTree}
use Rattle.c_meaning.specs.Values.{CoreTree, CoreTrees}
use Rattle.dag_forest.specs.declared.entry.Entry.{Entry}
use Rattle.dag_forest.specs.declared.entry.Entry.TheVariants.{Value, Root}
use Rattle.dag_forest.specs.declared.kids.Kids.{Kids}
use Rattle.dag_forest.specs.declared.kids.Kids.TheVariants.{Zero, Two}
use Rattle.dag_forest.specs.Entries.{parts_of}
use Rattle.c_rows_agree.specs.Typed.{Typed}
use Rattle.c_rows_agree.specs.Templates.{Given}
use Rattle.lowered_forms.specs.Contexts.{Context}
use Rattle.lowered_forms.specs.Lows.{Low}

-- ---- where

-- a structure of two numbers of four bytes
abbrev pub member_type : Option ℕ → MemberType
member_type width = record { name = []; of = basic Int; width = width }

abbrev pub pair_tag : Tag
pair_tag = record { number = 0; is_union = false; members = member_type None ∷ member_type None ∷ [] }

abbrev pub unit : UnitTree
unit = record { functions = []; objects = []; texts = []; tags = pair_tag ∷ []; main = 0 }

-- two locals of four bytes below the frame's top
abbrev pub context : Context
context = record { unit = unit; order = Little; parameters = 0; places = negsuc 3 ∷ negsuc 7 ∷ [] }

abbrev pub begun : Low
begun = record { pieces = []; entries = []; slots = record { offset = negsuc 3; size = 4 } ∷ record { offset = negsuc 7; size = 4 } ∷ []; labels = 0 }

-- ---- checked expressions

abbrev pub int : CType
int = basic Int

abbrev pub pair : CType
pair = Plain 0 (Structure 0)

abbrev pub tree : CoreKind → CType → CoreTrees → CoreTree
tree what of kids = Core what of 1 kids

-- the objects with the names 0 and 1 in the lowered unit
abbrev pub x : CoreTree
x = tree (kind.Object 0) int none

abbrev pub y : CoreTree
y = tree (kind.Object 1) int none

abbrev pub z : CoreTree
z = tree (kind.Object 2) int none

-- the first local
abbrev pub i : CoreTree
i = tree (kind.Local 0 false) int none

abbrev pub read_int : CoreTree → CoreTree
read_int place = tree kind.Read int (one place)

abbrev pub number_of : ℕ → CoreTree
number_of n = tree (kind.Number n) int none

abbrev pub assign : CoreTree → CoreTree → CoreTree
assign place value = tree kind.Assign int (two place value)

-- ---- nodes and roots

abbrev pub node : Op → Suffix → Kids → Sym → Option ℤ → Entry
node o s kids x z = Value (parts_of (record { op = o; suffix = s }) kids x z)

abbrev pub over : Op → Suffix → Kids → Entry
over o s kids = node o s kids sym.Nothing None

abbrev pub address : ℕ → Entry
address n = node op.Addrg P Zero (sym.Global n (pos 0)) None

abbrev pub slot : ℤ → Entry
slot z = node op.Addrl P Zero sym.Nothing (Some z)

abbrev pub constant : ℤ → Entry
constant z = node op.Cnst I Zero sym.Nothing (Some z)

abbrev pub root_with : Op → Suffix → Kids → Sym → Entry
root_with o s kids x = Root (parts_of (record { op = o; suffix = s }) kids x None)

abbrev pub root : Op → Suffix → Kids → Entry
root o s kids = root_with o s kids sym.Nothing

-- a jump by a comparison with the constant of this node
abbrev pub jump : Op → ℕ → ℕ → ℕ → Entry
jump o a b l = root_with o I (Two a b) (sym.Label l)

abbrev pub given : ℕ → Suffix → Typed
given n s = record { tree = Given n; suffix = s }
