-- Words for small programs, by which the examples are written.
use Rattle.std.specs.Prelude.{ℕ, codes, true, false, Some, None, List, [], ◌∷◌}
use Rattle.lcc_base.specs.declared.order.Order.TheVariants.{Little}
use Rattle.objects.specs.declared.operators.Binary.{Binary}
use Rattle.objects.specs.declared.operators.Comparison.{Comparison}
use Rattle.c_types.specs.CType.{CType, Plain, Array, Void, Char, Int, Function, Structure, Parameters, Open, Listed, CTypes, NoType, And, basic}
use Rattle.c_types.specs.Layout.{MemberType, Tag}
use Rattle.c_meaning.specs.declared.built_in.BuiltIn.{BuiltIn}
use Rattle.c_meaning.specs.declared.built_in.BuiltIn.TheVariants.{Putchar, Getchar, Exit}
use Rattle.c_meaning.specs.declared.core_expr.Conversion.TheVariants as to
use Rattle.c_meaning.specs.declared.core_expr.CoreKind.TheVariants as kind
use Rattle.c_meaning.specs.CoreTrees.{Core, Cores, cores_of, none, one, two, type_of}
use Rattle.c_meaning.specs.Scalars.{scalar_of}
use Rattle.c_meaning.specs.StmtTrees.{FilledOf, StmtOf, StmtsOf}
use Rattle.c_meaning.specs.StmtTrees as stmt
use Rattle.c_meaning.specs.Types.{pointer_to, target}
use Rattle.c_meaning.specs.Units.{FunctionTree, ObjectTree, UnitTree}
use Rattle.c_meaning.specs.Values.{CoreTree}
use Rattle.c_runs.specs.Outcomes.{How}
use Rattle.c_runs.specs.Run.{run_tree, output}

-- ---- types

abbrev pub int : CType
int = basic Int

abbrev pub char : CType
char = basic Char

abbrev pub array : CType → ℕ → CType
array of n = Array of (Some n)

abbrev pub function : CType → Parameters → CType
function result parameters = Plain 0 (Function result parameters)

abbrev pub listed : List CType → CTypes
listed [] = NoType
listed (t ∷ ts) = And t (listed ts)

abbrev pub of_types : CType → List CType → CType
of_types result ts = function result (Listed (listed ts) false)

-- struct s { int m; int n; };
abbrev pub pair : CType
pair = Plain 0 (Structure 0)

abbrev member : List ℕ → CType → MemberType
member name of = record { name = name; of = of; width = None }

abbrev pub pair_tag : Tag
pair_tag = record { number = 0; is_union = false; members = member (codes "m") int ∷ member (codes "n") int ∷ [] }

-- ---- expressions, at a line

abbrev pub number : ℕ → ℕ → CoreTree
number line n = Core (kind.Number n) int line none

abbrev pub local : ℕ → CType → ℕ → CoreTree
local line of n = Core (kind.Local n false) of line none

abbrev pub object : ℕ → CType → ℕ → CoreTree
object line of n = Core (kind.Object n) of line none

abbrev pub read : ℕ → CoreTree → CoreTree
read line a = Core kind.Read (type_of a) line (one a)

-- an int local read
abbrev pub var : ℕ → ℕ → CoreTree
var line n = read line (local line int n)

abbrev pub set : ℕ → CoreTree → CoreTree → CoreTree
set line a v = Core kind.Assign (type_of a) line (two a v)

-- an int local set
abbrev pub put : ℕ → ℕ → ℕ → CoreTree
put line n v = set line (local line int n) (number line v)

abbrev pub address : ℕ → CoreTree → CoreTree
address line a = Core kind.Address (pointer_to (type_of a)) line (one a)

abbrev pub first : ℕ → CType → CoreTree → CoreTree
first line of a = Core kind.First (pointer_to of) line (one a)

abbrev pub pointed : ℕ → CoreTree → CoreTree
pointed line p = Core kind.Pointed (target (type_of p)) line (one p)

abbrev pub part : ℕ → CType → ℕ → CoreTree → CoreTree
part line of offset a = Core (kind.Member offset 0 0) of line (one a)

-- so many elements of this size behind a pointer
abbrev pub moved : ℕ → ℕ → CoreTree → CoreTree → CoreTree
moved line size p i = Core (kind.Move size false) (type_of p) line (two p i)

-- a pointer, or an integer, as another type
abbrev pub as_pointer : ℕ → CType → CoreTree → CoreTree
as_pointer line of p = Core (kind.Convert to.Pointer) (pointer_to of) line (one p)

abbrev pub as_integer : ℕ → CType → CoreTree → CoreTree
as_integer line of v = Core (kind.Convert (to.Integer (scalar_of of))) of line (one v)

abbrev pub as_void : ℕ → CoreTree → CoreTree
as_void line v = Core (kind.Convert to.Void) (basic Void) line (one v)

-- on signed numbers
abbrev pub binary : ℕ → Binary → CoreTree → CoreTree → CoreTree
binary line op a b = Core (kind.Binary op true) int line (two a b)

abbrev pub compare : ℕ → Comparison → CoreTree → CoreTree → CoreTree
compare line op a b = Core (kind.Compare op true) int line (two a b)

abbrev pub comma : ℕ → CoreTree → CoreTree → CoreTree
comma line a b = Core kind.Comma (type_of b) line (two a b)

-- a call of a function of the unit, by the type under which it is called; its copies of structures begin at a local
abbrev pub call_at : ℕ → ℕ → CType → CType → ℕ → List CoreTree → CoreTree
call_at copies line of result n arguments = Core (kind.Call copies) result line (Cores (address line (Core (kind.Function n) of line none)) (cores_of arguments))

-- one that passes and gives no structure
abbrev pub call_of : ℕ → CType → CType → ℕ → List CoreTree → CoreTree
call_of line of result n arguments = call_at 0 line of result n arguments

-- calls of the built-in functions
abbrev pub built_in : ℕ → BuiltIn → CType → List CoreTree → CoreTree
built_in line b of arguments = Core (kind.Call 0) int line (Cores (address line (Core (kind.BuiltIn b) of line none)) (cores_of arguments))

abbrev pub putchar : ℕ → CoreTree → CoreTree
putchar line v = built_in line Putchar (of_types int (int ∷ [])) (v ∷ [])

abbrev pub getchar : ℕ → CoreTree
getchar line = built_in line Getchar (of_types int []) []

abbrev pub exit : ℕ → CoreTree → CoreTree
exit line v = built_in line Exit (of_types int (int ∷ [])) (v ∷ [])

-- ---- statements

abbrev pub statements : List (StmtOf CType) → StmtsOf CType
statements [] = stmt.NoStmt
statements (s ∷ ss) = stmt.Stmts s (statements ss)

abbrev pub block : List (StmtOf CType) → StmtOf CType
block ss = stmt.Block 0 0 (statements ss)

abbrev pub act : CoreTree → StmtOf CType
act e = stmt.Expression e

abbrev pub give : CoreTree → StmtOf CType
give e = stmt.Return (Some e)

-- what an initialiser stores in a place at an offset
abbrev pub filling : CType → ℕ → CoreTree → FilledOf CType
filling of offset v = record { of = of; offset = offset; first = 0; width = 0; value = v }

-- ---- units

abbrev pub defined : List ℕ → CType → ℕ → List CType → List (StmtOf CType) → FunctionTree
defined name of parameters locals ss = record { name = name; of = of; parameters = parameters; locals = locals; body = block ss }

-- int main() with these locals
abbrev pub main : List CType → List (StmtOf CType) → FunctionTree
main locals ss = defined (codes "main") (function int Open) 0 locals ss

abbrev pub static : List ℕ → CType → List (FilledOf CType) → ObjectTree
static name of places = record { name = name; of = of; line = 1; constant = false; places = places }

abbrev pub unit : List FunctionTree → List ObjectTree → List (List ℕ) → UnitTree
unit functions objects texts = record { functions = functions; objects = objects; texts = texts; tags = pair_tag ∷ []; main = 0 }

abbrev pub program : List CType → List (StmtOf CType) → UnitTree
program locals ss = unit (main locals ss ∷ []) [] []

-- ---- runs with so many turns, without input

abbrev pub how_of : UnitTree → ℕ → How
how_of u k = (run_tree u Little [] k).how

abbrev pub output_of : UnitTree → ℕ → List ℕ
output_of u k = output (run_tree u Little [] k)
