-- A unit of a few small functions in C, and forests for it, written by hand.
use Rattle.std.specs.Prelude.{ℕ, zero, suc, pos, codes, Some, None, List, [], ◌∷◌}
use Rattle.lcc_base.specs.declared.order.Order.TheVariants.{Big}
use Rattle.op_forest.specs.declared.lowered.LoweredFunction.{LoweredFunction}
use Rattle.op_forest.specs.declared.op.Op.{Op}
use Rattle.op_forest.specs.declared.op.Op.TheVariants as op
use Rattle.op_forest.specs.declared.suffix.Suffix.{Suffix}
use Rattle.op_forest.specs.declared.suffix.Suffix.TheVariants.{I, P, V}
use Rattle.op_forest.specs.declared.sym.Sym.{Sym}
use Rattle.op_forest.specs.declared.sym.Sym.TheVariants as sym
use Rattle.op_forest.specs.Lowered.{LoweredUnit}
use Rattle.op_forest.specs.Nodes.{Node, Leaf, One}
use Rattle.forests.specs.Worlds.{World}
use Rattle.c_types.specs.CType.{CType, Void, basic}
use Rattle.c_meaning.specs.StmtTrees as stmt
use Rattle.c_meaning.specs.Units.{FunctionTree, UnitTree}
use Rattle.c_runs.specs.Calls.{Call}
use Rattle.c_runs.specs.Samples.{int, of_types, number, putchar, exit, act, give, defined, main}
use Rattle.c_runs.specs.Samples as sample
use Rattle.c_runs.specs.Worlds as c
use Rattle.c_agreement.specs.Pairs.{CallPair, pair_of}

-- ---- C

abbrev void : CType
void = basic Void

-- int main() { return 3; }
abbrev pub three : FunctionTree
three = main [] (give (number 1 3) ∷ [])

-- void write(void) { putchar(65); }
abbrev pub writing : FunctionTree
writing = defined (codes "write") (of_types void []) 0 [] (act (putchar 2 (number 2 65)) ∷ [])

-- void leave(void) { exit(2); }
abbrev leaving : FunctionTree
leaving = defined (codes "leave") (of_types void []) 0 [] (act (exit 3 (number 3 2)) ∷ [])

-- void turn(void) { for (;;) ; }
abbrev turning : FunctionTree
turning = defined (codes "turn") (of_types void []) 0 [] (stmt.For None None None stmt.Nothing ∷ [])

abbrev pub source : UnitTree
source = sample.unit (three ∷ writing ∷ leaving ∷ turning ∷ []) [] []

-- ---- forests; names 4 to 6 are the built-in functions

abbrev node : Op → Suffix → Node → Node
node o x a = One (record { operator = record { op = o; suffix = x }; sym = sym.Nothing; value = None }) a

abbrev constant : ℕ → Node
constant n = Leaf (record { operator = record { op = op.Cnst; suffix = I }; sym = sym.Nothing; value = Some (pos n) })

abbrev address : Sym → Node
address x = Leaf (record { operator = record { op = op.Addrg; suffix = P }; sym = x; value = None })

abbrev label : ℕ → Node
label l = Leaf (record { operator = record { op = op.Label; suffix = V }; sym = sym.Label l; value = None })

abbrev pub gives_back : ℕ → List Node
gives_back n = node op.Ret I (constant n) ∷ []

abbrev pub calls_with : ℕ → ℕ → List Node
calls_with name n = node op.Arg I (constant n) ∷ node op.Call V (address (sym.Global name (pos 0))) ∷ []

abbrev pub turns : List Node
turns = label 1 ∷ node op.Jump V (address (sym.Label 1)) ∷ []

abbrev function : ℕ → List Node → LoweredFunction
function name roots = record { name = name; words = 0; forest = record { roots = roots; frame = [] } }

-- of these roots
abbrev pub lowered_of : List Node → List Node → List Node → List Node → LoweredUnit
lowered_of first second third fourth = record {
  functions = function 0 first ∷ function 1 second ∷ function 2 third ∷ function 3 fourth ∷ [];
  objects = [];
  names = codes "main" ∷ codes "write" ∷ codes "leave" ∷ codes "turn" ∷ codes "putchar" ∷ codes "getchar" ∷ codes "exit" ∷ [];
  order = Big;
}

abbrev pub target : LoweredUnit
target = lowered_of (gives_back 3) (calls_with 4 65) (calls_with 6 2) turns

-- ---- a call where no object lives

abbrev pub old : c.World
old = record { storage = record { objects = []; made = 0 }; locals = []; input = []; trace = [] }

abbrev pub new : World
new = record { objects = []; made = 0; arguments = []; input = []; trace = [] }

abbrev given_by : ℕ → CType
given_by zero = int
given_by (suc n) = void

abbrev pub call_to : ℕ → Call
call_to n = record { function = n; arguments = []; of = given_by n; result = None; line = 9; world = old }

abbrev pub pair_at : LoweredUnit → ℕ → CallPair
pair_at l n = pair_of source l (call_to n) (λ m. None) new
