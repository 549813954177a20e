-- The unit of a program keeps what a lowered unit keeps.
use Rattle.std.specs.Prelude.{◌≡◌, ℕ, ◌<◌, List, [], ◌∷◌, ◌++◌, length, flat_map, All}
use Rattle.std.proofs.Common.{arith}
use Rattle.std.proofs.lemmas.List.Elements.{All-nil, All-cons}
use Rattle.first_form.specs.Expression.{MExpression, Constant, Negated, Combined, Enclosed}
use Rattle.first_form.specs.FirstProgram.{MProgram}
use Rattle.lcc_base.specs.declared.order.Order.TheVariants.{Big}
use Rattle.op_forest.specs.declared.lowered.LoweredFunction.{LoweredFunction}
use Rattle.op_forest.specs.declared.lowered.LoweredObject.{LoweredObject}
use Rattle.op_forest.specs.declared.op.Op.TheVariants as op
use Rattle.op_forest.specs.Nodes.{Node, head_of, One}
use Rattle.op_forest.specs.EachNode.{AtEachNode}
use Rattle.op_forest.specs.Lowered.{LoweredUnit, IsKnown, IsFunctionOf, IsLowered}
use Rattle.op_forest.proofs.lemmas.UnitOfMain as main
use Rattle.first_forest.specs.FirstForest.{expression_node, int_head, putchar_node, print_roots, return_root, roots_of, unit_names, main_of, unit_of}

-- what the symbols of a tree name is there
abbrev IsKnownIn : LoweredUnit → List Node → Node → Type 0
IsKnownIn u roots = AtEachNode (λ t. IsKnown u roots (head_of t).sym)

node_known : (u : LoweredUnit) (roots : List Node) (e : MExpression) → IsKnownIn u roots (expression_node e)
node_known u roots (Constant n) = tt
node_known u roots (Negated e) = (tt, node_known u roots e)
node_known u roots (Combined o a b) = (tt, node_known u roots a, node_known u roots b)
node_known u roots (Enclosed e) = node_known u roots e

pub each_root : (P : Node → Type 0) (es : List MExpression) (r : MExpression) → ((e : MExpression) → P (One (int_head op.Arg) (expression_node e))) → P (One (int_head op.Call) putchar_node) → P (return_root r) → All P (flat_map print_roots es ++ return_root r ∷ [])
each_root P [] r a c l = All-cons P (return_root r) [] l (All-nil P)
each_root P (e ∷ es) r a c l =
    All-cons P (One (int_head op.Arg) (expression_node e)) (One (int_head op.Call) putchar_node ∷ (flat_map print_roots es ++ return_root r ∷ [])) (a e)
    (All-cons P (One (int_head op.Call) putchar_node) (flat_map print_roots es ++ return_root r ∷ []) c (each_root P es r a c l))

roots_known : (u : LoweredUnit) (roots : List Node) (es : List MExpression) (r : MExpression) → 1 < length u.names → All (IsKnownIn u roots) (flat_map print_roots es ++ return_root r ∷ [])
roots_known u roots es r h = each_root (IsKnownIn u roots) es r (λ e. (tt, node_known u roots e)) (tt, h) (tt, node_known u roots r)

function_of_unit : (p : MProgram) → IsFunctionOf (unit_of p) (main_of p)
function_of_unit p = record {
  name = (let l : 0 < 2 = omega arith in l);
  symbols = roots_known (unit_of p) (roots_of p) p.prints p.result (let l : 1 < 2 = omega arith in l);
}

pub lowered : (p : MProgram) (functions : List LoweredFunction) (objects : List LoweredObject) (names : List (List ℕ)) → functions ≡ main_of p ∷ [] → objects ≡ [] → names ≡ unit_names → IsLowered (record { functions = functions; objects = objects; names = names; order = Big })
lowered p functions objects names f o n = main.lowered (main_of p) Big functions objects names (function_of_unit p) f o n
