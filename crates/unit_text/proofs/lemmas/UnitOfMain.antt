-- A unit with main alone keeps what a lowered unit keeps.
use Rattle.std.proofs.Common.{◌≡◌, ℕ, ◌<◌, ◌≤◌, List, [], ◌∷◌, length, codes, All, arith}
use Rattle.std.proofs.lemmas.List.Elements.{All-nil, All-cons, All-head, All-tail}
use Rattle.lcc_base.specs.declared.order.Order.{Order}
use Rattle.op_forest.specs.declared.sym.Sym.{Sym}
use Rattle.op_forest.specs.declared.sym.Sym.TheVariants as sym
use Rattle.op_forest.specs.declared.forest.Forest.{Forest}
use Rattle.op_forest.specs.declared.lowered.LoweredFunction.{LoweredFunction}
use Rattle.op_forest.specs.declared.lowered.LoweredObject.{LoweredObject}
use Rattle.op_forest.specs.Nodes.{Node, Leaf, One, Two, head_of}
use Rattle.op_forest.specs.EachNode.{AtEachNode}
use Rattle.op_forest.specs.Lowered.{LoweredUnit, IsKnown, IsFunctionOf, IsLowered}
use Rattle.op_forest.proofs.lemmas.UnitOfMain.{unit_of_main}
use Rattle.op_forest.proofs.lemmas.UnitOfMain as main
use Rattle.unit_text.specs.NamedBelow.{IsBelow, IsNamedBelow}

symbol_known : (u : LoweredUnit) (roots : List Node) (s : Sym) → 2 ≤ length u.names → IsBelow 2 s → IsKnown u roots s
symbol_known u roots sym.Nothing two h = tt
symbol_known u roots (sym.Global name offset) two h = omega (arith, two, h)
symbol_known u roots (sym.Label label) two h = absurd h
symbol_known u roots (sym.Block size align) two h = tt

-- what the symbols of a tree name is there
abbrev IsKnownIn : LoweredUnit → List Node → Node → Type 0
IsKnownIn u roots = AtEachNode (λ t. IsKnown u roots (head_of t).sym)

tree_known : (u : LoweredUnit) (roots : List Node) (t : Node) → 2 ≤ length u.names → IsNamedBelow 2 t → IsKnownIn u roots t
tree_known u roots (Leaf h) two n = symbol_known u roots h.sym two n
tree_known u roots (One h a) two n = (symbol_known u roots h.sym two n.0, tree_known u roots a two n.1)
tree_known u roots (Two h a b) two n = (symbol_known u roots h.sym two n.0, tree_known u roots a two n.1, tree_known u roots b two n.2)

trees_known : (u : LoweredUnit) (roots ts : List Node) → 2 ≤ length u.names → All (IsNamedBelow 2) ts → All (IsKnownIn u roots) ts
trees_known u roots [] two h = All-nil (IsKnownIn u roots)
trees_known u roots (t ∷ ts) two h =
    All-cons (IsKnownIn u roots) t ts (tree_known u roots t two (All-head (IsNamedBelow 2) t ts h)) (trees_known u roots ts two (All-tail (IsNamedBelow 2) t ts h))

abbrev main_of : Forest → LoweredFunction
main_of f = record { name = 0; words = 0; forest = f }

main_known : (f : Forest) (order : Order) → All (IsNamedBelow 2) f.roots → IsFunctionOf (unit_of_main (main_of f) order) (main_of f)
main_known f order h = record { name = (let l : 0 < 2 = omega arith in l); symbols = trees_known (unit_of_main (main_of f) order) f.roots f.roots (omega arith) h }

pub lowered : (f : Forest) (functions : List LoweredFunction) (objects : List LoweredObject) (names : List (List ℕ)) (order : Order) → All (IsNamedBelow 2) f.roots → functions ≡ record { name = 0; words = 0; forest = f } ∷ [] → objects ≡ [] → names ≡ codes "main" ∷ codes "putchar" ∷ [] → IsLowered (record { functions = functions; objects = objects; names = names; order = order })
lowered f functions objects names order h a b c = main.lowered (main_of f) order functions objects names (main_known f order h) a b c
