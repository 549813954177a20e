-- How many nodes give a value, and how many nodes there are.
use Rattle.std.specs.Prelude.{◌≡◌, ◌+◌, ◌≤◌, Bool, true, false, List, [], ◌∷◌}
use Rattle.std.specs.List.{sum_by}
use Rattle.std.proofs.Common.{arith}
use Rattle.std.proofs.lemmas.List.Sums.{sum_by-cons}
use Rattle.op_forest.specs.Nodes.{Node, Leaf, One, Two, nodes, gives, one_where, value_nodes}

one_at_most : (b : Bool) → one_where b ≤ 1
one_at_most true = omega arith
one_at_most false = omega arith

pub value_nodes_few : (t : Node) → value_nodes t ≤ nodes t
value_nodes_few (Leaf h) = one_at_most (gives h)
value_nodes_few (One h a) =
    let i = value_nodes_few a in
    let own = one_at_most (gives h) in
    omega (arith, i, own)
value_nodes_few (Two h a b) =
    let i = value_nodes_few a in
    let j = value_nodes_few b in
    let own = one_at_most (gives h) in
    omega (arith, i, j, own)

pub value_nodes_few_in : (ts : List Node) → sum_by value_nodes ts ≤ sum_by nodes ts
value_nodes_few_in [] = omega arith
value_nodes_few_in (t ∷ ts) =
    let i : sum_by value_nodes ts ≤ sum_by nodes ts = value_nodes_few_in ts in
    let a : sum_by value_nodes (t ∷ ts) ≡ value_nodes t + sum_by value_nodes ts = sum_by-cons value_nodes t ts in
    let b : sum_by nodes (t ∷ ts) ≡ nodes t + sum_by nodes ts = sum_by-cons nodes t ts in
    let own = value_nodes_few t in
    omega (arith, i, a, b, own)
