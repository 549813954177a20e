-- How deep rules have to be nested at a tree, where there are q nonterminals: each of them once at each node of the
-- longest way down.
use Rattle.std.specs.Prelude.{ℕ, ◌+◌, max}
use Rattle.lburg_model.specs.Tree.{MTree, TLeaf, TOne, TTwo}

abbrev pub room : ℕ → MTree → ℕ
room q (TLeaf op v) = q
room q (TOne op v a) = room q a + q
room q (TTwo op v a b) = max (room q a) (room q b) + q
