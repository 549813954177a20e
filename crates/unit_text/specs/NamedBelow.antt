-- Trees without labels that name none but the first names of a unit, as those that tests are made of.
use Rattle.std.specs.Prelude.{ℕ, ◌<◌}
use Rattle.op_forest.specs.declared.sym.Sym.{Sym}
use Rattle.op_forest.specs.declared.sym.Sym.TheVariants as sym
use Rattle.op_forest.specs.Nodes.{Node, head_of}
use Rattle.op_forest.specs.EachNode.{AtEachNode}

-- the symbol is one of the first n names, or it names nothing
abbrev pub IsBelow : ℕ → Sym → Type 0
IsBelow n (sym.Global name offset) = name < n
IsBelow n (sym.Label label) = ⊥
IsBelow n x = Unit {0}

abbrev pub IsNamedBelow : ℕ → Node → Type 0
IsNamedBelow n = AtEachNode (λ t. IsBelow n (head_of t).sym)
