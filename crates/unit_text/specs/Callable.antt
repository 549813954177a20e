-- Units of which a program can be made so far: each name that a forest names is a function of the unit, or a built-in
-- function.
use Rattle.std.specs.Prelude.{◌≡◌, ◌⊎◌, ℕ, Some, All, Any}
use Rattle.op_forest.specs.declared.sym.Sym.{Sym}
use Rattle.op_forest.specs.declared.sym.Sym.TheVariants as sym
use Rattle.op_forest.specs.Callees.{BuiltIn}
use Rattle.op_forest.specs.Nodes.{head_of}
use Rattle.op_forest.specs.EachNode.{AtEachNode}
use Rattle.op_forest.specs.Lowered.{LoweredUnit}
use Rattle.op_forest.specs.Units.{built_in_named}

-- the name is a function's or a built-in function's
abbrev pub IsCallable : LoweredUnit → ℕ → Type 0
IsCallable u name = Any (λ f. f.name ≡ name) u.functions ⊎ ((b : BuiltIn) × (built_in_named u name ≡ Some b))

abbrev pub HasCallable : LoweredUnit → Sym → Type 0
HasCallable u (sym.Global name offset) = IsCallable u name
HasCallable u x = Unit {0}

abbrev pub AreCallable : LoweredUnit → Type 0
AreCallable u = All (λ f. All (AtEachNode (λ t. HasCallable u (head_of t).sym)) f.forest.roots) u.functions
