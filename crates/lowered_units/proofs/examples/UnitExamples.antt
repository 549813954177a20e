-- The lowered unit of `int main() { return 3; }`, and one without the function; and a table.
use Rattle.std.specs.Prelude.{◌≡◌, ℕ, pos, codes, true, Some, List, [], ◌∷◌}
use Rattle.std.proofs.Common.{refl, inl, arith}
use Rattle.lcc_base.specs.declared.order.Order.TheVariants.{Little}
use Rattle.op_forest.specs.declared.lowered.Datum.TheVariants as datum
use Rattle.op_forest.specs.declared.lowered.LoweredFunction.{LoweredFunction}
use Rattle.op_forest.specs.declared.op.Op.TheVariants as op
use Rattle.op_forest.specs.declared.suffix.Suffix.TheVariants.{I}
use Rattle.op_forest.specs.declared.sym.Sym.TheVariants as sym
use Rattle.op_forest.specs.Lowered.{LoweredUnit}
use Rattle.op_forest.specs.Nodes.{Node, Leaf, One}
use Rattle.c_types.specs.CType.{CType, Plain, Function, Open, Int, basic}
use Rattle.c_meaning.specs.declared.core_expr.CoreKind.TheVariants as kind
use Rattle.c_meaning.specs.CoreTrees.{Core, none}
use Rattle.c_meaning.specs.StmtTrees as stmt
use Rattle.c_meaning.specs.Units.{FunctionTree, UnitTree}
use Rattle.c_rows_agree.specs.Typed.{head, head_with}
use Rattle.c_runs.specs.Worlds.{World}
use Rattle.lowered_data.specs.Initial.{IsInitialData}
use Rattle.lowered_units.specs.LoweredUnits.{AreLoweredFunctions, IsLoweredUnit}
use Rattle.lowered_units.specs.Laws.{HasFunction}
use Rattle.lowered_units.specs.Tables.{bodies, first_table, table_object}
use Rattle.lowered_units.proofs.lemmas.Standing.{functions_stand}

abbrev int : CType
int = basic Int

abbrev main : FunctionTree
main = record { name = codes "main"; of = Plain 0 (Function int Open); parameters = 0; locals = []; body = stmt.Return (Some (Core (kind.Number 3) int 1 none)) }

abbrev unit : UnitTree
unit = record { functions = main ∷ []; objects = []; texts = []; tags = []; main = 0 }

-- ---- the value, and the end, at which main gives 0

abbrev given : ℕ → Node
given n = One (head op.Ret I) (Leaf (head_with op.Cnst I sym.Nothing (Some (pos n))))

abbrev main_lowered : LoweredFunction
main_lowered = record { name = 0; words = 0; forest = record { roots = given 3 ∷ given 0 ∷ []; frame = [] } }

abbrev lowered : LoweredUnit
lowered = record { functions = main_lowered ∷ []; objects = []; names = codes "main" ∷ codes "putchar" ∷ codes "getchar" ∷ codes "exit" ∷ []; order = Little }

abbrev start : World
start = record { storage = record { objects = []; made = 0 }; locals = []; input = []; trace = [] }

starts_empty : IsInitialData unit Little []
starts_empty = record {
  world = start;
  starts = λ calls input k. refl;
  sound = record { own = omega arith; others = []; live = refl; objects = tt; locals = tt; input = tt; trace = tt };
  made = refl;
  texts = λ n text e. absurd (let never : ⊥ = cc in never);
  live = refl;
  many = refl;
  homes = tt;
}

is_lowered : IsLoweredUnit unit Little lowered
is_lowered = record {
  functions = (record { name = refl; words = refl; slots = refl; roots = λ order home. refl }, tt);
  own = [];
  holds = starts_empty;
  objects = refl;
  names = record { own = codes "main" ∷ []; each = (inl ((refl, (refl, (refl, (refl, (refl, tt))))), refl), tt); is = refl };
  order_is = refl;
}

main_stands : HasFunction unit Little lowered 0 main
main_stands = functions_stand unit Little lowered is_lowered 0 main refl

-- ---- the function is wanting

none_lowered : (l : LoweredUnit) → l.functions ≡ [] → IsLoweredUnit unit Little l → ⊥
none_lowered l e i = nothing l.functions e i.functions
  where
    nothing : (gs : List LoweredFunction) → gs ≡ [] → AreLoweredFunctions 0 (main ∷ []) (bodies unit Little) gs → ⊥
    nothing [] e h = h
    nothing (g ∷ gs) e h = let never : ⊥ = cc in never

-- ---- tables

first_name : first_table unit ≡ 4
first_name = refl

two_labels : table_object 0 4 (7 ∷ 9 ∷ []) ≡ record { name = 4; size = 8; constant = true; items = datum.Label 0 7 ∷ datum.Label 0 9 ∷ [] }
two_labels = refl
