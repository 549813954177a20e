-- The functions of `int main() { return 3; }` lowered, and none of them; and two tables.
use Rattle.std.specs.Prelude.{◌≡◌, ℕ, ℤ, pos, codes, Option, None, Some, List, [], ◌∷◌}
use Rattle.std.proofs.Common.{refl, sym, subst}
use Rattle.lcc_base.specs.declared.order.Order.{Order}
use Rattle.lcc_base.specs.declared.order.Order.TheVariants.{Little}
use Rattle.op_forest.specs.declared.lowered.LoweredFunction.{LoweredFunction}
use Rattle.op_forest.specs.declared.op.Op.{Op}
use Rattle.op_forest.specs.declared.op.Op.TheVariants as op
use Rattle.op_forest.specs.declared.suffix.Suffix.TheVariants.{I}
use Rattle.op_forest.specs.declared.sym.Sym.TheVariants as sym
use Rattle.op_forest.specs.Nodes.{Head, Node, Leaf, One}
use Rattle.c_types.specs.CType.{CType, Plain, Function, Open, Int, basic}
use Rattle.c_meaning.specs.declared.core_expr.CoreKind.TheVariants as kind
use Rattle.c_meaning.specs.CoreTrees.{Core, none}
use Rattle.c_meaning.specs.StmtTrees as stmt
use Rattle.c_meaning.specs.Units.{FunctionTree, UnitTree}
use Rattle.c_worlds.specs.declared.program.Program.{Program}
use Rattle.c_worlds.specs.Programs.{unit_of}
use Rattle.lowered_units.specs.LoweredUnits.{AreLoweredFunctions}
use Rattle.lowered_units.specs.Tables.{all_tables, bodies, first_table, table_count, table_object, table_objects}
use Rattle.c_lower_unit.specs.declared.functions.Lowering.{Lowering}
use Rattle.c_lower_unit.specs.Lowerings.{IsLowering}

abbrev int : CType
int = basic Int

abbrev main : FunctionTree
main = record { name = codes "main"; of = Plain 0 (Function int Open); parameters = 0; locals = []; body = stmt.Return (Some (Core (kind.Number 3) int 1 none)) }

abbrev unit : UnitTree
unit = record { functions = main ∷ []; objects = []; texts = []; tags = []; main = 0 }

-- ---- the value, and the end, at which main gives 0

abbrev head : Op → Option ℤ → Head
head o value = record { operator = record { op = o; suffix = I }; sym = sym.Nothing; value = value }

abbrev given : ℕ → Node
given n = One (head op.Ret None) (Leaf (head op.Cnst (Some (pos n))))

abbrev main_lowered : LoweredFunction
main_lowered = record { name = 0; words = 0; forest = record { roots = given 3 ∷ given 0 ∷ []; frame = [] } }

abbrev lowered : Lowering
lowered = record { functions = main_lowered ∷ []; objects = []; tables = 0 }

-- ---- of a program of this unit

is_lowering : (p : Program) → unit_of p ≡ unit → p.order ≡ Little → IsLowering p [] lowered
is_lowering p u o = record {
  functions =
      subst (λ (order : Order). AreLoweredFunctions 0 (unit_of p).functions (bodies (unit_of p) order) lowered.functions) (sym o)
      (subst (λ (v : UnitTree). AreLoweredFunctions 0 v.functions (bodies v Little) lowered.functions) (sym u)
      (record { name = refl; words = refl; slots = refl; roots = λ order home. refl }, tt));
  objects = λ i. all_tables 0 (first_table (sym u i)) (bodies (sym u i) (sym o i));
  tables = λ i. table_count (bodies (sym u i) (sym o i));
}

none_lowered : (p : Program) (l : Lowering) → unit_of p ≡ unit → p.order ≡ Little → l.functions ≡ [] → IsLowering p [] l → ⊥
none_lowered p l u o e i =
    nothing l.functions e
    (subst (λ (order : Order). AreLoweredFunctions 0 unit.functions (bodies unit order) l.functions) o
    (subst (λ (v : UnitTree). AreLoweredFunctions 0 v.functions (bodies v p.order) l.functions) u i.functions))
  where
    nothing : (gs : List LoweredFunction) → gs ≡ [] → AreLoweredFunctions 0 (main ∷ []) (bodies unit Little) gs → ⊥
    nothing [] f h = h
    nothing (g ∷ gs) f h = let never : ⊥ = cc in never

-- ---- tables

two_tables : table_object 0 4 (7 ∷ []) ∷ table_object 0 5 (9 ∷ []) ∷ [] ≡ table_objects 0 4 ((7 ∷ []) ∷ (9 ∷ []) ∷ [])
two_tables = refl
