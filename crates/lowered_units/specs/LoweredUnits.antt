-- The lowered unit of a checked one: its functions in order, each named by its number; the objects that hold what its objects and texts hold as
-- the program starts, and behind them the tables of its switches; and the names of all.
-- Source: Fraser and Hanson, A Retargetable C Compiler, chapter 5 (the interface of front and back end); ISO/IEC 9899:1990, 6.7.
use Rattle.std.specs.Prelude.{◌≡◌, ℕ, suc, List, [], ◌∷◌, ◌++◌}
use Rattle.lcc_base.specs.declared.order.Order.{Order}
use Rattle.op_forest.specs.declared.lowered.LoweredFunction.{LoweredFunction}
use Rattle.op_forest.specs.declared.lowered.LoweredObject.{LoweredObject}
use Rattle.op_forest.specs.Lowered.{LoweredUnit}
use Rattle.forests.specs.Addresses.{Home}
use Rattle.c_meaning.specs.Units.{FunctionTree, UnitTree}
use Rattle.piece_runs.specs.Pieces.{roots_of}
use Rattle.lowered_statements.specs.Bodies.{Body}
use Rattle.lowered_statements.specs.Layouts.{words_of}
use Rattle.lowered_data.specs.Initial.{IsInitialData}
use Rattle.lowered_names.specs.UnitNames.{AreUnitNames}
use Rattle.lowered_units.specs.Tables.{all_tables, bodies, first_table, table_count}

-- A function of this number that was lowered to this body. Its roots are those of the pieces, whichever body is at home.
pub record IsLoweredFunction (number : ℕ) (f : FunctionTree) (b : Body) (g : LoweredFunction) : Type 0 where
  pub name : g.name ≡ number
  pub words : g.words ≡ words_of f
  pub slots : g.forest.frame ≡ b.low.slots
  pub roots : (order : Order) (home : Home) → g.forest.roots ≡ roots_of order home b.low.pieces

-- so many, from this number on
abbrev pub AreLoweredFunctions : ℕ → List FunctionTree → List Body → List LoweredFunction → Type 0
AreLoweredFunctions number [] [] [] = Unit {0}
AreLoweredFunctions number (f ∷ fs) (b ∷ bs) (g ∷ gs) = IsLoweredFunction number f b g × AreLoweredFunctions (suc number) fs bs gs
AreLoweredFunctions number fs bs gs = ⊥

pub record IsLoweredUnit (u : UnitTree) (order : Order) (l : LoweredUnit) : Type 0 where
  pub functions : AreLoweredFunctions 0 u.functions (bodies u order) l.functions
  pub own : List LoweredObject
  pub holds : IsInitialData u order own
  pub objects : l.objects ≡ own ++ all_tables 0 (first_table u) (bodies u order)
  pub names : AreUnitNames u (table_count (bodies u order)) l.names
  pub order_is : l.order ≡ order
