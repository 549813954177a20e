-- The tables of a unit's switches, as objects behind the unit's own: each is constant, has the labels of a function of its own unit, of four bytes
-- each, and a name behind those of the built-in functions.
-- Source: Fraser and Hanson, A Retargetable C Compiler, chapters 5 and 10 (data; tables of labels).
use Rattle.std.specs.Prelude.{ℕ, suc, ◌+◌, ◌*◌, true, List, [], ◌∷◌, ◌++◌, length, map}
use Rattle.lcc_base.specs.declared.order.Order.{Order}
use Rattle.op_forest.specs.declared.lowered.Datum.TheVariants as datum
use Rattle.op_forest.specs.declared.lowered.LoweredObject.{LoweredObject}
use Rattle.c_meaning.specs.Units.{FunctionTree, UnitTree}
use Rattle.c_runs.specs.Calls.{built_ins, first_built_in}
use Rattle.lowered_statements.specs.Bodies.{Body}
use Rattle.lowered_statements.specs.FunctionBodies.{low_f}

-- the name of the first one
abbrev pub first_table : UnitTree → ℕ
first_table u = first_built_in u + length (built_ins u)

-- ---- bodies: of functions from this number on, whose tables are named from this name on

abbrev pub bodies_from : UnitTree → Order → ℕ → ℕ → List FunctionTree → List Body
bodies_from u order number name [] = []
bodies_from u order number name (f ∷ fs) =
    low_f u order number name f ∷ bodies_from u order (suc number) (name + length (low_f u order number name f).tables) fs

abbrev pub bodies : UnitTree → Order → List Body
bodies u order = bodies_from u order 0 (first_table u) u.functions

-- ---- objects

abbrev pub table_object : ℕ → ℕ → List ℕ → LoweredObject
table_object number name labels = record { name = name; size = 4 * length labels; constant = true; items = map (λ l. datum.Label number l) labels }

-- those of a function
abbrev pub table_objects : ℕ → ℕ → List (List ℕ) → List LoweredObject
table_objects number name [] = []
table_objects number name (t ∷ ts) = table_object number name t ∷ table_objects number (suc name) ts

-- those of bodies
abbrev pub all_tables : ℕ → ℕ → List Body → List LoweredObject
all_tables number name [] = []
all_tables number name (b ∷ bs) = table_objects number name b.tables ++ all_tables (suc number) (name + length b.tables) bs

abbrev pub table_count : List Body → ℕ
table_count [] = 0
table_count (b ∷ bs) = length b.tables + table_count bs
