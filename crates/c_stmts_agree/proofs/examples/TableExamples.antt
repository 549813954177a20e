-- A table of three labels, which is an object of its unit.
use Rattle.std.specs.Prelude.{◌≡◌, ◌≤◌, ℕ, zero, suc, codes, true, false, Some, None, List, [], ◌∷◌, slice_get}
use Rattle.std.proofs.Common.{refl, ap, subst, arith}
use Rattle.lcc_base.specs.declared.order.Order.TheVariants.{Big}
use Rattle.op_forest.specs.declared.lowered.Datum.TheVariants as datum
use Rattle.op_forest.specs.declared.lowered.LoweredFunction.{LoweredFunction}
use Rattle.op_forest.specs.declared.lowered.LoweredObject.{LoweredObject}
use Rattle.op_forest.specs.Lowered.{LoweredUnit}
use Rattle.forests.specs.Bodies.{Setting}
use Rattle.forests.specs.Functions.{Program}
use Rattle.forests.specs.Meaning.{call_of}
use Rattle.forests.specs.Units.{program_of}
use Rattle.c_meaning.specs.Units.{UnitTree}
use Rattle.c_runs.specs.Samples as sample
use Rattle.piece_runs.specs.Reaches.{BodyRun}
use Rattle.lowered_statements.specs.Bodies.{Body}
use Rattle.lowered_statements.specs.Functions.{Function}
use Rattle.c_expr_agreement.specs.Scenes.{Scene}
use Rattle.c_stmt_agreement.specs.Comings.{Activation}
use Rattle.c_stmts_agree.specs.Tables.{IsTableAt, HasTables}

-- ---- main, named 0, and the table, named 1

abbrev labels : List ℕ
labels = 0 ∷ 2 ∷ 1 ∷ []

abbrev main : LoweredFunction
main = record { name = 0; words = 0; forest = record { roots = []; frame = [] } }

abbrev table : LoweredObject
table = record { name = 1; size = 12; constant = true; items = datum.Label 0 0 ∷ datum.Label 0 2 ∷ datum.Label 0 1 ∷ [] }

abbrev target : LoweredUnit
target = record { functions = main ∷ []; objects = table ∷ []; names = codes "main" ∷ codes "table.0" ∷ []; order = Big }

abbrev program : Program
program = program_of target

abbrev setting : Setting
setting = record { call = call_of program; environment = record { global = program.global; order = Big; home = record { function = 0; place = 1; made = 1; slots = []; words = 0 } } }

abbrev body : BodyRun
body = record { program = program; setting = setting; pieces = [] }

abbrev source : UnitTree
source = sample.unit [] [] []

abbrev scene : Scene
scene = record { unit = source; own = 0; lowered = target; body = body; frame = record { types = []; addresses = []; others = [] } }

is_there : IsTableAt scene 1 labels
is_there = record {
  place = 0;
  object = table;
  there = refl;
  behind = omega arith;
  named = refl;
  number = 0;
  function = main;
  runs = refl;
  is_home = refl;
  items = refl;
  size = refl;
  short = omega arith;
}

-- ---- the tables that are made so far

abbrev activation : Activation
activation = record { scene = scene; layout = record { types = []; parameters = 0; places = [] }; locals = 0; result = None }

abbrev function : Function
function = record { context = record { unit = source; order = Big; parameters = 0; places = [] }; locals = []; result = sample.int; gives_zero = false; labels = 7 ∷ 9 ∷ []; tables = 1 }

abbrev with_tables : List (List ℕ) → Body
with_tables tables = record { low = record { pieces = []; entries = []; slots = []; labels = 3 }; tables = tables }

has_one : HasTables activation function (with_tables (labels ∷ []))
has_one zero others e = let same : labels ≡ others = cc in subst (λ (ls : List ℕ). IsTableAt scene 1 ls) same is_there
has_one (suc n) others e = absurd (let never : ⊥ = cc in never)

-- ---- what is refused

the_table : (place : ℕ) (o : LoweredObject) → slice_get (table ∷ []) place ≡ Some o → table ≡ o
the_table zero o e = cc
the_table (suc place) o e = absurd (let never : ⊥ = cc in never)

-- another label at its end, and an object of the unit's own
no_fourth : IsTableAt scene 1 (0 ∷ 2 ∷ 1 ∷ 1 ∷ []) → ⊥
no_fourth h =
    let three = ap (λ (o : LoweredObject). o.size) (the_table h.place h.object h.there) in
    let four = h.size in
    let never : ⊥ = omega (arith, three, four) in
    never

abbrev owned : Scene
owned = record { unit = source; own = 1; lowered = target; body = body; frame = record { types = []; addresses = []; others = [] } }

not_own : IsTableAt owned 1 labels → ⊥
not_own h = none h.place h.object h.behind h.there
  where
    none : (place : ℕ) (o : LoweredObject) → 1 ≤ place → slice_get (table ∷ []) place ≡ Some o → ⊥
    none zero o le e = let never : ⊥ = omega (arith, le) in never
    none (suc place) o le e = let never : ⊥ = cc in never

-- a second table, whose name stands for nothing
no_second : HasTables activation function (with_tables (labels ∷ labels ∷ [])) → ⊥
no_second h = let e = (h 1 labels refl).named in let never : ⊥ = cc in never
