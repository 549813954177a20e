-- The tables of a function's switches: each is an object of its unit whose words are labels of the function.
-- Source: ISO/IEC 9899:1990, 6.6.4.2; Fraser and Hanson, A Retargetable C Compiler, chapters 5 and 10 (data; tables of labels).
use Rattle.std.specs.Prelude.{◌≡◌, ◌≤◌, ◌<◌, ℕ, ◌+◌, ◌*◌, ◌^◌, Some, List, length, map, slice_get}
use Rattle.op_forest.specs.declared.lowered.Datum.TheVariants as datum
use Rattle.op_forest.specs.declared.lowered.LoweredFunction.{LoweredFunction}
use Rattle.op_forest.specs.declared.lowered.LoweredObject.{LoweredObject}
use Rattle.forests.specs.Units.{pointer_to}
use Rattle.c_expr_agreement.specs.Scenes.{Scene}
use Rattle.lowered_statements.specs.Bodies.{Body}
use Rattle.lowered_statements.specs.Functions.{Function}
use Rattle.c_stmt_agreement.specs.Comings.{Activation}

-- The name stands for an object behind the unit's own ones. Its items are these labels of the function that runs, and it is so short that a distance in it is a
-- signed word.
pub record IsTableAt (s : Scene) (name : ℕ) (labels : List ℕ) : Type 0 where
  pub place : ℕ
  pub object : LoweredObject
  pub there : slice_get s.lowered.objects place ≡ Some object
  pub behind : s.own ≤ place
  pub named : s.body.setting.environment.global name ≡ Some (pointer_to s.lowered place)
  pub number : ℕ
  pub function : LoweredFunction
  pub runs : slice_get s.lowered.functions number ≡ Some function
  pub is_home : function.name ≡ s.body.setting.environment.home.function
  pub items : object.items ≡ map (λ l. datum.Label number l) labels
  pub size : object.size ≡ 4 * length labels
  pub short : 4 * length labels < 2 ^ 31

-- these tables have the names from this one on
abbrev pub AreTablesFrom : Scene → ℕ → List (List ℕ) → Type 0
AreTablesFrom s first tables = (n : ℕ) (labels : List ℕ) → slice_get tables n ≡ Some labels → IsTableAt s (first + n) labels

-- so those that are made so far are the unit's
abbrev pub HasTables : Activation → Function → Body → Type 0
HasTables p f b = AreTablesFrom p.scene f.tables b.tables
