-- The names of built-in functions in the scene of a call.
use Rattle.std.specs.Prelude.{◌≡◌, ℕ, Option, Some, None}
use Rattle.std.proofs.Common.{refl}
use Rattle.objects.specs.declared.value.Value.TheVariants.{Function}
use Rattle.op_forest.specs.declared.lowered.LoweredFunction.{LoweredFunction}
use Rattle.op_forest.specs.Callees as callee
use Rattle.op_forest.specs.Lowered.{LoweredUnit}
use Rattle.op_forest.specs.Units.{function_of, object_place, built_in_named, callee_by}
use Rattle.forests.specs.Units.{value_by}
use Rattle.forests.specs.Worlds.{World}
use Rattle.c_meaning.specs.Units.{FunctionTree, UnitTree}
use Rattle.c_runs.specs.Calls.{built_in_number}
use Rattle.c_calls_agree.specs.Programs.{IsProgram, provided_as}
use Rattle.c_checked_units.specs.Modest.{StandsForBuiltIns}
use Rattle.c_entries_agree.specs.Activations.{scene_of}
use Rattle.c_entries_agree.specs.Lowered.{IsFunctionLowering}
use Rattle.c_bodies_agree.specs.BuiltIns.{ProvidesBuiltIns}

-- a name whose callee is a built-in function is that of no function and of no object, so its value is the function of this number
provided_value : (l : LoweredUnit) (n : ℕ) (f : Option LoweredFunction) (place : Option ℕ) (b : Option callee.BuiltIn) (c : callee.BuiltIn) → callee_by f place b ≡ callee.Provided c → value_by l n f place b ≡ Some (Function n)
provided_value l n (Some f) place b c e = absurd (let never : ⊥ = cc in never)
provided_value l n None (Some place) b c e = absurd (let never : ⊥ = cc in never)
provided_value l n None None None c e = absurd (let never : ⊥ = cc in never)
provided_value l n None None (Some b) c e = refl

module _ (u : UnitTree) (l : LoweredUnit) (provides : ProvidesBuiltIns u l) (number : ℕ) (f : FunctionTree) (x : IsFunctionLowering u l number f) (w : World) where
  pub is_program : IsProgram (scene_of u l number f x w)
  is_program = record { is = refl; own = refl; provides = provides }

  pub names_stand : StandsForBuiltIns (scene_of u l number f x w)
  names_stand b e = let n = built_in_number u b in provided_value l n (function_of l n) (object_place l n) (built_in_named l n) (provided_as b) (provides n b e)
