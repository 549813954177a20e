-- A call of a lowered function runs its body.
use Rattle.std.specs.Prelude.{◌≡◌, ◌≤◌, ◌<◌, ℕ, zero, suc, ◌+◌, ◌==◌, ◌&&◌, Bool, true, false, if◌then◌else◌, Option, Some, None, List, [], ◌∷◌, length, map as mapped, take}
use Rattle.std.proofs.Common.{true≢false, refl, sym, ap, subst, ◌∙◌, arith}
use Rattle.std.proofs.lemmas.Bool.{and_parts, eq-eqb}
use Rattle.objects.specs.declared.value.Value.{Value}
use Rattle.op_forest.specs.declared.lowered.LoweredFunction.{LoweredFunction}
use Rattle.op_forest.specs.Callees.{Callee}
use Rattle.op_forest.specs.Lowered.{LoweredUnit}
use Rattle.op_forest.specs.Nodes.{Node}
use Rattle.op_forest.specs.Units.{body_of, callee_by, object_place, built_in_named}
use Rattle.forests.specs.Budgets.{with_left}
use Rattle.forests.specs.Functions.{answered, call_by, setting_of}
use Rattle.forests.specs.Meaning.{call_of}
use Rattle.forests.specs.OneRoot.{runs}
use Rattle.forests.proofs.lemmas.OneRoot.{one_call}
use Rattle.forests.specs.Units.{program_of}
use Rattle.forests.specs.Words.{Word}
use Rattle.forests.specs.Worlds.{World, Stuck}
use Rattle.c_types.specs.CType.{CType}
use Rattle.c_meaning.specs.Rows.{result_type, parameters_type}
use Rattle.c_meaning.specs.Types.{is_record}
use Rattle.c_meaning.specs.Units.{FunctionTree, UnitTree, IsFunction, declared}
use Rattle.c_runs.specs.Calls.{Argument, Call, arguments_fit, result_fits, is_open, own_parameters}
use Rattle.c_match.specs.Ranges.{Map}
use Rattle.c_agreement.specs.Called.{AreValues, behind_hidden, passed_values}
use Rattle.c_agreement.specs.Pairs.{pair_of, target_run}
use Rattle.lowered_statements.specs.Layouts.{first_word, hidden_words, words_of}
use Rattle.c_straight_agree.proofs.lemmas.Putting.{each_at}
use Rattle.c_entries_agree.specs.Activations.{body_run, opened_world, start_of}
use Rattle.c_entries_agree.specs.Laws.{IsCallOf}
use Rattle.c_entries_agree.specs.Lowered.{IsFunctionLowering}
use Rattle.c_entries_agree.proofs.lemmas.Counting.{words_there}

module _ (u : UnitTree) (l : LoweredUnit) (f : FunctionTree) (a : Call) (map : Map) (w : World) (is : IsCallOf u l f a map w) (x : IsFunctionLowering u l a.function f) where
  -- ---- so the call runs the body

  if_there : {A : Type 0} (b : Bool) (y z : A) → b ≡ true → (if b then y else z) ≡ y
  if_there true y z e = refl
  if_there false y z e = absurd (true≢false (sym e))

  pub body_runs : (steps : ℕ) → target_run (pair_of u l a map w) steps ≡ answered w (start_of u l a.function f x w steps)
  body_runs steps =
      let g = program_of l in
      let n = a.function in
      let home = (body_run u l n f x w).setting.environment.home in
      one_call g n (with_left steps w)
      ∙ ap (λ (o : Option LoweredFunction). call_by g (λ s roots p1. runs s roots roots p1) (call_of g) n (callee_by o (object_place l n) (built_in_named l n)) (with_left steps w)) x.named
      ∙ if_there (length w.arguments == x.function.words) (answered w (runs (setting_of g (call_of g) n (body_of x.function) w) x.function.forest.roots x.function.forest.roots (with_left steps (opened_world u l n f x w)))) Stuck (eq-eqb (length w.arguments) x.function.words (words_there u l f a map w is x))
      ∙ ap (λ (roots : List Node). answered w (runs (setting_of g (call_of g) n (body_of x.function) w) roots roots (with_left steps (opened_world u l n f x w)))) (x.roots home)
