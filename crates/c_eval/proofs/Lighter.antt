-- Steps that are left, by the parts of an expression.
use Rattle.std.specs.Prelude.{◌≡◌, ◌≤◌, ℕ, Option, Some, None, Result as Checked, Ok, Err, IfOk}
use Rattle.std.proofs.Common.{arith}
use Rattle.objects.specs.declared.value.Value.{Value}
use Rattle.c_worlds.specs.declared.stop.Stop.{Stop}
use Rattle.c_worlds.specs.declared.stop.Stop.TheVariants.{Undefined, Memory}
use Rattle.c_meaning.specs.CoreTrees.{CoreOf, Core}
use Rattle.c_eval.specs.declared.focus.Focus.{Focus}
use Rattle.c_eval.specs.declared.machine.Machine.{Machine}
use Rattle.c_eval.specs.Came.{IsCame}
use Rattle.c_eval.specs.Frames.{frames}
use Rattle.c_eval.specs.Steps.{IsBelow}
use Rattle.c_eval.specs.Weights.{weight_e}

pub below_more : {E : Type 0} (m n : ℕ) (old new : Machine) (answer : Checked Focus E) → m ≤ n → IfOk answer (λ focus. IsBelow m old new focus) → IfOk answer (λ focus. IsBelow n old new focus)
below_more m n old new (Ok focus) l h = omega (arith, h, l)
below_more m n old new (Err x) l h = tt

pub weight_some : (e : CoreOf ℕ) → 2 ≤ weight_e e
weight_some (Core what of line kids) = omega arith

-- what came of an act is one step
pub came_light : {E : Type 0} (old new : Machine) (given : Checked (Option Value) Stop) (answer : Checked Focus E) → frames new.stack ≡ frames old.stack → IfOk answer (λ focus. IsCame given focus) → IfOk answer (λ focus. IsBelow 2 old new focus)
came_light old new (Ok (Some v)) (Ok focus) f h = rw (h, f) (omega arith)
came_light old new (Ok None) (Ok focus) f h = rw (h, f) (omega arith)
came_light old new (Err (Undefined cause line)) (Ok focus) f h = rw (h, f) (omega arith)
came_light old new (Err Memory) (Ok focus) f h = absurd h
came_light old new given (Err x) f h = tt
