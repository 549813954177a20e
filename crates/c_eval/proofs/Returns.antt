-- A return leaves the frames above its call's, which pass on what comes of it.
use Rattle.std.proofs.Common.{◌≡◌, ◌≤◌, ℕ, List, [], ◌∷◌, refl, sym, ap, ◌∙◌, Bor, arith}
use Rattle.std.specs.Prelude.{Some}
use Rattle.lcc_base.specs.declared.cause.Cause.TheVariants.{NoResult}
use Rattle.objects.specs.declared.value.Value.{Value}
use Rattle.c_meaning.specs.CoreTrees.{CoreOf, line_of}
use Rattle.c_runs.specs.Expressions.{eval}
use Rattle.c_runs.specs.Outcomes.{Ends, Gives, GivesNone, Result, Return, Undefined, then_do}
use Rattle.c_worlds.specs.declared.program.Program.{Program}
use Rattle.c_worlds.specs.declared.world.World.{World}
use Rattle.c_worlds.specs.Programs.{tree}
use Rattle.c_worlds.specs.Shown.{shown}
use Rattle.c_eval.specs.declared.focus.Focus.TheVariants as at
use Rattle.c_eval.specs.declared.frame.Frame.{Frame}
use Rattle.c_eval.specs.declared.frame.Frame.TheVariants as on
use Rattle.c_eval.specs.declared.machine.Machine.{Machine}
use Rattle.c_eval.specs.Ends.{Came, OfStatement}
use Rattle.c_eval.specs.Frames.{frames, from_call}
use Rattle.c_eval.specs.States.{ends, own, state}
use Rattle.c_eval.specs.Steps.{Meets}
use Rattle.c_eval.specs.Weights.{weights}
use Rattle.c_eval.proofs.Behind.{PassesReturn, return_passes}
use Rattle.c_eval.proofs.Passes.{over_of}

-- what comes of a return in this line whose expression comes to this
abbrev pub returned_at : ℕ → Result → Came
returned_at line r = OfStatement (then_do r (λ v k w. Return (Some v) line k w))

came_passes : (p : Program) (below : List Value) (fs : List Frame) (f : Frame) (line : ℕ) (r : Result) → PassesReturn f → ends p below (f ∷ fs) (returned_at line r) ≡ ends p below fs (returned_at line r)
came_passes p below fs f line (Gives v k w) h = return_passes p below fs f (Some v) line k w h
came_passes p below fs f line (GivesNone l k w) h = over_of p below (f ∷ fs) (Undefined NoResult l) w ∙ sym (over_of p below fs (Undefined NoResult l) w)
came_passes p below fs f line (Ends how w) h = over_of p below (f ∷ fs) how w ∙ sym (over_of p below fs how w)

left_behind : (p : Program) (below : List Value) (fs : List Frame) (line : ℕ) (r : Result) → ends p below (from_call fs) (returned_at line r) ≡ ends p below fs (returned_at line r)
left_behind p below [] line r = refl
left_behind p below (on.Activation c n objects base ∷ fs) line r = refl
left_behind p below (f ∷ fs) line r = left_behind p below fs line r ∙ sym (came_passes p below fs f line r tt)

pub fewer_left : (fs : List Frame) → weights (from_call fs) ≤ weights fs
fewer_left [] = omega arith
fewer_left (on.Activation c n objects base ∷ fs) = omega arith
fewer_left (f ∷ fs) = let h = fewer_left fs in omega (arith, h)

-- the expression's value is awaited above the call's frame
pub return_waits : (p : Program) (old new : Machine) (e : Bor (CoreOf ℕ)) → frames new.stack ≡ on.Return e ∷ from_call (frames old.stack) → new.world ≡ old.world → new.turns ≡ old.turns
    → Meets p old (λ k w. returned_at (line_of e.now) (eval (own p) (tree p e.now) k w)) new (at.Eval e)
return_waits p old new e f w n = λ t.
    ap (λ fs. state p new.world.locals.below fs (at.Eval e) new.turns (shown new.world t)) f
    ∙ ap (λ (x : World). state p x.locals.below (on.Return e ∷ from_call (frames old.stack)) (at.Eval e) new.turns (shown x t)) w
    ∙ ap (λ k. state p old.world.locals.below (on.Return e ∷ from_call (frames old.stack)) (at.Eval e) k (shown old.world t)) n
    ∙ left_behind p old.world.locals.below (frames old.stack) (line_of e.now) (eval (own p) (tree p e.now) old.turns (shown old.world t))
