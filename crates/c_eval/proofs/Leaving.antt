-- A call is over, and the run goes on behind it.
use Rattle.std.proofs.Common.{◌≡◌, ℕ, List, [], ◌∷◌, ◌++◌, take, drop, refl, sym, ap, ◌∙◌, Bor}
use Rattle.std.specs.Prelude.{Option, Some, None, Result as Checked, Ok, Err, IfOk}
use Rattle.std.proofs.lemmas.List.{append-nil, length-replicate}
use Rattle.lcc_base.specs.declared.memory.Memory.{Memory as NoMemory}
use Rattle.lcc_base.specs.Prefixes.{output_append}
use Rattle.lcc_base.specs.Traces.{Event, Closed, output_of}
use Rattle.objects.specs.declared.value.Value.{Value}
use Rattle.c_entries.specs.declared.leaving.Waiting.{Waiting}
use Rattle.c_entries.specs.Left.{IsWaiting, Leaves, given}
use Rattle.c_meaning.specs.CoreTrees.{CoreOf, line_of, type_of}
use Rattle.c_meaning.specs.Units.{UnitTree}
use Rattle.c_runs.specs.Calls.{returned}
use Rattle.c_runs.specs.Outcomes.{Undefined as Undefines, Return}
use Rattle.c_runs.specs.Run.{context}
use Rattle.c_runs.specs.Worlds.{World as RunWorld}
use Rattle.c_worlds.specs.declared.program.Program.{Program}
use Rattle.c_worlds.specs.declared.stop.Stop.{Stop}
use Rattle.c_worlds.specs.declared.stop.Stop.TheVariants.{Undefined, Memory}
use Rattle.c_worlds.specs.declared.world.World.{World}
use Rattle.c_worlds.specs.OpenLocals.{locals_from}
use Rattle.c_worlds.specs.Programs.{known, unit_of}
use Rattle.c_worlds.specs.Shown.{shown}
use Rattle.c_eval.specs.declared.focus.Focus.{Focus}
use Rattle.c_eval.specs.declared.focus.Focus.TheVariants as at
use Rattle.c_eval.specs.declared.frame.Frame.{Frame}
use Rattle.c_eval.specs.declared.frame.Frame.TheVariants as on
use Rattle.c_eval.specs.declared.machine.Machine.{Machine}
use Rattle.c_eval.specs.Came.{IsStopped}
use Rattle.c_eval.specs.Ends.{OfExpression, OfStatement}
use Rattle.c_eval.specs.Frames.{frames}
use Rattle.c_eval.specs.Stacks.{waiting_call}
use Rattle.c_eval.specs.States.{ends, own, state}
use Rattle.c_eval.specs.Steps.{Reaches, Resumes, ends_of, state_of}
use Rattle.c_eval.proofs.Passes.{end_of}

-- ---- the call that waits

closed_output : (t : List Event) (o : List ℕ) → output_of t ≡ o → output_of (t ++ Closed ∷ []) ≡ o
closed_output t o h = output_append t (Closed ∷ []) ∙ append-nil (output_of t) ∙ h

it_waits : (p : Program) (c : CoreOf ℕ) (x : Waiting) (below : List Value) → IsWaiting p c x below (waiting_call (known p (type_of c)) (line_of c) x.result x.objects (drop x.base below))
it_waits p c x below = record {
  of = refl;
  line = refl;
  result = refl;
  objects = length-replicate x.objects _;
  locals = refl;
}

-- ---- what it is given

abbrev pub IsGiven : Option Value → ℕ → Focus → Type 0
IsGiven (Some v) line focus = focus ≡ at.Value v
IsGiven None line focus = focus ≡ at.NoValue line

given_at : (p : Program) (below : List Value) (fs : List Frame) (u : Option Value) (line : ℕ) (focus : Focus) (k : ℕ) (w : RunWorld) → IsGiven u line focus → state p below fs focus k w ≡ ends p below fs (OfExpression (given u line k w))
given_at p below fs (Some v) line focus k w e = ap (λ f. state p below fs f k w) e
given_at p below fs None line focus k w e = ap (λ f. state p below fs f k w) e

pub given_resumes : (p : Program) (c : CoreOf ℕ) (x : Waiting) (v : Option Value) (line : ℕ) (old new : Machine) (u : Option Value) (focus : Focus)
    → frames new.stack ≡ frames old.stack → new.turns ≡ old.turns → new.world.output ≡ old.world.output → new.world.locals ≡ locals_from x.base old.world.locals.below
    → Leaves p c x v line old.world new.world (Ok u) → IsGiven u (line_of c) focus → Resumes p c x v line old new focus
given_resumes p c x v line old new u focus f n o l h g = λ t q.
    let a = waiting_call (known p (type_of c)) (line_of c) x.result x.objects (drop x.base old.world.locals.below) in
    let w = shown new.world (t ++ Closed ∷ []) in (
      t ++ Closed ∷ [],
      closed_output t new.world.output (q ∙ sym o),
      given_at p new.world.locals.below (frames new.stack) u (line_of c) focus new.turns w g
          ∙ ap (λ k. ends p new.world.locals.below (frames new.stack) (OfExpression (given u (line_of c) k w))) n
          ∙ ap (λ fs. ends p new.world.locals.below fs (OfExpression (given u (line_of c) old.turns w))) f
          ∙ ap (λ b. ends p b.below (frames old.stack) (OfExpression (given u (line_of c) old.turns w))) l
          ∙ ap (λ r. ends p (take x.base old.world.locals.below) (frames old.stack) (OfExpression r)) (sym (h a (it_waits p c x old.world.locals.below) old.turns t)),
    )

-- the value can't be copied
ends_resumes : (p : Program) (c : CoreOf ℕ) (x : Waiting) (v : Option Value) (line : ℕ) (old new : Machine) (stop : Stop) (focus : Focus)
    → new.world.output ≡ old.world.output → Leaves p c x v line old.world new.world (Err stop) → IsStopped stop focus → Resumes p c x v line old new focus
ends_resumes p c x v line old new (Undefined cause l) focus o h e = λ t q.
    let a = waiting_call (known p (type_of c)) (line_of c) x.result x.objects (drop x.base old.world.locals.below) in (
      t,
      q ∙ sym o,
      ap (λ f. state p new.world.locals.below (frames new.stack) f new.turns (shown new.world t)) e
          ∙ sym (end_of p (take x.base old.world.locals.below) (frames old.stack) (Undefines cause l) (shown new.world t))
          ∙ ap (λ r. ends p (take x.base old.world.locals.below) (frames old.stack) (OfExpression r)) (sym (h a (it_waits p c x old.world.locals.below) old.turns t)),
    )
ends_resumes p c x v line old new Memory focus o h e = absurd e

pub stop_resumes : (p : Program) (c : CoreOf ℕ) (x : Waiting) (v : Option Value) (line : ℕ) (old new : Machine) (stop : Stop) (r : Checked Focus NoMemory)
    → new.world.output ≡ old.world.output → Leaves p c x v line old.world new.world (Err stop) → IfOk r (λ focus. IsStopped stop focus) → IfOk r (λ focus. Resumes p c x v line old new focus)
stop_resumes p c x v line old new stop (Ok focus) o h e = ends_resumes p c x v line old new stop focus o h e
stop_resumes p c x v line old new stop (Err y) o h e = tt

-- ---- the body's end

own_unit : (p : Program) → (own p).unit ≡ unit_of p
unfolding context
own_unit p = refl

returned_return : (p : Program) (below : List Value) (fs : List Frame) (c : Bor (CoreOf ℕ)) (n objects base : ℕ) (v : Option Value) (line k : ℕ) (w : RunWorld)
    → ends p (take base below) fs (OfExpression (returned (unit_of p).tags (waiting_call (known p (type_of c.now)) (line_of c.now) n objects (drop base below)) (Return v line k w)))
    ≡ ends p below (on.Activation c n objects base ∷ fs) (OfStatement (Return v line k w))
returned_return p below fs c n objects base v line k w =
    ap (λ (u : UnitTree). ends p (take base below) fs (OfExpression (returned u.tags (waiting_call (known p (type_of c.now)) (line_of c.now) n objects (drop base below)) (Return v line k w)))) (sym (own_unit p))

-- the call that waits goes on at last
resumed : (p : Program) (c : Bor (CoreOf ℕ)) (n objects base : ℕ) (v : Option Value) (line : ℕ) (old mid new : Machine) (focus : Focus) (t t1 : List Event)
    → frames old.stack ≡ on.Activation c n objects base ∷ frames mid.stack → mid.world ≡ old.world → mid.turns ≡ old.turns
    → state_of p new focus t1
    ≡ ends p (take base mid.world.locals.below) (frames mid.stack)
    (OfExpression (returned (unit_of p).tags (waiting_call (known p (type_of c.now)) (line_of c.now) n objects (drop base mid.world.locals.below)) (Return v line mid.turns (shown mid.world t))))
    → state_of p new focus t1 ≡ ends_of p old (OfStatement (Return v line old.turns (shown old.world t)))
resumed p c n objects base v line old mid new focus t t1 f w k e =
    e
    ∙ returned_return p mid.world.locals.below (frames mid.stack) c n objects base v line mid.turns (shown mid.world t)
    ∙ ap (λ (x : World). ends p x.locals.below (on.Activation c n objects base ∷ frames mid.stack) (OfStatement (Return v line mid.turns (shown x t)))) w
    ∙ ap (λ j. ends p old.world.locals.below (on.Activation c n objects base ∷ frames mid.stack) (OfStatement (Return v line j (shown old.world t)))) k
    ∙ ap (λ fs. ends p old.world.locals.below fs (OfStatement (Return v line old.turns (shown old.world t)))) (sym f)

-- the frame of a call is taken off, and the call resumes
pub return_reaches : (p : Program) (c : Bor (CoreOf ℕ)) (n objects base : ℕ) (v : Option Value) (line : ℕ) (old mid new : Machine) (r : Checked Focus NoMemory)
    → frames old.stack ≡ on.Activation c n objects base ∷ frames mid.stack → mid.world ≡ old.world → mid.turns ≡ old.turns
    → IfOk r (λ focus. Resumes p c.now (record { result = n; objects = objects; base = base }) v line mid new focus) → IfOk r (λ focus. Reaches p old (λ k w. OfStatement (Return v line k w)) new focus)
return_reaches p c n objects base v line old mid new (Ok focus) f w k h = λ t q.
    let e : (t1 : List Event) × (output_of t1 ≡ new.world.output) × (state_of p new focus t1
    ≡ ends p (take base mid.world.locals.below) (frames mid.stack)
    (OfExpression (returned (unit_of p).tags (waiting_call (known p (type_of c.now)) (line_of c.now) n objects (drop base mid.world.locals.below)) (Return v line mid.turns (shown mid.world t)))))
    = h t (q ∙ ap (λ (x : World). x.output) (sym w)) in
    (e.0, e.1, resumed p c n objects base v line old mid new focus t e.0 f w k e.2)
return_reaches p c n objects base v line old mid new (Err y) f w k h = tt
