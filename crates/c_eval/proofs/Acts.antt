-- What an evaluation that calls nothing comes to, and how the run goes on from there.
use Rattle.std.proofs.Common.{◌≡◌, ℕ, List, ◌∷◌, refl, sym, ap, ◌∙◌, subst}
use Rattle.std.specs.Prelude.{Option, Some, None, Result as Checked, Ok, Err, IfOk, IfSome}
use Rattle.lcc_base.specs.declared.memory.Memory.{Memory as NoMemory}
use Rattle.lcc_base.specs.Traces.{Event}
use Rattle.objects.specs.declared.value.Value.{Value}
use Rattle.c_filling.specs.Filled.{seen_places}
use Rattle.c_meaning.specs.declared.filled_place.FilledPlace.{FilledPlace}
use Rattle.c_meaning.specs.CoreTrees.{CoreOf}
use Rattle.c_runs.specs.Calls.{Setting}
use Rattle.c_runs.specs.Expressions.{eval, test}
use Rattle.c_runs.specs.Outcomes.{How, Undefined as Undefines, Result, Ends, Out, Next, Over, then_drop, then_go}
use Rattle.c_runs.specs.Run.{context}
use Rattle.c_runs.specs.Statements.{fill}
use Rattle.c_runs.specs.Worlds.{World as RunWorld}
use Rattle.c_worlds.specs.declared.program.Program.{Program}
use Rattle.c_worlds.specs.declared.stop.Stop.{Stop}
use Rattle.c_worlds.specs.declared.stop.Stop.TheVariants.{Undefined, Memory}
use Rattle.c_worlds.specs.declared.world.World.{World}
use Rattle.c_worlds.specs.Programs.{Calls, setting_of, tree}
use Rattle.c_worlds.specs.Shown.{Comes, Gets, Goes, gave, shown}
use Rattle.c_plain.specs.AtOnce.{DoneAtOnce, dropped}
use Rattle.c_eval.specs.declared.focus.Focus.{Focus}
use Rattle.c_eval.specs.declared.frame.Frame.{Frame}
use Rattle.c_eval.specs.declared.machine.Machine.{Machine}
use Rattle.c_eval.specs.declared.stack.Stack.{Stack}
use Rattle.c_eval.specs.Came.{IsStopped}
use Rattle.c_eval.specs.Ends.{Came, OfStatement}
use Rattle.c_eval.specs.Frames.{frames}
use Rattle.c_eval.specs.States.{ends, own, state}
use Rattle.c_eval.specs.Steps.{Meets}
use Rattle.c_eval.proofs.Passes.{over_of}

-- ---- the program's own calls

own_is : (p : Program) → setting_of p (own p).calls ≡ own p
unfolding context
own_is p = refl

pub comes_own : (p : Program) (c : CoreOf ℕ) (old new : World) (r : Checked (Option Value) Stop)
    → ((calls : Calls) → Comes (λ k w. eval (setting_of p calls) (tree p c) k w) old new r) → Comes (λ k w. eval (own p) (tree p c) k w) old new r
comes_own p c old new r h = subst (λ (s : Setting). Comes (λ k w. eval s (tree p c) k w) old new r) (own_is p) (h (own p).calls)

pub gets_own : (p : Program) (c : CoreOf ℕ) (old new : World) (r : Checked Value Stop)
    → ((calls : Calls) → Gets (λ k w. test (setting_of p calls) (tree p c) k w) old new r) → Gets (λ k w. test (own p) (tree p c) k w) old new r
gets_own p c old new r h = subst (λ (s : Setting). Gets (λ k w. test s (tree p c) k w) old new r) (own_is p) (h (own p).calls)

pub goes_own : (p : Program) (base : Value) (ps : List FilledPlace) (old new : World) (r : Checked (Unit {0}) Stop)
    → ((calls : Calls) → Goes (λ k w. fill (setting_of p calls) base (seen_places p ps) k w) old new r) → Goes (λ k w. fill (own p) base (seen_places p ps) k w) old new r
goes_own p base ps old new r h = subst (λ (s : Setting). Goes (λ k w. fill s base (seen_places p ps) k w) old new r) (own_is p) (h (own p).calls)

-- what holds in each setting does in the program's own
pub in_own : (p : Program) (P : Setting → Type 0) → ((calls : Calls) → P (setting_of p calls)) → P (own p)
in_own p P h = subst P (own_is p) (h (own p).calls)

-- ---- what is done at once

value_in : (given : Checked (Option Value) Stop) (u : Unit {0}) → dropped given ≡ Ok u → (v : Option Value) × (given ≡ Ok v)
value_in (Ok v) u e = (v, refl)
value_in (Err stop) u e = absurd cc

abbrev stop_in : Checked (Unit {0}) Stop → Stop
stop_in (Ok u) = Memory
stop_in (Err stop) = stop

stop_is : (given : Checked (Option Value) Stop) (stop : Stop) → dropped given ≡ Err stop → given ≡ Err stop
stop_is (Ok v) stop e = absurd cc
stop_is (Err s) stop e = let i : s ≡ stop = ap stop_in e in ap (λ (x : Stop). let r : Checked (Option Value) Stop = Err x in r) i

pub effect_comes : (p : Program) (c : CoreOf ℕ) (old new : World) (u : Unit {0}) → DoneAtOnce p old new c (Ok u)
    → (v : Option Value) × Comes (λ k w. eval (own p) (tree p c) k w) old new (Ok v)
effect_comes p c old new u d =
    let i = value_in d.0 u d.1.0 in
    (i.0, comes_own p c old new (Ok i.0) (λ calls. subst (λ r. Comes (λ k w. eval (setting_of p calls) (tree p c) k w) old new r) i.1 (d.1.1 calls)))

pub effect_stops : (p : Program) (c : CoreOf ℕ) (old new : World) (stop : Stop) → DoneAtOnce p old new c (Err stop)
    → (calls : Calls) → Comes (λ k w. eval (setting_of p calls) (tree p c) k w) old new (Err stop)
effect_stops p c old new stop d calls = subst (λ r. Comes (λ k w. eval (setting_of p calls) (tree p c) k w) old new r) (stop_is d.0 stop d.1.0) (d.1.1 calls)

-- ---- ends

-- the run ends here
abbrev pub Halts : (ℕ → RunWorld → Result) → World → World → Stop → Type 0
Halts does old new (Undefined cause line) = (k : ℕ) (t : List Event) → does k (shown old t) ≡ Ends (Undefines cause line) (shown new t)
Halts does old new Memory = Unit {0}

pub comes_halts : (does : ℕ → RunWorld → Result) (old new : World) (stop : Stop) → Comes does old new (Err stop) → Halts does old new stop
comes_halts does old new (Undefined cause line) h = h
comes_halts does old new Memory h = tt

pub gets_halts : (does : ℕ → RunWorld → Result) (old new : World) (stop : Stop) → Gets does old new (Err stop) → Halts does old new stop
gets_halts does old new (Undefined cause line) h = h
gets_halts does old new Memory h = tt

-- ---- what is met

-- the world has changed, and this is left of what comes
pub meets_by : (p : Program) (old new : Machine) (come then_come : ℕ → RunWorld → Came) (focus : Focus)
    → new.world.locals ≡ old.world.locals → frames new.stack ≡ frames old.stack → new.turns ≡ old.turns
    → ((k : ℕ) (t : List Event) → come k (shown old.world t) ≡ then_come k (shown new.world t))
    → ((below : List Value) (fs : List Frame) (k : ℕ) (w : RunWorld) → state p below fs focus k w ≡ ends p below fs (then_come k w))
    → Meets p old come new focus
meets_by p old new come then_come focus l f n c s = λ t.
    s new.world.locals.below (frames new.stack) new.turns (shown new.world t)
    ∙ ap (λ x. ends p new.world.locals.below (frames new.stack) x) (sym (c new.turns t))
    ∙ ap (λ k. ends p new.world.locals.below (frames new.stack) (come k (shown old.world t))) n
    ∙ ap (λ fs. ends p new.world.locals.below fs (come old.turns (shown old.world t))) f
    ∙ ap (λ x. ends p x.below (frames old.stack) (come old.turns (shown old.world t))) l

-- another meets what is left
pub meets_behind : (p : Program) (old mid new : Machine) (come then_come : ℕ → RunWorld → Came) (r : Checked Focus NoMemory)
    → mid.world.locals ≡ old.world.locals → frames mid.stack ≡ frames old.stack → mid.turns ≡ old.turns
    → ((k : ℕ) (t : List Event) → come k (shown old.world t) ≡ then_come k (shown mid.world t))
    → IfOk r (λ focus. Meets p mid then_come new focus) → IfOk r (λ focus. Meets p old come new focus)
meets_behind p old mid new come then_come (Ok focus) l f n c m = λ t.
    m t
    ∙ ap (λ x. ends p mid.world.locals.below (frames mid.stack) x) (sym (c mid.turns t))
    ∙ ap (λ k. ends p mid.world.locals.below (frames mid.stack) (come k (shown old.world t))) n
    ∙ ap (λ fs. ends p mid.world.locals.below fs (come old.turns (shown old.world t))) f
    ∙ ap (λ x. ends p x.below (frames old.stack) (come old.turns (shown old.world t))) l
meets_behind p old mid new come then_come (Err e) l f n c m = tt

-- the run ends in front of a statement's rest
over_meets : (p : Program) (old new : Machine) (part : ℕ → RunWorld → Result) (go : Result → Out) (stop : Stop) (focus : Focus)
    → ((how : How) (w : RunWorld) → go (Ends how w) ≡ Over how w)
    → new.world.locals ≡ old.world.locals → frames new.stack ≡ frames old.stack → new.turns ≡ old.turns
    → Halts part old.world new.world stop → IsStopped stop focus → Meets p old (λ k w. OfStatement (go (part k w))) new focus
over_meets p old new part go (Undefined cause line) focus g l f n h e =
    meets_by p old new (λ k w. OfStatement (go (part k w))) (λ k w. OfStatement (Over (Undefines cause line) w)) focus l f n
    (λ k t. ap OfStatement (ap go (h k t) ∙ g (Undefines cause line) (shown new.world t)))
    (λ below fs k w. ap (λ x. state p below fs x k w) e ∙ sym (over_of p below fs (Undefines cause line) w))
over_meets p old new part go Memory focus g l f n h e = absurd e

pub stops : (p : Program) (old new : Machine) (part : ℕ → RunWorld → Result) (go : Result → Out) (stop : Stop) (r : Checked Focus NoMemory)
    → ((how : How) (w : RunWorld) → go (Ends how w) ≡ Over how w)
    → new.world.locals ≡ old.world.locals → frames new.stack ≡ frames old.stack → new.turns ≡ old.turns
    → Halts part old.world new.world stop → IfOk r (λ focus. IsStopped stop focus) → IfOk r (λ focus. Meets p old (λ k w. OfStatement (go (part k w))) new focus)
stops p old new part go stop (Ok focus) g l f n h e = over_meets p old new part go stop focus g l f n h e
stops p old new part go stop (Err x) g l f n h e = tt

-- ---- values that aren't used

pub gave_on : (v : Option Value) (k : ℕ) (w : RunWorld) (go : ℕ → RunWorld → Out) → then_go (gave v k w) go ≡ go k w
gave_on None k w go = refl
gave_on (Some v) k w go = refl

pub gave_off : (v : Option Value) (k : ℕ) (w : RunWorld) (go : ℕ → RunWorld → Result) → then_drop (gave v k w) go ≡ go k w
gave_off None k w go = refl
gave_off (Some v) k w go = refl

goes_by : (does : ℕ → RunWorld → Result) (old new : World) (given : Checked (Option Value) Stop) → Comes does old new given → Goes (λ k w. then_go (does k w) (λ k1 w1. Next k1 w1)) old new (dropped given)
goes_by does old new (Ok v) c = λ k t. ap (λ r. then_go r (λ k1 w1. Next k1 w1)) (c k t) ∙ gave_on v k (shown new t) (λ k1 w1. Next k1 w1)
goes_by does old new (Err (Undefined cause line)) c = λ k t. ap (λ r. then_go r (λ k1 w1. Next k1 w1)) (c k t)
goes_by does old new (Err Memory) c = tt

pub effect_goes : (p : Program) (c : CoreOf ℕ) (old new : World) (r : Checked (Unit {0}) Stop) → DoneAtOnce p old new c r
    → (calls : Calls) → Goes (λ k w. then_go (eval (setting_of p calls) (tree p c) k w) (λ k1 w1. Next k1 w1)) old new r
effect_goes p c old new r d calls =
    subst (λ x. Goes (λ k w. then_go (eval (setting_of p calls) (tree p c) k w) (λ k1 w1. Next k1 w1)) old new x) d.1.0
    (goes_by (λ k w. eval (setting_of p calls) (tree p c) k w) old new d.0 (d.1.1 calls))

pub if_some : {A : Type 0} (P Q : A → Type 0) (r : Option A) → IfSome r P → ((x : A) → P x → Q x) → IfSome r Q
if_some P Q (Some x) h f = f x h
if_some P Q None h f = tt

-- ---- frames that come or go

pub pushed : (p : Program) (old new : Machine) (come : ℕ → RunWorld → Came) (focus : Focus) (f : Frame)
    → frames new.stack ≡ f ∷ frames old.stack → new.world ≡ old.world → new.turns ≡ old.turns
    → ((below : List Value) (fs : List Frame) (k : ℕ) (w : RunWorld) → state p below (f ∷ fs) focus k w ≡ ends p below fs (come k w))
    → Meets p old come new focus
pushed p old new come focus f e w n h = λ t.
    ap (λ gs. state p new.world.locals.below gs focus new.turns (shown new.world t)) e
    ∙ ap (λ (x : World). state p x.locals.below (f ∷ frames old.stack) focus new.turns (shown x t)) w
    ∙ ap (λ k. state p old.world.locals.below (f ∷ frames old.stack) focus k (shown old.world t)) n
    ∙ h old.world.locals.below (frames old.stack) old.turns (shown old.world t)

pub popped : (p : Program) (old new : Machine) (come : ℕ → RunWorld → Came) (focus : Focus) (f : Frame)
    → frames old.stack ≡ f ∷ frames new.stack → new.world ≡ old.world → new.turns ≡ old.turns
    → ((below : List Value) (fs : List Frame) (k : ℕ) (w : RunWorld) → state p below fs focus k w ≡ ends p below (f ∷ fs) (come k w))
    → Meets p old come new focus
popped p old new come focus f e w n h = λ t.
    ap (λ (x : World). state p x.locals.below (frames new.stack) focus new.turns (shown x t)) w
    ∙ ap (λ k. state p old.world.locals.below (frames new.stack) focus k (shown old.world t)) n
    ∙ h old.world.locals.below (frames new.stack) old.turns (shown old.world t)
    ∙ ap (λ gs. ends p old.world.locals.below gs (come old.turns (shown old.world t))) (sym e)

-- ---- in the program's own setting

-- only the world is another
abbrev pub with_world : Machine → World → Machine
with_world m w = record { alloc = m.alloc; stack = m.stack; world = w; turns = m.turns }

pub plain_stops : (p : Program) (old : Machine) (w1 : World) (c : CoreOf ℕ) (go : Result → Out) (stop : Stop) (r : Checked Focus NoMemory)
    → ((how : How) (w : RunWorld) → go (Ends how w) ≡ Over how w) → w1.locals ≡ old.world.locals
    → ((calls : Calls) → Comes (λ k w. eval (setting_of p calls) (tree p c) k w) old.world w1 (Err stop))
    → IfOk r (λ focus. IsStopped stop focus) → IfOk r (λ focus. Meets p old (λ k w. OfStatement (go (eval (own p) (tree p c) k w))) (with_world old w1) focus)
plain_stops p old w1 c go stop r g l h e =
    stops p old (with_world old w1) (λ k w. eval (own p) (tree p c) k w) go stop r g l refl refl
    (comes_halts (λ k w. eval (own p) (tree p c) k w) old.world w1 stop (comes_own p c old.world w1 (Err stop) h)) e

pub test_halts : (p : Program) (old : World) (w1 : World) (c : CoreOf ℕ) (stop : Stop)
    → ((calls : Calls) → Gets (λ k w. test (setting_of p calls) (tree p c) k w) old w1 (Err stop)) → Halts (λ k w. test (own p) (tree p c) k w) old w1 stop
test_halts p old w1 c stop h = gets_halts (λ k w. test (own p) (tree p c) k w) old w1 stop (gets_own p c old w1 (Err stop) h)

-- only the stack is another
abbrev pub with_stack : Machine → Stack → Machine
with_stack m s = record { alloc = m.alloc; stack = s; world = m.world; turns = m.turns }
