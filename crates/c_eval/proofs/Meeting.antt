-- What comes of an act is what comes of the run from what is under way behind it.
use Rattle.std.specs.Prelude.{◌≡◌, ◌≤◌, ℕ, Bool, Option, Some, None, List, ◌∷◌, Result as Checked, Ok, Err, IfOk, refl}
use Rattle.std.proofs.Common.{sym, ap, ◌∙◌, arith}
use Rattle.lcc_base.specs.Traces.{Event}
use Rattle.objects.specs.declared.value.Value.{Value}
use Rattle.c_acts.specs.Tests.{truth_of}
use Rattle.c_runs.specs.Calls.{Setting}
use Rattle.c_runs.specs.Outcomes.{How as RunHow, Undefined as Undefines, Result, Ends, Out, Over}
use Rattle.c_runs.specs.Run.{context}
use Rattle.c_runs.specs.Worlds.{World as RunWorld}
use Rattle.c_worlds.specs.declared.program.Program.{Program}
use Rattle.c_worlds.specs.declared.stop.Stop.{Stop}
use Rattle.c_worlds.specs.declared.stop.Stop.TheVariants.{Undefined, Memory}
use Rattle.c_worlds.specs.declared.world.World.{World}
use Rattle.c_worlds.specs.Programs.{Calls, setting_of}
use Rattle.c_worlds.specs.Shown.{Comes, Gets, Goes, shown}
use Rattle.c_eval.specs.declared.focus.Focus.{Focus}
use Rattle.c_eval.specs.declared.focus.Focus.TheVariants as at
use Rattle.c_eval.specs.declared.frame.Frame.{Frame}
use Rattle.c_eval.specs.declared.frame.Frame.TheVariants as on
use Rattle.c_eval.specs.declared.machine.Machine.{Machine}
use Rattle.c_eval.specs.declared.stack.Stack.{Stack}
use Rattle.c_eval.specs.declared.how.How.{How}
use Rattle.c_eval.specs.Came.{IsCame, IsStopped, IsTold, IsUnused}
use Rattle.c_eval.specs.Ends.{Came, OfExpression, OfStatement, how_of}
use Rattle.c_eval.specs.Frames.{frames}
use Rattle.c_eval.specs.States.{ends, own, state}
use Rattle.c_eval.specs.Steps.{Meets}
use Rattle.c_eval.specs.Weights.{weight}
use Rattle.c_eval.proofs.Passes.{end_of, over_of}

-- ---- settings

-- what holds with any calls holds in the program's own setting
pub at_own : (p : Program) (P : Setting → Type 0) → ((calls : Calls) → P (setting_of p calls)) → P (own p)
unfolding context
at_own p P h = h (own p).calls

-- ---- states

pub state_same : (p : Program) (b c : List Value) (fs gs : List Frame) (focus : Focus) (j k : ℕ) (w : RunWorld) → b ≡ c → fs ≡ gs → j ≡ k → state p b fs focus j w ≡ state p c gs focus k w
state_same p b c fs gs focus j k w x y z = rw (x, y, z) refl

-- only the objects, the input and the output are other than before
abbrev pub StaysPut : Machine → Machine → Type 0
StaysPut old new = (new.world.locals.below ≡ old.world.locals.below) × ((frames new.stack ≡ frames old.stack) × (new.turns ≡ old.turns))

put_same : (p : Program) (old new : Machine) (focus : Focus) (t : List Event) → StaysPut old new → state p new.world.locals.below (frames new.stack) focus new.turns (shown new.world t) ≡ state p old.world.locals.below (frames old.stack) focus old.turns (shown new.world t)
put_same p old new focus t s = state_same p new.world.locals.below old.world.locals.below (frames new.stack) (frames old.stack) focus new.turns old.turns (shown new.world t) s.0 s.1.0 s.1.1

-- ---- expressions

came_at : (p : Program) (below : List Value) (fs : List Frame) (does : ℕ → RunWorld → Result) (w0 w1 : World) (given : Checked (Option Value) Stop) (focus : Focus) → Comes does w0 w1 given → IsCame given focus → (k : ℕ) (t : List Event) → state p below fs focus k (shown w1 t) ≡ ends p below fs (OfExpression (does k (shown w0 t)))
came_at p below fs does w0 w1 (Ok (Some v)) focus h q k t = ap (λ f. state p below fs f k (shown w1 t)) q ∙ ap (λ r. ends p below fs (OfExpression r)) (sym (h k t))
came_at p below fs does w0 w1 (Ok None) focus h q k t = ap (λ f. state p below fs f k (shown w1 t)) q ∙ ap (λ r. ends p below fs (OfExpression r)) (sym (h k t))
came_at p below fs does w0 w1 (Err (Undefined cause line)) focus h q k t =
    ap (λ f. state p below fs f k (shown w1 t)) q ∙ (sym (end_of p below fs (Undefines cause line) (shown w1 t)) ∙ ap (λ r. ends p below fs (OfExpression r)) (sym (h k t)))
came_at p below fs does w0 w1 (Err Memory) focus h q k t = absurd q

told_at : (p : Program) (below : List Value) (fs : List Frame) (does : ℕ → RunWorld → Result) (w0 w1 : World) (answer : Checked Bool Stop) (focus : Focus) → Gets does w0 w1 (truth_of answer) → IsTold answer focus → (k : ℕ) (t : List Event) → state p below fs focus k (shown w1 t) ≡ ends p below fs (OfExpression (does k (shown w0 t)))
told_at p below fs does w0 w1 (Ok b) focus h q k t = ap (λ f. state p below fs f k (shown w1 t)) q ∙ ap (λ r. ends p below fs (OfExpression r)) (sym (h k t))
told_at p below fs does w0 w1 (Err (Undefined cause line)) focus h q k t =
    ap (λ f. state p below fs f k (shown w1 t)) q ∙ (sym (end_of p below fs (Undefines cause line) (shown w1 t)) ∙ ap (λ r. ends p below fs (OfExpression r)) (sym (h k t)))
told_at p below fs does w0 w1 (Err Memory) focus h q k t = absurd q

-- what an act gave is under way
pub came_meets : {E : Type 0} (p : Program) (old new : Machine) (does be : ℕ → RunWorld → Result) (given : Checked (Option Value) Stop) (answer : Checked Focus E) → StaysPut old new → ((k : ℕ) (w : RunWorld) → does k w ≡ be k w) → Comes does old.world new.world given → IfOk answer (λ focus. IsCame given focus) → IfOk answer (λ focus. Meets p old (λ k w. OfExpression (be k w)) new focus)
came_meets p old new does be given (Ok focus) s e h q = λ t.
    put_same p old new focus t s
    ∙ (came_at p old.world.locals.below (frames old.stack) does old.world new.world given focus h q old.turns t
    ∙ ap (λ r. ends p old.world.locals.below (frames old.stack) (OfExpression r)) (e old.turns (shown old.world t)))
came_meets p old new does be given (Err e) s f h q = tt

pub told_meets : {E : Type 0} (p : Program) (old new : Machine) (does be : ℕ → RunWorld → Result) (told : Checked Bool Stop) (answer : Checked Focus E) → StaysPut old new → ((k : ℕ) (w : RunWorld) → does k w ≡ be k w) → Gets does old.world new.world (truth_of told) → IfOk answer (λ focus. IsTold told focus) → IfOk answer (λ focus. Meets p old (λ k w. OfExpression (be k w)) new focus)
told_meets p old new does be told (Ok focus) s e h q = λ t.
    put_same p old new focus t s
    ∙ (told_at p old.world.locals.below (frames old.stack) does old.world new.world told focus h q old.turns t
    ∙ ap (λ r. ends p old.world.locals.below (frames old.stack) (OfExpression r)) (e old.turns (shown old.world t)))
told_meets p old new does be told (Err e) s f h q = tt

-- ---- ends

-- The end of the run: `be` is what comes where an act comes to its end.
stop_at : (p : Program) (below : List Value) (fs : List Frame) (does : ℕ → RunWorld → Result) (be : ℕ → RunWorld → Came) (w0 w1 : World) (stop : Stop) (focus : Focus) → ((k : ℕ) (w : RunWorld) (how : RunHow) (x : RunWorld) → does k w ≡ Ends how x → be k w ≡ OfExpression (Ends how x)) → Gets does w0 w1 (Err stop) → IsStopped stop focus → (k : ℕ) (t : List Event) → state p below fs focus k (shown w1 t) ≡ ends p below fs (be k (shown w0 t))
stop_at p below fs does be w0 w1 (Undefined cause line) focus e h q k t =
    ap (λ f. state p below fs f k (shown w1 t)) q
    ∙ (sym (end_of p below fs (Undefines cause line) (shown w1 t)) ∙ ap (λ r. ends p below fs r) (sym (e k (shown w0 t) (Undefines cause line) (shown w1 t) (h k t))))
stop_at p below fs does be w0 w1 Memory focus e h q k t = absurd q

over_at : (p : Program) (below : List Value) (fs : List Frame) (does : ℕ → RunWorld → Result) (be : ℕ → RunWorld → Out) (w0 w1 : World) (stop : Stop) (focus : Focus) → ((k : ℕ) (w : RunWorld) (how : RunHow) (x : RunWorld) → does k w ≡ Ends how x → be k w ≡ Over how x) → Gets does w0 w1 (Err stop) → IsStopped stop focus → (k : ℕ) (t : List Event) → state p below fs focus k (shown w1 t) ≡ ends p below fs (OfStatement (be k (shown w0 t)))
over_at p below fs does be w0 w1 (Undefined cause line) focus e h q k t =
    ap (λ f. state p below fs f k (shown w1 t)) q
    ∙ (sym (over_of p below fs (Undefines cause line) (shown w1 t)) ∙ ap (λ o. ends p below fs (OfStatement o)) (sym (e k (shown w0 t) (Undefines cause line) (shown w1 t) (h k t))))
over_at p below fs does be w0 w1 Memory focus e h q k t = absurd q

goes_over_at : (p : Program) (below : List Value) (fs : List Frame) (does be : ℕ → RunWorld → Out) (w0 w1 : World) (stop : Stop) (focus : Focus) → ((k : ℕ) (w : RunWorld) (how : RunHow) (x : RunWorld) → does k w ≡ Over how x → be k w ≡ Over how x) → Goes does w0 w1 (Err stop) → IsStopped stop focus → (k : ℕ) (t : List Event) → state p below fs focus k (shown w1 t) ≡ ends p below fs (OfStatement (be k (shown w0 t)))
goes_over_at p below fs does be w0 w1 (Undefined cause line) focus e h q k t =
    ap (λ f. state p below fs f k (shown w1 t)) q
    ∙ (sym (over_of p below fs (Undefines cause line) (shown w1 t)) ∙ ap (λ o. ends p below fs (OfStatement o)) (sym (e k (shown w0 t) (Undefines cause line) (shown w1 t) (h k t))))
goes_over_at p below fs does be w0 w1 Memory focus e h q k t = absurd q

-- an act of an expression that can't go on, within an expression
pub stop_meets : {E : Type 0} (p : Program) (old new : Machine) (does : ℕ → RunWorld → Result) (be : ℕ → RunWorld → Result) (stop : Stop) (answer : Checked Focus E) → StaysPut old new → ((k : ℕ) (w : RunWorld) (how : RunHow) (x : RunWorld) → does k w ≡ Ends how x → be k w ≡ Ends how x) → Gets does old.world new.world (Err stop) → IfOk answer (λ focus. IsStopped stop focus) → IfOk answer (λ focus. Meets p old (λ k w. OfExpression (be k w)) new focus)
stop_meets p old new does be stop (Ok focus) s e h q = λ t.
    put_same p old new focus t s ∙ stop_at p old.world.locals.below (frames old.stack) does (λ k w. OfExpression (be k w)) old.world new.world stop focus (λ k w how x d. ap (λ r. OfExpression r) (e k w how x d)) h q old.turns t
stop_meets p old new does be stop (Err x) s e h q = tt

-- within a statement
pub stop_over : {E : Type 0} (p : Program) (old new : Machine) (does : ℕ → RunWorld → Result) (be : ℕ → RunWorld → Out) (stop : Stop) (answer : Checked Focus E) → StaysPut old new → ((k : ℕ) (w : RunWorld) (how : RunHow) (x : RunWorld) → does k w ≡ Ends how x → be k w ≡ Over how x) → Gets does old.world new.world (Err stop) → IfOk answer (λ focus. IsStopped stop focus) → IfOk answer (λ focus. Meets p old (λ k w. OfStatement (be k w)) new focus)
stop_over p old new does be stop (Ok focus) s e h q = λ t.
    put_same p old new focus t s ∙ over_at p old.world.locals.below (frames old.stack) does be old.world new.world stop focus e h q old.turns t
stop_over p old new does be stop (Err x) s e h q = tt

-- an act of a statement that can't go on
pub goes_over : {E : Type 0} (p : Program) (old new : Machine) (does be : ℕ → RunWorld → Out) (stop : Stop) (answer : Checked Focus E) → StaysPut old new → ((k : ℕ) (w : RunWorld) (how : RunHow) (x : RunWorld) → does k w ≡ Over how x → be k w ≡ Over how x) → Goes does old.world new.world (Err stop) → IfOk answer (λ focus. IsStopped stop focus) → IfOk answer (λ focus. Meets p old (λ k w. OfStatement (be k w)) new focus)
goes_over p old new does be stop (Ok focus) s e h q = λ t.
    put_same p old new focus t s ∙ goes_over_at p old.world.locals.below (frames old.stack) does be old.world new.world stop focus e h q old.turns t
goes_over p old new does be stop (Err x) s e h q = tt

-- ---- other words for what comes

pub meets_as : {E : Type 0} (p : Program) (old new : Machine) (does be : ℕ → RunWorld → Came) (answer : Checked Focus E) → ((k : ℕ) (w : RunWorld) → does k w ≡ be k w) → IfOk answer (λ focus. Meets p old does new focus) → IfOk answer (λ focus. Meets p old be new focus)
meets_as p old new does be (Ok focus) e h = λ t. h t ∙ ap (λ r. ends p old.world.locals.below (frames old.stack) r) (e old.turns (shown old.world t))
meets_as p old new does be (Err x) e h = tt

-- what holds of any program holds of one
pub meets_at : {E : Type 0} (p : Program) (P : Program → Focus → Type 0) (answer : Checked Focus E) → IfOk answer (λ focus. (q : Program) → P q focus) → IfOk answer (λ focus. P p focus)
meets_at p P (Ok focus) h = h p
meets_at p P (Err x) h = tt

-- ---- behind an act, or above a frame

pub ends_same : (p : Program) (b c : List Value) (fs gs : List Frame) (does : ℕ → RunWorld → Came) (j k : ℕ) (w : RunWorld) → b ≡ c → fs ≡ gs → j ≡ k → ends p b fs (does j w) ≡ ends p c gs (does k w)
ends_same p b c fs gs does j k w x y z = rw (x, y, z) refl

world_same : (p : Program) (x y : World) (gs : List Frame) (does : ℕ → RunWorld → Came) (j k : ℕ) (t : List Event) → j ≡ k → x ≡ y → ends p x.locals.below gs (does j (shown x t)) ≡ ends p y.locals.below gs (does k (shown y t))
world_same p x y gs does j k t a b = rw (a, b) refl

-- `mid` is the machine behind an act that came to what `be` does before it
pub meets_behind : {E : Type 0} (p : Program) (old mid new : Machine) (does be : ℕ → RunWorld → Came) (answer : Checked Focus E) → StaysPut old mid → ((t : List Event) → be old.turns (shown old.world t) ≡ does old.turns (shown mid.world t)) → IfOk answer (λ focus. Meets p mid does new focus) → IfOk answer (λ focus. Meets p old be new focus)
meets_behind p old mid new does be (Ok focus) s e h = λ t. h t ∙ (ends_same p mid.world.locals.below old.world.locals.below (frames mid.stack) (frames old.stack) does mid.turns old.turns (shown mid.world t) s.0 s.1.0 s.1.1 ∙ ap (λ r. ends p old.world.locals.below (frames old.stack) r) (sym (e t)))
meets_behind p old mid new does be (Err x) s e h = tt

passed_ends : (p : Program) (below : List Value) (fs gs : List Frame) (e : _) (v : Value) (came : Came) → fs ≡ on.Passed e v ∷ gs → ends p below fs came ≡ ends p below gs came
passed_ends p below fs gs e v came h = rw h refl

frame_same : {E : Type 0} (old mid new : Machine) (does be : Program → ℕ → RunWorld → Came) (answer : Checked Focus E) → ((p : Program) (below : List Value) (came : Came) → ends p below (frames mid.stack) came ≡ ends p below (frames old.stack) came) → mid.turns ≡ old.turns → mid.world ≡ old.world → ((p : Program) (k : ℕ) (w : RunWorld) → does p k w ≡ be p k w) → IfOk answer (λ focus. (p : Program) → Meets p mid (λ k w. does p k w) new focus) → IfOk answer (λ focus. (p : Program) → Meets p old (λ k w. be p k w) new focus)
frame_same old mid new does be (Ok focus) f k w d h = λ p t.
    h p t
    ∙ (f p mid.world.locals.below (does p mid.turns (shown mid.world t))
    ∙ (world_same p mid.world old.world (frames old.stack) (does p) mid.turns old.turns t k w ∙ ap (λ r. ends p old.world.locals.below (frames old.stack) r) (d p old.turns (shown old.world t))))
frame_same old mid new does be (Err x) f k w d h = tt

pub passed_meets : {E : Type 0} (old mid new : Machine) (e : _) (v : Value) (does be : Program → ℕ → RunWorld → Came) (answer : Checked Focus E) → frames mid.stack ≡ on.Passed e v ∷ frames old.stack → mid.turns ≡ old.turns → mid.world ≡ old.world → ((p : Program) (k : ℕ) (w : RunWorld) → does p k w ≡ be p k w) → IfOk answer (λ focus. (p : Program) → Meets p mid (λ k w. does p k w) new focus) → IfOk answer (λ focus. (p : Program) → Meets p old (λ k w. be p k w) new focus)
passed_meets old mid new e v does be answer f k w d h = frame_same old mid new does be answer (λ p below came. passed_ends p below (frames mid.stack) (frames old.stack) e v came f) k w d h

-- ---- machines

abbrev pub with_stack : Machine → Stack → Machine
with_stack m s = record { alloc = m.alloc; stack = s; world = m.world; turns = m.turns }

abbrev pub with_world : Machine → World → Machine
with_world m w = record { alloc = m.alloc; stack = m.stack; world = w; turns = m.turns }

-- the locals that stay
pub puts : (m : Machine) (w : World) → w.locals ≡ m.world.locals → StaysPut m (with_world m w)
puts m w h = (ap (λ l. l.below) h, (refl, refl))

-- ---- what no checked unit holds, and what gave no value

pub over_meets : (p : Program) (below : List Value) (fs : List Frame) (focus : Focus) (how : How) (k : ℕ) (w : RunWorld) (r : Result) → focus ≡ at.Over how → Ends (how_of how) w ≡ r → state p below fs focus k w ≡ ends p below fs (OfExpression r)
over_meets p below fs focus how k w r q e = ap (λ f. state p below fs f k w) q ∙ (sym (end_of p below fs (how_of how) w) ∙ ap (λ x. ends p below fs (OfExpression x)) e)

pub over_statement : (p : Program) (below : List Value) (fs : List Frame) (focus : Focus) (how : How) (k : ℕ) (w : RunWorld) (o : Out) → focus ≡ at.Over how → Over (how_of how) w ≡ o → state p below fs focus k w ≡ ends p below fs (OfStatement o)
over_statement p below fs focus how k w o q e = ap (λ f. state p below fs f k w) q ∙ (sym (over_of p below fs (how_of how) w) ∙ ap (λ x. ends p below fs (OfStatement x)) e)

pub unused_meets : (p : Program) (below : List Value) (fs : List Frame) (focus : Focus) (r : Result) (k : ℕ) (w : RunWorld) → IsUnused r k w focus → state p below fs focus k w ≡ ends p below fs (OfExpression r)
unused_meets p below fs (at.NoValue line) r k w h = ap (λ x. ends p below fs (OfExpression x)) (sym h)
unused_meets p below fs (at.Over how) r k w h = sym (end_of p below fs (how_of how) w) ∙ ap (λ x. ends p below fs (OfExpression x)) (sym h)
unused_meets p below fs focus r k w h = absurd h

pub unused_light : (focus : Focus) (r : Result) (k : ℕ) (w : RunWorld) → IsUnused r k w focus → weight focus ≤ 1
unused_light (at.NoValue line) r k w h = omega arith
unused_light (at.Over how) r k w h = omega arith
unused_light focus r k w h = absurd h
