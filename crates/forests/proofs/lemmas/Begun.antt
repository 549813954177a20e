-- Lemmas: a run's trace goes on from the trace that it began with.
use Rattle.std.specs.Prelude.{ℕ, zero, suc, ◌%◌, ◌==◌, Bool, true, false, Option, Some, None, List, [], ◌∷◌, length, if◌then◌else◌}
use Rattle.std.proofs.Common.{refl}
use Rattle.op_forest.specs.Nodes.{Head, Node, Leaf, One, Two}
use Rattle.forests.specs.Words.{Word, Plain}
use Rattle.lcc_base.specs.Traces.{Event, Wrote, Opened, Closed}
use Rattle.forests.specs.Worlds.{World, Point, at_world, Move, Next, To, End, Effect, Went, Exits, Unfinished, Stuck, then_do, Outcome, Finished, Exited, Going, Failed, goes}
use Rattle.op_forest.specs.Labels.{behind}
use Rattle.op_forest.specs.Callees.{Body, BuiltIn, Putchar, Getchar, Exit, Callee, Defined, Provided, Missing}
use Rattle.objects.specs.declared.value.Value.TheVariants.{Number}
use Rattle.forests.specs.Bodies.{Setting, does, evaluate, at_label, follow, act, body_run}
use Rattle.forests.specs.Functions.{Program, entered, answered, put_character, get_character, exit_with, provided, setting_of, call_by}
use Rattle.forests.specs.Meaning.{spend, counted_run, counted_call, call_of}
use Rattle.forests.specs.Actions.{Calls, Action, Gave, Stored, Passed, Called, Moved, Meaningless, handed, effect_of}
use Rattle.forests.specs.Rows.{acts}
use Rattle.lcc_base.specs.Prefixes.{Starts, starts_refl, starts_trans}
use Rattle.forests.specs.Begun.{Begins, BeginsIn, CallsGrow}

pub begins_from : (a b : List Event) (e : Effect) → Starts a b → Begins b e → Begins a e
begins_from a b (Went ws p mv) x y = starts_trans a b p.world.trace x y
begins_from a b (Exits status w) x y = starts_trans a b w.trace x y
begins_from a b (Unfinished w) x y = starts_trans a b w.trace x y
begins_from a b Stuck x y = tt

pub begins_in_from : (a b : List Event) (e : Outcome) → Starts a b → BeginsIn b e → BeginsIn a e
begins_in_from a b (Finished v p) x y = starts_trans a b p.world.trace x y
begins_in_from a b (Exited status w) x y = starts_trans a b w.trace x y
begins_in_from a b (Going w) x y = starts_trans a b w.trace x y
begins_in_from a b Failed x y = tt

pub then_begins : (o : List Event) (e : Effect) (go : List Word → Point → Effect) → Begins o e → ((ws : List Word) (p : Point) → Begins p.world.trace (go ws p)) → Begins o (then_do e go)
then_begins o (Went ws p Next) go x y = begins_from o p.world.trace (go ws p) x (y ws p)
then_begins o (Went ws p (To l)) go x y = tt
then_begins o (Went ws p (End v)) go x y = tt
then_begins o (Exits status w) go x y = x
then_begins o (Unfinished w) go x y = x
then_begins o Stuck go x y = tt

pub goes_begins : (o : List Event) (e : Effect) (go : List Word → Point → Move → Outcome) → Begins o e → ((ws : List Word) (p : Point) (mv : Move) → BeginsIn p.world.trace (go ws p mv)) → BeginsIn o (goes e go)
goes_begins o (Went ws p mv) go x y = begins_in_from o p.world.trace (go ws p mv) x (y ws p mv)
goes_begins o (Exits status w) go x y = x
goes_begins o (Unfinished w) go x y = x
goes_begins o Stuck go x y = tt

label_begins : (o : List Event) (x : Option (List Node)) (go : List Node → Outcome) → ((ts : List Node) → BeginsIn o (go ts)) → BeginsIn o (at_label x go)
label_begins o None go h = tt
label_begins o (Some ts) go h = h ts

pub follow_begins : (whole rest : List Node) (mv : Move) (p : Point) (go : List Node → Outcome) → ((ts : List Node) → BeginsIn p.world.trace (go ts)) → BeginsIn p.world.trace (follow whole rest mv p go)
follow_begins whole rest Next p go h = h rest
follow_begins whole rest (To l) p go h = label_begins p.world.trace (behind l whole) go h
follow_begins whole rest (End v) p go h = starts_refl p.world.trace

pub answered_begins : (o : List Event) (before : World) (r : Outcome) → BeginsIn o r → Begins o (answered before r)
answered_begins o before (Finished v p) h = starts_trans o p.world.trace _ h (Closed ∷ [], refl)
answered_begins o before (Exited status w) h = h
answered_begins o before (Going w) h = h
answered_begins o before Failed h = tt

if_begins : (o : List Event) (b : Bool) (e : Effect) → Begins o e → Begins o (if b then e else Stuck)
if_begins o true e h = h
if_begins o false e h = tt

spend_begins : (left : ℕ) (w : World) (go : Point → Outcome) → ((p : Point) → BeginsIn p.world.trace (go p)) → BeginsIn w.trace (spend left w go)
spend_begins zero w go h = starts_refl w.trace
spend_begins (suc left) w go h = h (record { left = left; world = w })

pub handed_begins : (valued : Bool) (ws : List Word) (p : Point) → Begins p.world.trace (handed valued ws p)
handed_begins valued [] p = tt
handed_begins true (w ∷ ws) p = starts_refl p.world.trace
handed_begins false (w ∷ ws) p = starts_refl p.world.trace

pub action_begins : (call : Calls) → CallsGrow call → (x : Action) (p : Point) → Begins p.world.trace (effect_of call x p)
action_begins call grow (Gave v) p = starts_refl p.world.trace
action_begins call grow (Stored objects) p = starts_refl p.world.trace
action_begins call grow (Passed w) p = starts_refl p.world.trace
action_begins call grow (Called valued f) p = then_begins p.world.trace (call f p) (λ ws q. handed valued ws q) (grow f p) (λ ws q. handed_begins valued ws q)
action_begins call grow (Moved mv) p = starts_refl p.world.trace
action_begins call grow Meaningless p = tt

put_begins : (ws : List Word) (p : Point) → Begins p.world.trace (put_character ws p)
put_begins (Plain (Number n) ∷ []) p = (Wrote (n % 256) ∷ [], refl)
put_begins ws p = tt

get_begins : (ws : List Word) (input : List ℕ) (p : Point) → Begins p.world.trace (get_character ws input p)
get_begins [] [] p = starts_refl p.world.trace
get_begins [] (byte ∷ rest) p = starts_refl p.world.trace
get_begins ws input p = tt

exit_begins : (ws : List Word) (p : Point) → Begins p.world.trace (exit_with ws p)
exit_begins (Plain (Number n) ∷ []) p = starts_refl p.world.trace
exit_begins ws p = tt

pub provided_begins : (b : BuiltIn) (p : Point) → Begins p.world.trace (provided b p)
provided_begins Putchar p = put_begins p.world.arguments p
provided_begins Getchar p = get_begins p.world.arguments p.world.input p
provided_begins Exit p = exit_begins p.world.arguments p

-- under calls that grow
module _ (s : Setting) (grow : CallsGrow s.call) where
  pub does_begins : (h : Head) (ws : List Word) (p : Point) → Begins p.world.trace (does s h ws p)
  does_begins h ws p = action_begins s.call grow (acts s.environment h ws p.world.objects) p

  pub evaluate_begins : (t : Node) (p : Point) → Begins p.world.trace (evaluate s t p)
  evaluate_begins (Leaf h) p = does_begins h [] p
  evaluate_begins (One h a) p = then_begins p.world.trace _ _ (evaluate_begins a p) (λ xs p1. does_begins h xs p1)
  evaluate_begins (Two h a b) p = then_begins p.world.trace _ _ (evaluate_begins a p) (λ xs p1. then_begins p1.world.trace _ _ (evaluate_begins b p1) (λ ys p2. does_begins h _ p2))

  pub act_begins : (whole : List Node) (t : Node) (rest : List Node) (p : Point) (go : List Node → Point → Outcome) → ((ts : List Node) (p1 : Point) → BeginsIn p1.world.trace (go ts p1)) → BeginsIn p.world.trace (act s whole t rest p go)
  act_begins whole t rest p go h = goes_begins p.world.trace _ _ (evaluate_begins t p) (λ ws p1 mv. follow_begins whole rest mv p1 _ (λ ts. h ts p1))

  -- a body with a budget of its own
  pub body_begins : (whole : List Node) (n : ℕ) (ts : List Node) (p : Point) → BeginsIn p.world.trace (body_run s whole n ts p)
  body_begins whole zero ts p = starts_refl p.world.trace
  body_begins whole (suc n) [] p = starts_refl p.world.trace
  body_begins whole (suc n) (t ∷ ts) p = act_begins whole t ts p _ (λ js p1. body_begins whole n js p1)

  -- a body that takes of the steps that are left
  pub counted_begins : (fuel : ℕ) (whole ts : List Node) (p : Point) → BeginsIn p.world.trace (counted_run fuel s whole ts p)
  counted_begins zero whole ts p = starts_refl p.world.trace
  counted_begins (suc fuel) whole [] p = spend_begins p.left p.world _ (λ p1. starts_refl p1.world.trace)
  counted_begins (suc fuel) whole (t ∷ ts) p = spend_begins p.left p.world _ (λ p1. act_begins whole t ts p1 _ (λ js p2. counted_begins fuel whole js p2))

-- a call, given that the run of its body grows
pub call_by_begins : (g : Program) (run : Setting → List Node → Point → Outcome) (call : Calls) (name : ℕ) (c : Callee) (p : Point) → ((f : Body) (p1 : Point) → BeginsIn p1.world.trace (run (setting_of g call name f p.world) f.roots p1)) → Begins p.world.trace (call_by g run call name c p)
call_by_begins g run call name (Defined f) p h =
    let inside = entered g.order name f p.world in
    if_begins p.world.trace (length p.world.arguments == f.words) _
    (answered_begins p.world.trace p.world _ (begins_in_from p.world.trace inside.trace _ (Opened name ∷ [], refl) (h f (at_world p inside))))
call_by_begins g run call name (Provided b) p h = provided_begins b p
call_by_begins g run call name Missing p h = tt

pub counted_call_begins : (g : Program) (fuel : ℕ) → CallsGrow (counted_call g fuel)
counted_call_begins g zero name p = starts_refl p.world.trace
counted_call_begins g (suc fuel) name p = call_by_begins g (λ s roots p1. counted_run (suc fuel) s roots roots p1) (counted_call g fuel) name (g.callee name) p (λ f p1. counted_begins (setting_of g (counted_call g fuel) name f p.world) (counted_call_begins g fuel) (suc fuel) f.roots f.roots p1)

pub call_begins : (g : Program) (name : ℕ) (p : Point) → Begins p.world.trace (call_of g name p)
call_begins g name p = counted_call_begins g (suc p.left) name p
