-- Lemmas: calls with a budget of root steps for each body, and a limit of open calls. For each budget it is the run in which
-- the steps are counted over all calls, at some number of steps.
use Rattle.std.specs.Prelude.{◌≡◌, ℕ, zero, suc, ◌+◌, ◌≤◌, ◌%◌, ◌==◌, Bool, true, false, Option, Some, None, List, [], ◌∷◌, ◌++◌, length, if◌then◌else◌}
use Rattle.std.proofs.Common.{refl, ap, ◌∙◌, arith}
use Rattle.op_forest.specs.Nodes.{Head, Node, Leaf, One, Two}
use Rattle.forests.specs.Words.{Word, Plain}
use Rattle.lcc_base.specs.Traces.{Wrote}
use Rattle.forests.specs.Worlds.{World, with_objects, with_arguments, with_input, with_event, Point, at_world, Move, Next, To, End, Effect, Went, Exits, Unfinished, Stuck, then_do, Outcome, Finished, Exited, Going, Failed, goes}
use Rattle.op_forest.specs.Labels.{behind}
use Rattle.op_forest.specs.Callees.{Body, BuiltIn, Putchar, Getchar, Exit, Callee, Defined, Provided, Missing}
use Rattle.objects.specs.declared.value.Value.TheVariants.{Number}
use Rattle.forests.specs.Bodies.{Setting, does, evaluate, at_label, follow, act, body_run}
use Rattle.forests.specs.Functions.{Program, entered, answered, put_character, get_character, exit_with, provided, setting_of, call_by}
use Rattle.forests.specs.Meaning.{call_of}
use Rattle.forests.specs.Budgets.{with_left, with_calls}
use Rattle.forests.specs.Actions.{Calls, Action, Gave, Stored, Passed, Called, Moved, Meaningless, handed, effect_of}
use Rattle.forests.specs.Rows.{acts}
use Rattle.forests.specs.OneRoot.{runs, runs_in}
use Rattle.forests.proofs.lemmas.OneRoot.{one_call, one_root, no_steps}
use Rattle.forests.specs.Nested.{calls_at, Meets, MeetsIn, CallsMeet}

meets_from : (n i j : ℕ) (e : Effect) (at at2 : ℕ → Effect) → n ≤ i + j → ((s : ℕ) → at (j + s) ≡ at2 s) → Meets i e at2 → Meets n e at
meets_from n i j (Went ws q mv) at at2 le h m = (j + m.0, λ s. (let e : j + m.0 + s ≡ j + (m.0 + s) = omega arith in ap at e) ∙ h (m.0 + s) ∙ m.1 s)
meets_from n i j (Exits status w) at at2 le h m = (j + m.0, λ s. (let e : j + m.0 + s ≡ j + (m.0 + s) = omega arith in ap at e) ∙ h (m.0 + s) ∙ m.1 s)
meets_from n i j (Unfinished w) at at2 le h m = (j + m.0, omega (arith, m.1, le), h m.0 ∙ m.2)
meets_from n i j Stuck at at2 le h m = (j + m.0, h m.0 ∙ m.1)

meets_in_from : (n i j : ℕ) (e : Outcome) (at at2 : ℕ → Outcome) → n ≤ i + j → ((s : ℕ) → at (j + s) ≡ at2 s) → MeetsIn i e at2 → MeetsIn n e at
meets_in_from n i j (Finished v q) at at2 le h m = (j + m.0, λ s. (let e : j + m.0 + s ≡ j + (m.0 + s) = omega arith in ap at e) ∙ h (m.0 + s) ∙ m.1 s)
meets_in_from n i j (Exited status w) at at2 le h m = (j + m.0, λ s. (let e : j + m.0 + s ≡ j + (m.0 + s) = omega arith in ap at e) ∙ h (m.0 + s) ∙ m.1 s)
meets_in_from n i j (Going w) at at2 le h m = (j + m.0, omega (arith, m.1, le), h m.0 ∙ m.2)
meets_in_from n i j Failed at at2 le h m = (j + m.0, h m.0 ∙ m.1)

then_meets : (n : ℕ) (e : Effect) (at : ℕ → Effect) (go1 go2 : List Word → Point → Effect) → Meets n e at → ((ws : List Word) (p : Point) → Meets n (go1 ws p) (λ j. go2 ws (with_left j p.world))) → Meets n (then_do e go1) (λ j. then_do (at j) go2)
then_meets n (Went ws p Next) at go1 go2 m h = meets_from n n m.0 (go1 ws p) (λ j. then_do (at j) go2) (λ j. go2 ws (with_left j p.world)) (omega arith) (λ s. ap (λ x. then_do x go2) (m.1 s)) (h ws p)
then_meets n (Went ws p (To l)) at go1 go2 m h = (m.0 + 0, ap (λ x. then_do x go2) (m.1 0))
then_meets n (Went ws p (End v)) at go1 go2 m h = (m.0 + 0, ap (λ x. then_do x go2) (m.1 0))
then_meets n (Exits status w) at go1 go2 m h = (m.0, λ s. ap (λ x. then_do x go2) (m.1 s))
then_meets n (Unfinished w) at go1 go2 m h = (m.0, m.1, ap (λ x. then_do x go2) m.2)
then_meets n Stuck at go1 go2 m h = (m.0, ap (λ x. then_do x go2) m.1)

goes_meets : (n : ℕ) (e : Effect) (at : ℕ → Effect) (go1 go2 : List Word → Point → Move → Outcome) → Meets n e at → ((ws : List Word) (p : Point) (mv : Move) → MeetsIn n (go1 ws p mv) (λ j. go2 ws (with_left j p.world) mv)) → MeetsIn n (goes e go1) (λ j. goes (at j) go2)
goes_meets n (Went ws p mv) at go1 go2 m h = meets_in_from n n m.0 (go1 ws p mv) (λ j. goes (at j) go2) (λ j. go2 ws (with_left j p.world) mv) (omega arith) (λ s. ap (λ x. goes x go2) (m.1 s)) (h ws p mv)
goes_meets n (Exits status w) at go1 go2 m h = (m.0, λ s. ap (λ x. goes x go2) (m.1 s))
goes_meets n (Unfinished w) at go1 go2 m h = (m.0, m.1, ap (λ x. goes x go2) m.2)
goes_meets n Stuck at go1 go2 m h = (m.0, ap (λ x. goes x go2) m.1)

label_meets : (n : ℕ) (x : Option (List Node)) (go1 : List Node → Outcome) (go2 : ℕ → List Node → Outcome) → ((ts : List Node) → MeetsIn n (go1 ts) (λ j. go2 j ts)) → MeetsIn n (at_label x go1) (λ j. at_label x (go2 j))
label_meets n None go1 go2 h = (0, refl)
label_meets n (Some ts) go1 go2 h = h ts

from_zero : {A : Type 0} (f : ℕ → A) (j : ℕ) → f (0 + j) ≡ f j
from_zero f j = let e : 0 + j ≡ j = omega arith in ap f e

from_one : {A : Type 0} (f : ℕ → A) (j : ℕ) → f (1 + j) ≡ f (suc j)
from_one f j = let e : 1 + j ≡ suc j = omega arith in ap f e

-- what is over at once
went_meets : (n : ℕ) (ws : List Word) (q : Point) (mv : Move) → Meets n (Went ws q mv) (λ j. Went ws (with_left j q.world) mv)
went_meets n ws q mv = (0, λ s. from_zero (λ j. Went ws (with_left j q.world) mv) s)

finished_meets : (n : ℕ) (v : Option Word) (q : Point) → MeetsIn n (Finished v q) (λ j. Finished v (with_left j q.world))
finished_meets n v q = (0, λ s. from_zero (λ j. Finished v (with_left j q.world)) s)

follow_meets : (n : ℕ) (whole rest : List Node) (mv : Move) (p : Point) (go1 : List Node → Outcome) (go2 : ℕ → List Node → Outcome) → ((ts : List Node) → MeetsIn n (go1 ts) (λ j. go2 j ts)) → MeetsIn n (follow whole rest mv p go1) (λ j. follow whole rest mv (with_left j p.world) (go2 j))
follow_meets n whole rest Next p go1 go2 h = h rest
follow_meets n whole rest (To l) p go1 go2 h = label_meets n (behind l whole) go1 go2 h
follow_meets n whole rest (End v) p go1 go2 h = finished_meets n v p

answered_meets : (n : ℕ) (before : World) (r : Outcome) (at : ℕ → Outcome) → MeetsIn n r at → Meets n (answered before r) (λ j. answered before (at j))
answered_meets n before (Finished v p) at m = (m.0, λ s. ap (answered before) (m.1 s))
answered_meets n before (Exited status w) at m = (m.0, λ s. ap (answered before) (m.1 s))
answered_meets n before (Going w) at m = (m.0, m.1, ap (answered before) m.2)
answered_meets n before Failed at m = (m.0, ap (answered before) m.1)

if_meets : (n : ℕ) (b : Bool) (e : Effect) (at : ℕ → Effect) → Meets n e at → Meets n (if b then e else Stuck) (λ j. if b then at j else Stuck)
if_meets n true e at m = m
if_meets n false e at m = (0, refl)

-- effects that are the same at each point
same_meets : (n : ℕ) (e : Effect) (at at2 : ℕ → Effect) → ((j : ℕ) → at j ≡ at2 j) → Meets n e at2 → Meets n e at
same_meets n e at at2 are m = meets_from n n 0 e at at2 (omega arith) (λ s. from_zero at s ∙ are s) m

handed_meets : (n : ℕ) (valued : Bool) (ws : List Word) (p : Point) → Meets n (handed valued ws p) (λ j. handed valued ws (with_left j p.world))
handed_meets n valued [] p = (0, refl)
handed_meets n true (w ∷ ws) p = went_meets n (w ∷ []) p Next
handed_meets n false (w ∷ ws) p = went_meets n [] p Next

action_meets : (n : ℕ) (c1 c2 : Calls) (x : Action) (p : Point) → CallsMeet n c1 c2 → Meets n (effect_of c1 x p) (λ j. effect_of c2 x (with_left j p.world))
action_meets n c1 c2 (Gave v) p h = went_meets n (v ∷ []) p Next
action_meets n c1 c2 (Stored objects) p h = went_meets n [] (at_world p (with_objects p.world objects)) Next
action_meets n c1 c2 (Passed w) p h = went_meets n [] (at_world p (with_arguments p.world (p.world.arguments ++ w ∷ []))) Next
action_meets n c1 c2 (Called valued f) p h = then_meets n (c1 f p) (λ j. c2 f (with_left j p.world)) (λ ws q. handed valued ws q) (λ ws q. handed valued ws q) (h f p) (λ ws q. handed_meets n valued ws q)
action_meets n c1 c2 (Moved mv) p h = went_meets n [] p mv
action_meets n c1 c2 Meaningless p h = (0, refl)

put_meets : (n : ℕ) (ws : List Word) (p : Point) → Meets n (put_character ws p) (λ j. put_character ws (with_left j p.world))
put_meets n (Plain (Number b) ∷ []) p = went_meets n _ (at_world p (with_event (with_arguments p.world []) (Wrote (b % 256)))) Next
put_meets n ws p = (0, refl)

get_meets : (n : ℕ) (ws : List Word) (input : List ℕ) (p : Point) → Meets n (get_character ws input p) (λ j. get_character ws input (with_left j p.world))
get_meets n [] [] p = went_meets n _ p Next
get_meets n [] (byte ∷ rest) p = went_meets n _ (at_world p (with_input p.world rest)) Next
get_meets n ws input p = (0, refl)

exit_meets : (n : ℕ) (ws : List Word) (p : Point) → Meets n (exit_with ws p) (λ j. exit_with ws (with_left j p.world))
exit_meets n (Plain (Number s) ∷ []) p = (0, λ j. refl)
exit_meets n ws p = (0, refl)

provided_meets : (n : ℕ) (b : BuiltIn) (p : Point) → Meets n (provided b p) (λ j. provided b (with_left j p.world))
provided_meets n Putchar p = put_meets n p.world.arguments p
provided_meets n Getchar p = get_meets n p.world.arguments p.world.input p
provided_meets n Exit p = exit_meets n p.world.arguments p

-- a body under calls that meet
module _ (n : ℕ) (s : Setting) (c1 c2 : Calls) (calls : CallsMeet n c1 c2) where
  does_meets : (h : Head) (ws : List Word) (p : Point) → Meets n (does (with_calls s c1) h ws p) (λ j. does (with_calls s c2) h ws (with_left j p.world))
  does_meets h ws p = action_meets n c1 c2 (acts s.environment h ws p.world.objects) p calls

  evaluate_meets : (t : Node) (p : Point) → Meets n (evaluate (with_calls s c1) t p) (λ j. evaluate (with_calls s c2) t (with_left j p.world))
  evaluate_meets (Leaf h) p = does_meets h [] p
  evaluate_meets (One h a) p = then_meets n _ (λ j. evaluate (with_calls s c2) a (with_left j p.world)) _ _ (evaluate_meets a p) (λ xs p1. does_meets h xs p1)
  evaluate_meets (Two h a b) p = then_meets n _ (λ j. evaluate (with_calls s c2) a (with_left j p.world)) _ _ (evaluate_meets a p)
      (λ xs p1. then_meets n _ (λ j. evaluate (with_calls s c2) b (with_left j p1.world)) _ _ (evaluate_meets b p1) (λ ys p2. does_meets h _ p2))

  pub act_meets : (whole : List Node) (t : Node) (rest : List Node) (p : Point) (go1 go2 : List Node → Point → Outcome) → ((ts : List Node) (p1 : Point) → MeetsIn n (go1 ts p1) (λ j. go2 ts (with_left j p1.world))) → MeetsIn n (act (with_calls s c1) whole t rest p go1) (λ j. act (with_calls s c2) whole t rest (with_left j p.world) go2)
  act_meets whole t rest p go1 go2 h = goes_meets n _ (λ j. evaluate (with_calls s c2) t (with_left j p.world)) _ _ (evaluate_meets t p)
      (λ ws p1 mv. follow_meets n whole rest mv p1 _ (λ j ts. go2 ts (with_left j p1.world)) (λ ts. h ts p1))

call_by_meets : (g : Program) (n : ℕ) (run1 run2 : Setting → List Node → Point → Outcome) (c1 c2 : Calls) (name : ℕ) (c : Callee) (p : Point) → ((f : Body) (q : Point) → MeetsIn n (run1 (setting_of g c1 name f p.world) f.roots q) (λ j. run2 (setting_of g c2 name f p.world) f.roots (with_left j q.world))) → Meets n (call_by g run1 c1 name c p) (λ j. call_by g run2 c2 name c (with_left j p.world))
call_by_meets g n run1 run2 c1 c2 name (Defined f) p h =
    let inside = entered g.order name f p.world in
    if_meets n (length p.world.arguments == f.words) _ (λ j. answered p.world (run2 (setting_of g c2 name f p.world) f.roots (with_left j inside)))
    (answered_meets n p.world _ (λ j. run2 (setting_of g c2 name f p.world) f.roots (with_left j inside)) (h f (at_world p inside)))
call_by_meets g n run1 run2 c1 c2 name (Provided b) p h = provided_meets n b p
call_by_meets g n run1 run2 c1 c2 name Missing p h = (0, refl)

fewer : (n m : ℕ) (e : Effect) (at : ℕ → Effect) → m ≤ n → Meets n e at → Meets m e at
fewer n m (Went ws q mv) at le h = h
fewer n m (Exits status w) at le h = h
fewer n m (Unfinished w) at le h = (h.0, omega (arith, h.1, le), h.2)
fewer n m Stuck at le h = h

module _ (g : Program) where
  -- a body under calls that meet, with one root step more in it than in those
  pub body_meets : (n : ℕ) (calls : Calls) → CallsMeet n calls (call_of g) → (s : Setting) (whole : List Node) (m : ℕ) → m ≤ suc n → (ts : List Node) (p : Point) → MeetsIn m (body_run (with_calls s calls) whole m ts p) (λ j. runs_in g s whole ts (with_left j p.world))
  body_meets n calls h s whole zero le ts p = (0, omega arith, no_steps (with_calls s (call_of g)) whole ts p.world)
  body_meets n calls h s whole (suc m) le [] p = (1, λ z. from_one (λ j. runs_in g s whole [] (with_left j p.world)) z)
  body_meets n calls h s whole (suc m) le (t ∷ ts) p =
      let go : List Node → Point → Outcome = λ js q. runs_in g s whole js q in
      let fewer_calls : CallsMeet m calls (call_of g) = λ name q. fewer n m (calls name q) (λ j. call_of g name (with_left j q.world)) (omega (arith, le)) (h name q) in
      meets_in_from (suc m) m 1 _ (λ j. go (t ∷ ts) (with_left j p.world)) (λ j. act (with_calls s (call_of g)) whole t ts (with_left j p.world) go) (omega arith)
      (λ z. from_one (λ j. go (t ∷ ts) (with_left j p.world)) z ∙ one_root g s whole t ts z p.world)
      (act_meets m s calls (call_of g) fewer_calls whole t ts p _ go (λ js q. body_meets n calls h s whole m (omega (arith, le)) js q))

  -- a call, where the run of its body meets
  called_meets : (n name : ℕ) (run : Setting → List Node → Point → Outcome) (calls : Calls) (p : Point) → ((f : Body) (q : Point) → MeetsIn n (run (setting_of g calls name f p.world) f.roots q) (λ j. runs_in g (setting_of g calls name f p.world) f.roots f.roots (with_left j q.world))) → Meets n (call_by g run calls name (g.callee name) p) (λ j. call_of g name (with_left j p.world))
  called_meets n name run calls p h =
      same_meets n _ _ _ (λ j. one_call g name (with_left j p.world)) (call_by_meets g n run (λ s roots p1. runs s roots roots p1) calls (call_of g) name (g.callee name) p h)

  -- for each budget there is a number of steps, not below it, with the same effect
  pub calls_meet : (n name : ℕ) (p : Point) → Meets n (calls_at g n name p) (λ j. call_of g name (record { left = j; world = p.world }))
  calls_meet zero name p =
      called_meets zero name (λ s roots p1. body_run s roots zero roots p1) (λ other p1. Stuck) p (λ f q. (0, omega arith, no_steps (setting_of g (call_of g) name f p.world) f.roots f.roots q.world))
  calls_meet (suc n) name p =
      called_meets (suc n) name (λ s roots p1. body_run s roots (suc n) roots p1) (calls_at g n) p (λ f q. body_meets n (calls_at g n) (λ other p1. calls_meet n other p1) (setting_of g (call_of g) name f p.world) f.roots (suc n) (omega arith) f.roots q)
