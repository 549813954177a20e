-- Runs with more turns go further.
use Rattle.std.specs.Prelude.{◌≡◌, ℕ, ◌≤◌, ◌+◌, ◌==◌, zero, suc, Option, Some, None, List, [], ◌∷◌, slice_get, refl}
use Rattle.std.proofs.Common.{ap, sym, arith, subst}
use Rattle.lcc_base.specs.declared.order.Order.{Order}
use Rattle.lcc_base.specs.Prefixes.{Starts, starts_refl, output_starts, depth_starts}
use Rattle.objects.specs.declared.value.Value.{Value}
use Rattle.objects.specs.declared.value.Value.TheVariants.{Number, Pointer, Function}
use Rattle.c_meaning.specs.Units.{FunctionTree, ObjectTree, UnitTree, unit_seen}
use Rattle.c_runs.specs.Worlds.{World, next_place}
use Rattle.c_runs.specs.Outcomes.{How, Undefined, OutOfTurns, Exit, Result, Out, Next, Break, Continue, Return, Goto, Over}
use Rattle.c_runs.specs.Places.{size_of, static_place}
use Rattle.c_runs.specs.Calls.{Argument, Call, Setting, fits}
use Rattle.c_runs.specs.Statements.{fill}
use Rattle.c_runs.specs.Run.{context, filled_from, with_objects_of, with_texts, empty_world, with_null, main_arguments, main_call, main_run, body_run, Ending, ending, status, ended_by, run_tree, run}
use Rattle.c_runs.specs.Room.{room}
use Rattle.c_runs.specs.Laws.{IsFurther, RunsGoFurther, OutputsGrow, DepthsGrow, behind, world_after}
use Rattle.c_runs.proofs.Alike.{Ahead, CallsAct, with_calls}
use Rattle.c_runs.proofs.AlikeStatements.{CutOut, GoesOut, ActsOut, next_acts, choice_goes, fill_acts}
use Rattle.c_runs.proofs.lemmas.AlikeCalls.{body_acts, calls_act, here}
use Rattle.c_runs.proofs.Growing.{GrowsOut, either_grows}

filled_acts : (g : Ahead) (n : ℕ) (s : Setting) (d : ℕ → Call → Result) → CallsAct g n s.calls d → (m : ℕ) (os : List ObjectTree) → ActsOut g n (λ k w. filled_from s m os k w) (λ k w. filled_from (with_calls s d) m os k w)
filled_acts g n s d C m [] = record { alike = λ k w l. record { falls = omega arith; alike = refl }; grows = λ k w. record { by = starts_refl w.trace } }
filled_acts g n s d C m (o ∷ os) = next_acts g n (λ k w. fill s (static_place m (size_of s.unit.tags o.of)) o.places k w) (λ k w. fill (with_calls s d) (static_place m (size_of s.unit.tags o.of)) o.places k w) (λ k w. filled_from s (m + 1) os k w) (λ k w. filled_from (with_calls s d) (m + 1) os k w) (fill_acts g n s d C (static_place m (size_of s.unit.tags o.of)) o.places) (filled_acts g n s d C (m + 1) os)

body_in : (g : Ahead) (n : ℕ) (s : Setting) (d : ℕ → Call → Result) → CallsAct g n s.calls d → (f : FunctionTree) (number : ℕ) (xs : List Argument) (k : ℕ) (w : World) → k ≤ n → GoesOut g k (body_run s f number xs k w) (body_run (with_calls s d) f number xs (k + g.more) (behind g.before w))
body_in g n s d C f number xs k w l = (body_acts g n s d C f number xs).alike k w l

main_goes : (more n : ℕ) (s : Setting) (d : ℕ → Call → Result) → CallsAct (record { more = more; before = [] }) n s.calls d → (f : Option FunctionTree) (k : ℕ) (w : World) → k ≤ n → GoesOut (record { more = more; before = [] }) k (main_run s f k w) (main_run (with_calls s d) f (k + more) w)
main_goes more n s d C None k w l = record { falls = tt; alike = refl }
main_goes more n s d C (Some f) k w l =
    let g : Ahead = record { more = more; before = [] } in
    let a : Call = main_call s.unit (main_arguments (next_place w 4)) (with_null w) in
    choice_goes g k (f.parameters == 0) _ _ _ _ k w
    (body_in g n s d C f s.unit.main [] k w l)
    (choice_goes g k (fits f a) (λ k1 w1. body_run s f a.function a.arguments k1 w1) (λ k1 w1. body_run (with_calls s d) f a.function a.arguments k1 w1) _ _ k (with_null w)
    (body_in g n s d C f a.function a.arguments k (with_null w) l)
    (record { falls = tt; alike = refl }))

main_grows : (s : Setting) → CallsAct here 0 s.calls s.calls → (f : Option FunctionTree) (k : ℕ) (w : World) → GrowsOut w.trace (main_run s f k w)
main_grows s C None k w = record { by = starts_refl w.trace }
main_grows s C (Some f) k w =
    let a : Call = main_call s.unit (main_arguments (next_place w 4)) (with_null w) in
    either_grows w.trace (f.parameters == 0) _ _ k w
    ((body_acts here 0 s s.calls C f s.unit.main []).grows k w)
    (either_grows w.trace (fits f a) (λ k1 w1. body_run s f a.function a.arguments k1 w1) _ k (with_null w)
    (record { by = ((body_acts here 0 s s.calls C f a.function a.arguments).grows k (with_null w)).by })
    (record { by = starts_refl w.trace }))

main_acts : (more n : ℕ) (s : Setting) → CallsAct (record { more = more; before = [] }) n s.calls s.calls → CallsAct here 0 s.calls s.calls → (f : Option FunctionTree) → ActsOut (record { more = more; before = [] }) n (λ k w. main_run s f k w) (λ k w. main_run s f k w)
main_acts more n s C D f = record { alike = λ k w l. main_goes more n s s.calls C f k w l; grows = main_grows s D f }

-- ---- ends

status_world : (v : Value) (line : ℕ) (w : World) → (status v line w).world ≡ w
status_world (Number n) line w = refl
status_world (Pointer o x) line w = refl
status_world (Function f) line w = refl

ended_world : (o : Out) → (ended_by o).world ≡ world_after o
ended_world (Next k w) = refl
ended_world (Return None line k w) = refl
ended_world (Return (Some v) line k w) = status_world v line w
ended_world (Break k w) = refl
ended_world (Continue k w) = refl
ended_world (Goto l k w) = refl
ended_world (Over how w) = refl

cut_further : (more : ℕ) (w : World) (q : Out) → CutOut more [] w q → Starts w.trace (ended_by q).world.trace
cut_further zero w q h = subst (λ x. Starts w.trace (ended_by x).world.trace) (sym h) (starts_refl w.trace)
cut_further (suc m) w q h = subst (λ x. Starts w.trace x.trace) (sym (ended_world q)) h

status_further : (v : Value) (line : ℕ) (w : World) → IsFurther (status v line w) (status v line w)
status_further (Number n) line w = refl
status_further (Pointer o x) line w = refl
status_further (Function f) line w = refl

ends_further : (more k : ℕ) (o q : Out) → GoesOut (record { more = more; before = [] }) k o q → IsFurther (ended_by o) (ended_by q)
ends_further more k (Next j w) q h = ap ended_by h.alike
ends_further more k (Return None line j w) q h = ap ended_by h.alike
ends_further more k (Return (Some v) line j w) q h = subst (λ x. IsFurther (status v line w) (ended_by x)) (sym h.alike) (status_further v line w)
ends_further more k (Break j w) q h = ap ended_by h.alike
ends_further more k (Continue j w) q h = ap ended_by h.alike
ends_further more k (Goto l j w) q h = ap ended_by h.alike
ends_further more k (Over (Undefined cause line) w) q h = ap ended_by h.alike
ends_further more k (Over OutOfTurns w) q h = cut_further more w q h.alike
ends_further more k (Over (Exit n) w) q h = ap ended_by h.alike

tree_further : (u : UnitTree) (order : Order) (input : List ℕ) (k more : ℕ) → IsFurther (run_tree u order input k) (run_tree u order input (k + more))
unfolding context
tree_further u order input k more =
    let g : Ahead = record { more = more; before = [] } in
    let s : Setting = context u order in
    ends_further more k _ _
    ((next_acts g k (λ k1 w1. filled_from s 0 u.objects k1 w1) (λ k1 w1. filled_from s 0 u.objects k1 w1) (λ k1 w1. main_run s (slice_get u.functions u.main) k1 w1) (λ k1 w1. main_run s (slice_get u.functions u.main) k1 w1)
    (filled_acts g k s s.calls (calls_act g u order k) 0 u.objects)
    (main_acts more k s (calls_act g u order k) (calls_act here u order 0) (slice_get u.functions u.main))).alike
    k (with_texts u.texts (with_objects_of u.tags u.objects (empty_world input))) (omega arith))

pub runs_go_further : RunsGoFurther
runs_go_further u order input k more = tree_further (unit_seen u) order input k more

-- in each case the trace goes on
starts_by : (h : How) (w : World) (f : Ending) → IsFurther (ending h w) f → Starts w.trace f.world.trace
starts_by (Undefined cause line) w f x = subst (λ e. Starts w.trace e.world.trace) (sym x) (starts_refl w.trace)
starts_by OutOfTurns w f x = x
starts_by (Exit n) w f x = subst (λ e. Starts w.trace e.world.trace) (sym x) (starts_refl w.trace)

pub outputs_grow : OutputsGrow
outputs_grow u order input k more =
    output_starts (run u order input k).world.trace (run u order input (k + more)).world.trace
    (starts_by (run u order input k).how (run u order input k).world (run u order input (k + more)) (runs_go_further u order input k more))

pub depths_grow : DepthsGrow
depths_grow u order input k more =
    depth_starts (room (unit_seen u)) [] (run u order input k).world.trace (run u order input (k + more)).world.trace
    (starts_by (run u order input k).how (run u order input k).world (run u order input (k + more)) (runs_go_further u order input k more))
