-- The same of functions and calls; what follows of it: the equation of calls, that turns fall, that traces grow, that more
-- turns go further, and that what was seen before a call changes nothing in it.
use Rattle.std.specs.Prelude.{◌≡◌, ℕ, ◌<◌, ◌≤◌, ◌+◌, ◌==◌, zero, suc, Bool, true, false, Option, Some, None, List, [], ◌∷◌, ◌++◌, drop, slice_get, refl}
use Rattle.std.proofs.Common.{ap, sym, ◌∙◌, arith, subst, append_assoc}
use Rattle.lcc_base.specs.declared.order.Order.{Order}
use Rattle.lcc_base.specs.Prefixes.{Starts, starts_refl}
use Rattle.lcc_base.specs.Traces.{Event, Opened, Closed}
use Rattle.objects.specs.declared.purpose.Purpose.TheVariants.{Initialisation}
use Rattle.objects.specs.declared.value.Value.{Value}
use Rattle.objects.specs.Conversions.{converted}
use Rattle.objects.specs.Scalars.{scalar_bytes}
use Rattle.c_types.specs.CType.{CType}
use Rattle.c_types.specs.Layout.{Tag}
use Rattle.c_meaning.specs.Scalars.{scalar_of}
use Rattle.c_meaning.specs.Types.{is_record}
use Rattle.c_meaning.specs.Units.{FunctionTree, UnitTree}
use Rattle.c_runs.specs.Worlds.{World, objects, entered, left_behind, with_objects, with_local, with_passed}
use Rattle.c_runs.specs.Outcomes.{How, Undefined, OutOfTurns, Exit, Result, Gives, GivesNone, Ends, Out, Next, Break, Continue, Return, Goto, Over}
use Rattle.c_runs.specs.Below.{below}
use Rattle.c_types.specs.Constness.{is_const}
use Rattle.c_runs.specs.Places.{assigned}
use Rattle.c_runs.specs.Calls.{Argument, Call, Setting, with_parameter, with_parameters, with_locals, own_parameters, handed, returned}
use Rattle.c_runs.specs.Statements.{Start, exec}
use Rattle.c_runs.specs.Run.{setting, body_run, function_run, called, no_calls, calls_below, call, context}
use Rattle.c_runs.specs.Laws.{EvalFalls, ExecFalls, EvalGrows, ExecGrows, CallIs, world_after, behind}
use Rattle.c_runs.proofs.lemmas.Equations.{below_is}
use Rattle.c_runs.proofs.Growing.{Grows, GrowsOut, GrowsOuts, further_out, fine_grows, either_grows, done_grows, closed_grows}
use Rattle.c_runs.proofs.Alike.{Ahead, Cut, EndsAlike, Goes, CallsAct, with_calls, call_behind, fine_goes, eval_acts}
use Rattle.c_runs.proofs.AlikeStatements.{CutOut, OversAlike, GoesOut, ActsOut, choice_goes, done_goes, exec_acts}

-- ---- the body of a function

parameter_goes : (g : Ahead) (n : ℕ) (tags : List Tag) (order : Order) (t : CType) (a : Argument) (go to : ℕ → World → Out) → ActsOut g n go to → (k : ℕ) (w : World) → k ≤ n → GoesOut g k (with_parameter tags order t a k w go) (with_parameter tags order t a (k + g.more) (behind g.before w) to)
parameter_goes g n tags order t a go to h k w l =
    choice_goes g k (is_record t) _ _ _ _ k w
    (h.alike k (with_passed (is_const t) a.value w) l)
    (done_goes g k (converted (scalar_of t) a.value) a.line w _ _ (λ v. h.alike k (with_local (is_const t) (scalar_bytes order (scalar_of t).width v) w) l))

parameter_grows : (tags : List Tag) (order : Order) (t : CType) (a : Argument) (go : ℕ → World → Out) → GrowsOuts go → GrowsOuts (λ k w. with_parameter tags order t a k w go)
parameter_grows tags order t a go g k w =
    either_grows w.trace (is_record t) _ _ k w
    (record { by = (g k (with_passed (is_const t) a.value w)).by })
    (done_grows w.trace (converted (scalar_of t) a.value) a.line w _ (starts_refl w.trace) (λ v. record { by = (g k (with_local (is_const t) (scalar_bytes order (scalar_of t).width v) w)).by }))

parameter_acts : (g : Ahead) (n : ℕ) (tags : List Tag) (order : Order) (t : CType) (a : Argument) (go to : ℕ → World → Out) → ActsOut g n go to → ActsOut g n (λ k w. with_parameter tags order t a k w go) (λ k w. with_parameter tags order t a k w to)
parameter_acts g n tags order t a go to h = record {
  alike = λ k w l. parameter_goes g n tags order t a go to h k w l;
  grows = λ k w. parameter_grows tags order t a to h.grows k w;
}

parameters_act : (g : Ahead) (n : ℕ) (tags : List Tag) (order : Order) (ts : List CType) (as' : List Argument) (go to : ℕ → World → Out) → ActsOut g n go to → ActsOut g n (λ k w. with_parameters tags order ts as' k w go) (λ k w. with_parameters tags order ts as' k w to)
parameters_act g n tags order [] as' go to h = h
parameters_act g n tags order (t ∷ ts) [] go to h = record { alike = λ k w l. record { falls = tt; alike = refl }; grows = λ k w. record { by = starts_refl w.trace } }
parameters_act g n tags order (t ∷ ts) (a ∷ as') go to h = parameter_acts g n tags order t a _ _ (parameters_act g n tags order ts as' go to h)

-- further locals are the same, and aren't seen
locals_behind : (tags : List Tag) (ts : List CType) (before : List Event) (w : World) → with_locals tags ts (behind before w) ≡ behind before (with_locals tags ts w)
locals_behind tags [] before w = refl
locals_behind tags (t ∷ ts) before w = locals_behind tags ts before (with_local (is_const t) _ w)

locals_trace : (tags : List Tag) (ts : List CType) (w : World) → (with_locals tags ts w).trace ≡ w.trace
locals_trace tags [] w = refl
locals_trace tags (t ∷ ts) w = locals_trace tags ts (with_local (is_const t) _ w)

-- the body, behind the locals
run_acts : (g : Ahead) (n : ℕ) (tags : List Tag) (ts : List CType) (go to : ℕ → World → Out) → ActsOut g n go to → ActsOut g n (λ k w. go k (with_locals tags ts w)) (λ k w. to k (with_locals tags ts w))
run_acts g n tags ts go to h = record {
  alike = λ k w l. subst (λ x. GoesOut g k (go k (with_locals tags ts w)) (to (k + g.more) x)) (sym (locals_behind tags ts g.before w)) (h.alike k (with_locals tags ts w) l);
  grows = λ k w. record { by = subst (λ es. Starts es (world_after (to k (with_locals tags ts w))).trace) (locals_trace tags ts w) (h.grows k (with_locals tags ts w)).by };
}

entered_behind : (e : Event) (before : List Event) (w : World) → entered e (behind before w) ≡ behind before (entered e w)
entered_behind e before w = ap (λ es. record { storage = w.storage; locals = []; input = w.input; trace = es }) (append_assoc before w.trace (e ∷ []))

pub body_acts : (g : Ahead) (n : ℕ) (s : Setting) (d : ℕ → Call → Result) → CallsAct g n s.calls d → (f : FunctionTree) (number : ℕ) (xs : List Argument) → ActsOut g n (λ k w. body_run s f number xs k w) (λ k w. body_run (with_calls s d) f number xs k w)
body_acts g n s d C f number xs =
    let inner : ActsOut g n _ _ = parameters_act g n s.unit.tags s.order (own_parameters f) xs _ _ (run_acts g n s.unit.tags (drop f.parameters f.locals) (λ k w. exec s f.body Start k w) (λ k w. exec (with_calls s d) f.body Start k w) (exec_acts g n s d C f.body Start)) in
    record {
      alike = λ k w l. subst (λ x. GoesOut g k (body_run s f number xs k w) (with_parameters s.unit.tags s.order (own_parameters f) xs (k + g.more) x (λ k1 w1. exec (with_calls s d) f.body Start k1 (with_locals s.unit.tags (drop f.parameters f.locals) w1)))) (sym (entered_behind (Opened number) g.before w)) (inner.alike k (entered (Opened number) w) l);
      grows = λ k w. further_out w.trace (entered (Opened number) w) _ (Opened number ∷ [], refl) (inner.grows k (entered (Opened number) w));
    }

-- ---- what a call gives

left_is_behind : (e : Event) (before : List Event) (old w : World) → left_behind e (behind before old) (behind before w) ≡ behind before (left_behind e old w)
left_is_behind e before old w = ap (λ es. record { storage = (left_behind e old w).storage; locals = old.locals; input = w.input; trace = es }) (append_assoc before w.trace (e ∷ []))

gives_behind : (g : Ahead) (v : Value) (k : ℕ) (old w : World) → Gives v (k + g.more) (left_behind Closed (behind g.before old) (behind g.before w)) ≡ Gives v (k + g.more) (behind g.before (left_behind Closed old w))
gives_behind g v k old w = ap (λ x. Gives v (k + g.more) x) (left_is_behind Closed g.before old w)

handed_goes : (g : Ahead) (k : ℕ) (tags : List Tag) (of : CType) (copy : Option Value) (v : Value) (line j : ℕ) (old w : World) → j ≤ k → Goes g k (handed tags of copy v line j old w) (handed tags of copy v line (j + g.more) (behind g.before old) (behind g.before w))
handed_goes g k tags of None v line j old w l = record { falls = l; alike = gives_behind g v j old w }
handed_goes g k tags of (Some p) v line j old w l = fine_goes g k (assigned Initialisation tags of (objects w) v p) line w _ _ (λ os. record { falls = l; alike = gives_behind g p j old (with_objects w os) })

cut_returned : (tags : List Tag) (a : Call) (m : ℕ) (before : List Event) (w : World) (q : Out) → CutOut m before w q → ((es : List Event) → GrowsOut es q → Grows es (returned tags a q)) → Cut m before w (returned tags a q)
cut_returned tags a zero before w q h s = ap (λ x. returned tags a x) h
cut_returned tags a (suc m) before w q h s = (s (before ++ w.trace) (record { by = h })).by

handed_grows : (es : List Event) (tags : List Tag) (of : CType) (copy : Option Value) (v : Value) (line k : ℕ) (before w : World) → Starts es w.trace → Grows es (handed tags of copy v line k before w)
handed_grows es tags of None v line k before w h = record { by = closed_grows es w.trace h }
handed_grows es tags of (Some p) v line k before w h = fine_grows es (assigned Initialisation tags of (objects w) v p) line w _ h (λ os. record { by = closed_grows es w.trace h })

returned_grows : (es : List Event) (tags : List Tag) (a : Call) (o : Out) → GrowsOut es o → Grows es (returned tags a o)
returned_grows es tags a (Next k w) h = record { by = closed_grows es w.trace h.by }
returned_grows es tags a (Return None line k w) h = record { by = closed_grows es w.trace h.by }
returned_grows es tags a (Return (Some v) line k w) h = handed_grows es tags a.of a.result v line k a.world w h.by
returned_grows es tags a (Break k w) h = record { by = h.by }
returned_grows es tags a (Continue k w) h = record { by = h.by }
returned_grows es tags a (Goto l k w) h = record { by = h.by }
returned_grows es tags a (Over how w) h = record { by = h.by }

over_returned : (g : Ahead) (tags : List Tag) (a : Call) (how : How) (w : World) (q : Out) → OversAlike g how w q → EndsAlike g how w (returned tags a q)
over_returned g tags a (Undefined cause line) w q h = ap (λ x. returned tags a x) h
over_returned g tags a OutOfTurns w q h = cut_returned tags a g.more g.before w q h (λ es. returned_grows es tags a q)
over_returned g tags a (Exit status) w q h = ap (λ x. returned tags a x) h

none_behind : (g : Ahead) (line k : ℕ) (old w : World) → GivesNone line (k + g.more) (left_behind Closed (behind g.before old) (behind g.before w)) ≡ GivesNone line (k + g.more) (behind g.before (left_behind Closed old w))
none_behind g line k old w = ap (λ x. GivesNone line (k + g.more) x) (left_is_behind Closed g.before old w)

returned_goes : (g : Ahead) (k : ℕ) (tags : List Tag) (a : Call) (o q : Out) → GoesOut g k o q → Goes g k (returned tags a o) (returned tags (call_behind g.before a) q)
returned_goes g k tags a (Next j w) q h = record { falls = h.falls; alike = ap (λ x. returned tags (call_behind g.before a) x) h.alike ∙ none_behind g a.line j a.world w }
returned_goes g k tags a (Return None line j w) q h = record { falls = h.falls; alike = ap (λ x. returned tags (call_behind g.before a) x) h.alike ∙ none_behind g a.line j a.world w }
returned_goes g k tags a (Return (Some v) line j w) q h = subst (λ x. Goes g k (handed tags a.of a.result v line j a.world w) (returned tags (call_behind g.before a) x)) (sym h.alike) (handed_goes g k tags a.of a.result v line j a.world w h.falls)
returned_goes g k tags a (Break j w) q h = record { falls = tt; alike = ap (λ x. returned tags (call_behind g.before a) x) h.alike }
returned_goes g k tags a (Continue j w) q h = record { falls = tt; alike = ap (λ x. returned tags (call_behind g.before a) x) h.alike }
returned_goes g k tags a (Goto l j w) q h = record { falls = tt; alike = ap (λ x. returned tags (call_behind g.before a) x) h.alike }
returned_goes g k tags a (Over how w) q h = record { falls = tt; alike = over_returned g tags (call_behind g.before a) how w q h.alike }

function_goes : (g : Ahead) (n : ℕ) (s : Setting) (d : ℕ → Call → Result) → CallsAct g n s.calls d → (f : Option FunctionTree) (a : Call) (k : ℕ) → k ≤ n → Goes g k (function_run s f a k) (function_run (with_calls s d) f (call_behind g.before a) (k + g.more))
function_goes g n s d C None a k l = record { falls = tt; alike = refl }
function_goes g n s d C (Some f) a k l =
    returned_goes g k s.unit.tags a (body_run s f a.function a.arguments k a.world) (body_run (with_calls s d) f a.function a.arguments (k + g.more) (behind g.before a.world)) ((body_acts g n s d C f a.function a.arguments).alike k a.world l)

function_grows : (s : Setting) → ((j : ℕ) (a : Call) → Grows a.world.trace (s.calls j a)) → (f : Option FunctionTree) (a : Call) (k : ℕ) → Grows a.world.trace (function_run s f a k)
function_grows s C None a k = record { by = starts_refl a.world.trace }
function_grows s C (Some f) a k =
    returned_grows a.world.trace s.unit.tags a (body_run s f a.function a.arguments k a.world)
    ((body_acts (record { more = 0; before = [] }) 0 s s.calls (record { alike = λ j b h. absurd (omega (arith, h)); grows = C }) f a.function a.arguments).grows k a.world)

-- ---- calls

if_call : (es : List Event) (b : Bool) (x y : Result) → Grows es x → Grows es y → Grows es (elim b as (λ c. Result) [ true ↦ x | false ↦ y ])
if_call es true x y h g = h
if_call es false x y h g = g

below_grows : (u : UnitTree) (order : Order) (m j : ℕ) (a : Call) → Grows a.world.trace (calls_below u order m j a)
unfolding calls_below below
below_grows u order zero k a = record { by = starts_refl a.world.trace }
below_grows u order (suc m) k a =
    if_call a.world.trace (k == m) (called u order (λ j b. calls_below u order m j b) k a) (calls_below u order m k a)
    (function_grows (setting u order (λ j b. calls_below u order m j b)) (below_grows u order m) (slice_get u.functions a.function) a k)
    (below_grows u order m k a)

-- a call at fewer turns is what the table has there
calls_are : (u : UnitTree) (order : Order) (n k : ℕ) (a : Call) → k < n → calls_below u order n k a ≡ call u order k a
unfolding calls_below call
calls_are u order n k a h = below_is no_calls (λ again k1 b. called u order again k1 b) n k a h

pub call_grows : (u : UnitTree) (order : Order) (k : ℕ) (a : Call) → Grows a.world.trace (call u order k a)
call_grows u order k a = subst (λ r. Grows a.world.trace r) (calls_are u order (suc k) k a (omega arith)) (below_grows u order (suc k) k a)

-- calls with at most n turns, and as many more as one likes, behind whatever was seen before
calls_go : (g : Ahead) (u : UnitTree) (order : Order) (n k : ℕ) (a : Call) → k ≤ n → Goes g k (call u order k a) (call u order (k + g.more) (call_behind g.before a))
unfolding call
calls_go g u order zero k a l =
    function_goes g k (setting u order (λ j b. calls_below u order k j b)) (λ j b. calls_below u order (k + g.more) j b)
    (record { alike = λ j b h. absurd (omega (arith, h, l)); grows = below_grows u order (k + g.more) })
    (slice_get u.functions a.function) a k (omega arith)
calls_go g u order (suc n) k a l =
    function_goes g k (setting u order (λ j b. calls_below u order k j b)) (λ j b. calls_below u order (k + g.more) j b)
    (record {
      alike = λ j b h. subst (λ x. Goes g j (calls_below u order k j b) x) (sym (calls_are u order (k + g.more) (j + g.more) (call_behind g.before b) (omega (arith, h))))
          (subst (λ x. Goes g j x (call u order (j + g.more) (call_behind g.before b))) (sym (calls_are u order k j b h)) (calls_go g u order n j b (omega (arith, h, l))));
      grows = below_grows u order (k + g.more);
    })
    (slice_get u.functions a.function) a k (omega arith)

pub calls_act : (g : Ahead) (u : UnitTree) (order : Order) (n : ℕ) → CallsAct g n (λ j b. call u order j b) (λ j b. call u order j b)
calls_act g u order n = record { alike = λ j b h. calls_go g u order j j b (omega arith); grows = call_grows u order }

-- ---- with no turns more and nothing before, it is the same

abbrev pub here : Ahead
here = record { more = 0; before = [] }

same_result : (k : ℕ) (r q : Result) → Goes here k r q → q ≡ r
same_result k (Gives v j w) q h = h.alike ∙ ap (λ i. Gives v i w) (omega arith)
same_result k (GivesNone line j w) q h = h.alike ∙ ap (λ i. GivesNone line i w) (omega arith)
same_result k (Ends (Undefined cause line) w) q h = h.alike
same_result k (Ends OutOfTurns w) q h = h.alike
same_result k (Ends (Exit status) w) q h = h.alike

pub call_is : CallIs
unfolding call context
call_is u order k a =
    let e : k + 0 ≡ k = omega arith in
    sym (subst (λ j. function_run (context u order) (slice_get u.functions a.function) a j ≡ call u order k a) e
    (same_result k (function_run (setting u order (λ j b. calls_below u order k j b)) (slice_get u.functions a.function) a k) (function_run (context u order) (slice_get u.functions a.function) a (k + 0))
    (function_goes here k (setting u order (λ j b. calls_below u order k j b)) (λ j b. call u order j b)
    (record {
      alike = λ j b h. subst (λ x. Goes here j x (call u order (j + 0) b)) (sym (calls_are u order k j b h)) (calls_go here u order j j b (omega arith));
      grows = call_grows u order;
    })
    (slice_get u.functions a.function) a k (omega arith))))

pub eval_falls : EvalFalls
unfolding context
eval_falls u order e k w = ((eval_acts here k (context u order) (λ j b. call u order j b) (calls_act here u order k) e).alike k w (omega arith)).falls

pub exec_falls : ExecFalls
unfolding context
exec_falls u order s e k w = ((exec_acts here k (context u order) (λ j b. call u order j b) (calls_act here u order k) s e).alike k w (omega arith)).falls

pub eval_traces : EvalGrows
unfolding context
eval_traces u order e k w = ((eval_acts here 0 (context u order) (λ j b. call u order j b) (calls_act here u order 0) e).grows k w).by

pub exec_traces : ExecGrows
unfolding context
exec_traces u order s e k w = ((exec_acts here 0 (context u order) (λ j b. call u order j b) (calls_act here u order 0) s e).grows k w).by
