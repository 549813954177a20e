-- A call stands alone.
use Rattle.std.specs.Prelude.{◌≡◌, ℕ, ◌+◌, Option, Some, None, List, [], ◌∷◌, ◌++◌, Result as Checked, Ok, Err, refl}
use Rattle.std.proofs.Common.{ap, sym, ◌∙◌, arith, subst, append_assoc, append-nil}
use Rattle.lcc_base.specs.declared.cause.Cause.{Cause}
use Rattle.lcc_base.specs.declared.order.Order.{Order}
use Rattle.lcc_base.specs.Traces.{Event, Closed}
use Rattle.objects.specs.declared.purpose.Purpose.TheVariants.{Initialisation}
use Rattle.objects.specs.declared.value.Value.{Value}
use Rattle.c_types.specs.CType.{CType}
use Rattle.c_types.specs.Layout.{Tag}
use Rattle.c_meaning.specs.Units.{FunctionTree, UnitTree}
use Rattle.c_runs.specs.Worlds.{World, objects, left_behind, with_objects}
use Rattle.c_runs.specs.Outcomes.{Undefined, OutOfTurns, Exit, Result, Gives, GivesNone, Out, Next, Break, Continue, Return, Goto, Over, if_fine}
use Rattle.c_runs.specs.Places.{assigned}
use Rattle.c_runs.specs.Calls.{Call, Setting, handed, returned}
use Rattle.c_runs.specs.Run.{body_run, function_run, context}
use Rattle.c_runs.specs.Laws.{CallsStandAlone, behind, apart, back_in}
use Rattle.c_runs.proofs.Alike.{Ahead}
use Rattle.c_runs.proofs.AlikeStatements.{GoesOut}
use Rattle.c_runs.proofs.lemmas.AlikeCalls.{body_acts, calls_act, call_is}

-- an outcome in the world where other events were seen before
abbrev out_behind : List Event → Out → Out
out_behind before (Next k w) = Next k (behind before w)
out_behind before (Break k w) = Break k (behind before w)
out_behind before (Continue k w) = Continue k (behind before w)
out_behind before (Return v line k w) = Return v line k (behind before w)
out_behind before (Goto l k w) = Goto l k (behind before w)
out_behind before (Over how w) = Over how (behind before w)

same_out : (before : List Event) (k : ℕ) (o q : Out) → GoesOut (record { more = 0; before = before }) k o q → q ≡ out_behind before o
same_out before k (Next j w) q h = h.alike ∙ ap (λ i. Next i (behind before w)) (omega arith)
same_out before k (Break j w) q h = h.alike ∙ ap (λ i. Break i (behind before w)) (omega arith)
same_out before k (Continue j w) q h = h.alike ∙ ap (λ i. Continue i (behind before w)) (omega arith)
same_out before k (Return v line j w) q h = h.alike ∙ ap (λ i. Return v line i (behind before w)) (omega arith)
same_out before k (Goto l j w) q h = h.alike ∙ ap (λ i. Goto l i (behind before w)) (omega arith)
same_out before k (Over (Undefined cause line) w) q h = h.alike
same_out before k (Over OutOfTurns w) q h = h.alike
same_out before k (Over (Exit status) w) q h = h.alike

-- ---- what a call gives, back in the caller

closed_back : (old w : World) → left_behind Closed old (behind old.trace w) ≡ record { storage = (left_behind Closed old w).storage; locals = old.locals; input = w.input; trace = old.trace ++ (w.trace ++ Closed ∷ []) }
closed_back old w = ap (λ es. record { storage = (left_behind Closed old w).storage; locals = old.locals; input = w.input; trace = es }) (append_assoc old.trace w.trace (Closed ∷ []))

fine_back : {A : Type 0} (old : World) (c : Checked A Cause) (line : ℕ) (w : World) (go to : A → Result) → ((a : A) → go a ≡ back_in old (to a)) → if_fine c line (behind old.trace w) go ≡ back_in old (if_fine c line w to)
fine_back old (Ok a) line w go to h = h a
fine_back old (Err cause) line w go to h = refl

abbrev without : World → World
without old = record { storage = old.storage; locals = []; input = old.input; trace = [] }

handed_back : (tags : List Tag) (of : CType) (copy : Option Value) (v : Value) (line k : ℕ) (old w : World) → handed tags of copy v line k old (behind old.trace w) ≡ back_in old (handed tags of copy v line k (without old) w)
handed_back tags of None v line k old w = ap (λ x. Gives v k x) (closed_back old w)
handed_back tags of (Some p) v line k old w =
    fine_back old (assigned Initialisation tags of (objects w) v p) line w (λ os. Gives p k (left_behind Closed old (with_objects (behind old.trace w) os))) (λ os. Gives p k (left_behind Closed (without old) (with_objects w os)))
    (λ os. ap (λ x. Gives p k x) (closed_back old (with_objects w os)))

returned_back : (tags : List Tag) (a : Call) (o : Out) → returned tags a (out_behind a.world.trace o) ≡ back_in a.world (returned tags (apart a) o)
returned_back tags a (Next k w) = ap (λ x. GivesNone a.line k x) (closed_back a.world w)
returned_back tags a (Return None line k w) = ap (λ x. GivesNone a.line k x) (closed_back a.world w)
returned_back tags a (Return (Some v) line k w) = handed_back tags a.of a.result v line k a.world w
returned_back tags a (Break k w) = refl
returned_back tags a (Continue k w) = refl
returned_back tags a (Goto l k w) = refl
returned_back tags a (Over how w) = refl

-- ---- the body has no use of the caller's locals

body_apart : (u : UnitTree) (order : Order) (f : FunctionTree) (a : Call) (k : ℕ) → body_run (context u order) f a.function a.arguments k a.world ≡ out_behind a.world.trace (body_run (context u order) f a.function a.arguments k (apart a).world)
unfolding context
body_apart u order f a k =
    let g : Ahead = record { more = 0; before = a.world.trace } in
    let s : Setting = context u order in
    let e : k + 0 ≡ k = omega arith in
    let same : body_run s f a.function a.arguments (k + 0) (behind a.world.trace (apart a).world) ≡ out_behind a.world.trace (body_run s f a.function a.arguments k (apart a).world) =
    same_out a.world.trace k _ _ ((body_acts g k s s.calls (calls_act g u order k) f a.function a.arguments).alike k (apart a).world (omega arith)) in
    let at : body_run s f a.function a.arguments k (behind a.world.trace (apart a).world) ≡ out_behind a.world.trace (body_run s f a.function a.arguments k (apart a).world) =
    subst (λ j. body_run s f a.function a.arguments j (behind a.world.trace (apart a).world) ≡ out_behind a.world.trace (body_run s f a.function a.arguments k (apart a).world)) e same in
    subst (λ es. body_run s f a.function a.arguments k (record { storage = a.world.storage; locals = a.world.locals; input = a.world.input; trace = es }) ≡ out_behind a.world.trace (body_run s f a.function a.arguments k (apart a).world)) (append-nil a.world.trace) at

function_apart : (u : UnitTree) (order : Order) (f : FunctionTree) (a : Call) (k : ℕ) → function_run (context u order) (Some f) a k ≡ back_in a.world (function_run (context u order) (Some f) (apart a) k)
function_apart u order f a k =
    ap (λ o. returned (context u order).unit.tags a o) (body_apart u order f a k)
    ∙ returned_back (context u order).unit.tags a (body_run (context u order) f a.function a.arguments k (apart a).world)

pub calls_stand_alone : CallsStandAlone
calls_stand_alone u order k a f h =
    call_is u order k a
    ∙ (subst (λ x. function_run (context u order) x a k ≡ back_in a.world (function_run (context u order) x (apart a) k)) (sym h) (function_apart u order f a k)
    ∙ ap (λ r. back_in a.world r) (sym (call_is u order k (apart a))))
