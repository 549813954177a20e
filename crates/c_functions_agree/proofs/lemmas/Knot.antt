-- Each function of a lowered unit agrees, by the turns that calls have.
use Rattle.std.specs.Prelude.{◌≡◌, ◌≤◌, ◌<◌, ℕ, Bool, true, false, Option, Some, None, Result as Checked, Ok, Err, List, [], ◌∷◌, length, slice_get}
use Rattle.std.proofs.Common.{refl, sym, ap, subst, ◌∙◌, arith}
use Rattle.lcc_base.specs.declared.cause.Cause.{Cause}
use Rattle.lcc_base.specs.declared.order.Order.{Order}
use Rattle.lcc_base.specs.Traces.{Opened}
use Rattle.objects.specs.Conversions.{converted}
use Rattle.op_forest.specs.declared.frame.Slot.{Slot}
use Rattle.op_forest.specs.Lowered.{LoweredUnit}
use Rattle.forests.specs.Worlds.{World}
use Rattle.c_types.specs.CType.{CType}
use Rattle.c_types.specs.Layout.{Tag}
use Rattle.c_meaning.specs.Each.{EachIs}
use Rattle.c_meaning.specs.Scalars.{scalar_of}
use Rattle.c_meaning.specs.Types.{is_record}
use Rattle.c_meaning.specs.Units.{FunctionTree, UnitTree, IsFunction, IsUnit}
use Rattle.c_runs.specs.Calls.{Argument, Call, own_parameters, with_parameters, returned}
use Rattle.c_runs.specs.Laws.{CallIs}
use Rattle.c_runs.specs.Locals.{BodiesStart, body_start}
use Rattle.c_runs.specs.Outcomes.{Undefined, OutOfTurns, Exit, Out, Next, Break, Continue, Return, Goto, Over, then_next, either, if_done}
use Rattle.c_runs.specs.Run.{call, context, function_run}
use Rattle.c_runs.specs.Soundness.{IsTameFunction, ExecStaysSound, UnitsAreTame}
use Rattle.c_runs.specs.Statements.{Start, exec}
use Rattle.c_runs.specs.Worlds as c
use Rattle.c_match.specs.Ranges.{Map}
use Rattle.c_agreement.specs.Agrees.{ComesWith}
use Rattle.c_agreement.specs.CameTo.{CameTo}
use Rattle.c_agreement.specs.Pairs.{pair_of}
use Rattle.c_agreement.proofs.lemmas.Turns.{turns_suffice}
use Rattle.lowered_labels.specs.Used.{GoesWithin}
use Rattle.lowered_statements.specs.FunctionBodies.{begun, no_exits}
use Rattle.lowered_statements.specs.Functions.{label_at}
use Rattle.lowered_statements.specs.Layouts.{first_word, layout}
use Rattle.lowered_statements.specs.Statements.{low_s}
use Rattle.c_straight_agree.proofs.lemmas.Putting.{each_at}
use Rattle.c_tests_agree.specs.Tested.{AreMarkedOnce}
use Rattle.c_stmt_agreement.specs.Comings.{Activation, HasFrame, Origin}
use Rattle.c_stmts_agree.specs.FunctionBodies.{FunctionBodiesAgree, FunctionsHaveLabels}
use Rattle.c_stmts_agree.specs.Jumps.{CheckedJumpsStay}
use Rattle.c_stmts_agree.specs.Labels.{FunctionsMarkOnce}
use Rattle.c_stmts_agree.specs.Tables.{HasTables}
use Rattle.c_stmts_agree.specs.Ways.{IsEnding}
use Rattle.c_entries_agree.specs.Activations.{lowering, activation, ending, first_body, start_of}
use Rattle.c_entries_agree.specs.Laws.{IsCallOf, CallsHaveFrames, CallsEnter}
use Rattle.c_entries_agree.specs.Lowered.{IsFunctionLowering, IsLoweringOf}
use Rattle.c_entries_agree.proofs.lemmas.Above.{one_there}
use Rattle.c_entries_agree.proofs.lemmas.Frames.{result_whole}
use Rattle.c_entries_agree.proofs.lemmas.Stored.{stored_slots}
use Rattle.c_functions_agree.specs.Laws.{CallsReturn, BodiesAgree, IsFairFunction, UnitsAgree}

-- ---- a call's objects are made, or the call is undefined

abbrev IsBegun : Out → Type 0
IsBegun (Next k w) = Unit {0}
IsBegun (Break k w) = ⊥
IsBegun (Continue k w) = ⊥
IsBegun (Return v line k w) = ⊥
IsBegun (Goto n k w) = ⊥
IsBegun (Over (Undefined cause line) w) = Unit {0}
IsBegun (Over OutOfTurns w) = ⊥
IsBegun (Over (Exit status) w) = ⊥

either_begins : (b : Bool) (go other : ℕ → c.World → Out) (k : ℕ) (w : c.World) → ((j : ℕ) (v : c.World) → IsBegun (go j v)) → ((j : ℕ) (v : c.World) → IsBegun (other j v)) → IsBegun (either b go other k w)
either_begins true go other k w h g = h k w
either_begins false go other k w h g = g k w

done_begins : {A : Type 0} (r : Checked A Cause) (line : ℕ) (w : c.World) (go : A → Out) → ((x : A) → IsBegun (go x)) → IsBegun (if_done r line w go)
done_begins (Ok x) line w go h = h x
done_begins (Err cause) line w go h = tt

parameters_begin : (tags : List Tag) (order : Order) (ts : List CType) (xs : List Argument) (go : ℕ → c.World → Out) → ((j : ℕ) (v : c.World) → IsBegun (go j v)) → (k : ℕ) (w : c.World) → IsBegun (with_parameters tags order ts xs k w go)
parameters_begin tags order [] xs go h k w = h k w
parameters_begin tags order (t ∷ ts) [] go h k w = tt
parameters_begin tags order (t ∷ ts) (x ∷ xs) go h k w =
    either_begins (is_record t) _ _ k w (λ j v. parameters_begin tags order ts xs go h j _) (λ j v. done_begins (converted (scalar_of t) x.value) x.line v _ (λ y. parameters_begin tags order ts xs go h j _))

-- ---- one call

module _ (sound : ExecStaysSound) (tame : UnitsAreTame) (starts : BodiesStart) (calls : CallIs) (marks : FunctionsMarkOnce) (labelled : FunctionsHaveLabels) (jumps : CheckedJumpsStay) (agree : FunctionBodiesAgree) (frames : CallsHaveFrames) (enter : CallsEnter) (return : CallsReturn)
    (u : UnitTree) (l : LoweredUnit) (bodies : BodiesAgree u l) (k : ℕ) (callees : (j : ℕ) → j < k → (callee : ℕ) → callee < length u.functions → ComesWith u l callee j) where
  module _ (f : FunctionTree) (a : Call) (map : Map) (w : World) (is : IsCallOf u l f a map w) (fair : IsFairFunction u f) (x : IsFunctionLowering u l a.function f) where
    abbrev p : Activation
    p = activation u l a.function f x a w

    is_function : IsFunction u f
    is_function = each_at (IsFunction u) u.functions a.function f is.checked.functions is.defined

    within : GoesWithin (lowering u l a.function f x) false false f.body
    within = jumps (lowering u l a.function f x) u f f.body is_function.body (λ n h. h) false false fair.jumps

    frame : HasFrame p
    frame = frames u l f a map w is x

    once : AreMarkedOnce p.scene.body
    once = marks p.scene.body u l.order a.function x.tables f refl is_function.once within

    is_ending : IsEnding (lowering u l a.function f x) (ending u l a.function f x a)
    is_ending = record { zero = refl; copy = λ e. is.called.plain (sym (result_whole u l f a map w is x) ∙ e) }

    room : p.locals ≤ length (first_body u l a.function f x).low.slots
    room = subst (λ (ss : List Slot). p.locals ≤ length ss) (sym (stored_slots (lowering u l a.function f x) 0 (first_word f) (own_parameters f) (begun (lowering u l a.function f x) (layout u.tags f)).low)) (omega arith)

    -- the tables that its body has are the unit's
    tables_there : HasTables p (lowering u l a.function f x) (low_s (lowering u l a.function f x) no_exits f.body (first_body u l a.function f x))
    tables_there n labels e =
        let t = x.has_tables n labels e in
        record { place = t.place; object = t.object; there = t.there; behind = t.behind; named = t.named; number = a.function; function = t.function; runs = t.runs; is_home = t.is_home; items = t.items; size = t.size; short = t.short }

    body_came : (i : ℕ) (old : c.World) → body_start u l.order f a.function a.arguments k a.world ≡ Next i old → CameTo (pair_of u l a map w) k (returned u.tags a (exec (context u l.order) f.body Start i old))
    body_came i old e =
        let en = enter u l f a map w is x k callees i old e in
        let at = en.1 in
        let o : Origin = record { start = start_of u l a.function f x w; turns = k; map = at.later; old = old; world = at.world } in
        let back = agree p frame once (lowering u l a.function f x) (ending u l a.function f x a) is_ending (λ n own. labelled p.scene u l.order a.function x.tables f refl is_function.once (label_at (lowering u l a.function f x) n) own)
        f.body (bodies f a map w is x frame once) within (first_body u l a.function f x) room tables_there refl o k at.stands in
        let stays = sound u l.order f.body Start k old (tame u is.checked) (each_at IsTameFunction u.functions a.function f (tame u is.checked).functions is.defined) at.stands.sound.sound in
        subst (λ (j : ℕ). CameTo (pair_of u l a map w) k (returned u.tags a (exec (context u l.order) f.body Start j old))) (sym en.0)
        (return u l f a map w is x k old at (exec (context u l.order) f.body Start k old) stays back)

    by_start : (r : Out) → body_start u l.order f a.function a.arguments k a.world ≡ r → IsBegun r → CameTo (pair_of u l a map w) k (returned u.tags a (then_next r (λ k1 w1. exec (context u l.order) f.body Start k1 w1)))
    by_start (Next i old) e h = body_came i old e
    by_start (Break i old) e h = absurd h
    by_start (Continue i old) e h = absurd h
    by_start (Return v line i old) e h = absurd h
    by_start (Goto n i old) e h = absurd h
    by_start (Over (Undefined cause line) old) e h = tt
    by_start (Over OutOfTurns old) e h = absurd h
    by_start (Over (Exit status) old) e h = absurd h

    start_begins : IsBegun (body_start u l.order f a.function a.arguments k a.world)
    start_begins = parameters_begin u.tags l.order (own_parameters f) a.arguments _ (λ j v. tt) k (c.entered (Opened a.function) a.world)

    runs_so : call u l.order k a ≡ returned u.tags a (then_next (body_start u l.order f a.function a.arguments k a.world) (λ k1 w1. exec (context u l.order) f.body Start k1 w1))
    unfolding context
    runs_so =
        calls u l.order k a
        ∙ ap (λ (g : Option FunctionTree). function_run (context u l.order) g a k) is.defined
        ∙ ap (returned u.tags a) (starts (context u l.order) f a.function a.arguments k a.world)

    pub call_comes : CameTo (pair_of u l a map w) k (call u l.order k a)
    call_comes = subst (CameTo (pair_of u l a map w) k) (sym runs_so) (by_start (body_start u l.order f a.function a.arguments k a.world) refl start_begins)

  -- ---- each call of a function

  module _ (checked : IsUnit u) (fair : EachIs (IsFairFunction u) u.functions) (lowered : IsLoweringOf u l) where
    pub function_comes : (function : ℕ) → function < length u.functions → ComesWith u l function k
    function_comes function lt a map w same called =
        let f = one_there u.functions function lt in
        let there : slice_get u.functions a.function ≡ Some f.0 = ap (slice_get u.functions) same ∙ f.1 in
        let one = each_at (IsFairFunction u) u.functions a.function f.0 fair there in
        call_comes f.0 a map w (record { checked = checked; lowered = lowered; defined = there; room = one.room; called = called }) one (lowered.functions a.function f.0 there)

pub units_agree : ExecStaysSound → UnitsAreTame → BodiesStart → CallIs → FunctionsMarkOnce → FunctionsHaveLabels → CheckedJumpsStay → FunctionBodiesAgree → CallsHaveFrames → CallsEnter → CallsReturn → UnitsAgree
units_agree sound tame starts calls marks labelled jumps agree frames enter return u l checked fair lowered bodies =
    turns_suffice u l (λ k callees function lt. function_comes sound tame starts calls marks labelled jumps agree frames enter return u l bodies k callees checked fair lowered function lt)
