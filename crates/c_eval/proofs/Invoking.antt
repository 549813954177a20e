-- Functions that are called, and bodies that begin.
use Rattle.std.specs.Prelude.{◌≡◌, ◌≤◌, ◌-◌, ℕ, suc, true, false, Some, None, List, [], ◌∷◌, ◌++◌, length, take, drop, Result as Checked, Ok, Err, IfOk, refl}
use Rattle.std.proofs.Common.{sym, ap, ◌∙◌}
use Rattle.std.specs.Borrow.{Bor}
use Rattle.lcc_base.specs.declared.cause.Cause.TheVariants.{CallMismatch, Outside}
use Rattle.lcc_base.specs.Traces.{Event, Opened, output_of}
use Rattle.objects.specs.declared.value.Value.{Value}
use Rattle.c_types.specs.CType.{CType}
use Rattle.c_types.specs.Table.{types}
use Rattle.c_meaning.specs.declared.built_in.BuiltIn.{BuiltIn as BuiltInFunction}
use Rattle.c_meaning.specs.declared.core_expr.CoreExpr.{CoreExpr}
use Rattle.c_meaning.specs.declared.core_unit.CoreFunction.{CoreFunction}
use Rattle.c_meaning.specs.CoreTrees.{line_of, type_of}
use Rattle.c_meaning.specs.Units.{FunctionTree, function_seen}
use Rattle.objects.specs.declared.value.Value.TheVariants.{Number, Pointer, Function as FunctionValue}
use Rattle.c_runs.specs.Calls.{Argument, built_in_at, built_in_fits, called_by, function_at, opened, provided, returned}
use Rattle.c_runs.specs.Laws.{CallIs}
use Rattle.c_runs.specs.Locals.{made_call}
use Rattle.c_runs.specs.Expressions.{call_by}
use Rattle.c_runs.specs.Outcomes.{Result, Undefined as Undefines, OutOfTurns, Ends, either, spend, undefined}
use Rattle.c_runs.specs.Run.{body_run, context, function_run}
use Rattle.c_runs.specs.Statements.{Start, exec}
use Rattle.c_runs.specs.Worlds.{World as RunWorld}
use Rattle.c_entries.specs.declared.argument.Argument.{Argument as PassedArgument}
use Rattle.c_entries.specs.declared.callee.Callee.TheVariants as callee
use Rattle.c_entries.specs.Arguments.{ArePassedAs, arguments_seen}
use Rattle.c_entries.specs.Callees.{Calls}
use Rattle.c_entries.specs.Entered.{Enters}
use Rattle.c_entries.specs.Fitting.{fits_with}
use Rattle.c_worlds.specs.declared.program.Program.{Program}
use Rattle.c_worlds.specs.declared.stop.Stop.{Stop}
use Rattle.c_worlds.specs.declared.stop.Stop.TheVariants.{Undefined, Memory}
use Rattle.c_worlds.specs.declared.world.World.{World}
use Rattle.c_worlds.specs.OpenLocals.{all_locals}
use Rattle.c_worlds.specs.Programs.{known, unit_of}
use Rattle.c_worlds.specs.Shown.{shown}
use Rattle.c_eval.specs.declared.focus.Focus.{Focus}
use Rattle.c_eval.specs.declared.focus.Focus.TheVariants as at
use Rattle.c_eval.specs.declared.how.How.TheVariants as how
use Rattle.c_eval.specs.declared.frame.Frame.{Frame}
use Rattle.c_eval.specs.declared.frame.Frame.TheVariants as on
use Rattle.c_eval.specs.Came.{IsStopped}
use Rattle.c_eval.specs.Ends.{Came, OfExpression, OfStatement, ended, final}
use Rattle.c_eval.specs.declared.machine.Machine.{Machine}
use Rattle.c_eval.specs.Stacks.{called, calling_on, passed, plug, waiting_call}
use Rattle.c_eval.specs.Frames.{frames}
use Rattle.c_eval.specs.States.{ends, own, state}
use Rattle.c_eval.specs.Steps.{IsTaken, Leads, Reaches, ends_of, state_of}
use Rattle.c_eval.proofs.Calling.{waits_for}
use Rattle.c_eval.proofs.Passes.{end_of, over_of}
use Rattle.c_eval.proofs.Turning.{one_less}

-- ---- bodies begin

pub body_begins : (p : Program) (f : FunctionTree) (number : ℕ) (xs : List Argument) (k : ℕ) (w v : RunWorld) (below all : List Value) (fs : List Frame) → below ≡ all → opened (unit_of p) p.order f number xs k w (λ k1 w1. exec (own p) f.body Start k1 w1) ≡ exec (own p) f.body Start k v → ends p below fs (OfStatement (exec (own p) f.body Start k v)) ≡ ended (plug p (own p) all fs (OfStatement (body_run (own p) f number xs k w)))
unfolding context
body_begins p f number xs k w v below all fs e h = ap (λ b. ends p b fs (OfStatement (exec (own p) f.body Start k v))) e ∙ sym (ap (λ o. ended (plug p (own p) all fs (OfStatement o))) h)

pub body_fails : (p : Program) (f : CoreFunction) (number : ℕ) (ps : List PassedArgument) (old new : World) (k : ℕ) (fs : List Frame) (stop : Stop) (focus : Focus) → Enters p f number ps old new (Err stop) → IsStopped stop focus → (xs : List Argument) → ArePassedAs ps xs → (t : List Event) → state p new.locals.below fs focus k (shown new (t ++ Opened number ∷ [])) ≡ ended (plug p (own p) (all_locals old.locals) fs (OfStatement (body_run (own p) (function_seen (types p.core.now.types) f) number xs k (shown old t))))
unfolding context
body_fails p f number ps old new k fs (Undefined cause line) focus h e xs a t =
    ap (λ (x : Focus). state p new.locals.below fs x k (shown new (t ++ Opened number ∷ []))) e
    ∙ sym (ap (λ o. ended (plug p (own p) (all_locals old.locals) fs (OfStatement o))) (h xs a (λ k1 w1. exec (own p) (function_seen (types p.core.now.types) f).body Start k1 w1) k t)
    ∙ over_of p (all_locals old.locals) fs (Undefines cause line) (shown new (t ++ Opened number ∷ [])))
body_fails p f number ps old new k fs Memory focus h e xs a t = absurd e

-- ---- functions of the unit

taken_front : {A : Type 0} → (xs ys : List A) (n : ℕ) → n ≡ length xs → take n (xs ++ ys) ≡ xs
taken_front [] ys n e = rw e refl
taken_front (x ∷ xs) ys n e = rw e (ap (λ zs. x ∷ zs) (taken_front xs ys (length xs) refl))

dropped_front : {A : Type 0} → (xs ys : List A) (n : ℕ) → n ≡ length xs → drop n (xs ++ ys) ≡ ys
dropped_front [] ys n e = rw e refl
dropped_front (x ∷ xs) ys n e = rw e (dropped_front xs ys (length xs) refl)

-- what a call of a function that fits comes to
call_runs : (p : Program) → CallIs → (f : FunctionTree) (number : ℕ) (of : CType) (line n : ℕ) (xs : List Argument) (k : ℕ) (w : RunWorld) → function_at (unit_of p) number ≡ Some f → fits_with f of xs ≡ true → called_by (own p) (Some f) None (made_call of line n xs w number) (suc k) w ≡ returned (unit_of p).tags (made_call of line n xs w number) (body_run (own p) f number xs k w)
unfolding context
call_runs p law f number of line n xs k w there fits =
    ap (λ b. either b (λ k1 w1. spend k1 w1 (λ k2. (own p).calls k2 (made_call of line n xs w number))) (λ k1 w1. undefined CallMismatch line w1) (suc k) w) fits
    ∙ law (unit_of p) p.order k (made_call of line n xs w number)
    ∙ ap (λ g. function_run (own p) g (made_call of line n xs w number) k) there

pub function_called : (p : Program) → CallIs → (f : FunctionTree) (number : ℕ) (c : Bor CoreExpr) (n : ℕ) (xs : List Argument) (k : ℕ) (w : RunWorld) (below : List Value) (objects base : ℕ) (fs : List Frame) → function_at (unit_of p) number ≡ Some f → fits_with f (known p (type_of c.now)) xs ≡ true → length w.storage.objects ≡ objects → base ≡ length below → ended (plug p (own p) (below ++ w.locals) (on.Activation c n objects base ∷ fs) (OfStatement (body_run (own p) f number xs k w))) ≡ ends p below fs (OfExpression (called_by (own p) (Some f) None (made_call (known p (type_of c.now)) (line_of c.now) n xs w number) (suc k) w))
unfolding context
function_called p law f number c n xs k w below objects base fs there fits count e =
    let of = known p (type_of c.now) in
    let line = line_of c.now in
    let o = body_run (own p) f number xs k w in
    ap (λ b. ended (plug p (own p) b fs (OfExpression (returned (unit_of p).tags (waiting_call of line n objects (drop base (below ++ w.locals))) o)))) (taken_front below w.locals base e)
    ∙ ap (λ ls. ends p below fs (OfExpression (returned (unit_of p).tags (waiting_call of line n objects ls) o))) (dropped_front below w.locals base e)
    ∙ ap (λ r. ends p below fs (OfExpression r)) (waits_for (unit_of p).tags of line n number objects xs w.locals w o count refl ∙ sym (call_runs p law f number of line n xs k w there fits))

pub function_misfits : (p : Program) (f : FunctionTree) (number : ℕ) (of : CType) (line n : ℕ) (xs : List Argument) (k : ℕ) (w : RunWorld) (below : List Value) (fs : List Frame) → fits_with f of xs ≡ false → final (Undefines CallMismatch line) (output_of w.trace) ≡ ends p below fs (OfExpression (called_by (own p) (Some f) None (made_call of line n xs w number) k w))
function_misfits p f number of line n xs k w below fs fits =
    sym (ap (λ b. ends p below fs (OfExpression (either b (λ k1 w1. spend k1 w1 (λ k2. (own p).calls k2 (made_call of line n xs w number))) (λ k1 w1. undefined CallMismatch line w1) k w))) fits
    ∙ end_of p below fs (Undefines CallMismatch line) w)

pub function_waits : (p : Program) (f : FunctionTree) (number : ℕ) (of : CType) (line n : ℕ) (xs : List Argument) (k : ℕ) (w : RunWorld) (below : List Value) (fs : List Frame) → fits_with f of xs ≡ true → k ≡ 0 → final OutOfTurns (output_of w.trace) ≡ ends p below fs (OfExpression (called_by (own p) (Some f) None (made_call of line n xs w number) k w))
function_waits p f number of line n xs k w below fs fits e =
    sym (ap (λ b. ends p below fs (OfExpression (either b (λ k1 w1. spend k1 w1 (λ k2. (own p).calls k2 (made_call of line n xs w number))) (λ k1 w1. undefined CallMismatch line w1) k w))) fits
    ∙ ap (λ j. ends p below fs (OfExpression (spend j w (λ k2. (own p).calls k2 (made_call of line n xs w number))))) e
    ∙ end_of p below fs OutOfTurns w)

-- the function's body is the topmost
pub function_entered : (p : Program) → CallIs → (f : FunctionTree) (number : ℕ) (c : Bor CoreExpr) (n : ℕ) (xs : List Argument) (turns : ℕ) (w : RunWorld) (below : List Value) (objects base : ℕ) (gs fs : List Frame) → function_at (unit_of p) number ≡ Some f → fits_with f (known p (type_of c.now)) xs ≡ true → length w.storage.objects ≡ objects → base ≡ length below → gs ≡ on.Activation c n objects base ∷ fs → 1 ≤ turns → ended (plug p (own p) (below ++ w.locals) gs (OfStatement (body_run (own p) f number xs (turns - 1) w))) ≡ ends p below fs (OfExpression (called_by (own p) (Some f) None (made_call (known p (type_of c.now)) (line_of c.now) n xs w number) turns w))
function_entered p law f number c n xs turns w below objects base gs fs there fits count e top some =
    ap (λ hs. ended (plug p (own p) (below ++ w.locals) hs (OfStatement (body_run (own p) f number xs (turns - 1) w)))) top
    ∙ function_called p law f number c n xs (turns - 1) w below objects base fs there fits count e
    ∙ ap (λ k. ends p below fs (OfExpression (called_by (own p) (Some f) None (made_call (known p (type_of c.now)) (line_of c.now) n xs w number) k w))) (one_less turns some)

pub seen_is_passed : (p : Program) (ps : List PassedArgument) → ArePassedAs ps (arguments_seen p ps)
seen_is_passed p [] = tt
seen_is_passed p (a ∷ ps) = ((refl, refl), seen_is_passed p ps)

-- ---- built-in functions

pub built_in_misfits : (p : Program) (b : BuiltInFunction) (number : ℕ) (of : CType) (line n : ℕ) (xs : List Argument) (k : ℕ) (w : RunWorld) (below : List Value) (fs : List Frame) → built_in_fits b of xs ≡ false → final (Undefines CallMismatch line) (output_of w.trace) ≡ ends p below fs (OfExpression (called_by (own p) None (Some b) (made_call of line n xs w number) k w))
built_in_misfits p b number of line n xs k w below fs fits =
    sym (ap (λ x. ends p below fs (OfExpression (either x (λ k1 w1. spend k1 w1 (λ k2. provided b (made_call of line n xs w number) k2)) (λ k1 w1. undefined CallMismatch line w1) k w))) fits
    ∙ end_of p below fs (Undefines CallMismatch line) w)

pub built_in_waits : (p : Program) (b : BuiltInFunction) (number : ℕ) (of : CType) (line n : ℕ) (xs : List Argument) (k : ℕ) (w : RunWorld) (below : List Value) (fs : List Frame) → built_in_fits b of xs ≡ true → k ≡ 0 → final OutOfTurns (output_of w.trace) ≡ ends p below fs (OfExpression (called_by (own p) None (Some b) (made_call of line n xs w number) k w))
built_in_waits p b number of line n xs k w below fs fits e =
    sym (ap (λ x. ends p below fs (OfExpression (either x (λ k1 w1. spend k1 w1 (λ k2. provided b (made_call of line n xs w number) k2)) (λ k1 w1. undefined CallMismatch line w1) k w))) fits
    ∙ ap (λ j. ends p below fs (OfExpression (spend j w (λ k2. provided b (made_call of line n xs w number) k2)))) e
    ∙ end_of p below fs OutOfTurns w)

pub built_in_gives : (p : Program) (b : BuiltInFunction) (number : ℕ) (of : CType) (line n : ℕ) (xs : List Argument) (turns : ℕ) (w : RunWorld) (below : List Value) (fs : List Frame) (r : Result) → built_in_fits b of xs ≡ true → 1 ≤ turns → provided b (made_call of line n xs w number) (turns - 1) ≡ r → ends p below fs (OfExpression r) ≡ ends p below fs (OfExpression (called_by (own p) None (Some b) (made_call of line n xs w number) turns w))
built_in_gives p b number of line n xs turns w below fs r fits some e =
    sym (ap (λ x. ends p below fs (OfExpression (either x (λ k1 w1. spend k1 w1 (λ k2. provided b (made_call of line n xs w number) k2)) (λ k1 w1. undefined CallMismatch line w1) turns w))) fits
    ∙ ap (λ j. ends p below fs (OfExpression (spend j w (λ k2. provided b (made_call of line n xs w number) k2)))) (sym (one_less turns some))
    ∙ ap (λ s. ends p below fs (OfExpression s)) e)

-- ---- what is called

pub nothing_called : (p : Program) (v : Value) (of : CType) (line n : ℕ) (xs : List Argument) (k : ℕ) (w : RunWorld) → Calls p v callee.Nothing → call_by (own p) of line v n xs k w ≡ Ends (Undefines CallMismatch line) w
unfolding context
nothing_called p (Number m) of line n xs k w h = refl
nothing_called p (Pointer o x) of line n xs k w h = refl
nothing_called p (FunctionValue f) of line n xs k w h =
    ap (λ g. called_by (own p) g (built_in_at (unit_of p) f) (made_call of line n xs w f) k w) h.0 ∙ ap (λ b. called_by (own p) None b (made_call of line n xs w f) k w) h.1

pub built_in_called : (p : Program) (v : Value) (b : BuiltInFunction) (of : CType) (line n : ℕ) (xs : List Argument) → Calls p v (callee.BuiltIn b) → (number : ℕ) × ((k : ℕ) (w : RunWorld) → called_by (own p) None (Some b) (made_call of line n xs w number) k w ≡ call_by (own p) of line v n xs k w)
unfolding context
built_in_called p (Number m) b of line n xs h = absurd h
built_in_called p (Pointer o x) b of line n xs h = absurd h
built_in_called p (FunctionValue f) b of line n xs h = (
  f,
  λ k w. sym (ap (λ g. called_by (own p) g (built_in_at (unit_of p) f) (made_call of line n xs w f) k w) h.0 ∙ ap (λ x. called_by (own p) None x (made_call of line n xs w f) k w) h.1),
)

pub function_is_called : (p : Program) (v : Value) (f : FunctionTree) (number : ℕ) (of : CType) (line n : ℕ) (xs : List Argument) (k : ℕ) (w : RunWorld) → v ≡ FunctionValue number → function_at (unit_of p) number ≡ Some f → called_by (own p) (Some f) None (made_call of line n xs w number) k w ≡ call_by (own p) of line v n xs k w
unfolding context
function_is_called p v f number of line n xs k w e there =
    sym (ap (λ u. call_by (own p) of line u n xs k w) e ∙ ap (λ g. called_by (own p) g (built_in_at (unit_of p) number) (made_call of line n xs w number) k w) there)

-- ---- the same, seen from elsewhere

pub reaches_as : (p : Program) (old new : Machine) (come other : ℕ → RunWorld → Came) (focus : Focus) → ((k : ℕ) (w : RunWorld) → come k w ≡ other k w) → Reaches p old come new focus → Reaches p old other new focus
reaches_as p old new come other focus e h t o = let r = h t o in (r.0, r.1, r.2 ∙ ap (λ c. ends_of p old c) (e old.turns (shown old.world t)))

pub both_hold : {X E : Type 0} (P Q R : X → Type 0) (r : Checked X E) → IfOk r P → IfOk r Q → ((x : X) → P x → Q x → R x) → IfOk r R
both_hold P Q R (Ok x) h e g = g x h e
both_hold P Q R (Err y) h e g = tt

-- arguments and call are taken off
call_is_taken : (p : Program) (old new : List Frame) (ps : List PassedArgument) (x : Bor CoreExpr × Value) (below : List Value) (n k : ℕ) (w : RunWorld) → IsTaken p old new ps (Some x) → ends p below new (OfExpression (call_by (own p) (known p (type_of x.0.now)) (line_of x.0.now) x.1 n (arguments_seen p ps) k w)) ≡ ends p below old (OfExpression (calling_on p (own p) (called old) n (passed p old) k w))
call_is_taken p old new ps x below n k w h =
    h.1.1 below _
    ∙ ap (λ xs. ends p below old (OfExpression (call_by (own p) (known p (type_of x.0.now)) (line_of x.0.now) x.1 n xs k w))) h.1.0
    ∙ sym (ap (λ c. ends p below old (OfExpression (calling_on p (own p) c n (passed p old) k w))) h.0)

pub call_leads : (p : Program) (old mid new : Machine) (n : ℕ) (ps : List PassedArgument) (x : Bor CoreExpr × Value) (focus : Focus) → mid.world ≡ old.world → mid.turns ≡ old.turns → IsTaken p (frames old.stack) (frames mid.stack) ps (Some x) → Reaches p mid (λ k w. OfExpression (call_by (own p) (known p (type_of x.0.now)) (line_of x.0.now) x.1 n (arguments_seen p ps) k w)) new focus → Leads p old (at.Invoke n) new focus
call_leads p old mid new n ps x focus same turns h r t e =
    let u = r t (e ∙ sym (ap (λ (w : World). w.output) same)) in (
      u.0,
      u.1,
      (u.2
          ∙ call_is_taken p (frames old.stack) (frames mid.stack) ps x mid.world.locals.below n mid.turns (shown mid.world t) h
          ∙ ap (λ (w : World). ends p w.locals.below (frames old.stack) (OfExpression (calling_on p (own p) (called (frames old.stack)) n (passed p (frames old.stack)) mid.turns (shown w t)))) same
          ∙ ap (λ k. ends p old.world.locals.below (frames old.stack) (OfExpression (calling_on p (own p) (called (frames old.stack)) n (passed p (frames old.stack)) k (shown old.world t)))) turns),
    )

pub no_call_leads : (p : Program) (old mid : Machine) (n : ℕ) (focus : Focus) → mid.world ≡ old.world → mid.turns ≡ old.turns → called (frames old.stack) ≡ None → focus ≡ at.Over (how.Undefined Outside 0) → Leads p old (at.Invoke n) mid focus
no_call_leads p old mid n focus same turns h i t e = (
  t,
  e ∙ sym (ap (λ (w : World). w.output) same),
  (ap (λ (x : Focus). state_of p mid x t) i
      ∙ sym (ap (λ c. ends p old.world.locals.below (frames old.stack) (OfExpression (calling_on p (own p) c n (passed p (frames old.stack)) old.turns (shown old.world t)))) h
      ∙ end_of p old.world.locals.below (frames old.stack) (Undefines Outside 0) (shown old.world t))),
)
