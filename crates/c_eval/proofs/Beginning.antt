-- Runs that begin, and how they end.
use Rattle.std.specs.Prelude.{◌≡◌, ◌≤◌, ℕ, zero, suc, ◌==◌, Bool, true, false, Option, Some, None, List, [], ◌∷◌, ◌++◌, slice_get, Result as Checked, Ok, Err, IfOk, refl}
use Rattle.std.proofs.Common.{sym, ap, ◌∙◌, subst, arith}
use Rattle.std.proofs.lemmas.Bool.Decides.{nat_tests}
use Rattle.lcc_base.specs.declared.cause.Cause.{Cause}
use Rattle.lcc_base.specs.declared.cause.Cause.TheVariants.{CallMismatch, Outside}
use Rattle.lcc_base.specs.declared.order.Order.{Order}
use Rattle.lcc_base.specs.Traces.{Event, Opened, output_of}
use Rattle.objects.specs.declared.value.Value.{Value}
use Rattle.objects.specs.declared.value.Value.TheVariants.{Number, Pointer}
use Rattle.objects.specs.Bytes.{known_bytes}
use Rattle.objects.specs.Objects.{Storage, next_name, with_object}
use Rattle.c_meaning.specs.Units.{CoreUnit, FunctionTree}
use Rattle.c_runs.specs.Calls.{Argument, fits}
use Rattle.c_runs.specs.Outcomes.{Undefined as Undefines, Out, Next, Over, either, then_next}
use Rattle.c_runs.specs.Run.{body_run, context, ended_by, main_arguments, main_call, main_run, main_with, run, run_tree, started, with_null}
use Rattle.c_runs.specs.Worlds.{World as RunWorld, next_place}
use Rattle.c_entries.specs.declared.argument.Argument.{Argument as PassedArgument}
use Rattle.c_entries.specs.Arguments.{ArePassedAs}
use Rattle.c_filling.specs.Starts.{Starts}
use Rattle.c_worlds.specs.declared.program.Program.{Program}
use Rattle.c_worlds.specs.declared.stop.Stop.TheVariants.{Undefined}
use Rattle.c_worlds.specs.declared.world.World.{World}
use Rattle.c_worlds.specs.OpenLocals.{all_locals}
use Rattle.c_worlds.specs.Programs.{unit_of}
use Rattle.c_worlds.specs.Shown.{shown}
use Rattle.c_eval.specs.declared.evaluating.Outcome.{Outcome}
use Rattle.c_eval.specs.declared.focus.Focus.{Focus}
use Rattle.c_eval.specs.declared.focus.Focus.TheVariants as at
use Rattle.c_eval.specs.declared.how.How.{How}
use Rattle.c_eval.specs.declared.how.How.TheVariants as how
use Rattle.c_eval.specs.declared.machine.Machine.{Machine}
use Rattle.c_eval.specs.Begins.{Begins}
use Rattle.c_eval.specs.Ends.{Final, OfStatement, ended, final, final_of, how_of}
use Rattle.c_eval.specs.Frames.{frames}
use Rattle.c_eval.specs.Outcomes.{IsOutcome}
use Rattle.c_eval.specs.Stacks.{plug}
use Rattle.c_eval.specs.States.{own}
use Rattle.c_eval.specs.Steps.{Enters, Leads, Same, state_of}
use Rattle.c_eval.proofs.Calling.{opened_silently}
use Rattle.c_eval.proofs.Leading.{leads_more}
use Rattle.c_eval.proofs.Meeting.{at_own}

-- ---- main

-- what is passed to it
abbrev pub main_passed : Value → List PassedArgument
main_passed place = record { value = Number 0; of = 0; line = 1 } ∷ record { value = place; of = 0; line = 1 } ∷ []

pub passed_to_main : (place : Value) → ArePassedAs (main_passed place) (main_arguments place)
passed_to_main place = ((refl, refl), ((refl, refl), tt))

-- it is over at once
pub begins_over : (p : Program) (old new : Machine) (does : ℕ → RunWorld → Out) (focus : Focus) (cause : Cause) (line : ℕ) → focus ≡ at.Over (how.Undefined cause line) → new.world.output ≡ old.world.output
    → ((t : List Event) → does old.turns (shown old.world t) ≡ Over (Undefines cause line) (shown old.world t)) → Begins p does old new focus
begins_over p old new does focus cause line i same h t e =
    (t, e ∙ sym same, ap (λ (x : Focus). state_of p new x t) i ∙ ap (λ o. final_of (ended_by o)) (sym (h t)))

-- a body is entered, with nothing left to do behind it
pub begins_in : (p : Program) (f : FunctionTree) (number : ℕ) (ps : List PassedArgument) (xs : _) (old new : Machine) (does : ℕ → RunWorld → Out) (focus : Focus) → frames old.stack ≡ [] → new.world.output ≡ old.world.output → ArePassedAs ps xs
    → ((k : ℕ) (w : RunWorld) → does k w ≡ body_run (own p) f number xs k w) → Enters p f number ps old new focus → Begins p does old new focus
begins_in p f number ps xs old new does focus s same a h enters t e = (
  t ++ Opened number ∷ [],
  opened_silently t number ∙ (e ∙ sym same),
  enters xs a t
      ∙ (ap (λ fs. ended (plug p (own p) (all_locals old.world.locals) fs (OfStatement (body_run (own p) f number xs old.turns (shown old.world t))))) s
      ∙ ap (λ o. final_of (ended_by o)) (sym (h old.turns (shown old.world t)))),
)

pub entered_begins : {E : Type 0} (p : Program) (f : FunctionTree) (number : ℕ) (ps : List PassedArgument) (xs : List Argument) (old new : Machine) (does : ℕ → RunWorld → Out) (r : Checked Focus E) → IfOk r (λ focus. Enters p f number ps old new focus) → IfOk r (λ focus. new.world.output ≡ old.world.output)
    → frames old.stack ≡ [] → ArePassedAs ps xs → ((k : ℕ) (w : RunWorld) → does k w ≡ body_run (own p) f number xs k w) → IfOk r (λ focus. Begins p does old new focus)
entered_begins p f number ps xs old new does (Ok focus) enters same s a h = begins_in p f number ps xs old new does focus s same a h enters
entered_begins p f number ps xs old new does (Err x) enters same s a h = tt

pub begins_as : (p : Program) (old mid new : Machine) (does be : ℕ → RunWorld → Out) (focus : Focus) → mid.world.output ≡ old.world.output → ((t : List Event) → does mid.turns (shown mid.world t) ≡ be old.turns (shown old.world t)) → Begins p does mid new focus → Begins p be old new focus
begins_as p old mid new does be focus same h b t e =
    let r = b t (e ∙ sym same) in
    (r.0, r.1, r.2 ∙ ap (λ o. final_of (ended_by o)) (h t))

-- there is a main, or none
pub main_begins : {E : Type 0} (p : Program) (old new : Machine) (found : Option FunctionTree) (f : FunctionTree) (r : Checked Focus E) → found ≡ Some f → IfOk r (λ focus. Begins p (λ k w. main_run (own p) (Some f) k w) old new focus) → IfOk r (λ focus. Begins p (λ k w. main_run (own p) found k w) old new focus)
main_begins p old new found f r e b = subst (λ x. IfOk r (λ focus. Begins p (λ k w. main_run (own p) x k w) old new focus)) (sym e) b

pub no_main_begins : (p : Program) (m : Machine) (found : Option FunctionTree) (focus : Focus) → found ≡ None → focus ≡ at.Over (how.Undefined Outside 0) → Begins p (λ k w. main_run (own p) found k w) m m focus
no_main_begins p m found focus e i = begins_over p m m (λ k w. main_run (own p) found k w) focus Outside 0 i refl (λ t. ap (λ x. main_run (own p) x m.turns (shown m.world t)) e)

-- main has no parameters
pub main_is : (p : Program) (f : FunctionTree) (k : ℕ) (w : RunWorld) → f.parameters ≡ 0 → main_run (own p) (Some f) k w ≡ body_run (own p) f (unit_of p).main [] k w
unfolding context
main_is p f k w e = rw e refl

-- it has some
not_none : (n : ℕ) → 1 ≤ n → (n == 0) ≡ false
not_none zero h = absurd (omega arith)
not_none (suc n) h = grind (arith, nat_tests)

main_has : (p : Program) (f : FunctionTree) (k : ℕ) (w : RunWorld) → (f.parameters == 0) ≡ false
    → main_with (own p) f (main_call (unit_of p) (main_arguments (next_place w 4)) (with_null w)) k (with_null w) ≡ main_run (own p) (Some f) k w
unfolding context
main_has p f k w e = rw e refl

-- the null pointer's object is made
shown_null : (old mid : World) (t : List Event) → mid.storage ≡ with_object old.storage false (known_bytes (0 ∷ 0 ∷ 0 ∷ 0 ∷ [])) → mid.locals ≡ old.locals → mid.input.now ≡ old.input.now → shown mid t ≡ with_null (shown old t)
shown_null old mid t h l i = rw (h, l, i) refl

abbrev pub with_storage : Machine → Storage → Machine
with_storage m s = record { alloc = m.alloc; stack = m.stack; world = record { storage = s; locals = m.world.locals; input = m.world.input; output = m.world.output }; turns = m.turns }

pub null_begins : {E : Type 0} (p : Program) (f : FunctionTree) (old mid new : Machine) (place : Value) (r : Checked Focus E) → mid.world.storage ≡ with_object old.world.storage false (known_bytes (0 ∷ 0 ∷ 0 ∷ 0 ∷ [])) → place ≡ Pointer (next_name old.world.storage 4) 0
    → mid.world.locals ≡ old.world.locals → mid.world.input.now ≡ old.world.input.now → mid.world.output ≡ old.world.output → mid.turns ≡ old.turns → 1 ≤ f.parameters
    → IfOk r (λ focus. Begins p (λ k w. main_with (own p) f (main_call (unit_of p) (main_arguments place) w) k w) mid new focus) → IfOk r (λ focus. Begins p (λ k w. main_run (own p) (Some f) k w) old new focus)
null_begins p f old mid new place (Ok focus) h name l i o n some b =
    begins_as p old mid new (λ k w. main_with (own p) f (main_call (unit_of p) (main_arguments place) w) k w) (λ k w. main_run (own p) (Some f) k w) focus o
    (λ t. ap (λ v. main_with (own p) f (main_call (unit_of p) (main_arguments v) (shown mid.world t)) mid.turns (shown mid.world t)) name
    ∙ (ap (λ k. main_with (own p) f (main_call (unit_of p) (main_arguments (next_place (shown old.world t) 4)) (shown mid.world t)) k (shown mid.world t)) n
    ∙ (ap (λ w. main_with (own p) f (main_call (unit_of p) (main_arguments (next_place (shown old.world t) 4)) w) old.turns w) (shown_null old.world mid.world t h l i)
    ∙ main_has p f old.turns (shown old.world t) (not_none f.parameters some))))
    b
null_begins p f old mid new place (Err x) h name l i o n some b = tt

main_by : (p : Program) (f : FunctionTree) (place : Value) (k : ℕ) (w : RunWorld) (b : Bool) → fits f (main_call (unit_of p) (main_arguments place) w) ≡ b
    → main_with (own p) f (main_call (unit_of p) (main_arguments place) w) k w
    ≡ either b (λ k1 w1. body_run (own p) f (unit_of p).main (main_arguments place) k1 w1) (λ k1 w1. Over (Undefines CallMismatch 1) w1) k w
main_by p f place k w b e = rw e refl

pub main_fits_call : (p : Program) (f : FunctionTree) (place : Value) (k : ℕ) (w : RunWorld) → fits f (main_call (unit_of p) (main_arguments place) w) ≡ true
    → main_with (own p) f (main_call (unit_of p) (main_arguments place) w) k w ≡ body_run (own p) f (unit_of p).main (main_arguments place) k w
main_fits_call p f place k w e = main_by p f place k w true e

pub main_misfits : (p : Program) (f : FunctionTree) (place : Value) (k : ℕ) (w : RunWorld) → fits f (main_call (unit_of p) (main_arguments place) w) ≡ false
    → main_with (own p) f (main_call (unit_of p) (main_arguments place) w) k w ≡ Over (Undefines CallMismatch 1) w
main_misfits p f place k w e = main_by p f place k w false e

-- ---- steps

-- a step that spends a turn, and writes nothing
pub leads_seen : (p : Program) (i m n : Machine) (a b c : Focus) → Leads p i a m b → Same p m b n c → n.world.output ≡ m.world.output → Leads p i a n c
leads_seen p i m n a b c h s same t e = let r = h t e in (r.0, r.1 ∙ sym same, s r.0 ∙ r.2)

-- the end of the run is reached
pub leads_over : (p : Program) (i m n : Machine) (a b : Focus) (end : How) → Leads p i a m b → Leads p m b n (at.Over end) → (t : List Event) → output_of t ≡ i.world.output → final (how_of end) n.world.output ≡ state_of p i a t
leads_over p i m n a b end h g t e = let r = leads_more p i m n a b (at.Over end) h g t e in sym (ap (λ xs. final (how_of end) xs) r.1) ∙ r.2

-- ---- runs

abbrev runs_from : Program → Out → Final
runs_from p o = final_of (ended_by (then_next o (λ k1 w1. main_run (own p) (slice_get (unit_of p).functions (unit_of p).main) k1 w1)))

-- the program starts in this world
pub run_starts : (p : Program) (input : List ℕ) (k : ℕ) (w : World) → Starts p input (Ok w)
    → final_of (ended_by (main_run (own p) (slice_get (unit_of p).functions (unit_of p).main) k (shown w []))) ≡ final_of (run_tree (unit_of p) p.order input k)
run_starts p input k w h = sym (ap (runs_from p) (at_own p (λ s. started s input k ≡ Next k (shown w [])) (λ calls. h calls k)))

-- what its objects hold at the start is undefined
pub run_fails : (p : Program) (input : List ℕ) (k : ℕ) (cause : Cause) (line : ℕ) → Starts p input (Err (Undefined cause line))
    → final (Undefines cause line) [] ≡ final_of (run_tree (unit_of p) p.order input k)
run_fails p input k cause line h =
    let r = at_own p (λ s. (w : RunWorld) × (started s input k ≡ Over (Undefines cause line) w) × (output_of w.trace ≡ [])) (λ calls. h calls k) in
    sym (ap (runs_from p) r.1 ∙ ap (λ xs. final (Undefines cause line) xs) r.2)

-- the program's run is that of its unit
pub run_is : (p : Program) (u : CoreUnit) (order : Order) (input : List ℕ) (k : ℕ) → p.core.now ≡ u → p.order ≡ order → final_of (run_tree (unit_of p) p.order input k) ≡ final_of (run u order input k)
run_is p u order input k i o = rw (i, o) refl

pub outcome_is : (o : Outcome) (a b : Final) → IsOutcome o a → a ≡ b → IsOutcome o b
outcome_is o a b h e = subst (λ x. IsOutcome o x) e h

-- from the start to the end
pub run_whole : (p : Program) (u : CoreUnit) (order : Order) (input : List ℕ) (k : ℕ) (w : World) (l m n : Machine) (focus : Focus) (end : How) → p.core.now ≡ u → p.order ≡ order → Starts p input (Ok w) → w.output ≡ [] → l.world ≡ w → l.turns ≡ k
    → Begins p (λ j v. main_run (own p) (slice_get (unit_of p).functions (unit_of p).main) j v) l m focus
    → ((t : List Event) → output_of t ≡ m.world.output → final (how_of end) n.world.output ≡ state_of p m focus t)
    → final (how_of end) n.world.output ≡ final_of (run u order input k)
run_whole p u order input k w l m n focus end i o starts out same turns b r =
    let x = b [] (sym out ∙ ap (λ (v : World). v.output) (sym same)) in
    r x.0 x.1
    ∙ (x.2
    ∙ (ap (λ j. final_of (ended_by (main_run (own p) (slice_get (unit_of p).functions (unit_of p).main) j (shown l.world [])))) turns
    ∙ (ap (λ (v : World). final_of (ended_by (main_run (own p) (slice_get (unit_of p).functions (unit_of p).main) k (shown v [])))) same
    ∙ (run_starts p input k w starts ∙ run_is p u order input k i o))))
