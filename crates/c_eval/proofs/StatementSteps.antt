-- Steps of statements that begin, or are entered at a label.
use Rattle.std.proofs.Common.{◌≡◌, ℕ, List, refl, sym, ap, ◌∙◌}
use Rattle.std.specs.Prelude.{Bool, true, Option, Some, None, Result as Checked, Ok, Err, IfOk, slice_get}
use Rattle.lcc_base.specs.declared.cause.Cause.{Cause}
use Rattle.lcc_base.specs.declared.cause.Cause.TheVariants.{NoResult, Outside}
use Rattle.lcc_base.specs.declared.memory.Memory.{Memory as NoMemory}
use Rattle.lcc_base.specs.Traces.{Event}
use Rattle.objects.specs.declared.value.Value.{Value}
use Rattle.objects.specs.Objects.{Object}
use Rattle.c_types.specs.CType.{CType}
use Rattle.c_filling.specs.Filled.{zeroed_whole}
use Rattle.c_meaning.specs.CoreTrees.{CoreOf, line_of}
use Rattle.c_meaning.specs.StmtTrees.{FilledOf}
use Rattle.c_runs.specs.Expressions.{eval}
use Rattle.c_runs.specs.Outcomes.{How, Undefined as Undefines, Result, Gives, GivesNone, Out, Next, Return, Over, if_done, then_do, then_go, then_next}
use Rattle.c_runs.specs.Statements.{fill, initialised, zeroed_at}
use Rattle.c_runs.specs.Worlds.{World as RunWorld, objects, with_objects}
use Rattle.c_worlds.specs.declared.program.Program.{Program}
use Rattle.c_worlds.specs.declared.stop.Stop.{Stop}
use Rattle.c_worlds.specs.declared.stop.Stop.TheVariants.{Undefined, Memory}
use Rattle.c_worlds.specs.Programs.{tree}
use Rattle.c_worlds.specs.Shown.{Comes, Goes, shown}
use Rattle.c_eval.specs.declared.focus.Focus.{Focus}
use Rattle.c_eval.specs.declared.focus.Focus.TheVariants as at
use Rattle.c_eval.specs.declared.how.How.TheVariants as how
use Rattle.c_eval.specs.declared.frame.Frame.{Frame}
use Rattle.c_eval.specs.declared.machine.Machine.{Machine}
use Rattle.c_eval.specs.Came.{IsStopped}
use Rattle.c_eval.specs.Ends.{Came, OfStatement}
use Rattle.c_eval.specs.Frames.{frames}
use Rattle.c_eval.specs.States.{ends, own, state}
use Rattle.c_eval.specs.Steps.{Meets}
use Rattle.c_eval.proofs.Acts.{gave_on, meets_behind, meets_by}
use Rattle.c_eval.proofs.Passes.{over_of}

-- ---- what acts give

-- a value came
pub value_meets : (p : Program) (old new : Machine) (part : ℕ → RunWorld → Result) (go : Result → Out) (v : Value) (focus : Focus)
    → new.world.locals ≡ old.world.locals → frames new.stack ≡ frames old.stack → new.turns ≡ old.turns
    → ((k : ℕ) (t : List Event) → part k (shown old.world t) ≡ Gives v k (shown new.world t))
    → ((below : List Value) (fs : List Frame) (k : ℕ) (w : RunWorld) → state p below fs focus k w ≡ ends p below fs (OfStatement (go (Gives v k w))))
    → Meets p old (λ k w. OfStatement (go (part k w))) new focus
value_meets p old new part go v focus l f n g h =
    meets_by p old new (λ k w. OfStatement (go (part k w))) (λ k w. OfStatement (go (Gives v k w))) focus l f n (λ k t. ap (λ r. OfStatement (go r)) (g k t)) h

-- none came where one is used
pub nothing_meets : (p : Program) (old new : Machine) (part : ℕ → RunWorld → Result) (go : Result → Out) (focus : Focus)
    → new.world.locals ≡ old.world.locals → frames new.stack ≡ frames old.stack → new.turns ≡ old.turns
    → ((k : ℕ) (w : RunWorld) → go (GivesNone 0 k w) ≡ Over (Undefines NoResult 0) w)
    → ((k : ℕ) (t : List Event) → part k (shown old.world t) ≡ GivesNone 0 k (shown new.world t))
    → focus ≡ at.Over (how.Undefined NoResult 0) → Meets p old (λ k w. OfStatement (go (part k w))) new focus
nothing_meets p old new part go focus l f n g c e =
    meets_by p old new (λ k w. OfStatement (go (part k w))) (λ k w. OfStatement (Over (Undefines NoResult 0) w)) focus l f n
    (λ k t. ap (λ r. OfStatement (go r)) (c k t) ∙ ap OfStatement (g k (shown new.world t)))
    (λ below fs k w. ap (λ x. state p below fs x k w) e ∙ sym (over_of p below fs (Undefines NoResult 0) w))

-- what was done goes on
pub done_meets : (p : Program) (old new : Machine) (part : ℕ → RunWorld → Out)
    → new.world.locals ≡ old.world.locals → frames new.stack ≡ frames old.stack → new.turns ≡ old.turns
    → ((k : ℕ) (t : List Event) → part k (shown old.world t) ≡ Next k (shown new.world t)) → Meets p old (λ k w. OfStatement (part k w)) new at.Next
done_meets p old new part l f n g = meets_by p old new (λ k w. OfStatement (part k w)) (λ k w. OfStatement (Next k w)) at.Next l f n (λ k t. ap OfStatement (g k t)) (λ below fs k w. refl)

done_over : (p : Program) (old new : Machine) (part : ℕ → RunWorld → Out) (go : Out → Out) (stop : Stop) (focus : Focus)
    → new.world.locals ≡ old.world.locals → frames new.stack ≡ frames old.stack → new.turns ≡ old.turns
    → ((how : How) (w : RunWorld) → go (Over how w) ≡ Over how w)
    → Goes part old.world new.world (Err stop) → IsStopped stop focus → Meets p old (λ k w. OfStatement (go (part k w))) new focus
done_over p old new part go (Undefined cause line) focus l f n g h e =
    meets_by p old new (λ k w. OfStatement (go (part k w))) (λ k w. OfStatement (Over (Undefines cause line) w)) focus l f n
    (λ k t. ap OfStatement (ap go (h k t) ∙ g (Undefines cause line) (shown new.world t)))
    (λ below fs k w. ap (λ x. state p below fs x k w) e ∙ sym (over_of p below fs (Undefines cause line) w))
done_over p old new part go Memory focus l f n g h e = absurd e

pub done_stops : (p : Program) (old new : Machine) (part : ℕ → RunWorld → Out) (go : Out → Out) (stop : Stop) (r : Checked Focus NoMemory)
    → new.world.locals ≡ old.world.locals → frames new.stack ≡ frames old.stack → new.turns ≡ old.turns
    → ((how : How) (w : RunWorld) → go (Over how w) ≡ Over how w)
    → Goes part old.world new.world (Err stop) → IfOk r (λ focus. IsStopped stop focus) → IfOk r (λ focus. Meets p old (λ k w. OfStatement (go (part k w))) new focus)
done_stops p old new part go stop (Ok focus) l f n g h e = done_over p old new part go stop focus l f n g h e
done_stops p old new part go stop (Err x) l f n g h e = tt

-- ---- expressions, returns and tests

pub value_dropped : (p : Program) (old new : Machine) (c : CoreOf ℕ) (v : Option Value)
    → new.world.locals ≡ old.world.locals → frames new.stack ≡ frames old.stack → new.turns ≡ old.turns
    → Comes (λ k w. eval (own p) (tree p c) k w) old.world new.world (Ok v) → Meets p old (λ k w. OfStatement (then_go (eval (own p) (tree p c) k w) (λ k1 w1. Next k1 w1))) new at.Next
value_dropped p old new c v l f n g =
    done_meets p old new (λ k w. then_go (eval (own p) (tree p c) k w) (λ k1 w1. Next k1 w1)) l f n
    (λ k t. ap (λ r. then_go r (λ k1 w1. Next k1 w1)) (g k t) ∙ gave_on v k (shown new.world t) (λ k1 w1. Next k1 w1))

pub value_returned : (p : Program) (old new : Machine) (c : CoreOf ℕ) (v : Value) (line : ℕ) → line ≡ line_of c
    → new.world.locals ≡ old.world.locals → frames new.stack ≡ frames old.stack → new.turns ≡ old.turns
    → Comes (λ k w. eval (own p) (tree p c) k w) old.world new.world (Ok (Some v))
    → Meets p old (λ k w. OfStatement (then_do (eval (own p) (tree p c) k w) (λ u k1 w1. Return (Some u) (line_of c) k1 w1))) new (at.Return (Some v) line)
value_returned p old new c v line e l f n g =
    value_meets p old new (λ k w. eval (own p) (tree p c) k w) (λ r. then_do r (λ u k1 w1. Return (Some u) (line_of c) k1 w1)) v (at.Return (Some v) line) l f n g
    (λ below fs k w. ap (λ m. ends p below fs (OfStatement (Return (Some v) m k w))) e)

-- ---- objects that get their first values

zeroed_then : (x : Checked (List Object) Cause) (k : ℕ) (w : RunWorld) (go : ℕ → RunWorld → Out) → if_done x 0 w (λ os. go k (with_objects w os)) ≡ then_next (if_done x 0 w (λ os. Next k (with_objects w os))) go
zeroed_then (Ok os) k w go = refl
zeroed_then (Err cause) k w go = refl

abbrev pub starts_with : Program → ℕ → Bool → List (FilledOf CType) → ℕ → RunWorld → Came
starts_with p local zero ps k w = OfStatement (initialised (own p) (slice_get w.locals local) zero ps k w)

pub no_local : (p : Program) (old : Machine) (local : ℕ) (zero : Bool) (ps : List (FilledOf CType)) (focus : Focus) → slice_get old.world.locals.here local ≡ None → focus ≡ at.Over (how.Undefined Outside 0) → Meets p old (starts_with p local zero ps) old focus
no_local p old local zero ps focus e h =
    meets_by p old old (starts_with p local zero ps) (λ k w. OfStatement (Over (Undefines Outside 0) w)) focus refl refl refl
    (λ k t. ap (λ b. OfStatement (initialised (own p) b zero ps k (shown old.world t))) e)
    (λ below fs k w. ap (λ x. state p below fs x k w) h ∙ sym (over_of p below fs (Undefines Outside 0) w))

zeroed_first : (p : Program) (old : Machine) (local : ℕ) (zero : Bool) (ps : List (FilledOf CType)) (base : Value) (k : ℕ) (t : List Event) → slice_get old.world.locals.here local ≡ Some base → zero ≡ true
    → starts_with p local zero ps k (shown old.world t) ≡ OfStatement (then_next (zeroed_whole base k (shown old.world t)) (λ k1 w1. fill (own p) base ps k1 w1))
zeroed_first p old local zero ps base k t e z =
    ap (λ b. OfStatement (initialised (own p) b zero ps k (shown old.world t))) e
    ∙ ap (λ b. OfStatement (initialised (own p) (Some base) b ps k (shown old.world t))) z
    ∙ ap OfStatement (zeroed_then (zeroed_at base (objects (shown old.world t))) k (shown old.world t) (λ k1 w1. fill (own p) base ps k1 w1))

pub filled_behind : (p : Program) (old mid new : Machine) (local : ℕ) (zero : Bool) (ps : List (FilledOf CType)) (base : Value) (r : Checked Focus NoMemory) → slice_get old.world.locals.here local ≡ Some base → zero ≡ true
    → mid.world.locals ≡ old.world.locals → frames mid.stack ≡ frames old.stack → mid.turns ≡ old.turns
    → ((k : ℕ) (t : List Event) → zeroed_whole base k (shown old.world t) ≡ Next k (shown mid.world t))
    → IfOk r (λ focus. Meets p mid (λ k w. OfStatement (fill (own p) base ps k w)) new focus) → IfOk r (λ focus. Meets p old (starts_with p local zero ps) new focus)
filled_behind p old mid new local zero ps base r e z l f n g m =
    meets_behind p old mid new (starts_with p local zero ps) (λ k w. OfStatement (fill (own p) base ps k w)) r l f n
    (λ k t. zeroed_first p old local zero ps base k t e z ∙ ap (λ o. OfStatement (then_next o (λ k1 w1. fill (own p) base ps k1 w1))) (g k t)) m

pub zero_stops : (p : Program) (old new : Machine) (local : ℕ) (zero : Bool) (ps : List (FilledOf CType)) (base : Value) (stop : Stop) (r : Checked Focus NoMemory) → slice_get old.world.locals.here local ≡ Some base → zero ≡ true
    → new.world.locals ≡ old.world.locals → frames new.stack ≡ frames old.stack → new.turns ≡ old.turns
    → Goes (λ k w. zeroed_whole base k w) old.world new.world (Err stop) → IfOk r (λ focus. IsStopped stop focus) → IfOk r (λ focus. Meets p old (starts_with p local zero ps) new focus)
zero_stops p old new local zero ps base stop r e z l f n g h =
    meets_behind p old old new (starts_with p local zero ps) (λ k w. OfStatement (then_next (zeroed_whole base k w) (λ k1 w1. fill (own p) base ps k1 w1))) r refl refl refl
    (λ k t. zeroed_first p old local zero ps base k t e z)
    (done_stops p old new (λ k w. zeroed_whole base k w) (λ o. then_next o (λ k1 w1. fill (own p) base ps k1 w1)) stop r l f n (λ how w. refl) g h)
