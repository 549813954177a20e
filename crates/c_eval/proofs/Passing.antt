-- Arguments that are passed, and places that are filled.
use Rattle.std.specs.Prelude.{◌≡◌, ◌+◌, ◌++◌, ℕ, Bool, true, false, List, [], ◌∷◌, Result as Checked, Ok, Err, slice_get, refl}
use Rattle.std.proofs.Common.{ap}
use Rattle.lcc_base.specs.declared.cause.Cause.{Cause}
use Rattle.lcc_base.specs.Traces.{Event}
use Rattle.objects.specs.declared.value.Value.{Value}
use Rattle.objects.specs.Objects.{Object}
use Rattle.c_types.specs.CType.{CType}
use Rattle.c_meaning.specs.CoreTrees.{CoreOf, line_of, type_of}
use Rattle.c_meaning.specs.declared.filled_place.FilledPlace.{FilledPlace}
use Rattle.c_meaning.specs.StmtTrees.{FilledOf}
use Rattle.c_meaning.specs.Types.{is_record}
use Rattle.c_meaning.specs.Values.{CoreTrees}
use Rattle.c_entries.specs.Entered.{Copies}
use Rattle.c_filling.specs.Filled.{filled_at, seen_place, seen_places}
use Rattle.c_runs.specs.Calls.{Argument, Setting}
use Rattle.c_runs.specs.Expressions.{argument, arguments, copied_to, parts_of}
use Rattle.c_runs.specs.Outcomes.{How, Result, Gives, Ends, Undefined as Undefines, Out, Next, Over, either, if_done}
use Rattle.c_runs.specs.Statements.{fill, filled}
use Rattle.c_runs.specs.Worlds.{World as RunWorld, objects, with_objects}
use Rattle.c_worlds.specs.declared.program.Program.{Program}
use Rattle.c_worlds.specs.declared.stop.Stop.{Stop}
use Rattle.c_worlds.specs.declared.stop.Stop.TheVariants.{Undefined, Memory}
use Rattle.c_worlds.specs.declared.world.World.{World}
use Rattle.c_worlds.specs.Programs.{Calls, setting_of, tree, trees}
use Rattle.c_worlds.specs.Shown.{Gets, giving, shown}
use Rattle.c_eval.specs.declared.frame.Frame.{Frame}
use Rattle.c_eval.specs.declared.frame.Frame.TheVariants as on
use Rattle.c_eval.specs.Stacks.{arguments_from, called, calling_on, filled_from, passed}
use Rattle.c_eval.specs.States.{own}
use Rattle.c_eval.proofs.Meeting.{at_own}

-- ---- either way

either_true : {A : Type 0} (b : Bool) (go other : ℕ → RunWorld → A) (k : ℕ) (w : RunWorld) → b ≡ true → go k w ≡ either b go other k w
either_true true go other k w h = refl
either_true false go other k w h = absurd cc

either_false : {A : Type 0} (b : Bool) (go other : ℕ → RunWorld → A) (k : ℕ) (w : RunWorld) → b ≡ false → other k w ≡ either b go other k w
either_false true go other k w h = absurd cc
either_false false go other k w h = refl

-- ---- arguments

pub copy_passed : (p : Program) (fs : List Frame) (xs : List (CoreOf ℕ)) (a : CoreOf ℕ) (cs : List (CoreOf ℕ)) (n : ℕ) (v : Value) (k : ℕ) (w : RunWorld) → xs ≡ a ∷ cs → is_record (type_of (tree p a)) ≡ true
    → copied_to (own p) (slice_get w.locals n) (giving (tree p a) v) v k w (λ x k1 w1. arguments (own p) (n + 1) (parts_of (own p) (trees p cs)) (passed p fs ++ x ∷ []) k1 w1 (λ m xs k2 w2. calling_on p (own p) (called fs) m xs k2 w2))
    ≡ arguments_from p (own p) fs (trees p xs) n (Gives v k w)
copy_passed p fs xs a cs n v k w e h = rw e
    (either_true (is_record (type_of (tree p a)))
    (λ k2 w2. copied_to (own p) (slice_get w2.locals n) (giving (tree p a) v) v k2 w2 (λ x k3 w3. arguments (own p) (n + 1) (parts_of (own p) (trees p cs)) (passed p fs ++ x ∷ []) k3 w3 (λ m xs k1 w1. calling_on p (own p) (called fs) m xs k1 w1)))
    (λ k2 w2. arguments (own p) n (parts_of (own p) (trees p cs)) (passed p fs ++ argument (giving (tree p a) v) v ∷ []) k2 w2 (λ m xs k1 w1. calling_on p (own p) (called fs) m xs k1 w1)) k w h)

pub value_passed : (p : Program) (fs : List Frame) (xs : List (CoreOf ℕ)) (a : CoreOf ℕ) (cs : List (CoreOf ℕ)) (n : ℕ) (v : Value) (k : ℕ) (w : RunWorld) → xs ≡ a ∷ cs → is_record (type_of (tree p a)) ≡ false
    → arguments (own p) n (parts_of (own p) (trees p cs)) (passed p fs ++ argument (giving (tree p a) v) v ∷ []) k w (λ m xs k1 w1. calling_on p (own p) (called fs) m xs k1 w1)
    ≡ arguments_from p (own p) fs (trees p xs) n (Gives v k w)
value_passed p fs xs a cs n v k w e h = rw e
    (either_false (is_record (type_of (tree p a)))
    (λ k2 w2. copied_to (own p) (slice_get w2.locals n) (giving (tree p a) v) v k2 w2 (λ x k3 w3. arguments (own p) (n + 1) (parts_of (own p) (trees p cs)) (passed p fs ++ x ∷ []) k3 w3 (λ m xs k1 w1. calling_on p (own p) (called fs) m xs k1 w1)))
    (λ k2 w2. arguments (own p) n (parts_of (own p) (trees p cs)) (passed p fs ++ argument (giving (tree p a) v) v ∷ []) k2 w2 (λ m xs k1 w1. calling_on p (own p) (called fs) m xs k1 w1)) k w h)

-- one more is passed
pub more_passed : (p : Program) (fs gs : List Frame) (c : _) (v : Value) (n : ℕ) (cs : CoreTrees) (k : ℕ) (w : RunWorld) → fs ≡ on.Passed c v ∷ gs
    → arguments (own p) n (parts_of (own p) cs) (passed p fs) k w (λ m xs k1 w1. calling_on p (own p) (called fs) m xs k1 w1)
    ≡ arguments (own p) n (parts_of (own p) cs) (passed p gs ++ argument (giving (tree p c.now) v) v ∷ []) k w (λ m xs k1 w1. calling_on p (own p) (called gs) m xs k1 w1)
more_passed p fs gs c v n cs k w h = rw h refl

-- a structure was copied
pub copied : (p : Program) (a : CoreOf ℕ) (n : ℕ) (v copy : Value) (old new : World) (go : Argument → ℕ → RunWorld → Result) → Copies p a n v old new (Ok copy) → (k : ℕ) (t : List Event)
    → copied_to (own p) (slice_get old.locals.here n) (giving (tree p a) v) v k (shown old t) go ≡ go (argument (giving (tree p a) v) copy) k (shown new t)
copied p a n v copy old new go h k t =
    at_own p (λ s. copied_to s (slice_get old.locals.here n) (giving (tree p a) v) v k (shown old t) go ≡ go (argument (giving (tree p a) v) copy) k (shown new t)) (λ calls. h calls go k t)

-- one can't be copied
pub copy_stops : (p : Program) (a : CoreOf ℕ) (n : ℕ) (v : Value) (old new : World) (go : Argument → ℕ → RunWorld → Result) (stop : Stop) → Copies p a n v old new (Err stop)
    → Gets (λ k w. copied_to (own p) (slice_get w.locals n) (giving (tree p a) v) v k w go) old new (Err stop)
copy_stops p a n v old new go (Undefined cause line) h = λ k t.
    at_own p (λ s. copied_to s (slice_get old.locals.here n) (giving (tree p a) v) v k (shown old t) go ≡ Ends (Undefines cause line) (shown new t)) (λ calls. h calls go k t)
copy_stops p a n v old new go Memory h = tt

-- ---- places

abbrev after : Out → RunWorld → RunWorld
after (Next k w) x = w
after o x = x

done_on : (c : Checked (List Object) Cause) (line k : ℕ) (w x : RunWorld) (go : ℕ → RunWorld → Out) → if_done c line w (λ os. Next k (with_objects w os)) ≡ Next k x → if_done c line w (λ os. go k (with_objects w os)) ≡ go k x
done_on (Ok os) line k w x go h = ap (λ o. go k (after o x)) h
done_on (Err cause) line k w x go h = absurd cc

done_over : (c : Checked (List Object) Cause) (line k : ℕ) (w x : RunWorld) (how : How) (go : ℕ → RunWorld → Out) → if_done c line w (λ os. Next k (with_objects w os)) ≡ Over how x → if_done c line w (λ os. go k (with_objects w os)) ≡ Over how x
done_over (Ok os) line k w x how go h = absurd cc
done_over (Err cause) line k w x how go h = h

-- one place is filled, and then the others
pub fill_on : (s : Setting) (q : FilledOf CType) (base v : Value) (ps : List (FilledOf CType)) (k : ℕ) (w x : RunWorld) → filled_at s q base v k w ≡ Next k x → filled_from s base (q ∷ ps) (Gives v k w) ≡ fill s base ps k x
fill_on s q base v ps k w x h = done_on (filled s q _ v (objects w)) (line_of q.value) k w x (λ k1 w1. fill s base ps k1 w1) h

pub fill_over : (s : Setting) (q : FilledOf CType) (base v : Value) (ps : List (FilledOf CType)) (k : ℕ) (w x : RunWorld) (how : How) → filled_at s q base v k w ≡ Over how x → filled_from s base (q ∷ ps) (Gives v k w) ≡ Over how x
fill_over s q base v ps k w x how h = done_over (filled s q _ v (objects w)) (line_of q.value) k w x how (λ k1 w1. fill s base ps k1 w1) h

pub place_filled : (p : Program) (places : List FilledPlace) (x : FilledPlace) (xs : List FilledPlace) (base v : Value) (k : ℕ) (w y : RunWorld) → places ≡ x ∷ xs → ((calls : Calls) → filled_at (setting_of p calls) (seen_place p x) base v k w ≡ Next k y)
    → filled_from (own p) base (seen_places p places) (Gives v k w) ≡ fill (own p) base (seen_places p xs) k y
place_filled p places x xs base v k w y h g = rw h (fill_on (own p) (seen_place p x) base v (seen_places p xs) k w y (at_own p (λ s. filled_at s (seen_place p x) base v k w ≡ Next k y) g))

pub place_over : (p : Program) (places : List FilledPlace) (x : FilledPlace) (xs : List FilledPlace) (base v : Value) (k : ℕ) (w y : RunWorld) (how : How) → places ≡ x ∷ xs → filled_at (own p) (seen_place p x) base v k w ≡ Over how y
    → filled_from (own p) base (seen_places p places) (Gives v k w) ≡ Over how y
place_over p places x xs base v k w y how h g = rw h (fill_over (own p) (seen_place p x) base v (seen_places p xs) k w y how g)
