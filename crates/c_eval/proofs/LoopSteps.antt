-- Steps of loops.
use Rattle.std.proofs.Common.{◌≡◌, ℕ, List, refl, sym, ap, ◌∙◌}
use Rattle.std.specs.Prelude.{Bool, Option, Some, Result as Checked, Ok, IfOk}
use Rattle.lcc_base.specs.declared.memory.Memory.{Memory as NoMemory}
use Rattle.objects.specs.declared.value.Value.{Value}
use Rattle.c_meaning.specs.CoreTrees.{CoreOf, Core, line_of}
use Rattle.c_meaning.specs.StmtTrees.{StmtOf, maybe_seen}
use Rattle.c_runs.specs.Expressions.{asked, eval, test}
use Rattle.c_runs.specs.Outcomes.{Gives, then_drop, then_go, truth}
use Rattle.c_runs.specs.Statements.{maybe_dropped}
use Rattle.c_runs.specs.Worlds.{World as RunWorld}
use Rattle.c_worlds.specs.declared.program.Program.{Program}
use Rattle.c_worlds.specs.declared.stop.Stop.{Stop}
use Rattle.c_worlds.specs.Programs.{known, stmt_tree, tree}
use Rattle.c_worlds.specs.Shown.{Comes, Gets, giving, shown}
use Rattle.c_eval.specs.declared.focus.Focus.{Focus}
use Rattle.c_eval.specs.declared.frame.Frame.{Frame}
use Rattle.c_eval.specs.declared.machine.Machine.{Machine}
use Rattle.c_eval.specs.Came.{IsStopped}
use Rattle.c_eval.specs.Ends.{Came, OfStatement}
use Rattle.c_eval.specs.Frames.{frames}
use Rattle.c_eval.specs.LoopParts.{last_in, test_in}
use Rattle.c_eval.specs.Loops.{between_of, repeated_by, repeated_after, test_of, tested_of}
use Rattle.c_eval.specs.States.{ends, own, state}
use Rattle.c_eval.specs.Steps.{Meets}
use Rattle.c_eval.proofs.Acts.{Halts, gave_off, gave_on, meets_behind, meets_by, stops}
use Rattle.c_eval.proofs.LoopTests.{between_last, test_is, tested_is}

-- the contracts' words, for a statement of the program
abbrev pub by_test : Program → StmtOf ℕ → ℕ → RunWorld → Came
by_test p x k w = OfStatement (repeated_by (own p) (stmt_tree p x) (test_of (own p) (stmt_tree p x) k w))

abbrev pub by_between : Program → StmtOf ℕ → ℕ → RunWorld → Came
by_between p x k w = OfStatement (repeated_by (own p) (stmt_tree p x) (between_of (own p) (stmt_tree p x) k w))

abbrev pub by_value : Program → StmtOf ℕ → Value → ℕ → RunWorld → Came
by_value p x v k w = OfStatement (repeated_by (own p) (stmt_tree p x) (tested_of (stmt_tree p x) (Gives v k w)))

abbrev pub by_first : Program → StmtOf ℕ → Option (CoreOf ℕ) → ℕ → RunWorld → Came
by_first p x a k w = OfStatement (maybe_dropped (own p) (maybe_seen (known p) a) k w (λ k1 w1. repeated_by (own p) (stmt_tree p x) (test_of (own p) (stmt_tree p x) k1 w1)))

-- ---- the test

pub told_goes : (p : Program) (old new : Machine) (x : StmtOf ℕ) (c : CoreOf ℕ) (b : Bool) (focus : Focus) → test_in x ≡ Some c
    → new.world.locals ≡ old.world.locals → frames new.stack ≡ frames old.stack → new.turns ≡ old.turns
    → Gets (λ k w. test (own p) (tree p c) k w) old.world new.world (Ok (truth b))
    → ((below : List Value) (fs : List Frame) (k : ℕ) (w : RunWorld) → state p below fs focus k w ≡ ends p below fs (OfStatement (repeated_by (own p) (stmt_tree p x) (Gives (truth b) k w))))
    → Meets p old (by_test p x) new focus
told_goes p old new x c b focus e l f n g h =
    meets_by p old new (by_test p x) (λ k w. OfStatement (repeated_by (own p) (stmt_tree p x) (Gives (truth b) k w))) focus l f n
    (λ k t. ap (λ r. OfStatement (repeated_by (own p) (stmt_tree p x) r)) (test_is (own p) p x c k (shown old.world t) e ∙ g k t))
    h

pub test_stops : (p : Program) (old new : Machine) (x : StmtOf ℕ) (c : CoreOf ℕ) (stop : Stop) (r : Checked Focus NoMemory) → test_in x ≡ Some c
    → new.world.locals ≡ old.world.locals → frames new.stack ≡ frames old.stack → new.turns ≡ old.turns
    → Halts (λ k w. test (own p) (tree p c) k w) old.world new.world stop → IfOk r (λ focus. IsStopped stop focus) → IfOk r (λ focus. Meets p old (by_test p x) new focus)
test_stops p old new x c stop r e l f n h i =
    meets_behind p old old new (by_test p x) (λ k w. OfStatement (repeated_by (own p) (stmt_tree p x) (test (own p) (tree p c) k w))) r refl refl refl
    (λ k t. ap (λ r. OfStatement (repeated_by (own p) (stmt_tree p x) r)) (test_is (own p) p x c k (shown old.world t) e))
    (stops p old new (λ k w. test (own p) (tree p c) k w) (λ r. repeated_by (own p) (stmt_tree p x) r) stop r (λ how w. refl) l f n h i)

-- ---- its value

value_is_asked : (p : Program) (x : StmtOf ℕ) (c : CoreOf ℕ) (v : Value) (line k : ℕ) (w : RunWorld) → test_in x ≡ Some c → line ≡ line_of c → tested_of (stmt_tree p x) (Gives v k w) ≡ asked (giving (tree p c) v) line k w
value_is_asked p x (Core what of l kids) v line k w e h = tested_is p x (Core what of l kids) (Gives v k w) e ∙ ap (λ n. asked (giving (tree p (Core what of l kids)) v) n k w) (sym h)

pub value_stops : (p : Program) (old : Machine) (x : StmtOf ℕ) (c : CoreOf ℕ) (v : Value) (line : ℕ) (stop : Stop) (r : Checked Focus NoMemory) → test_in x ≡ Some c → line ≡ line_of c
    → Halts (λ k w. asked (giving (tree p c) v) line k w) old.world old.world stop → IfOk r (λ focus. IsStopped stop focus) → IfOk r (λ focus. Meets p old (by_value p x v) old focus)
value_stops p old x c v line stop r e i h j =
    meets_behind p old old old (by_value p x v) (λ k w. OfStatement (repeated_by (own p) (stmt_tree p x) (asked (giving (tree p c) v) line k w))) r refl refl refl
    (λ k t. ap (λ r. OfStatement (repeated_by (own p) (stmt_tree p x) r)) (value_is_asked p x c v line k (shown old.world t) e i))
    (stops p old old (λ k w. asked (giving (tree p c) v) line k w) (λ r. repeated_by (own p) (stmt_tree p x) r) stop r (λ how w. refl) refl refl refl h j)

-- ---- between two repetitions

pub last_goes : (p : Program) (old mid new : Machine) (x : StmtOf ℕ) (c : CoreOf ℕ) (v : Option Value) (r : Checked Focus NoMemory) → last_in x ≡ Some c
    → mid.world.locals ≡ old.world.locals → frames mid.stack ≡ frames old.stack → mid.turns ≡ old.turns
    → Comes (λ k w. eval (own p) (tree p c) k w) old.world mid.world (Ok v) → IfOk r (λ focus. Meets p mid (by_test p x) new focus) → IfOk r (λ focus. Meets p old (by_between p x) new focus)
last_goes p old mid new x c v r e l f n g m =
    meets_behind p old mid new (by_between p x) (by_test p x) r l f n
    (λ k t. ap (λ r. OfStatement (repeated_by (own p) (stmt_tree p x) r))
    (between_last (own p) p x c k (shown old.world t) e ∙ ap (λ r. then_drop r (λ k1 w1. test_of (own p) (stmt_tree p x) k1 w1)) (g k t) ∙ gave_off v k (shown mid.world t) (λ k1 w1. test_of (own p) (stmt_tree p x) k1 w1))) m

pub last_stops : (p : Program) (old new : Machine) (x : StmtOf ℕ) (c : CoreOf ℕ) (stop : Stop) (r : Checked Focus NoMemory) → last_in x ≡ Some c
    → new.world.locals ≡ old.world.locals → frames new.stack ≡ frames old.stack → new.turns ≡ old.turns
    → Halts (λ k w. eval (own p) (tree p c) k w) old.world new.world stop → IfOk r (λ focus. IsStopped stop focus) → IfOk r (λ focus. Meets p old (by_between p x) new focus)
last_stops p old new x c stop r e l f n h i =
    meets_behind p old old new (by_between p x) (λ k w. OfStatement (repeated_after (own p) (stmt_tree p x) (eval (own p) (tree p c) k w))) r refl refl refl
    (λ k t. ap (λ r. OfStatement (repeated_by (own p) (stmt_tree p x) r)) (between_last (own p) p x c k (shown old.world t) e))
    (stops p old new (λ k w. eval (own p) (tree p c) k w) (λ r. repeated_after (own p) (stmt_tree p x) r) stop r (λ how w. refl) l f n h i)

-- ---- the first part

pub first_goes : (p : Program) (old mid new : Machine) (x : StmtOf ℕ) (a : Option (CoreOf ℕ)) (c : CoreOf ℕ) (v : Option Value) (r : Checked Focus NoMemory) → a ≡ Some c
    → mid.world.locals ≡ old.world.locals → frames mid.stack ≡ frames old.stack → mid.turns ≡ old.turns
    → Comes (λ k w. eval (own p) (tree p c) k w) old.world mid.world (Ok v) → IfOk r (λ focus. Meets p mid (by_test p x) new focus) → IfOk r (λ focus. Meets p old (by_first p x a) new focus)
first_goes p old mid new x a c v r e l f n g m =
    meets_behind p old mid new (by_first p x a) (by_test p x) r l f n
    (λ k t. ap (λ b. by_first p x b k (shown old.world t)) e
    ∙ ap OfStatement (ap (λ r. then_go r (λ k1 w1. repeated_by (own p) (stmt_tree p x) (test_of (own p) (stmt_tree p x) k1 w1))) (g k t)
    ∙ gave_on v k (shown mid.world t) (λ k1 w1. repeated_by (own p) (stmt_tree p x) (test_of (own p) (stmt_tree p x) k1 w1)))) m

pub first_stops : (p : Program) (old new : Machine) (x : StmtOf ℕ) (a : Option (CoreOf ℕ)) (c : CoreOf ℕ) (stop : Stop) (r : Checked Focus NoMemory) → a ≡ Some c
    → new.world.locals ≡ old.world.locals → frames new.stack ≡ frames old.stack → new.turns ≡ old.turns
    → Halts (λ k w. eval (own p) (tree p c) k w) old.world new.world stop → IfOk r (λ focus. IsStopped stop focus) → IfOk r (λ focus. Meets p old (by_first p x a) new focus)
first_stops p old new x a c stop r e l f n h i =
    meets_behind p old old new (by_first p x a) (by_first p x (Some c)) r refl refl refl
    (λ k t. ap (λ b. by_first p x b k (shown old.world t)) e)
    (stops p old new (λ k w. eval (own p) (tree p c) k w) (λ r. then_go r (λ k1 w1. repeated_by (own p) (stmt_tree p x) (test_of (own p) (stmt_tree p x) k1 w1))) stop r (λ how w. refl) l f n h i)
