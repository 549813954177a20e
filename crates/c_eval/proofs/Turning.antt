-- Turns that are spent by loops and gotos.
use Rattle.std.specs.Prelude.{◌≡◌, ◌≤◌, ℕ, zero, suc, ◌-◌, Bool, true, false, Option, Some, None, List, ◌∷◌, Result as Checked, Ok, Err}
use Rattle.std.proofs.Common.{sym, ap, ◌∙◌, arith}
use Rattle.std.specs.Borrow.{Bor}
use Rattle.lcc_base.specs.declared.cause.Cause.{Cause}
use Rattle.lcc_base.specs.Traces.{output_of}
use Rattle.objects.specs.declared.value.Value.{Value}
use Rattle.c_types.specs.CType.{CType}
use Rattle.c_meaning.specs.declared.core_stmt.CoreStmt.{CoreStmt}
use Rattle.c_meaning.specs.CoreTrees.{line_of, type_of}
use Rattle.c_meaning.specs.StmtTrees.{StmtOf, StmtsOf}
use Rattle.c_meaning.specs.StmtTrees as stmt
use Rattle.c_meaning.specs.Values.{CoreTree}
use Rattle.c_runs.specs.Expressions.{eval, holds, test}
use Rattle.c_runs.specs.Laws.{Falls, FallsOut, Falling, FallingOut, EvalFalls, ExecFalls, LoopIs, JumpIs}
use Rattle.c_runs.specs.Outcomes.{Result, Gives, GivesNone, Ends, Out, Next, Break, Continue, Return, Goto, Over, OutOfTurns, either, spent, tells, then_drop, then_give, then_next}
use Rattle.c_runs.specs.Statements.{Entry, Start, At, any_has, exec, exec_all, has, jump, last_and_test, maybe_test}
use Rattle.c_runs.specs.Worlds.{World, objects}
use Rattle.c_worlds.specs.declared.program.Program.{Program}
use Rattle.c_worlds.specs.Programs.{unit_of}
use Rattle.c_eval.specs.declared.frame.Frame.{Frame}
use Rattle.c_eval.specs.declared.frame.Frame.TheVariants as on
use Rattle.c_eval.specs.Ends.{OfStatement, final}
use Rattle.c_eval.specs.Loops.{between_of, body_of, repeated}
use Rattle.c_eval.specs.Stacks.{statement, statements}
use Rattle.c_eval.specs.States.{ends, own}
use Rattle.c_eval.proofs.Passes.{over_of}

-- ---- turns fall

same_turns : (k : ℕ) → k ≤ k
same_turns k = omega arith

fewer : (j k n : ℕ) → j ≤ k → k ≤ n → j ≤ n
fewer j k n a b = omega arith

falls_from : (j n : ℕ) (r : Result) → Falls j r → j ≤ n → Falls n r
falls_from j n (Gives v k w) h e = fewer k j n h e
falls_from j n (GivesNone line k w) h e = fewer k j n h e
falls_from j n (Ends how w) h e = h

falls_out_from : (j n : ℕ) (o : Out) → FallsOut j o → j ≤ n → FallsOut n o
falls_out_from j n (Next k w) h e = fewer k j n h e
falls_out_from j n (Break k w) h e = fewer k j n h e
falls_out_from j n (Continue k w) h e = fewer k j n h e
falls_out_from j n (Return v line k w) h e = fewer k j n h e
falls_out_from j n (Goto l k w) h e = fewer k j n h e
falls_out_from j n (Over how w) h e = h

told_falls : (checked : Checked Bool Cause) (line k : ℕ) (w : World) → Falls k (tells checked line k w)
told_falls (Ok b) line k w = same_turns k
told_falls (Err cause) line k w = tt

give_falls : (n : ℕ) (r : Result) (go : Value → ℕ → World → Result) → Falls n r → ((v : Value) (k : ℕ) (w : World) → Falls k (go v k w)) → Falls n (then_give r go)
give_falls n (Gives v k w) go h g = falls_from k n (go v k w) (g v k w) h
give_falls n (GivesNone line k w) go h g = tt
give_falls n (Ends how w) go h g = tt

drop_falls : (n : ℕ) (r : Result) (go : ℕ → World → Result) → Falls n r → ((k : ℕ) (w : World) → Falls k (go k w)) → Falls n (then_drop r go)
drop_falls n (Gives v k w) go h g = falls_from k n (go k w) (g k w) h
drop_falls n (GivesNone line k w) go h g = falls_from k n (go k w) (g k w) h
drop_falls n (Ends how w) go h g = tt

next_falls : (n : ℕ) (o : Out) (go : ℕ → World → Out) → FallsOut n o → ((k : ℕ) (w : World) → FallsOut k (go k w)) → FallsOut n (then_next o go)
next_falls n (Next k w) go h g = falls_out_from k n (go k w) (g k w) h
next_falls n (Break k w) go h g = h
next_falls n (Continue k w) go h g = h
next_falls n (Return v line k w) go h g = h
next_falls n (Goto l k w) go h g = h
next_falls n (Over how w) go h g = tt

either_falls : (b : Bool) (go other : ℕ → World → Out) (k : ℕ) (w : World) → FallsOut k (go k w) → FallsOut k (other k w) → FallsOut k (either b go other k w)
either_falls true go other k w h e = h
either_falls false go other k w h e = e

test_falls : (p : Program) → EvalFalls → (c : CoreTree) → Falling (λ k w. test (own p) c k w)
test_falls p law c k w =
    give_falls k (eval (own p) c k w) (λ v k1 w1. tells (holds (type_of c) (objects w1) v) (line_of c) k1 w1) (law (unit_of p) p.order c k w) (λ v k1 w1. told_falls (holds (type_of c) (objects w1) v) (line_of c) k1 w1)

maybe_test_falls : (p : Program) → EvalFalls → (c : Option CoreTree) → Falling (λ k w. maybe_test (own p) c k w)
maybe_test_falls p law None k w = same_turns k
maybe_test_falls p law (Some c) k w = test_falls p law c k w

last_falls : (p : Program) → EvalFalls → (c b : Option CoreTree) → Falling (λ k w. last_and_test (own p) c b k w)
last_falls p law None b k w = maybe_test_falls p law b k w
last_falls p law (Some c) b k w = drop_falls k (eval (own p) c k w) (λ k1 w1. maybe_test (own p) b k1 w1) (law (unit_of p) p.order c k w) (λ k1 w1. maybe_test_falls p law b k1 w1)

between_falls : (p : Program) → EvalFalls → (l : StmtOf CType) → Falling (λ k w. between_of (own p) l k w)
between_falls p law stmt.Nothing k w = same_turns k
between_falls p law (stmt.Expression e) k w = same_turns k
between_falls p law (stmt.Initialise local zeroed ps) k w = same_turns k
between_falls p law (stmt.Block first locals ss) k w = same_turns k
between_falls p law (stmt.If x t u) k w = same_turns k
between_falls p law (stmt.While x t) k w = test_falls p law x k w
between_falls p law (stmt.Do t x) k w = test_falls p law x k w
between_falls p law (stmt.For a b c t) k w = last_falls p law c b k w
between_falls p law (stmt.Switch x cases default t) k w = same_turns k
between_falls p law (stmt.Label m t) k w = same_turns k
between_falls p law (stmt.Goto m) k w = same_turns k
between_falls p law stmt.Break k w = same_turns k
between_falls p law stmt.Continue k w = same_turns k
between_falls p law (stmt.Return x) k w = same_turns k

body_falls : (p : Program) → ExecFalls → (l : StmtOf CType) → FallingOut (λ k w. body_of (own p) l k w)
body_falls p law stmt.Nothing k w = same_turns k
body_falls p law (stmt.Expression e) k w = same_turns k
body_falls p law (stmt.Initialise local zeroed ps) k w = same_turns k
body_falls p law (stmt.Block first locals ss) k w = same_turns k
body_falls p law (stmt.If x t u) k w = same_turns k
body_falls p law (stmt.While x t) k w = law (unit_of p) p.order t Start k w
body_falls p law (stmt.Do t x) k w = law (unit_of p) p.order t Start k w
body_falls p law (stmt.For a b c t) k w = law (unit_of p) p.order t Start k w
body_falls p law (stmt.Switch x cases default t) k w = same_turns k
body_falls p law (stmt.Label m t) k w = same_turns k
body_falls p law (stmt.Goto m) k w = same_turns k
body_falls p law stmt.Break k w = same_turns k
body_falls p law stmt.Continue k w = same_turns k
body_falls p law (stmt.Return x) k w = same_turns k

all_fall : (p : Program) → ExecFalls → (ts : StmtsOf CType) (e : Entry) → FallingOut (λ k w. exec_all (own p) ts e k w)
all_fall p law stmt.NoStmt e k w = same_turns k
all_fall p law (stmt.Stmts t ts) Start k w =
    next_falls k (exec (own p) t Start k w) (λ k1 w1. exec_all (own p) ts Start k1 w1) (law (unit_of p) p.order t Start k w) (λ k1 w1. all_fall p law ts Start k1 w1)
all_fall p law (stmt.Stmts t ts) (At l) k w =
    either_falls (has t l)
    (λ k1 w1. then_next (exec (own p) t (At l) k1 w1) (λ k2 w2. exec_all (own p) ts Start k2 w2))
    (λ k1 w1. exec_all (own p) ts (At l) k1 w1)
    k w
    (next_falls k (exec (own p) t (At l) k w) (λ k1 w1. exec_all (own p) ts Start k1 w1) (law (unit_of p) p.order t (At l) k w) (λ k1 w1. all_fall p law ts Start k1 w1))
    (all_fall p law ts (At l) k w)

-- ---- loops

pub one_less : (k : ℕ) → 1 ≤ k → suc (k - 1) ≡ k
one_less zero h = absurd (omega (arith, h))
one_less (suc k) h = let e : suc k - 1 ≡ k = omega arith in ap suc e

pub repeats : (p : Program) → LoopIs → EvalFalls → ExecFalls → (s : Bor CoreStmt) (k : ℕ) (w : World) (below : List Value) (new fs : List Frame) → 1 ≤ k → new ≡ on.Body s ∷ fs → ends p below new (OfStatement (body_of (own p) (statement p s.now) (k - 1) w)) ≡ ends p below fs (OfStatement (repeated (own p) (statement p s.now) k w))
repeats p loops evals execs s k w below new fs h e =
    ap (λ gs. ends p below gs (OfStatement (body_of (own p) (statement p s.now) (k - 1) w))) e
    ∙ sym (ap (λ o. ends p below fs (OfStatement o)) (loops (λ k1 w1. body_of (own p) (statement p s.now) k1 w1) (λ k1 w1. between_of (own p) (statement p s.now) k1 w1) (body_falls p execs (statement p s.now)) (between_falls p evals (statement p s.now)) (suc (k - 1)) w))
    ∙ ap (λ j. ends p below fs (OfStatement (repeated (own p) (statement p s.now) j w))) (one_less k h)

pub no_turn_left : (p : Program) → LoopIs → EvalFalls → ExecFalls → (s : Bor CoreStmt) (k : ℕ) (w : World) (below : List Value) (fs : List Frame) → k ≡ 0 → final OutOfTurns (output_of w.trace) ≡ ends p below fs (OfStatement (repeated (own p) (statement p s.now) k w))
no_turn_left p loops evals execs s k w below fs e =
    sym (ap (λ j. ends p below fs (OfStatement (repeated (own p) (statement p s.now) j w))) e
    ∙ ap (λ o. ends p below fs (OfStatement o)) (loops (λ k1 w1. body_of (own p) (statement p s.now) k1 w1) (λ k1 w1. between_of (own p) (statement p s.now) k1 w1) (body_falls p execs (statement p s.now)) (between_falls p evals (statement p s.now)) 0 w)
    ∙ over_of p below fs OutOfTurns w)

-- ---- gotos

pub jumps_in : (p : Program) → JumpIs → ExecFalls → (ss : Bor (List CoreStmt)) (l k : ℕ) (w : World) (below : List Value) (new fs : List Frame) → 1 ≤ k → new ≡ on.Catch ss ∷ fs → ends p below new (OfStatement (exec_all (own p) (statements p ss.now) (At l) (k - 1) w)) ≡ ends p below fs (OfStatement (spent k w (λ k1. jump (any_has (statements p ss.now)) (λ m k2 w2. exec_all (own p) (statements p ss.now) (At m) k2 w2) l k1 w)))
jumps_in p gotos execs ss l k w below new fs h e =
    ap (λ gs. ends p below gs (OfStatement (exec_all (own p) (statements p ss.now) (At l) (k - 1) w))) e
    ∙ sym (ap (λ o. ends p below fs (OfStatement o)) (gotos (any_has (statements p ss.now)) (λ m k2 w2. exec_all (own p) (statements p ss.now) (At m) k2 w2) (λ m. all_fall p execs (statements p ss.now) (At m)) l (k - 1) w))
    ∙ ap (λ j. ends p below fs (OfStatement (spent j w (λ k1. jump (any_has (statements p ss.now)) (λ m k2 w2. exec_all (own p) (statements p ss.now) (At m) k2 w2) l k1 w)))) (one_less k h)

pub no_turn_to_jump : (p : Program) (ss : Bor (List CoreStmt)) (l k : ℕ) (w : World) (below : List Value) (fs : List Frame) → k ≡ 0 → final OutOfTurns (output_of w.trace) ≡ ends p below fs (OfStatement (spent k w (λ k1. jump (any_has (statements p ss.now)) (λ m k2 w2. exec_all (own p) (statements p ss.now) (At m) k2 w2) l k1 w)))
no_turn_to_jump p ss l k w below fs e =
    sym (ap (λ j. ends p below fs (OfStatement (spent j w (λ k1. jump (any_has (statements p ss.now)) (λ m k2 w2. exec_all (own p) (statements p ss.now) (At m) k2 w2) l k1 w)))) e ∙ over_of p below fs OutOfTurns w)
