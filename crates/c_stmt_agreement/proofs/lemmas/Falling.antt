-- Turns fall in C's evaluations and executions.
use Rattle.std.specs.Prelude.{◌≤◌, ℕ, Bool, true, false, Option, Some, None, Result as Checked, Ok, Err}
use Rattle.std.proofs.Common.{arith}
use Rattle.lcc_base.specs.declared.cause.Cause.{Cause}
use Rattle.lcc_base.specs.declared.order.Order.{Order}
use Rattle.c_types.specs.CType.{CType}
use Rattle.c_meaning.specs.CoreTrees.{type_of, line_of}
use Rattle.c_meaning.specs.StmtTrees.{StmtsOf}
use Rattle.c_meaning.specs.StmtTrees as stmt
use Rattle.c_meaning.specs.Units.{UnitTree}
use Rattle.c_meaning.specs.Values.{CoreTree}
use Rattle.c_runs.specs.Expressions.{eval, holds, test}
use Rattle.c_runs.specs.Laws.{Falls, FallsOut, Falling}
use Rattle.c_runs.specs.Outcomes.{Result, Gives, GivesNone, Ends, Out, Next, Break, Continue, Return, Goto, Over, tells, then_give, then_drop, then_next, either}
use Rattle.c_runs.specs.Run.{context}
use Rattle.c_runs.specs.Statements.{Entry, Start, At, exec, exec_all, has, maybe_test, last_and_test}
use Rattle.c_runs.specs.Worlds as c
use Rattle.c_runs.proofs.lemmas.AlikeCalls.{eval_falls, exec_falls}

-- ---- tests

told_falls : (n : ℕ) (told : Checked Bool Cause) (line k : ℕ) (w : c.World) → k ≤ n → Falls n (tells told line k w)
told_falls n (Ok b) line k w le = le
told_falls n (Err cause) line k w le = tt

asked_falls : (n : ℕ) (of : CType) (line : ℕ) (r : Result) → Falls n r → Falls n (then_give r (λ v k1 w1. tells (holds of (c.objects w1) v) line k1 w1))
asked_falls n of line (Gives v k w) h = told_falls n (holds of (c.objects w) v) line k w h
asked_falls n of line (GivesNone l k w) h = tt
asked_falls n of line (Ends how w) h = tt

pub test_falls : (u : UnitTree) (order : Order) (x : CoreTree) → Falling (λ k w. test (context u order) x k w)
test_falls u order x k w = asked_falls k (type_of x) (line_of x) (eval (context u order) x k w) (eval_falls u order x k w)

-- ---- what may be left away

pub maybe_falls : (u : UnitTree) (order : Order) (x : Option CoreTree) → Falling (λ k w. maybe_test (context u order) x k w)
maybe_falls u order None k w = omega arith
maybe_falls u order (Some x) k w = test_falls u order x k w

falls_less : (n k : ℕ) (r : Result) → k ≤ n → Falls k r → Falls n r
falls_less n k (Gives v j w) le h = omega (arith, le, h)
falls_less n k (GivesNone line j w) le h = omega (arith, le, h)
falls_less n k (Ends how w) le h = tt

dropped_falls : (n : ℕ) (r : Result) (go : ℕ → c.World → Result) → Falls n r → Falling go → Falls n (then_drop r go)
dropped_falls n (Gives v k w) go h g = falls_less n k (go k w) h (g k w)
dropped_falls n (GivesNone line k w) go h g = falls_less n k (go k w) h (g k w)
dropped_falls n (Ends how w) go h g = tt

pub last_falls : (u : UnitTree) (order : Order) (last x : Option CoreTree) → Falling (λ k w. last_and_test (context u order) last x k w)
last_falls u order None x k w = maybe_falls u order x k w
last_falls u order (Some e) x k w = dropped_falls k (eval (context u order) e k w) (λ k1 w1. maybe_test (context u order) x k1 w1) (eval_falls u order e k w) (maybe_falls u order x)

-- ---- statements in order

out_less : (n k : ℕ) (r : Out) → k ≤ n → FallsOut k r → FallsOut n r
out_less n k (Next j w) le h = omega (arith, le, h)
out_less n k (Break j w) le h = omega (arith, le, h)
out_less n k (Continue j w) le h = omega (arith, le, h)
out_less n k (Return v line j w) le h = omega (arith, le, h)
out_less n k (Goto l j w) le h = omega (arith, le, h)
out_less n k (Over how w) le h = tt

next_falls : (n : ℕ) (r : Out) (go : ℕ → c.World → Out) → FallsOut n r → ((k : ℕ) (w : c.World) → FallsOut k (go k w)) → FallsOut n (then_next r go)
next_falls n (Next k w) go h g = out_less n k (go k w) h (g k w)
next_falls n (Break k w) go h g = h
next_falls n (Continue k w) go h g = h
next_falls n (Return v line k w) go h g = h
next_falls n (Goto l k w) go h g = h
next_falls n (Over how w) go h g = tt

either_falls : (b : Bool) (go other : ℕ → c.World → Out) (k : ℕ) (w : c.World) → FallsOut k (go k w) → FallsOut k (other k w) → FallsOut k (either b go other k w)
either_falls true go other k w x y = x
either_falls false go other k w x y = y

pub all_falls : (u : UnitTree) (order : Order) (ts : StmtsOf CType) (n : Entry) (k : ℕ) (w : c.World) → FallsOut k (exec_all (context u order) ts n k w)
all_falls u order stmt.NoStmt n k w = omega arith
all_falls u order (stmt.Stmts t ts) Start k w =
    next_falls k (exec (context u order) t Start k w) (λ k1 w1. exec_all (context u order) ts Start k1 w1) (exec_falls u order t Start k w) (λ k1 w1. all_falls u order ts Start k1 w1)
all_falls u order (stmt.Stmts t ts) (At l) k w =
    either_falls (has t l) (λ k1 w1. then_next (exec (context u order) t (At l) k1 w1) (λ k2 w2. exec_all (context u order) ts Start k2 w2)) (λ k1 w1. exec_all (context u order) ts (At l) k1 w1) k w
    (next_falls k (exec (context u order) t (At l) k w) (λ k1 w1. exec_all (context u order) ts Start k1 w1) (exec_falls u order t (At l) k w) (λ k1 w1. all_falls u order ts Start k1 w1))
    (all_falls u order ts (At l) k w)
