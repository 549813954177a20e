-- Loops: each repetition spends a turn, which a step pays for behind the body, or before the loop.
use Rattle.std.specs.Prelude.{◌≡◌, ◌≤◌, ◌<◌, ℕ, zero, suc, Bool, true, false}
use Rattle.std.proofs.Common.{sym, subst, arith}
use Rattle.c_types.specs.CType.{CType}
use Rattle.c_meaning.specs.StmtTrees.{StmtOf}
use Rattle.c_meaning.specs.StmtTrees as stmt
use Rattle.c_meaning.specs.Values.{CoreTree}
use Rattle.c_runs.specs.Expressions.{test}
use Rattle.c_runs.specs.Laws.{Falls, Falling}
use Rattle.c_runs.specs.Outcomes.{Result, Out, Next, then_do, looped, branch, either, is_true}
use Rattle.c_runs.specs.Run.{context}
use Rattle.c_runs.specs.Statements.{Entry, Start, At, exec, has, round, loop, loop_between}
use Rattle.c_runs.specs.Worlds as c
use Rattle.c_runs.proofs.lemmas.AlikeCalls.{exec_falls}
use Rattle.c_runs.proofs.lemmas.Equations.{loop_is}
use Rattle.lowered_forms.specs.Lows.{Low}
use Rattle.c_stmt_agreement.specs.Comings.{Activation, Origin, with_turn, Ways, Ending, Came, CameFrom}
use Rattle.c_stmt_agreement.specs.Laws.{TestIsLowered, Looped}
use Rattle.c_stmt_agreement.specs.LoweredStmt.{StandsAt, IsEntry, entered_at, LoweredStmt, LoweredTest, ComesTo, Leads, Tested}
use Rattle.c_stmt_agreement.proofs.lemmas.Choices.{run_of, came_there}
use Rattle.c_stmt_agreement.proofs.lemmas.Falling.{test_falls}
use Rattle.c_stmt_agreement.proofs.lemmas.Outcomes.{looped_comes, paid_test_comes}
use Rattle.c_stmt_agreement.proofs.lemmas.Paying.{came_unpaid, came_spent, came_stops}
use Rattle.c_stmt_agreement.proofs.lemmas.Rebasing.{onward, stands_onward, came_on, from_on, test_on}

-- a loop: its body, and what stands between two repetitions, with a test that goes back to the body's start
module _ (p : Activation) (y : Ways) (e : Ending) (t : StmtOf CType) (between : ℕ → c.World → Result) (falls : Falling between) (top behind next last b : Low) (h : Looped p y e t top behind next b)
    (g : LoweredTest p (λ v. v) between top next last) (comes : ComesTo p last b) where
  abbrev bodily : ℕ → c.World → Out
  bodily k w = exec (context p.scene.unit p.scene.lowered.order) t Start k w

  abbrev looping : ℕ → c.World → Out
  looping k w = loop (λ k1 w1. exec (context p.scene.unit p.scene.lowered.order) t Start k1 w1) between k w

  abbrev testing : ℕ → c.World → Out
  testing k w = loop_between (λ k1 w1. exec (context p.scene.unit p.scene.lowered.order) t Start k1 w1) between k w

  -- from the test on, at fewer turns than so many, where a step paid for one
  abbrev TestedBelow : ℕ → Type 0
  TestedBelow n = (k : ℕ) (o : Origin) (old : c.World) → k < n → Came p (with_turn o) next old k → CameFrom p y e o b (testing k old)

  -- behind the body, that was entered somewhere
  behind_body : (n : ℕ) → TestedBelow (suc n) → (o : Origin) (k : ℕ) → k ≤ n → (m : Entry) → IsEntry (has t) m → StandsAt p o (entered_at (record { breaks = b; continues = next; labels = y.labels }) top m) k
      → CameFrom p y e o b (looped (run_of p t m k o.old) (λ k1 w1. testing k1 w1))
  behind_body n ih o k le m i at =
      looped_comes p y e o next behind b (run_of p t m k o.old) k (λ k1 w1. testing k1 w1)
      (h.body m i o k at)
      (exec_falls p.scene.unit p.scene.lowered.order t m k o.old)
      (λ j old less came.
      let on = onward p o behind old j came in
      let there = h.leads on j (stands_onward p o behind old j came) in
      ih j o old (omega (arith, le, less)) (came_on p o behind old j came (suc o.turns) next old j there))
      (λ j old less came. ih j o old (omega (arith, le, less)) came)

  -- from the start of the body on
  round_comes : (k : ℕ) → TestedBelow k → (o : Origin) (old : c.World) → Came p (with_turn o) top old k → CameFrom p y e o b (round (λ k1 w1. bodily k1 w1) between (λ k1 w1. looping k1 w1) k old)
  round_comes zero ih o old x = came_stops p o top old h.begins x
  round_comes (suc k) ih o old x =
      let spent = came_spent p o top old k x in
      let on = onward p o top old k spent in
      from_on p o top old k spent y e b (looped (run_of p t Start k old) (λ k1 w1. testing k1 w1))
      (behind_body k ih on k (omega arith) Start tt (stands_onward p o top old k spent))

  pub loop_comes : (k : ℕ) → TestedBelow k → (o : Origin) (old : c.World) → Came p (with_turn o) top old k → CameFrom p y e o b (looping k old)
  loop_comes k ih o old x =
      subst (λ (r : Out). CameFrom p y e o b r) (sym (loop_is (λ k1 w1. bodily k1 w1) between (λ k1 w1. exec_falls p.scene.unit p.scene.lowered.order t Start k1 w1) falls k old))
      (round_comes k ih o old x)

  by_truth : (v : Bool) (k : ℕ) → TestedBelow k → (o : Origin) (old : c.World) → Tested v p (with_turn o) top last old k
      → CameFrom p y e o b (either v (λ k1 w1. looping k1 w1) (λ k1 w1. Next k1 w1) k old)
  by_truth true k ih o old x = loop_comes k ih o old x
  by_truth false k ih o old x = came_there p o last b comes old k (came_unpaid p o last old k x)

  below_less : (m n : ℕ) → m ≤ n → TestedBelow n → TestedBelow m
  below_less m n le ih k o old lt came = ih k o old (omega (arith, le, lt)) came

  -- a test, where a step paid for a turn
  test_comes : (n : ℕ) → TestedBelow n → (first : ℕ → c.World → Result) (from : Low) → LoweredTest p (λ v. v) first top from last → (k : ℕ) → k ≤ n → (o : Origin) (old : c.World) → Falls k (first k old) → Came p (with_turn o) from old k
      → CameFrom p y e o b (then_do (first k old) (λ v k1 w1. branch v (λ k2 w2. looping k2 w2) (λ k2 w2. Next k2 w2) k1 w1))
  test_comes n ih first from test k le o old fall came =
      paid_test_comes p y e o (λ v. v) top last b (first k old) k (λ v k1 w1. branch v (λ k2 w2. looping k2 w2) (λ k2 w2. Next k2 w2) k1 w1)
      (test_on p (with_turn o) from old k came (λ v. v) top last (first k old) (test (onward p (with_turn o) from old k came) k (stands_onward p (with_turn o) from old k came)))
      fall
      (λ v j new less tested. by_truth (is_true v) j (below_less j n (omega (arith, le, less)) ih) o new tested)

  pub tested_below : (n : ℕ) → TestedBelow n
  tested_below zero k o old lt came = absurd (let never : ⊥ = omega (arith, lt) in never)
  tested_below (suc n) k o old lt came = test_comes n (tested_below n) between next g k (omega (arith, lt)) o old (falls k old) came

  -- ---- the whole

  -- from a test on, which may be another one
  pub from_test : (first : ℕ → c.World → Result) (from : Low) → LoweredTest p (λ v. v) first top from last → (k : ℕ) (o : Origin) (old : c.World) → Falls k (first k old) → Came p (with_turn o) from old k
      → CameFrom p y e o b (then_do (first k old) (λ v k1 w1. branch v (λ k2 w2. looping k2 w2) (λ k2 w2. Next k2 w2) k1 w1))
  from_test first from test k o old fall came = test_comes k (tested_below k) first from test k (omega arith) o old fall came

  pub from_start : (o : Origin) (k : ℕ) → Came p (with_turn o) top o.old k → CameFrom p y e o b (looping k o.old)
  from_start o k x = loop_comes k (tested_below k) o o.old x

  pub from_label : (l : ℕ) → has t l ≡ true → (o : Origin) (k : ℕ) → StandsAt p o (y.labels l) k → CameFrom p y e o b (looped (run_of p t (At l) k o.old) (λ k1 w1. testing k1 w1))
  from_label l i o k at = behind_body k (tested_below (suc k)) o k (omega arith) (At l) i at

-- ---- while, and do

module _ (p : Activation) (y : Ways) (e : Ending) (x : CoreTree) (t : StmtOf CType) (a top behind next last b : Low) (h : Looped p y e t top behind next b) where
  abbrev asking : ℕ → c.World → Result
  asking k w = test (context p.scene.unit p.scene.lowered.order) x k w

  asking_falls : Falling (λ k w. test (context p.scene.unit p.scene.lowered.order) x k w)
  asking_falls = test_falls p.scene.unit p.scene.lowered.order x

  pub while_is_lowered : Leads p a next → TestIsLowered p (λ v. v) x top next last → ComesTo p last b → LoweredStmt p y e (stmt.While x t) a b
  while_is_lowered leads g comes Start i o k at = from_test p y e t (λ k1 w1. asking k1 w1) asking_falls top behind next last b h g comes (λ k1 w1. asking k1 w1) next g k o o.old (asking_falls k o.old) (leads o k at)
  while_is_lowered leads g comes (At l) i o k at = from_label p y e t (λ k1 w1. asking k1 w1) asking_falls top behind next last b h g comes l i o k at

  pub do_is_lowered : Leads p a top → TestIsLowered p (λ v. v) x top next last → ComesTo p last b → LoweredStmt p y e (stmt.Do t x) a b
  do_is_lowered leads g comes Start i o k at = from_start p y e t (λ k1 w1. asking k1 w1) asking_falls top behind next last b h g comes o k (leads o k at)
  do_is_lowered leads g comes (At l) i o k at = from_label p y e t (λ k1 w1. asking k1 w1) asking_falls top behind next last b h g comes l i o k at
