-- `for`: the first part, and then a loop whose last part stands before its test.
use Rattle.std.specs.Prelude.{◌≡◌, ℕ, suc, Option, Some, None}
use Rattle.std.proofs.Common.{refl, subst}
use Rattle.c_types.specs.CType.{CType}
use Rattle.c_meaning.specs.StmtTrees.{StmtOf}
use Rattle.c_meaning.specs.StmtTrees as stmt
use Rattle.c_meaning.specs.Values.{CoreTree}
use Rattle.c_runs.specs.Expressions.{eval}
use Rattle.c_runs.specs.Laws.{Falling}
use Rattle.c_runs.specs.Outcomes.{Undefined, OutOfTurns, Exit, Result, Gives, GivesNone, Ends, Out, Next, then_do, then_drop, then_go, then_next, branch}
use Rattle.c_runs.specs.Run.{context}
use Rattle.c_runs.specs.Statements.{Start, At, exec, loop, maybe_dropped, maybe_test, last_and_test}
use Rattle.c_runs.specs.Worlds as c
use Rattle.lowered_forms.specs.Lows.{Low}
use Rattle.c_stmt_agreement.specs.Comings.{Activation, Origin, Ways, Ending, Came, CameFrom}
use Rattle.c_stmt_agreement.specs.Laws.{drop_of, MaybeTestIsLowered, LastAndTestAreLowered, Looped}
use Rattle.c_stmt_agreement.specs.LoweredStmt.{LoweredStmt, LoweredTest, CameTested, ComesTo, Leads}
use Rattle.c_stmt_agreement.proofs.lemmas.Choices.{came_there}
use Rattle.c_stmt_agreement.proofs.lemmas.Falling.{maybe_falls, last_falls}
use Rattle.c_stmt_agreement.proofs.lemmas.Loops.{from_test, from_label}
use Rattle.c_stmt_agreement.proofs.lemmas.Outcomes.{next_comes}
use Rattle.c_stmt_agreement.proofs.lemmas.Rebasing.{onward, stands_onward, came_on, test_on}

-- ---- an expression that is dropped, as a statement of its own

dropped_first : (r : Result) (go : ℕ → c.World → Out) → then_next (then_go r (λ k1 w1. Next k1 w1)) go ≡ then_go r go
dropped_first (Gives v k w) go = refl
dropped_first (GivesNone line k w) go = refl
dropped_first (Ends how w) go = refl

first_is : (p : Activation) (x : Option CoreTree) (k : ℕ) (w : c.World) (go : ℕ → c.World → Out) → then_next (exec (context p.scene.unit p.scene.lowered.order) (drop_of x) Start k w) go ≡ maybe_dropped (context p.scene.unit p.scene.lowered.order) x k w go
first_is p None k w go = refl
first_is p (Some x) k w go = dropped_first (eval (context p.scene.unit p.scene.lowered.order) x k w) go

-- ---- the last part, and then the test

module _ (p : Activation) (y : Ways) (e : Ending) (to b here q : Low) (comes : ComesTo p q here) (go : ℕ → c.World → Result) (g : LoweredTest p (λ v. v) go to here b) where
  -- behind a first part that came to this
  tested_behind : (o : Origin) (old : c.World) (k : ℕ) → Came p o q old k → CameTested p o to b (λ v. v) (go k old)
  tested_behind o old k came =
      let there = came_there p o q here comes old k came in
      test_on p o here old k there (λ v. v) to b (go k old) (g (onward p o here old k there) k (stands_onward p o here old k there))

  last_comes : (o : Origin) (r : Result) → CameFrom p y e o q (then_go r (λ k1 w1. Next k1 w1)) → CameTested p o to b (λ v. v) (then_drop r go)
  last_comes o (Gives v k old) x = tested_behind o old k x
  last_comes o (GivesNone line k old) x = tested_behind o old k x
  last_comes o (Ends (Undefined cause line) old) x = tt
  last_comes o (Ends OutOfTurns old) x = x
  last_comes o (Ends (Exit status) old) x = x

pub last_is_lowered : (p : Activation) (y : Ways) (e : Ending) (last x : Option CoreTree) (to next q here b : Low) → LoweredStmt p y e (drop_of last) next q → ComesTo p q here → MaybeTestIsLowered p x to here b → LastAndTestAreLowered p last x to next b
last_is_lowered p y e None x to next q here b h comes g o k at = tested_behind p y e to b here q comes (λ k1 w1. maybe_test (context p.scene.unit p.scene.lowered.order) x k1 w1) g o o.old k (h Start tt o k at)
last_is_lowered p y e (Some last) x to next q here b h comes g o k at =
    last_comes p y e to b here q comes (λ k1 w1. maybe_test (context p.scene.unit p.scene.lowered.order) x k1 w1) g o (eval (context p.scene.unit p.scene.lowered.order) last k o.old) (h Start tt o k at)

-- ---- the whole

module _ (p : Activation) (y : Ways) (e : Ending) (first x last : Option CoreTree) (t : StmtOf CType) (a start here top behind next final b : Low) (h : LoweredStmt p y e (drop_of first) a start) (leads : Leads p start here)
    (g : MaybeTestIsLowered p x top here final) (looped : Looped p y e t top behind next b) (again : LastAndTestAreLowered p last x top next final) (comes : ComesTo p final b) where
  falls : Falling (λ k w. last_and_test (context p.scene.unit p.scene.lowered.order) last x k w)
  falls = last_falls p.scene.unit p.scene.lowered.order last x

  abbrev entering : ℕ → c.World → Out
  entering k w = then_do (maybe_test (context p.scene.unit p.scene.lowered.order) x k w) (λ v k2 w2. branch v
      (λ k3 w3. loop (λ k4 w4. exec (context p.scene.unit p.scene.lowered.order) t Start k4 w4) (λ k4 w4. last_and_test (context p.scene.unit p.scene.lowered.order) last x k4 w4) k3 w3)
      (λ k3 w3. Next k3 w3) k2 w2)

  -- behind the first part
  entered : (o : Origin) (k : ℕ) (old : c.World) → Came p o start old k → CameFrom p y e o b (entering k old)
  entered o k old came =
      from_test p y e t (λ k1 w1. last_and_test (context p.scene.unit p.scene.lowered.order) last x k1 w1) falls top behind next final b looped again comes
      (λ k1 w1. maybe_test (context p.scene.unit p.scene.lowered.order) x k1 w1) here g k o old (maybe_falls p.scene.unit p.scene.lowered.order x k old)
      (came_on p o start old k came (suc o.turns) here old k (leads (onward p o start old k came) k (stands_onward p o start old k came)))

  pub for_is_lowered : LoweredStmt p y e (stmt.For first x last t) a b
  for_is_lowered Start i o k at =
      subst (λ (r : Out). CameFrom p y e o b r) (first_is p first k o.old (λ k1 w1. entering k1 w1))
      (next_comes p y e o start b (exec (context p.scene.unit p.scene.lowered.order) (drop_of first) Start k o.old) (λ k1 w1. entering k1 w1)
      (h Start tt o k at)
      (λ j old came. entered o j old came))
  for_is_lowered (At l) i o k at = from_label p y e t (λ k1 w1. last_and_test (context p.scene.unit p.scene.lowered.order) last x k1 w1) falls top behind next final b looped again comes l i o k at
