-- Blocks: a goto to a label of the block goes on there.
use Rattle.std.specs.Prelude.{◌≡◌, ◌<◌, ℕ, zero, suc, true, []}
use Rattle.std.proofs.Common.{sym, subst, arith}
use Rattle.c_types.specs.CType.{CType}
use Rattle.c_meaning.specs.StmtTrees.{StmtsOf}
use Rattle.c_meaning.specs.StmtTrees as stmt
use Rattle.c_runs.specs.Outcomes.{Out, catch}
use Rattle.c_runs.specs.Run.{context}
use Rattle.c_runs.specs.Statements.{At, exec_all, any_has, jump}
use Rattle.c_runs.specs.Worlds as c
use Rattle.c_runs.proofs.lemmas.Equations.{jump_is}
use Rattle.lowered_forms.specs.Lows.{Low}
use Rattle.c_stmt_agreement.specs.Comings.{Activation, Origin, Ways, Ending, Came, CameFrom}
use Rattle.c_stmt_agreement.specs.LoweredStmt.{LoweredStmt, LoweredStmts}
use Rattle.c_stmt_agreement.proofs.lemmas.Falling.{all_falls}
use Rattle.c_stmt_agreement.proofs.lemmas.Outcomes.{catch_comes}
use Rattle.c_stmt_agreement.proofs.lemmas.Rebasing.{onward, stands_onward, from_on}

module _ (p : Activation) (y : Ways) (e : Ending) (ts : StmtsOf CType) (a b : Low) (begins : (l : ℕ) → (y.labels l).entries ≡ []) (h : LoweredStmts p y e ts a b) where
  abbrev from_label : ℕ → ℕ → c.World → Out
  from_label l k w = exec_all (context p.scene.unit p.scene.lowered.order) ts (At l) k w

  abbrev jumping : ℕ → ℕ → c.World → Out
  jumping l k w = jump (any_has ts) (λ m k2 w2. exec_all (context p.scene.unit p.scene.lowered.order) ts (At m) k2 w2) l k w

  jump_comes : (n l k : ℕ) (o : Origin) (old : c.World) → k < n → any_has ts l ≡ true → Came p o (y.labels l) old k → CameFrom p y e o b (jumping l k old)
  jump_comes zero l k o old lt is came = absurd (let never : ⊥ = omega (arith, lt) in never)
  jump_comes (suc n) l k o old lt is came =
      let on = onward p o (y.labels l) old k came in
      subst (λ (r : Out). CameFrom p y e o b r) (sym (jump_is (any_has ts) (λ m k2 w2. exec_all (context p.scene.unit p.scene.lowered.order) ts (At m) k2 w2) (λ m k1 w1. all_falls p.scene.unit p.scene.lowered.order ts (At m) k1 w1) l k old))
      (from_on p o (y.labels l) old k came y e b (catch (any_has ts) (from_label l k old) (λ m k1 w1. jumping m k1 w1))
      (catch_comes p y e on (any_has ts) b (from_label l k old) k (λ m k1 w1. jumping m k1 w1) begins
      (h (At l) is on k (stands_onward p o (y.labels l) old k came))
      (all_falls p.scene.unit p.scene.lowered.order ts (At l) k old)
      (λ m j new within_too less came_too. jump_comes n m j on new (omega (arith, lt, less)) within_too came_too)))

  pub block_is_lowered : (first locals : ℕ) → LoweredStmt p y e (stmt.Block first locals ts) a b
  block_is_lowered first locals n i o k at =
      catch_comes p y e o (any_has ts) b (exec_all (context p.scene.unit p.scene.lowered.order) ts n k o.old) k (λ m k1 w1. jumping m k1 w1) begins
      (h n i o k at)
      (all_falls p.scene.unit p.scene.lowered.order ts n k o.old)
      (λ m j new is less came. jump_comes (suc j) m j o new (omega arith) is came)
