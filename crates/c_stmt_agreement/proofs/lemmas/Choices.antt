-- Choices: one of two statements, by a test; entered at a label in the one that has it, for no test.
use Rattle.std.specs.Prelude.{◌≡◌, ℕ, not, ◌||◌, Bool, true, false}
use Rattle.std.proofs.Common.{refl, ap, sym, ◌∙◌}
use Rattle.c_types.specs.CType.{CType}
use Rattle.c_meaning.specs.StmtTrees.{StmtOf}
use Rattle.c_meaning.specs.StmtTrees as stmt
use Rattle.c_meaning.specs.Units.{is_among, labels}
use Rattle.c_meaning.specs.Values.{CoreTree}
use Rattle.c_runs.specs.Expressions.{test}
use Rattle.c_runs.specs.Outcomes.{Undefined, OutOfTurns, Exit, Out, Next, Break, Continue, Return, Goto, Over, branch, either, is_true}
use Rattle.c_runs.specs.Run.{context}
use Rattle.c_runs.specs.Statements.{Entry, Start, At, exec, has}
use Rattle.c_runs.specs.Worlds as c
use Rattle.lowered_forms.specs.Lows.{Low}
use Rattle.c_stmt_agreement.specs.Comings.{Activation, Origin, Ways, Ending, Came, CameFrom}
use Rattle.c_stmt_agreement.specs.Laws.{TestIsLowered}
use Rattle.c_stmt_agreement.specs.LoweredStmt.{StandsAt, IsEntry, entered_at, LoweredStmt, ComesTo, Tested}
use Rattle.c_stmt_agreement.proofs.lemmas.Outcomes.{tested_comes}
use Rattle.c_stmt_agreement.proofs.lemmas.Rebasing.{onward, stands_onward, came_on, from_on}
use Rattle.c_stmt_agreement.proofs.lemmas.Sequences.{among_both}

-- what has come to one place comes to the next one
pub came_there : (p : Activation) (o : Origin) (a b : Low) → ComesTo p a b → (old : c.World) (k : ℕ) → Came p o a old k → Came p o b old k
came_there p o a b comes old k x = came_on p o a old k x o.turns b old k (comes (onward p o a old k x) k (stands_onward p o a old k x))

-- what comes behind one statement comes to another place
pub ends_at : (p : Activation) (y : Ways) (e : Ending) (o : Origin) (a b : Low) → ComesTo p a b → (r : Out) → CameFrom p y e o a r → CameFrom p y e o b r
ends_at p y e o a b comes (Next k old) x = came_there p o a b comes old k x
ends_at p y e o a b comes (Break k old) x = x
ends_at p y e o a b comes (Continue k old) x = x
ends_at p y e o a b comes (Return v line k old) x = x
ends_at p y e o a b comes (Goto l k old) x = x
ends_at p y e o a b comes (Over (Undefined cause line) old) x = tt
ends_at p y e o a b comes (Over OutOfTurns old) x = x
ends_at p y e o a b comes (Over (Exit status) old) x = x

abbrev pub run_of : Activation → StmtOf CType → Entry → ℕ → c.World → Out
run_of p t n k w = exec (context p.scene.unit p.scene.lowered.order) t n k w

module _ (p : Activation) (y : Ways) (e : Ending) (t : StmtOf CType) (a behind b : Low) (h : LoweredStmt p y e t a behind) (comes : ComesTo p behind b) where
  -- entered where the run stands
  pub led_run : (n : Entry) → IsEntry (has t) n → (o : Origin) (k : ℕ) → StandsAt p o (entered_at y a n) k → CameFrom p y e o b (exec (context p.scene.unit p.scene.lowered.order) t n k o.old)
  led_run n i o k at = ends_at p y e o behind b comes (exec (context p.scene.unit p.scene.lowered.order) t n k o.old) (h n i o k at)

  -- and where it has come to the start
  pub led_start : (o : Origin) (k : ℕ) (old : c.World) → Came p o a old k → CameFrom p y e o b (exec (context p.scene.unit p.scene.lowered.order) t Start k old)
  led_start o k old came =
      from_on p o a old k came y e b (exec (context p.scene.unit p.scene.lowered.order) t Start k old) (led_run Start tt (onward p o a old k came) k (stands_onward p o a old k came))

module _ (p : Activation) (y : Ways) (e : Ending) (x : CoreTree) (t u : StmtOf CType) (a first behind second last b : Low) (lt : TestIsLowered p not x second a first) (g : LoweredStmt p y e t first behind) (lg : ComesTo p behind b)
    (h : LoweredStmt p y e u second last) (lh : ComesTo p last b) where
  by_truth : (v : Bool) (o : Origin) (k : ℕ) (old : c.World) → Tested (not v) p o second first old k → CameFrom p y e o b (either v (λ k1 w1. run_of p t Start k1 w1) (λ k1 w1. run_of p u Start k1 w1) k old)
  by_truth true o k old tested = led_start p y e t first behind b g lg o k old tested
  by_truth false o k old tested = led_start p y e u second last b h lh o k old tested

  by_label : (own : Bool) (l : ℕ) → has t l ≡ own → has (stmt.If x t u) l ≡ true → (o : Origin) (k : ℕ) → StandsAt p o (y.labels l) k
      → CameFrom p y e o b (either own (λ k1 w1. run_of p t (At l) k1 w1) (λ k1 w1. run_of p u (At l) k1 w1) k o.old)
  by_label true l is i o k at = led_run p y e t first behind b g lg (At l) is o k at
  by_label false l is i o k at =
      led_run p y e u second last b h lh (At l) (sym (ap (λ (v : Bool). v || is_among l (labels u)) is) ∙ sym (among_both l (labels t) (labels u)) ∙ i) o k at

  pub choice_is_lowered : LoweredStmt p y e (stmt.If x t u) a b
  choice_is_lowered Start i o k at =
      tested_comes p y e o not second first b (test (context p.scene.unit p.scene.lowered.order) x k o.old) (λ v k1 w1. branch v (λ k2 w2. run_of p t Start k2 w2) (λ k2 w2. run_of p u Start k2 w2) k1 w1)
      (lt o k at)
      (λ v k1 old tested. by_truth (is_true v) o k1 old tested)
  choice_is_lowered (At l) i o k at = by_label (has t l) l refl i o k at
