-- Nothing, jumps, sequences and labelled statements.
use Rattle.std.specs.Prelude.{◌≡◌, ℕ, ◌==◌, ◌||◌, Bool, true, false, List, [], ◌∷◌, ◌++◌}
use Rattle.std.proofs.Common.{⊎_elim, refl, ap, sym, ◌∙◌, subst}
use Rattle.std.proofs.lemmas.Bool.Decides.{eqb_tells}
use Rattle.c_types.specs.CType.{CType}
use Rattle.c_meaning.specs.StmtTrees.{StmtOf, StmtsOf}
use Rattle.c_meaning.specs.StmtTrees as stmt
use Rattle.c_meaning.specs.Units.{is_among, labels, all_labels}
use Rattle.c_runs.specs.Calls.{Setting}
use Rattle.c_runs.specs.Outcomes.{Out, then_next, either}
use Rattle.c_runs.specs.Run.{context}
use Rattle.c_runs.specs.Statements.{Entry, Start, At, exec, exec_all, has, any_has}
use Rattle.c_runs.specs.Worlds as c
use Rattle.lowered_forms.specs.Lows.{Low}
use Rattle.c_stmt_agreement.specs.Comings.{Activation, Origin, Ways, Ending, CameFrom}
use Rattle.c_stmt_agreement.specs.LoweredStmt.{StandsAt, IsEntry, entered_at, LoweredStmt, LoweredStmts, ComesTo, Leads}
use Rattle.c_stmt_agreement.proofs.lemmas.Outcomes.{next_comes}
use Rattle.c_stmt_agreement.proofs.lemmas.Rebasing.{onward, stands_onward, came_itself, from_on}

pub no_label : {A : Type 0} → false ≡ true → A
no_label e = absurd (let never : ⊥ = cc in never)

-- ---- nothing

pub nothing_is_lowered : (p : Activation) (y : Ways) (e : Ending) (a : Low) → LoweredStmt p y e stmt.Nothing a a
nothing_is_lowered p y e a Start i o k h = came_itself p o a k h
nothing_is_lowered p y e a (At l) i o k h = no_label i

pub no_statement_is_lowered : (p : Activation) (y : Ways) (e : Ending) (a : Low) → LoweredStmts p y e stmt.NoStmt a a
no_statement_is_lowered p y e a Start i o k h = came_itself p o a k h
no_statement_is_lowered p y e a (At l) i o k h = no_label i

-- ---- jumps

pub break_is_lowered : (p : Activation) (y : Ways) (e : Ending) (a b : Low) → ComesTo p a y.breaks → LoweredStmt p y e stmt.Break a b
break_is_lowered p y e a b comes Start i o k h = comes o k h
break_is_lowered p y e a b comes (At l) i o k h = no_label i

pub continue_is_lowered : (p : Activation) (y : Ways) (e : Ending) (a b : Low) → Leads p a y.continues → LoweredStmt p y e stmt.Continue a b
continue_is_lowered p y e a b leads Start i o k h = leads o k h
continue_is_lowered p y e a b leads (At l) i o k h = no_label i

pub goto_is_lowered : (p : Activation) (y : Ways) (e : Ending) (m : ℕ) (a b : Low) → Leads p a (y.labels m) → LoweredStmt p y e (stmt.Goto m) a b
goto_is_lowered p y e m a b leads Start i o k h = leads o k h
goto_is_lowered p y e m a b leads (At l) i o k h = no_label i

-- ---- behind what comes to a place

-- a run that comes on, and then to what a statement comes to
pub led_comes : (p : Activation) (y : Ways) (e : Ending) (a b d : Low) → ComesTo p a b → (go : ℕ → c.World → Out)
    → ((o : Origin) (k : ℕ) → StandsAt p o b k → CameFrom p y e o d (go k o.old)) → (o : Origin) (k : ℕ) → StandsAt p o a k → CameFrom p y e o d (go k o.old)
led_comes p y e a b d comes go h o k at =
    let r = comes o k at in
    from_on p o b o.old k r y e d (go k o.old) (h (onward p o b o.old k r) k (stands_onward p o b o.old k r))

-- ---- a label

module _ (p : Activation) (y : Ways) (e : Ending) (m : ℕ) (t : StmtOf CType) (a b : Low) (comes : ComesTo p a (y.labels m)) (h : LoweredStmt p y e t (y.labels m) b) where
  abbrev ctx : Setting
  ctx = context p.scene.unit p.scene.lowered.order

  -- entered at the label itself, or at another one
  by_label : (own : Bool) (l : ℕ) (o : Origin) (k : ℕ) → (own ≡ true → StandsAt p o (y.labels m) k) → (own ≡ false → (has t l ≡ true) × StandsAt p o (y.labels l) k)
      → CameFrom p y e o b (either own (λ k1 w1. exec ctx t Start k1 w1) (λ k1 w1. exec ctx t (At l) k1 w1) k o.old)
  by_label true l o k at other = h Start tt o k (at refl)
  by_label false l o k at other = let x = other refl in h (At l) x.0 o k x.1

  is_own : (l : ℕ) → (l == m) ≡ true → l ≡ m
  is_own l own = ⊎_elim (λ x. x.1) (λ x. no_label (sym x.0 ∙ own)) (eqb_tells l m)

  pub label_is_lowered : LoweredStmt p y e (stmt.Label m t) a b
  label_is_lowered Start i o k at = led_comes p y e a (y.labels m) b comes (λ k1 w1. exec ctx t Start k1 w1) (λ o1 k1 at1. h Start tt o1 k1 at1) o k at
  label_is_lowered (At l) i o k at =
      by_label (l == m) l o k
      (λ own. subst (λ (j : ℕ). StandsAt p o (y.labels j) k) (is_own l own) at)
      (λ other. (sym (ap (λ (x : Bool). x || is_among l (labels t)) other) ∙ i, at))

-- ---- sequences

pub among_both : (l : ℕ) (ns ms : List ℕ) → is_among l (ns ++ ms) ≡ (is_among l ns || is_among l ms)
among_both l [] ms = refl
among_both l (n ∷ ns) ms = ap (λ (b : Bool). (l == n) || b) (among_both l ns ms) ∙ either_first (l == n) (is_among l ns) (is_among l ms)
  where
    either_first : (a b d : Bool) → (a || (b || d)) ≡ ((a || b) || d)
    either_first true b d = refl
    either_first false b d = refl

module _ (p : Activation) (y : Ways) (e : Ending) (t : StmtOf CType) (ts : StmtsOf CType) (a b d : Low) (g : LoweredStmt p y e t a b) (h : LoweredStmts p y e ts b d) where
  abbrev setting : Setting
  setting = context p.scene.unit p.scene.lowered.order

  -- the first statement, and the others behind it
  both : (n : Entry) → IsEntry (has t) n → (o : Origin) (k : ℕ) → StandsAt p o (entered_at y a n) k → CameFrom p y e o d (then_next (exec setting t n k o.old) (λ k1 w1. exec_all setting ts Start k1 w1))
  both n i o k at =
      next_comes p y e o b d (exec setting t n k o.old) (λ k1 w1. exec_all setting ts Start k1 w1)
      (g n i o k at)
      (λ j old came. from_on p o b old j came y e d (exec_all setting ts Start j old) (h Start tt (onward p o b old j came) j (stands_onward p o b old j came)))

  in_order : (first : Bool) (l : ℕ) → has t l ≡ first → any_has (stmt.Stmts t ts) l ≡ true → (o : Origin) (k : ℕ) → StandsAt p o (y.labels l) k
      → CameFrom p y e o d (either first (λ k1 w1. then_next (exec setting t (At l) k1 w1) (λ k2 w2. exec_all setting ts Start k2 w2)) (λ k1 w1. exec_all setting ts (At l) k1 w1) k o.old)
  in_order true l is i o k at = both (At l) is o k at
  in_order false l is i o k at = h (At l) (sym (ap (λ (x : Bool). x || is_among l (all_labels ts)) is) ∙ sym (among_both l (labels t) (all_labels ts)) ∙ i) o k at

  pub sequence_is_lowered : LoweredStmts p y e (stmt.Stmts t ts) a d
  sequence_is_lowered Start i o k at = both Start tt o k at
  sequence_is_lowered (At l) i o k at = in_order (has t l) l refl i o k at
