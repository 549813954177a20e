-- A run of acts as one of other acts that begin alike.
use Rattle.std.proofs.Common.{◌≡◌, ℕ, zero, suc, Bool, true, false, Option, Some, None, List, [], ◌∷◌, ◌++◌, refl, sym, ap, subst}
use Rattle.op_forest.specs.Nodes.{Head}
use Rattle.forests.specs.Words.{Word, unknown}
use Rattle.forests.specs.Worlds.{World, Point, at_world, Next, To, End, Effect, Went, Exits, Unfinished, Stuck}
use Rattle.forests.specs.Bodies.{Setting, does}
use Rattle.forests.specs.Budgets.{with_left}
use Rattle.dag_forest.specs.declared.entry.Entry.{Entry}
use Rattle.dag_forest.specs.declared.parts.Parts.{Parts}
use Rattle.dag_forest.specs.Entries.{is_call, is_read}
use Rattle.dag_forest.specs.declared.act.Act.{Act}
use Rattle.dag_forest.specs.declared.act.Act.TheVariants.{Made, Acts}
use Rattle.dag_forest.specs.Schedules.{in_turn, head_of, operands, at}
use Rattle.dag_forest.specs.Meaning.{is_end, is_handing, Temporary, Keeps, IsThere, CanKeep, SameBut, Same, HasNow, spent, Handed, Acted, Leaves, MadeRuns, stepped, Ran, Through, Jumps, Ends, Exited, Out, RunsBehind, Runs}
use Rattle.dag_seam.specs.Ran.{IsOver}
use Rattle.dag_seam.specs.Turns.{made_behind, made_of}
use Rattle.dag_seam.specs.Laws.{GoesOn}

-- an outcome of the first kind has one of the second kind, if a run that is over has
abbrev pub Passes : Ran → (Ran → Type 0) → Type 0
Passes r Q = (r1 : Ran) → IsOver r1 → r ≡ r1 → Q r1

-- some outcome of this kind
abbrev pub Some_ran : (Ran → Type 0) → (Ran → Type 0) → Type 0
Some_ran Q P = (r1 : Ran) × Q r1 × P r1

pub handed_on : (e : Effect) (r : Ran) (Q : Ran → Type 0) (go : Word → Point → Type 0) (go1 : Ran → Word → Point → Type 0) → Passes r Q → ((v : Word) (p : Point) → go v p → Some_ran Q (λ r1. go1 r1 v p)) → Handed e r go → Some_ran Q (λ r1. Handed e r1 (go1 r1))
handed_on (Went [] p Next) r Q go go1 over on h = absurd h
handed_on (Went (v ∷ []) p Next) r Q go go1 over on h = on v p h
handed_on (Went (v ∷ u ∷ vs) p Next) r Q go go1 over on h = absurd h
handed_on (Went [] p (To l)) r Q go go1 over on h = absurd h
handed_on (Went (v ∷ []) p (To l)) r Q go go1 over on h = absurd h
handed_on (Went (v ∷ u ∷ vs) p (To l)) r Q go go1 over on h = absurd h
handed_on (Went [] p (End o)) r Q go go1 over on h = absurd h
handed_on (Went (v ∷ []) p (End o)) r Q go go1 over on h = absurd h
handed_on (Went (v ∷ u ∷ vs) p (End o)) r Q go go1 over on h = absurd h
handed_on (Exits status w) r Q go go1 over on h = (Exited status w, over (Exited status w) tt h, refl)
handed_on (Unfinished w) r Q go go1 over on h = (Out w, over (Out w) tt h, refl)
handed_on Stuck r Q go go1 over on h = absurd h

pub acted_on : (e : Effect) (r : Ran) (Q : Ran → Type 0) (go : Point → Type 0) (go1 : Ran → Point → Type 0) → Passes r Q → ((p : Point) → go p → Some_ran Q (λ r1. go1 r1 p)) → Acted e r go → Some_ran Q (λ r1. Acted e r1 (go1 r1))
acted_on (Went vs p Next) r Q go go1 over on h = on p h
acted_on (Went vs p (To l)) r Q go go1 over on h = (Jumps l p, over (Jumps l p) tt h, refl)
acted_on (Went vs p (End v)) r Q go go1 over on h = (Ends v p, over (Ends v p) tt h, refl)
acted_on (Exits status w) r Q go go1 over on h = (Exited status w, over (Exited status w) tt h, refl)
acted_on (Unfinished w) r Q go go1 over on h = (Out w, over (Out w) tt h, refl)
acted_on Stuck r Q go go1 over on h = absurd h

pub spent_on : (left : ℕ) (r : Ran) (w : World) (Q : Ran → Type 0) (go : ℕ → Type 0) (go1 : Ran → ℕ → Type 0) → Passes r Q → ((l : ℕ) → go l → Some_ran Q (λ r1. go1 r1 l)) → spent left (r ≡ Out w) go → Some_ran Q (λ r1. spent left (r1 ≡ Out w) (go1 r1))
spent_on zero r w Q go go1 over on h = (Out w, over (Out w) tt h, refl)
spent_on (suc l) r w Q go go1 over on h = on l h

pub stepped_on : (handed : Bool) (left : ℕ) (r : Ran) (w : World) (Q : Ran → Type 0) (go : ℕ → Type 0) (go1 : Ran → ℕ → Type 0) → Passes r Q → ((l : ℕ) → go l → Some_ran Q (λ r1. go1 r1 l)) → stepped handed left (r ≡ Out w) go → Some_ran Q (λ r1. stepped handed left (r1 ≡ Out w) (go1 r1))
stepped_on true left r w Q go go1 over on h = on left h
stepped_on false left r w Q go go1 over on h = spent_on left r w Q go go1 over on h

-- what has a value now has it where no more nodes are still to be made
pub now_more : (b : Bool) (s : Setting) (keeps : Keeps) (made made1 : ℕ → Bool) (h : Head) (ws : List Word) (w : World) (v : Word) → ((w1 : World) → SameBut keeps made1 w w1 → SameBut keeps made w w1) → HasNow b s keeps made h ws w v → HasNow b s keeps made1 h ws w v
now_more true s keeps made made1 h ws w v f now = λ p like same. now p like (f p.world same)
now_more false s keeps made made1 h ws w v f now = now

module _ (s : Setting) (keeps : Keeps) where
  pub made_on : (call : Bool) (o : Option Temporary) (made made1 : ℕ → Bool) (h : Head) (ws : List Word) (left : ℕ) (w : World) (r : Ran) (Q : Ran → Type 0) (go : Word → Point → Type 0) (go1 : Ran → Word → Point → Type 0) → Passes r Q
      → ((w1 : World) → SameBut keeps made1 w w1 → SameBut keeps made w w1) → ((w1 : World) → Same keeps made w w1 → Same keeps made1 w w1)
      → ((v : Word) (p : Point) → go v p → Some_ran Q (λ r1. go1 r1 v p)) → MadeRuns call o s keeps made h ws left w r go → Some_ran Q (λ r1. MadeRuns call o s keeps made1 h ws left w r1 (go1 r1))
  made_on false None made made1 h ws left w r Q go go1 over but same on g =
      let z = on g.0 (with_left left w) g.2 in (z.0, z.1, (g.0, now_more (is_read h.operator.op) s keeps made made1 h ws w g.0 but g.1, z.2))
  made_on false (Some t) made made1 h ws left w r Q go go1 over but same on g = spent_on left r w Q
      (λ l. (v : Word) × HasNow (is_read h.operator.op) s keeps made h ws w v × CanKeep t v × IsThere t w × go v (with_left l (t.put v w)))
      (λ r1 l. (v : Word) × HasNow (is_read h.operator.op) s keeps made1 h ws w v × CanKeep t v × IsThere t w × go1 r1 v (with_left l (t.put v w)))
      over
      (λ l q. let z = on q.0 (with_left l (t.put q.0 w)) q.4 in (z.0, z.1, (q.0, now_more (is_read h.operator.op) s keeps made made1 h ws w q.0 but q.1, q.2, q.3, z.2)))
      g
  made_on true None made made1 h ws left w r Q go go1 over but same on g = spent_on left r w Q
      (λ l. Handed (does s h ws (with_left l w)) r (λ v p. Same keeps made w p.world × go v p))
      (λ r1 l. Handed (does s h ws (with_left l w)) r1 (λ v p. Same keeps made1 w p.world × go1 r1 v p))
      over
      (λ l q. handed_on (does s h ws (with_left l w)) r Q (λ v p. Same keeps made w p.world × go v p) (λ r1 v p. Same keeps made1 w p.world × go1 r1 v p) over
      (λ v p y. let z = on v p y.1 in (z.0, z.1, (same p.world y.0, z.2))) q)
      g
  made_on true (Some t) made made1 h ws left w r Q go go1 over but same on g = spent_on left r w Q
      (λ l. Handed (does s h ws (with_left l w)) r (λ v p. Same keeps made w p.world × CanKeep t v × IsThere t p.world × go v (at_world p (t.put v p.world))))
      (λ r1 l. Handed (does s h ws (with_left l w)) r1 (λ v p. Same keeps made1 w p.world × CanKeep t v × IsThere t p.world × go1 r1 v (at_world p (t.put v p.world))))
      over
      (λ l q. handed_on (does s h ws (with_left l w)) r Q
      (λ v p. Same keeps made w p.world × CanKeep t v × IsThere t p.world × go v (at_world p (t.put v p.world)))
      (λ r1 v p. Same keeps made1 w p.world × CanKeep t v × IsThere t p.world × go1 r1 v (at_world p (t.put v p.world)))
      over
      (λ v p y. let z = on v (at_world p (t.put v p.world)) y.3 in (z.0, z.1, (same p.world y.0, y.1, y.2, z.2))) q)
      g

  leaves_on : (ends : Bool) (made made1 : ℕ → Bool) (w w1 : World) → (Same keeps made w w1 → Same keeps made1 w w1) → Leaves ends keeps made w w1 → Leaves ends keeps made1 w w1
  leaves_on true made made1 w w1 same h = same h
  leaves_on false made made1 w w1 same h = h

  pub root_on : (handed : Bool) (x : Parts) (made made1 : ℕ → Bool) (ws : List Word) (left : ℕ) (w : World) (r : Ran) (Q : Ran → Type 0) (go : Point → Type 0) (go1 : Ran → Point → Type 0) → Passes r Q
      → ((w2 w1 : World) → Same keeps made w2 w1 → Same keeps made1 w2 w1) → ((p : Point) → go p → Some_ran Q (λ r1. go1 r1 p))
      → stepped handed left (r ≡ Out w) (λ l. Acted (does s (head_of x) ws (with_left l w)) r (λ p. Leaves (is_end x) keeps made w p.world × go p))
      → Some_ran Q (λ r1. stepped handed left (r1 ≡ Out w) (λ l. Acted (does s (head_of x) ws (with_left l w)) r1 (λ p. Leaves (is_end x) keeps made1 w p.world × go1 r1 p)))
  root_on handed x made made1 ws left w r Q go go1 over same on g = stepped_on handed left r w Q
      (λ l. Acted (does s (head_of x) ws (with_left l w)) r (λ p. Leaves (is_end x) keeps made w p.world × go p))
      (λ r1 l. Acted (does s (head_of x) ws (with_left l w)) r1 (λ p. Leaves (is_end x) keeps made1 w p.world × go1 r1 p))
      over
      (λ l q. acted_on (does s (head_of x) ws (with_left l w)) r Q (λ p. Leaves (is_end x) keeps made w p.world × go p) (λ r1 p. Leaves (is_end x) keeps made1 w p.world × go1 r1 p) over
      (λ p y. let z = on p y.1 in (z.0, z.1, (leaves_on (is_end x) made made1 w p.world (same w p.world) y.0, z.2))) q)
      g

  -- ---- further acts

  pub runs_on : (xs ys : List Act) (handed : Bool) (made : ℕ → Bool) (values : ℕ → Word) (left : ℕ) (w : World) (r r2 : Ran) → Passes r (λ r1. r1 ≡ r2)
      → ((values1 : ℕ → Word) (left1 : ℕ) (w1 : World) → r ≡ Through values1 (with_left left1 w1) → Runs s keeps ys (made_behind xs made) values1 left1 w1 r2)
      → RunsBehind handed s keeps xs made values left w r → RunsBehind handed s keeps (xs ++ ys) made values left w r2
  runs_on [] ys true made values left w r r2 over on h = absurd h
  runs_on [] ys false made values left w r r2 over on h = on values left w h
  runs_on (Made n x ∷ xs) ys true made values left w r r2 over on h = absurd h
  runs_on (Made n x ∷ xs) ys false made values left w r r2 over on h =
      let handing = is_handing (is_call x.operator.op) (keeps n) in
      let z = made_on (is_call x.operator.op) (keeps n) made made (head_of x) (operands x.kids values) left w r (λ r1. r1 ≡ r2)
      (λ v p. RunsBehind handing s keeps xs (at made n true) (at values n v) p.left p.world r)
      (λ r1 v p. RunsBehind handing s keeps (xs ++ ys) (at made n true) (at values n v) p.left p.world r1)
      over (λ w1 e. e) (λ w1 e. e)
      (λ v p g. (r2, refl, runs_on xs ys handing (at made n true) (at values n v) p.left p.world r r2 over on g))
      h in
      subst (λ q. RunsBehind false s keeps (Made n x ∷ (xs ++ ys)) made values left w q) z.1 z.2
  runs_on (Acts x ∷ xs) ys handed made values left w r r2 over on h =
      let z = root_on handed x made made (operands x.kids values) left w r (λ r1. r1 ≡ r2)
      (λ p. RunsBehind false s keeps xs made values p.left p.world r)
      (λ r1 p. RunsBehind false s keeps (xs ++ ys) made values p.left p.world r1)
      over (λ w2 w1 e. e)
      (λ p g. (r2, refl, runs_on xs ys false made values p.left p.world r r2 over on g))
      h in
      subst (λ q. RunsBehind handed s keeps (Acts x ∷ (xs ++ ys)) made values left w q) z.1 z.2

  pub runs_append : (xs ys : List Act) (made : ℕ → Bool) (values : ℕ → Word) (left : ℕ) (w : World) (values1 : ℕ → Word) (left1 : ℕ) (w1 : World) (r : Ran) → Runs s keeps xs made values left w (Through values1 (with_left left1 w1)) → Runs s keeps ys (made_behind xs made) values1 left1 w1 r → Runs s keeps (xs ++ ys) made values left w r
  runs_append xs ys made values left w values1 left1 w1 r h g = runs_on xs ys false made values left w (Through values1 (with_left left1 w1)) r
      (λ r1 is_over e. absurd (never r1 is_over e))
      (λ values2 left2 w2 e.
      let a : values1 ≡ values2 = cc in
      let q : with_left left1 w1 ≡ with_left left2 w2 = cc in
      let b : left1 ≡ left2 = ap (λ (p : Point). p.left) q in
      let c : w1 ≡ w2 = ap (λ (p : Point). p.world) q in
      subst (λ z. Runs s keeps ys (made_behind xs made) z left2 w2 r) a (subst (λ z. Runs s keeps ys (made_behind xs made) values1 z w2 r) b (subst (λ z. Runs s keeps ys (made_behind xs made) values1 left1 z r) c g)))
      h
    where
      never : (r1 : Ran) → IsOver r1 → Through values1 (with_left left1 w1) ≡ r1 → ⊥
      never (Through v p) o e = o
      never (Jumps l p) o e = cc
      never (Ends v p) o e = cc
      never (Exited status w2) o e = cc
      never (Out w2) o e = cc

  pub runs_stop : (xs ys : List Act) (made : ℕ → Bool) (values : ℕ → Word) (left : ℕ) (w : World) (r : Ran) → IsOver r → Runs s keeps xs made values left w r → Runs s keeps (xs ++ ys) made values left w r
  runs_stop xs ys made values left w r is_over h = runs_on xs ys false made values left w r r (λ r1 o e. sym e)
      (λ values2 left2 w2 e. let no : ⊥ = subst IsOver e is_over in absurd no)
      h

  pub block_runs : (es fs : List Entry) (acts : List Act) (left : ℕ) (w : World) (values : ℕ → Word) (left1 : ℕ) (w1 : World) (r : Ran) → GoesOn es fs acts → Runs s keeps (in_turn es 0 []) (λ m. false) (λ m. unknown) left w (Through values (with_left left1 w1)) → Runs s keeps acts (made_of es) values left1 w1 r
      → Runs s keeps (in_turn (es ++ fs) 0 []) (λ m. false) (λ m. unknown) left w r
  block_runs es fs acts left w values left1 w1 r on h g = subst (λ z. Runs s keeps z (λ m. false) (λ m. unknown) left w r) (sym on.0) (runs_append (in_turn es 0 []) acts (λ m. false) (λ m. unknown) left w values left1 w1 r h g)
