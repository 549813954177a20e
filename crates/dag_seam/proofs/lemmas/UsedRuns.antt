-- A run in which unused nodes are made is one without them.
use Rattle.std.proofs.Common.{◌≡◌, ⊎_elim, ℕ, Bool, true, false, true≢false, Option, Some, None, List, [], ◌∷◌, refl, sym, ap, ◌∙◌, subst}
use Rattle.std.specs.Prelude.{if◌then◌else◌}
use Rattle.std.proofs.lemmas.Bool.{cases_eq}
use Rattle.forests.specs.Words.{Word, unknown}
use Rattle.forests.specs.Worlds.{World}
use Rattle.forests.specs.Bodies.{Setting, does}
use Rattle.forests.specs.Budgets.{with_left}
use Rattle.dag_forest.specs.declared.act.Act.{Act}
use Rattle.dag_forest.specs.declared.act.Act.TheVariants.{Made, Acts}
use Rattle.dag_forest.specs.declared.entry.Entry.{Entry}
use Rattle.dag_forest.specs.declared.kids.Kids.{Kids}
use Rattle.dag_forest.specs.declared.kids.Kids.TheVariants.{Zero, One, Two}
use Rattle.dag_forest.specs.declared.parts.Parts.{Parts}
use Rattle.dag_forest.specs.Entries.{is_call}
use Rattle.dag_forest.specs.Emission.{AreOnce}
use Rattle.dag_forest.specs.Meaning.{Acted, Leaves, is_end, stepped, is_handing, Temporary, Keeps, SameBut, Same, MadeRuns, Ran, Through, Jumps, Ends, Exited, Out, RunsBehind, Runs}
use Rattle.dag_forest.specs.Schedules.{is_in, kids_list, head_of, operands, at, in_turn, all_uses, used, acts_of}
use Rattle.dag_seam.specs.Ran.{IsOver, IsOn}
use Rattle.dag_seam.specs.Turns.{made_behind, Makes}
use Rattle.dag_forest.proofs.lemmas.Maps.{at_new, at_old, unmade}
use Rattle.dag_forest.proofs.lemmas.Once.{turns_are_once}
use Rattle.dag_seam.proofs.lemmas.Once.{not_again, makes_used}
use Rattle.dag_seam.proofs.lemmas.Runs.{Passes, Some_ran, made_on, root_on}
use Rattle.dag_seam.proofs.lemmas.UsedCalls.{CallsUsed, calls_used}
use Rattle.dag_seam.proofs.lemmas.Within.{in_left, in_right, in_first, apart_in}

-- a run that is over is the same on all nodes
is_on_over : (P : ℕ → Type 0) (r : Ran) → Passes r (λ r1. IsOn P r r1)
is_on_over P r r1 is_over e = subst (λ z. IsOn P z r1) (sym e) (by r1 is_over)
  where
    by : (q : Ran) → IsOver q → IsOn P q q
    by (Through values p) o = absurd o
    by (Jumps l p) o = refl
    by (Ends v p) o = refl
    by (Exited status w) o = refl
    by (Out w) o = refl

same_operands : (k : Kids) (values values1 : ℕ → Word) → ((m : ℕ) → is_in m (kids_list k) ≡ true → values1 m ≡ values m) → operands k values ≡ operands k values1
same_operands Zero values values1 h = refl
same_operands (One a) values values1 h = ap (λ v. v ∷ []) (sym (h a (in_first a a [] refl)))
same_operands (Two a c) values values1 h = (λ i. sym (h a (in_first a a (c ∷ []) refl)) i ∷ sym (h c (in_right c (a ∷ []) (c ∷ []) (in_first c c [] refl))) i ∷ [])

module _ (s : Setting) (keeps : Keeps) where
  abbrev KeptAlike : (ℕ → Bool) → (ℕ → Bool) → Type 0
  KeptAlike made made1 = (m : ℕ) (t : Temporary) → keeps m ≡ Some t → made m ≡ made1 m

  but_on : (made made1 : ℕ → Bool) (w w1 : World) → KeptAlike made made1 → SameBut keeps made1 w w1 → SameBut keeps made w w1
  but_on made made1 w w1 alike same o off = same o (λ m t un is e. off m t (alike m t is ∙ un) is e)

  same_on : (made made1 : ℕ → Bool) (w w1 : World) → KeptAlike made made1 → Same keeps made w w1 → Same keeps made1 w w1
  same_on made made1 w w1 alike same m t is_made is = same m t (alike m t is ∙ is_made) is

  abbrev IsWithout : List Act → Type 0
  IsWithout xs = (handed : Bool) (made made1 : ℕ → Bool) (values values1 : ℕ → Word) (left : ℕ) (w : World) (r : Ran)
      → AreOnce xs made → CallsUsed xs → ((m : ℕ) (t : Temporary) → keeps m ≡ Some t → made m ≡ false → Makes m (used xs)) → KeptAlike made made1
      → ((m : ℕ) → made1 m ≡ true → made m ≡ true) → ((m : ℕ) → made1 m ≡ true → values1 m ≡ values m) → ((m : ℕ) → is_in m (all_uses (used xs)) ≡ true → values1 m ≡ values m)
      → RunsBehind handed s keeps xs made values left w r → Some_ran (IsOn (λ m. made_behind (used xs) made1 m ≡ true) r) (λ r1. RunsBehind handed s keeps (used xs) made1 values1 left w r1)

  made_without : (n : ℕ) (x : Parts) (xs : List Act) → IsWithout xs → IsWithout (Made n x ∷ xs)
  made_without n x xs rest true made made1 values values1 left w r once calls kept alike more agree uses h = absurd h
  made_without n x xs rest false made made1 values values1 left w r once calls kept alike more agree uses h = by (is_in n (all_uses (used xs))) refl kept uses
    where
      list : Bool → List Act
      list b = if b then Made n x ∷ used xs else used xs

      drop : (call : Bool) (o : Option Temporary) → is_in n (all_uses (used xs)) ≡ false → is_call x.operator.op ≡ call → keeps n ≡ o → ((m : ℕ) (t : Temporary) → keeps m ≡ Some t → made m ≡ false → Makes m (used xs)) → ((m : ℕ) → is_in m (all_uses (used xs)) ≡ true → values1 m ≡ values m)
          → MadeRuns call o s keeps made (head_of x) (operands x.kids values) left w r (λ v p. RunsBehind (is_handing call o) s keeps xs (at made n true) (at values n v) p.left p.world r)
          → Some_ran (IsOn (λ m. made_behind (used xs) made1 m ≡ true) r) (λ r1. RunsBehind false s keeps (used xs) made1 values1 left w r1)
      drop true o e c k kept uses g = absurd (true≢false (sym (calls.0 c) ∙ e))
      drop false (Some t) e c k kept uses g = absurd (not_again xs made n once.1 (makes_used xs n (kept n t k once.0)))
      drop false None e c k kept uses g = rest false (at made n true) made1 (at values n g.0) values1 left w r once.1 calls.1
          (λ m t is un. kept m t is (unmade made n m un))
          (λ m t is. at_old made n true m (other m t is) ∙ alike m t is)
          (λ m is. ⊎_elim (λ q. ap (at made n true) q ∙ at_new made n true) (λ q. at_old made n true m q ∙ more m is) (cases_eq m n))
          (λ m is. agree m is ∙ sym (at_old values n g.0 m (λ q. true≢false (sym (more m is) ∙ ap made q ∙ once.0))))
          (λ m is. uses m is ∙ sym (at_old values n g.0 m (apart_in m n (all_uses (used xs)) is e)))
          g.2
        where
          other : (m : ℕ) (t : Temporary) → keeps m ≡ Some t → m ≡ n → ⊥
          other m t is q = let no : None ≡ Some t = sym k ∙ ap keeps (sym q) ∙ is in let never : ⊥ = cc in never

      by : (b : Bool) → is_in n (all_uses (used xs)) ≡ b → ((m : ℕ) (t : Temporary) → keeps m ≡ Some t → made m ≡ false → Makes m (list b)) → ((m : ℕ) → is_in m (all_uses (list b)) ≡ true → values1 m ≡ values m)
          → Some_ran (IsOn (λ m. made_behind (list b) made1 m ≡ true) r) (λ r1. RunsBehind false s keeps (list b) made1 values1 left w r1)
      by false e kept uses = drop (is_call x.operator.op) (keeps n) e refl refl kept uses h
      by true e kept uses =
          let handing = is_handing (is_call x.operator.op) (keeps n) in
          let Q : Ran → Type 0 = IsOn (λ m. made_behind (used xs) (at made1 n true) m ≡ true) r in
          made_on s keeps (is_call x.operator.op) (keeps n) made made1 (head_of x) (operands x.kids values1) left w r Q
          (λ v p. RunsBehind handing s keeps xs (at made n true) (at values n v) p.left p.world r)
          (λ r1 v p. RunsBehind handing s keeps (used xs) (at made1 n true) (at values1 n v) p.left p.world r1)
          (is_on_over (λ m. made_behind (used xs) (at made1 n true) m ≡ true) r)
          (λ w1. but_on made made1 w w1 alike) (λ w1. same_on made made1 w w1 alike)
          (λ v p g. rest handing (at made n true) (at made1 n true) (at values n v) (at values1 n v) p.left p.world r once.1 calls.1
          (λ m t is un. ⊎_elim (λ q. absurd (true≢false (sym (ap (at made n true) q ∙ at_new made n true) ∙ un))) (λ q. q) (kept m t is (unmade made n m un)))
          (λ m t is. ⊎_elim (λ q. ap (at made n true) q ∙ at_new made n true ∙ sym (ap (at made1 n true) q ∙ at_new made1 n true)) (λ q. at_old made n true m q ∙ alike m t is ∙ sym (at_old made1 n true m q)) (cases_eq m n))
          (λ m is. ⊎_elim (λ q. ap (at made n true) q ∙ at_new made n true) (λ q. at_old made n true m q ∙ more m (sym (at_old made1 n true m q) ∙ is)) (cases_eq m n))
          (λ m is. set_alike v m (λ q. agree m (sym (at_old made1 n true m q) ∙ is)))
          (λ m is. set_alike v m (λ q. uses m (in_right m (kids_list x.kids) (all_uses (used xs)) is)))
          g)
          (subst (λ ws. MadeRuns (is_call x.operator.op) (keeps n) s keeps made (head_of x) ws left w r (λ v p. RunsBehind handing s keeps xs (at made n true) (at values n v) p.left p.world r))
          (same_operands x.kids values values1 (λ m i. uses m (in_left m (kids_list x.kids) (all_uses (used xs)) i))) h)
        where
          set_alike : (v : Word) (m : ℕ) → ((m ≡ n → ⊥) → values1 m ≡ values m) → at values1 n v m ≡ at values n v m
          set_alike v m f = ⊎_elim (λ q. ap (at values1 n v) q ∙ at_new values1 n v ∙ sym (ap (at values n v) q ∙ at_new values n v)) (λ q. at_old values1 n v m q ∙ f q ∙ sym (at_old values n v m q)) (cases_eq m n)

  acts_without : (x : Parts) (xs : List Act) → IsWithout xs → IsWithout (Acts x ∷ xs)
  acts_without x xs rest handed made made1 values values1 left w r once calls kept alike more agree uses h =
      root_on s keeps handed x made made1 (operands x.kids values1) left w r (IsOn (λ m. made_behind (used xs) made1 m ≡ true) r)
      (λ p. RunsBehind false s keeps xs made values p.left p.world r)
      (λ r1 p. RunsBehind false s keeps (used xs) made1 values1 p.left p.world r1)
      (is_on_over (λ m. made_behind (used xs) made1 m ≡ true) r)
      (λ w2 w1. same_on made made1 w2 w1 alike)
      (λ p g. rest false made made1 values values1 p.left p.world r once calls kept alike more agree (λ m is. uses m (in_right m (kids_list x.kids) (all_uses (used xs)) is)) g)
      (subst (λ ws. stepped handed left (r ≡ Out w) (λ l. Acted (does s (head_of x) ws (with_left l w)) r (λ p. Leaves (is_end x) keeps made w p.world × RunsBehind false s keeps xs made values p.left p.world r)))
      (same_operands x.kids values values1 (λ m i. uses m (in_left m (kids_list x.kids) (all_uses (used xs)) i))) h)

  none_without : IsWithout []
  none_without true made made1 values values1 left w r once calls kept alike more agree uses h = absurd h
  none_without false made made1 values values1 left w r once calls kept alike more agree uses h =
      (Through values1 (with_left left w), subst (λ z. IsOn (λ m. made1 m ≡ true) z (Through values1 (with_left left w))) (sym h) (values1, refl, agree), refl)

  used_runs : (xs : List Act) → IsWithout xs
  used_runs [] = none_without
  used_runs (Made n x ∷ xs) = made_without n x xs (used_runs xs)
  used_runs (Acts x ∷ xs) = acts_without x xs (used_runs xs)

  pub runs_used : (es : List Entry) (left : ℕ) (w : World) (r : Ran) → ((m : ℕ) (t : Temporary) → keeps m ≡ Some t → Makes m (acts_of es)) → Runs s keeps (in_turn es 0 []) (λ m. false) (λ m. unknown) left w r
      → Some_ran (IsOn (λ m. made_behind (acts_of es) (λ k. false) m ≡ true) r) (λ r1. Runs s keeps (acts_of es) (λ m. false) (λ m. unknown) left w r1)
  runs_used es left w r kept h = used_runs (in_turn es 0 []) false (λ m. false) (λ m. false) (λ m. unknown) (λ m. unknown) left w r (turns_are_once es) (calls_used es 0 []) (λ m t is un. kept m t is) (λ m t is. refl) (λ m is. is) (λ m is. refl) (λ m is. refl) h
