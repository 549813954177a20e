-- The trees do what the block does.
use Rattle.std.proofs.Common.{◌≡◌, ⊎_elim, ℕ, zero, suc, Bool, true, false, List, [], ◌∷◌, ◌++◌, Option, Some, None, refl, sym, ap, ◌∙◌, subst}
use Rattle.std.proofs.lemmas.Bool.{cases_eq}
use Rattle.op_forest.specs.Nodes.{Head}
use Rattle.op_forest.specs.Nodes.{Node as Tree}
use Rattle.op_forest.specs.Nodes.{One as OneTree, Two as TwoTree}
use Rattle.forests.specs.Words.{Word}
use Rattle.forests.specs.Worlds.{World, Point, at_world, Next, To, End, Effect, Went, Exits, Unfinished, Stuck, then_do, Outcome, Going, goes}
use Rattle.forests.specs.Bodies.{Setting, does}
use Rattle.forests.specs.Bodies.{evaluate, follow, act}
use Rattle.forests.specs.Budgets.{with_left}
use Rattle.forests.specs.Alike.{AreAlike}
use Rattle.forests.specs.Kept.{Kept, CallsKeep}
use Rattle.forests.proofs.lemmas.Kept.{does_kept}
use Rattle.dag_forest.specs.declared.kids.Kids.{Kids}
use Rattle.dag_forest.specs.declared.kids.Kids.TheVariants.{Zero, One, Two}
use Rattle.dag_forest.specs.declared.parts.Parts.{Parts}
use Rattle.dag_forest.specs.Entries.{is_call, is_read}
use Rattle.dag_forest.specs.Schedules.{Act, Made, Acts, head_of, operands, at}
use Rattle.dag_forest.specs.Meaning.{is_end, is_handing, Temporary, Keeps, IsThere, CanKeep, IsTemporary, Same, HasNow, spent, Handed, Acted, Leaves, MadeRuns, Ran, Out, RunsBehind, Runs}
use Rattle.dag_forest.specs.Emission.{AreOnce, tree_by, emitted, emit, Use, Lost, Stable, IsUsable, fade, faded, kids_use, read_use, kept_use, IsMade, Takes, HoldsMade, HoldsBehind, Holds, Distinct}
use Rattle.dag_forest.specs.Meant.{ended_by}
use Rattle.dag_forest.proofs.lemmas.Maps.{at_new, at_old}
use Rattle.dag_forest.proofs.Stays.{HasValue, here, more, kept, new, behind as stays_behind, evaluates, unkept}

module _ (s : Setting) (keep : CallsKeep s.call) (keeps : Keeps) (distinct : Distinct keeps) (law : (m : ℕ) (t : Temporary) → keeps m ≡ Some t → IsTemporary s t) (T : List Tree → Point → Outcome) (whole : List Tree)
    (T-step : (t : Tree) (ts : List Tree) (left : ℕ) (w : World) → T (t ∷ ts) (with_left (suc left) w) ≡ act s whole t ts (with_left left w) (λ js p. T js p))
    (T-zero : (t : Tree) (ts : List Tree) (w : World) → T (t ∷ ts) (with_left zero w) ≡ Going w) (rest : List Tree) where
  -- what is left of a run behind the block
  abbrev pub ended : Ran → Outcome
  ended r = ended_by T whole rest r

  have_more : (made : ℕ → Bool) (n : ℕ) (w : World) (uses : ℕ → Use) (ts : ℕ → Tree) (values : ℕ → Word) (t : Tree) (v : Word) (u : Use) → ((m : ℕ) → HasValue s keeps (at made n true) w (ts m) (values m) (uses m)) → HasValue s keeps (at made n true) w t v u → (m : ℕ) → HasValue s keeps (at made n true) w (at ts n t m) (at values n v m) (at uses n u m)
  have_more made n w uses ts values t v u old fresh m = ⊎_elim
      (λ e. subst (λ x. HasValue s keeps (at made n true) w x (at values n v m) (at uses n u m)) (sym (ap (at ts n t) e ∙ at_new ts n t))
      (subst (λ x. HasValue s keeps (at made n true) w t x (at uses n u m)) (sym (ap (at values n v) e ∙ at_new values n v))
      (subst (λ x. HasValue s keeps (at made n true) w t v x) (sym (ap (at uses n u) e ∙ at_new uses n u)) fresh)))
      (λ ne. subst (λ x. HasValue s keeps (at made n true) w x (at values n v m) (at uses n u m)) (sym (at_old ts n t m ne))
      (subst (λ x. HasValue s keeps (at made n true) w (ts m) x (at uses n u m)) (sym (at_old values n v m ne))
      (subst (λ x. HasValue s keeps (at made n true) w (ts m) (values m) x) (sym (at_old uses n u m ne)) (old m))))
      (cases_eq m n)

  abbrev IsSound : List Act → Type 0
  IsSound es = (made : ℕ → Bool) (uses : ℕ → Use) (ts : ℕ → Tree) (values : ℕ → Word) (left : ℕ) (w : World) (r : Ran) → AreOnce es made → Holds keeps es uses → ((m : ℕ) → HasValue s keeps made w (ts m) (values m) (uses m)) → Runs s keeps es made values left w r → T (emit keeps es ts rest) (with_left left w) ≡ ended r

  -- the same of a call that isn't kept, and of the acts behind it
  abbrev IsSoundHanded : List Act → Type 0
  IsSoundHanded es = (made : ℕ → Bool) (uses : ℕ → Use) (ts : ℕ → Tree) (values : ℕ → Word) (left : ℕ) (w : World) (r : Ran) (n : ℕ) (h : Head) (k : Kids) → made n ≡ false → AreOnce es (at made n true) → IsUsable (kids_use uses k) → HoldsBehind (Some n) keeps es uses → ((m : ℕ) → HasValue s keeps made w (ts m) (values m) (uses m))
      → spent left (r ≡ Out w) (λ l. Handed (does s h (operands k values) (with_left l w)) r (λ v p. Same keeps made w p.world × RunsBehind true s keeps es (at made n true) (at values n v) p.left p.world r))
      → T (emit keeps es (at ts n (tree_by ts h k)) rest) (with_left left w) ≡ ended r

  module _ (es : List Act) (later : IsSound es) (made : ℕ → Bool) (uses : ℕ → Use) (ts : ℕ → Tree) (values : ℕ → Word) (w : World) (r : Ran) (have : (m : ℕ) → HasValue s keeps made w (ts m) (values m) (uses m)) where
    go : Bool → ℕ → Word → Point → Type 0
    go handed n v p = RunsBehind handed s keeps es (at made n true) (at values n v) p.left p.world r

    -- the roots behind a kept node
    rest_of : ℕ → Temporary → List Tree
    rest_of n x = emit keeps es (at ts n x.read) rest

    evaluates_here : (h : Head) (k : Kids) → IsUsable (kids_use uses k) → (left : ℕ) → evaluate s (tree_by ts h k) (with_left left w) ≡ does s h (operands k values) (with_left left w)
    evaluates_here h k us left = here s keeps distinct made w (kids_use uses k) (λ p. evaluate s (tree_by ts h k) p ≡ does s h (operands k values) p) us (evaluates s keeps distinct made w uses ts values have h k) (with_left left w) refl (λ o off. refl)

    -- behind the store of a value
    after_store : (n : ℕ) (x : Temporary) (v : Word) (call : Bool) (left : ℕ) (w1 : World) → made n ≡ false → AreOnce es (at made n true) → keeps n ≡ Some x → AreAlike w.objects w1.objects → Leaves call keeps made w w1 → CanKeep x v → IsThere x w1 → Holds keeps es (at (λ m. faded call (uses m)) n Stable) → go false n v (with_left left (x.put v w1)) → T (rest_of n x) (with_left left (x.put v w1)) ≡ ended r
    unfolding go rest_of
    after_store n x v call left w1 fresh once is lives same can there holds h =
        later (at made n true) (at (λ m. faded call (uses m)) n Stable) (at ts n x.read) (at values n v) left (x.put v w1) r once holds
        (have_more made n (x.put v w1) (λ m. faded call (uses m)) ts values x.read v Stable
        (λ m. kept s keeps distinct made n x w1 v (faded call (uses m)) _ fresh is (law n x is) (stays_behind s keeps distinct made w w1 call (uses m) _ lives same (have m)))
        (new s keeps distinct made n x w1 v is (law n x is) can there))
        h

    stored : (n : ℕ) (x : Temporary) (h : Head) (k : Kids) (left : ℕ) → made n ≡ false → AreOnce es (at made n true) → keeps n ≡ Some x → IsUsable (kids_use uses k) → Holds keeps es (at (λ m. faded true (uses m)) n Stable) → (e : Effect) → evaluate s (tree_by ts h k) (with_left left w) ≡ e → Kept w e
        → Handed e r (λ v p. Same keeps made w p.world × CanKeep x v × IsThere x p.world × go false n v (at_world p (x.put v p.world)))
        → goes (evaluate s (x.store (tree_by ts h k)) (with_left left w)) (λ ws p1 mv. follow whole (rest_of n x) mv p1 (λ js. T js p1)) ≡ ended r
    stored n x h k left fresh once is us holds (Went [] p Next) e lives g = absurd g
    stored n x h k left fresh once is us holds (Went (v ∷ []) p Next) e lives g =
        ap (λ z. goes z (λ ws p1 mv. follow whole (rest_of n x) mv p1 (λ js. T js p1))) ((law n x is).stores (tree_by ts h k) v (with_left left w) p e g.1 g.2)
        ∙ after_store n x v true p.left p.world fresh once is (sym lives.shapes) g.0 g.1 g.2 holds g.3
    stored n x h k left fresh once is us holds (Went (v ∷ u ∷ vs) p Next) e lives g = absurd g
    stored n x h k left fresh once is us holds (Went [] p (To l)) e lives g = absurd g
    stored n x h k left fresh once is us holds (Went (v ∷ []) p (To l)) e lives g = absurd g
    stored n x h k left fresh once is us holds (Went (v ∷ u ∷ vs) p (To l)) e lives g = absurd g
    stored n x h k left fresh once is us holds (Went [] p (End o)) e lives g = absurd g
    stored n x h k left fresh once is us holds (Went (v ∷ []) p (End o)) e lives g = absurd g
    stored n x h k left fresh once is us holds (Went (v ∷ u ∷ vs) p (End o)) e lives g = absurd g
    stored n x h k left fresh once is us holds (Exits status w1) e lives g = ap (λ z. goes z (λ ws p1 mv. follow whole (rest_of n x) mv p1 (λ js. T js p1))) ((law n x is).exits (tree_by ts h k) (with_left left w) status w1 e) ∙ ap ended (sym g)
    stored n x h k left fresh once is us holds (Unfinished w1) e lives g = ap (λ z. goes z (λ ws p1 mv. follow whole (rest_of n x) mv p1 (λ js. T js p1))) ((law n x is).unfinished (tree_by ts h k) (with_left left w) w1 e) ∙ ap ended (sym g)
    stored n x h k left fresh once is us holds Stuck e lives g = absurd g

    -- a node that is no call
    plain_node : (n : ℕ) (o : Option Temporary) (h : Head) (k : Kids) (left : ℕ) → made n ≡ false → AreOnce es (at made n true) → keeps n ≡ o → IsMade (kids_use uses k) o → Holds keeps es (at (λ m. uses m) n (kept_use o (read_use (is_read h.operator.op) (kids_use uses k)))) → MadeRuns false o s keeps made h (operands k values) left w r (go false n)
        → T (emitted o (tree_by ts h k) (λ t. emit keeps es (at ts n t) rest)) (with_left left w) ≡ ended r
    unfolding go rest_of
    plain_node n None h k left fresh once is is_made holds g =
        later (at made n true) (at (λ m. uses m) n (read_use (is_read h.operator.op) (kids_use uses k))) (at ts n (tree_by ts h k)) (at values n g.0) left w r once holds
        (have_more made n w uses ts values (tree_by ts h k) g.0 (read_use (is_read h.operator.op) (kids_use uses k))
        (λ m. more s keeps distinct made n w (uses m) _ (have m))
        (more s keeps distinct made n w (read_use (is_read h.operator.op) (kids_use uses k)) _ (unkept s keeps distinct made w uses ts values have h k (is_read h.operator.op) g.0 g.1)))
        g.2
    plain_node n (Some x) h k zero fresh once is is_made holds g = T-zero (x.store (tree_by ts h k)) (rest_of n x) w ∙ ap ended (sym g)
    plain_node n (Some x) h k (suc l) fresh once is is_made holds g =
        T-step (x.store (tree_by ts h k)) (rest_of n x) l w
        ∙ ap (λ z. goes z (λ ws p1 mv. follow whole (rest_of n x) mv p1 (λ js. T js p1))) ((law n x is).stores (tree_by ts h k) g.0 (with_left l w) (with_left l w) (evaluates_here h k is_made l ∙ now (is_read h.operator.op) g.1) g.2 g.3)
        ∙ after_store n x g.0 false l w fresh once is refl (λ o. refl) g.2 g.3 holds g.4
      where
        now : (b : Bool) → HasNow b s keeps made h (operands k values) w g.0 → does s h (operands k values) (with_left l w) ≡ Went (g.0 ∷ []) (with_left l w) Next
        now true q = q (with_left l w) refl (λ o off. refl)
        now false q = q (with_left l w) refl

    call_node : (n : ℕ) (x : Temporary) (h : Head) (k : Kids) (left : ℕ) → made n ≡ false → AreOnce es (at made n true) → keeps n ≡ Some x → IsUsable (kids_use uses k) → Holds keeps es (at (λ m. faded true (uses m)) n Stable) → MadeRuns true (Some x) s keeps made h (operands k values) left w r (go false n)
        → T (emitted (Some x) (tree_by ts h k) (λ t. emit keeps es (at ts n t) rest)) (with_left left w) ≡ ended r
    unfolding rest_of
    call_node n x h k zero fresh once is is_made holds g = T-zero (x.store (tree_by ts h k)) (rest_of n x) w ∙ ap ended (sym g)
    call_node n x h k (suc l) fresh once is is_made holds g =
        T-step (x.store (tree_by ts h k)) (rest_of n x) l w
        ∙ stored n x h k l fresh once is is_made holds (does s h (operands k values) (with_left l w)) (evaluates_here h k is_made l) (does_kept s keep h (operands k values) (with_left l w)) g

    made_node : IsSoundHanded es → (n : ℕ) (call : Bool) (o : Option Temporary) (h : Head) (k : Kids) (left : ℕ) → made n ≡ false → AreOnce es (at made n true) → keeps n ≡ o
        → HoldsMade (is_handing call o) (IsUsable (kids_use uses k) × HoldsBehind (Some n) keeps es uses) (IsMade (kids_use uses k) o × Holds keeps es (at (λ m. faded call (uses m)) n (kept_use o (read_use (is_read h.operator.op) (kids_use uses k)))))
        → MadeRuns call o s keeps made h (operands k values) left w r (go (is_handing call o) n)
        → T (emitted o (tree_by ts h k) (λ t. emit keeps es (at ts n t) rest)) (with_left left w) ≡ ended r
    unfolding go
    made_node handing n true (Some x) h k left fresh once is holds g = call_node n x h k left fresh once is holds.0 holds.1 g
    made_node handing n true None h k left fresh once is holds g = handing made uses ts values left w r n h k fresh once holds.0 holds.1 have g
    made_node handing n false o h k left fresh once is holds g = plain_node n o h k left fresh once is holds.0 holds.1 g

    acted : (ends : Bool) (e : Effect) → Kept w e → AreOnce es made → Holds keeps es (λ m. faded ends (uses m)) → Acted e r (λ p. Leaves ends keeps made w p.world × Runs s keeps es made values p.left p.world r)
        → goes e (λ ws p1 mv. follow whole (emit keeps es ts rest) mv p1 (λ js. T js p1)) ≡ ended r
    acted ends (Went vs p Next) lives once holds g = later made (λ m. faded ends (uses m)) ts values p.left p.world r once holds (λ m. stays_behind s keeps distinct made w p.world ends (uses m) _ (sym lives.shapes) g.0 (have m)) g.1
    acted ends (Went vs p (To l)) lives once holds g = ap ended (sym g)
    acted ends (Went vs p (End v)) lives once holds g = ap ended (sym g)
    acted ends (Exits status w1) lives once holds g = ap ended (sym g)
    acted ends (Unfinished w1) lives once holds g = ap ended (sym g)
    acted ends Stuck lives once holds g = absurd g

    acts_root : (ends : Bool) (h : Head) (k : Kids) (left : ℕ) → AreOnce es made → IsUsable (kids_use uses k) → Holds keeps es (λ m. faded ends (uses m)) → spent left (r ≡ Out w) (λ l. Acted (does s h (operands k values) (with_left l w)) r (λ p. Leaves ends keeps made w p.world × Runs s keeps es made values p.left p.world r))
        → T (tree_by ts h k ∷ emit keeps es ts rest) (with_left left w) ≡ ended r
    acts_root ends h k zero once us holds g = T-zero (tree_by ts h k) (emit keeps es ts rest) w ∙ ap ended (sym g)
    acts_root ends h k (suc l) once us holds g =
        T-step (tree_by ts h k) (emit keeps es ts rest) l w
        ∙ ap (λ z. goes z (λ ws p1 mv. follow whole (emit keeps es ts rest) mv p1 (λ js. T js p1))) (evaluates_here h k us l)
        ∙ acted ends (does s h (operands k values) (with_left l w)) (does_kept s keep h (operands k values) (with_left l w)) once holds g

  -- ---- a call in its root

  module _ (es : List Act) (later : IsSound es) (made : ℕ → Bool) (uses : ℕ → Use) (ts : ℕ → Tree) (values : ℕ → Word) (w : World) (r : Ran) (have : (m : ℕ) → HasValue s keeps made w (ts m) (values m) (uses m)) (n : ℕ) (call : Tree) where
    -- the values of the root's operands before the call
    abbrev firsts : Kids → List Word
    firsts Zero = []
    firsts (One a) = []
    firsts (Two a c) = values a ∷ []

    with_call : (v : Word) (q : Kids) → Takes n uses q → firsts q ++ v ∷ [] ≡ operands q (at values n v)
    with_call v Zero takes = absurd takes
    with_call v (One a) takes = ap (λ z. z ∷ []) (sym (ap (at values n v) takes ∙ at_new values n v))
    with_call v (Two a c) takes =
        ap (λ z. z ∷ v ∷ []) (sym (at_old values n v a takes.1))
        ∙ ap (λ z. at values n v a ∷ z ∷ []) (sym (ap (at values n v) takes.0 ∙ at_new values n v))

    -- the root's tree evaluates the call last
    evaluates_call : (h : Head) (q : Kids) (left : ℕ) (e : Effect) → Takes n uses q → evaluate s call (with_left left w) ≡ e → evaluate s (tree_by (at ts n call) h q) (with_left left w) ≡ then_do e (λ ys p2. does s h (firsts q ++ ys) p2)
    evaluates_call h Zero left e takes is = absurd takes
    evaluates_call h (One a) left e takes is =
        ap (λ z. evaluate s (OneTree h z) (with_left left w)) (ap (at ts n call) takes ∙ at_new ts n call)
        ∙ ap (λ z. then_do z (λ ys p2. does s h ys p2)) is
    evaluates_call h (Two a c) left e takes is =
        ap (λ z. evaluate s (TwoTree h z (at ts n call c)) (with_left left w)) (at_old ts n call a takes.1)
        ∙ ap (λ z. evaluate s (TwoTree h (ts a) z) (with_left left w)) (ap (at ts n call) takes.0 ∙ at_new ts n call)
        ∙ ap (λ z. then_do z (λ xs p1. then_do (evaluate s call p1) (λ ys p2. does s h (xs ++ ys) p2)))
        (here s keeps distinct made w (uses a) (λ p. evaluate s (ts a) p ≡ Went (values a ∷ []) p Next) takes.2 (have a) (with_left left w) refl (λ o off. refl))
        ∙ ap (λ z. then_do z (λ ys p2. does s h ((values a ∷ []) ++ ys) p2)) is

    have_call : made n ≡ false → (v : Word) (w1 : World) → AreAlike w.objects w1.objects → Same keeps made w w1 → (m : ℕ) → HasValue s keeps (at made n true) w1 (at ts n call m) (at values n v m) (at (λ k. fade (uses k)) n Lost m)
    have_call fresh v w1 lives same = have_more made n w1 (λ m. fade (uses m)) ts values call v Lost (λ m. more s keeps distinct made n w1 (fade (uses m)) _ (stays_behind s keeps distinct made w w1 true (uses m) _ lives same (have m))) tt

    takes_it : (h : Head) (q : Kids) (ends : Bool) → made n ≡ false → AreOnce es (at made n true) → Takes n uses q → Holds keeps es (λ m. faded ends (at (λ k. fade (uses k)) n Lost m)) → (e : Effect) → Kept w e
        → Handed e r (λ v p. Same keeps made w p.world × Acted (does s h (operands q (at values n v)) (with_left p.left p.world)) r (λ p2. Leaves ends keeps (at made n true) p.world p2.world × Runs s keeps es (at made n true) (at values n v) p2.left p2.world r))
        → goes (then_do e (λ ys p2. does s h (firsts q ++ ys) p2)) (λ ws p1 mv. follow whole (emit keeps es (at ts n call) rest) mv p1 (λ js. T js p1)) ≡ ended r
    takes_it h q ends fresh once takes holds (Went [] p Next) lives g = absurd g
    takes_it h q ends fresh once takes holds (Went (v ∷ []) p Next) lives g =
        ap (λ ws. goes (does s h ws p) (λ us p1 mv. follow whole (emit keeps es (at ts n call) rest) mv p1 (λ js. T js p1))) (with_call v q takes)
        ∙ acted es later (at made n true) (at (λ k. fade (uses k)) n Lost) (at ts n call) (at values n v) p.world r (have_call fresh v p.world (sym lives.shapes) g.0) ends (does s h (operands q (at values n v)) p) (does_kept s keep h (operands q (at values n v)) p) once holds g.1
    takes_it h q ends fresh once takes holds (Went (v ∷ u ∷ vs) p Next) lives g = absurd g
    takes_it h q ends fresh once takes holds (Went [] p (To l)) lives g = absurd g
    takes_it h q ends fresh once takes holds (Went (v ∷ []) p (To l)) lives g = absurd g
    takes_it h q ends fresh once takes holds (Went (v ∷ u ∷ vs) p (To l)) lives g = absurd g
    takes_it h q ends fresh once takes holds (Went [] p (End o)) lives g = absurd g
    takes_it h q ends fresh once takes holds (Went (v ∷ []) p (End o)) lives g = absurd g
    takes_it h q ends fresh once takes holds (Went (v ∷ u ∷ vs) p (End o)) lives g = absurd g
    takes_it h q ends fresh once takes holds (Exits status w1) lives g = ap ended (sym g)
    takes_it h q ends fresh once takes holds (Unfinished w1) lives g = ap ended (sym g)
    takes_it h q ends fresh once takes holds Stuck lives g = absurd g

  takes_call : (es : List Act) → IsSound es → (x : Parts) → IsSoundHanded (Acts x ∷ es)
  takes_call es later x made uses ts values zero w r n h k fresh once usable holds have g = T-zero (tree_by (at ts n (tree_by ts h k)) (head_of x) x.kids) (emit keeps es (at ts n (tree_by ts h k)) rest) w ∙ ap ended (sym g)
  takes_call es later x made uses ts values (suc l) w r n h k fresh once usable holds have g =
      T-step (tree_by (at ts n (tree_by ts h k)) (head_of x) x.kids) (emit keeps es (at ts n (tree_by ts h k)) rest) l w
      ∙ ap (λ z. goes z (λ ws p1 mv. follow whole (emit keeps es (at ts n (tree_by ts h k)) rest) mv p1 (λ js. T js p1)))
      (evaluates_call es later made uses ts values w r have n (tree_by ts h k) (head_of x) x.kids l (does s h (operands k values) (with_left l w)) holds.0 (evaluates_here es later made uses ts values w r have h k usable l))
      ∙ takes_it es later made uses ts values w r have n (tree_by ts h k) (head_of x) x.kids (is_end x) fresh once holds.0 holds.1 (does s h (operands k values) (with_left l w)) (does_kept s keep h (operands k values) (with_left l w)) g

  both : (es : List Act) → IsSound es × IsSoundHanded es
  unfolding go
  both [] = (λ made uses ts values left w r once holds have h. ap ended (sym h), λ made uses ts values left w r n h k fresh once usable holds have g. absurd holds)
  both (Made n x ∷ es) = (
    (λ made uses ts values left w r once holds have h. made_node es (both es).0 made uses ts values w r have (both es).1 n (is_call x.operator.op) (keeps n) (head_of x) x.kids left once.0 once.1 refl holds h),
    (λ made uses ts values left w r m h k fresh once usable holds have g. absurd holds),
  )
  both (Acts x ∷ es) = (
    (λ made uses ts values left w r once holds have h. acts_root es (both es).0 made uses ts values w r have (is_end x) (head_of x) x.kids left once holds.0 holds.1 h),
    takes_call es (both es).0 x,
  )

  pub sound : (es : List Act) → IsSound es
  sound es = (both es).0
