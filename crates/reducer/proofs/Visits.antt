-- A visitor's run over a derivation.
use Rattle.std.proofs.Common.{◌≡◌, ◌≢◌, ℕ, ◌+◌, ◌-◌, Some, None, List, [], ◌∷◌, ◌++◌, refl, sym, subst}
use Rattle.std.specs.Prelude.{slice_get}
use Rattle.tree_labeller.specs.Rows.{Row}
use Rattle.lburg_model.specs.declared.rule.Rule.{Rule}
use Rattle.lburg_model.specs.Tree.{MTree, nodes, kids_of}
use Rattle.lburg_model.specs.Pattern.{MPattern, PHole, PLeaf, POne, PTwo, pattern_of}
use Rattle.tree_labeller.specs.Indexed.{Parts, Uses}
use Rattle.tree_labeller.specs.Labelled.{cell, total, Labelled}
use Rattle.tree_labeller.specs.Chosen.{Chosen}
use Rattle.tree_labeller.specs.Indexed.{visits_in}
use Rattle.reducer.specs.Reduced.{Reduced, Walked}
use Rattle.reducer.specs.Runs.{Runs}
use Rattle.tree_labeller.proofs.lemmas.Taken.{follower, taken_hole, taken_leaf, taken_one, taken_two}

module _ {N V : Type 0} (tree : N → MTree) (step : V → ℕ → N → V → Type 0) where
  runs_append : (xs ys : List (ℕ × MTree)) (s m s' : V) → Runs tree step xs s m → Runs tree step ys m s' → Runs tree step (xs ++ ys) s s'
  runs_append [] ys s m s' a b = let F : V → Type 0 = λ z. Runs tree step ys z s' in subst F (sym a) b
  runs_append (x ∷ xs) ys s m s' (node, u, e, st, a) b = (node, u, e, st, runs_append xs ys u m s' a b)

  module _ (rows : List Row) (d : List Rule) (w : ℕ) where
    -- what runs over the parts
    abbrev Over : (p : MPattern) (s s' : V) (t : MTree) → Parts d p t → Type 0
    Over p s s' t x = Runs tree step (visits_in x) s s'

    pub reduced : (n : ℕ) (t : MTree) (at number : ℕ) (r : Rule) (node : N) (s m s' : V) → Labelled rows d w at t → cell rows at n ≢ None → Chosen rows d n t at number → slice_get d (number - 1) ≡ Some r → tree node ≡ t → step s number node m → Walked rows d tree step (pattern_of r.pattern) t at m s' → Reduced rows d tree step n t at s s'
    reduced n t at number r node s m s' l some ch is same st (x, tot, fol, run) =
        let (i, isr, left, ni, follows) = follower rows d w n t at number r x l some ch is tot fol in
        let G : ℕ → Type 0 = λ z. step s z node m in
        (Uses i r isr left x, follows, (node, m, same, subst G ni st, run))

    pub walked_hole : (n : ℕ) (t : MTree) (at : ℕ) (s s' : V) → Reduced rows d tree step n t at s s' → Walked rows d tree step (PHole n) t at s s'
    walked_hole n t at s s' (e, fol, run) = taken_hole rows d n t at (Over (PHole n) s s' t) e fol run

    pub walked_leaf : (op : ℕ) (t : MTree) (at : ℕ) (s : V) → total rows (PLeaf op) t at ≢ None → Walked rows d tree step (PLeaf op) t at s s
    walked_leaf op t at s some = taken_leaf rows d op t at (Over (PLeaf op) s s) some (λ v. refl)

    pub walked_one : (op : ℕ) (p : MPattern) (t a : MTree) (at : ℕ) (s s' : V) → total rows (POne op p) t at ≢ None → slice_get (kids_of t) 0 ≡ Some a → Walked rows d tree step p a (at + 1) s s' → Walked rows d tree step (POne op p) t at s s'
    walked_one op p t a at s s' some k x = taken_one rows d op p t a at (Over p s s') (Over (POne op p) s s') some k (λ v u y run. run) x

    pub walked_two : (op : ℕ) (p q : MPattern) (t a b : MTree) (at : ℕ) (s m s' : V) → total rows (PTwo op p q) t at ≢ None → slice_get (kids_of t) 0 ≡ Some a → slice_get (kids_of t) 1 ≡ Some b → Walked rows d tree step p a (at + 1) s m → Walked rows d tree step q b (at + 1 + nodes a) m s' → Walked rows d tree step (PTwo op p q) t at s s'
    walked_two op p q t a b at s m s' some k l x y =
        taken_two rows d op p q t a b at (Over p s m) (Over q m s') (Over (PTwo op p q) s s') some k l (λ v u z f g run more. runs_append (visits_in f) (visits_in g) s m s' run more) x y
