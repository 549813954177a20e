-- The tree of a node gives the node's value as long as its stretch lasts, or its temporary.
use Rattle.std.proofs.Common.{◌≡◌, ℕ, Bool, true, false, [], ◌∷◌, ◌++◌, Some, refl, sym, ap, ◌∙◌, true≢false}
use Rattle.op_forest.specs.Nodes.{Head}
use Rattle.op_forest.specs.Nodes.{Node as Tree}
use Rattle.forests.specs.Words.{Word}
use Rattle.forests.specs.Worlds.{World, Point, Next, Went, then_do}
use Rattle.forests.specs.Bodies.{Setting, does}
use Rattle.forests.specs.Bodies.{evaluate}
use Rattle.forests.specs.Alike.{AreAlike}
use Rattle.dag_forest.proofs.lemmas.Maps.{at_new, still_made, unmade}
use Rattle.dag_forest.specs.declared.kids.Kids.{Kids}
use Rattle.dag_forest.specs.declared.kids.Kids.TheVariants.{Zero, One, Two}
use Rattle.dag_forest.specs.Schedules.{operands, at}
use Rattle.dag_forest.specs.Meaning.{Temporary, Keeps, IsThere, CanKeep, IsTemporary, SameBut, Same, HasNow, Leaves}
use Rattle.dag_forest.specs.Emission.{tree_by, Use, Lost, Now, Stable, IsUsable, faded, least, kids_use, read_use, Distinct}

-- at each point where a tree of this use may stand
abbrev pub Throughout : Keeps → (ℕ → Bool) → World → Use → (Point → Type 0) → Type 0
Throughout keeps made w Lost P = Unit {0}
Throughout keeps made w Now P = (p : Point) → AreAlike w.objects p.world.objects → SameBut keeps made w p.world → P p
Throughout keeps made w Stable P = (p : Point) → AreAlike w.objects p.world.objects → Same keeps made w p.world → P p

abbrev pub HasValue : Setting → Keeps → (ℕ → Bool) → World → Tree → Word → Use → Type 0
HasValue s keeps made w t v u = Throughout keeps made w u (λ p. evaluate s t p ≡ Went (v ∷ []) p Next)

module _ (s : Setting) (keeps : Keeps) (distinct : Distinct keeps) where
  same_of : (made : ℕ → Bool) (w w1 : World) → SameBut keeps made w w1 → Same keeps made w w1
  same_of made w w1 h m t l is = h t.object (λ p u le isu e. let d : m ≡ p = distinct m p t u is isu e in absurd (true≢false (sym l ∙ ap made d ∙ le)))

  pub here : (made : ℕ → Bool) (w : World) (u : Use) (P : Point → Type 0) → IsUsable u → Throughout keeps made w u P → (p : Point) → AreAlike w.objects p.world.objects → SameBut keeps made w p.world → P p
  here made w Lost P us h p like e = absurd us
  here made w Now P us h p like e = h p like e
  here made w Stable P us h p like e = h p like (same_of made w p.world e)

  pub on : (made : ℕ → Bool) (w : World) (u : Use) (P Q : Point → Type 0) → ((p : Point) → P p → Q p) → Throughout keeps made w u P → Throughout keeps made w u Q
  on made w Lost P Q f h = tt
  on made w Now P Q f h = λ p like e. f p (h p like e)
  on made w Stable P Q f h = λ p like e. f p (h p like e)

  both : (made : ℕ → Bool) (w : World) (u v : Use) (P Q : Point → Type 0) → Throughout keeps made w u P → Throughout keeps made w v Q → Throughout keeps made w (least u v) (λ p. P p × Q p)
  both made w Lost v P Q h g = tt
  both made w Now Lost P Q h g = tt
  both made w Now Now P Q h g = λ p like e. (h p like e, g p like e)
  both made w Now Stable P Q h g = λ p like e. (h p like e, g p like (same_of made w p.world e))
  both made w Stable Lost P Q h g = tt
  both made w Stable Now P Q h g = λ p like e. (h p like (same_of made w p.world e), g p like e)
  both made w Stable Stable P Q h g = λ p like e. (h p like e, g p like e)

  -- one node more, without a temporary
  pub more : (made : ℕ → Bool) (n : ℕ) (w : World) (u : Use) (P : Point → Type 0) → Throughout keeps made w u P → Throughout keeps (at made n true) w u P
  more made n w Lost P h = tt
  more made n w Now P h = λ p like e. h p like (λ o off. e o (λ m x un is. off m x (unmade made n m un) is))
  more made n w Stable P h = λ p like e. h p like (λ m x is_made is. e m x (still_made made n m is_made) is)

  -- one node more, whose temporary is written
  pub kept : (made : ℕ → Bool) (n : ℕ) (x : Temporary) (w : World) (v : Word) (u : Use) (P : Point → Type 0) → made n ≡ false → keeps n ≡ Some x → IsTemporary s x → Throughout keeps made w u P → Throughout keeps (at made n true) (x.put v w) u P
  kept made n x w v Lost P fresh is law h = tt
  kept made n x w v Now P fresh is law h = λ p like e. h p (law.shape v w ∙ like) (λ o off. e o (λ m t un ist. off m t (unmade made n m un) ist) ∙ law.others v w o (λ d. off n x fresh is d))
  kept made n x w v Stable P fresh is law h = λ p like e. h p (law.shape v w ∙ like) (λ m t is_made ist. e m t (still_made made n m is_made) ist ∙ law.others v w t.object (λ d. let q : m ≡ n = distinct m n t x ist is d in absurd (true≢false (sym is_made ∙ ap made q ∙ fresh))))

  pub new : (made : ℕ → Bool) (n : ℕ) (x : Temporary) (w : World) (v : Word) → keeps n ≡ Some x → IsTemporary s x → CanKeep x v → IsThere x w → HasValue s keeps (at made n true) (x.put v w) x.read v Stable
  new made n x w v is law can there p like e = law.reads v w p can there (e n x (at_new made n true) is)

  -- a root or a call that leaves the temporaries as they are, or all objects
  pub behind : (made : ℕ → Bool) (w w2 : World) (ends : Bool) (u : Use) (P : Point → Type 0) → AreAlike w.objects w2.objects → Leaves ends keeps made w w2 → Throughout keeps made w u P → Throughout keeps made w2 (faded ends u) P
  behind made w w2 true Lost P lives same h = tt
  behind made w w2 true Now P lives same h = tt
  behind made w w2 true Stable P lives same h = λ p like e. h p (lives ∙ like) (λ m x l is. e m x l is ∙ same m x l is)
  behind made w w2 false Lost P lives same h = tt
  behind made w w2 false Now P lives same h = λ p like e. h p (lives ∙ like) (λ o off. e o off ∙ same o)
  behind made w w2 false Stable P lives same h = λ p like e. h p (lives ∙ like) (λ m x l is. e m x l is ∙ same x.object)

  module _ (made : ℕ → Bool) (w : World) (uses : ℕ → Use) (ts : ℕ → Tree) (values : ℕ → Word) (have : (m : ℕ) → HasValue s keeps made w (ts m) (values m) (uses m)) where
    -- a node's tree does what its operator does
    pub evaluates : (h : Head) (k : Kids) → Throughout keeps made w (kids_use uses k) (λ p. evaluate s (tree_by ts h k) p ≡ does s h (operands k values) p)
    evaluates h Zero = λ p like e. refl
    evaluates h (One a) = on made w (uses a) _ _ (λ p e. ap (λ z. then_do z (λ xs p1. does s h xs p1)) e) (have a)
    evaluates h (Two a c) = on made w (least (uses a) (uses c)) _ _
        (λ p e. ap (λ z. then_do z (λ xs p1. then_do (evaluate s (ts c) p1) (λ ys p2. does s h (xs ++ ys) p2))) e.0 ∙ ap (λ z. then_do z (λ ys p2. does s h ((values a ∷ []) ++ ys) p2)) e.1)
        (both made w (uses a) (uses c) _ _ (have a) (have c))

    -- without a temporary
    pub unkept : (h : Head) (k : Kids) (reads : Bool) (v : Word) → HasNow reads s keeps made h (operands k values) w v → HasValue s keeps made w (tree_by ts h k) v (read_use reads (kids_use uses k))
    unkept h k reads v now = by reads (kids_use uses k) now (evaluates h k)
      where
        by : (r : Bool) (u : Use) → HasNow r s keeps made h (operands k values) w v → Throughout keeps made w u (λ p. evaluate s (tree_by ts h k) p ≡ does s h (operands k values) p) → HasValue s keeps made w (tree_by ts h k) v (read_use r u)
        by true Lost g e = tt
        by true Now g e = λ p like same. e p like same ∙ g p like same
        by true Stable g e = λ p like same. e p like (same_of made w p.world same) ∙ g p like same
        by false Lost g e = tt
        by false Now g e = λ p like same. e p like same ∙ g p like
        by false Stable g e = λ p like same. e p like same ∙ g p like
