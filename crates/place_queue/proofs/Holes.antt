-- The order of a heap as its hole moves.
use Rattle.std.proofs.Common.{ℕ, ◌≡◌, ◌≢◌, ◌+◌, ◌*◌, ◌<◌, ◌≤◌, List, length, set, refl, sym, ap, ◌∙◌, subst, ⊎_elim, arith}
use Rattle.std.proofs.lemmas.Bool.{cases_eq, cases_lt}
use Rattle.std.proofs.lemmas.List.{length-set}
use Rattle.place_queue.specs.declared.heap.Entry.{Entry}
use Rattle.place_queue.specs.Keys.{entry_at}
use Rattle.place_queue.specs.Heap.{LeqEntry, IsChild, IsHeap, HasHole, IsAbove, IsBelow, IsLeastChild}
use Rattle.place_queue.proofs.Links.{entry_here, entry_else}

-- the order is a total one
pub chain : (a b c : Entry) → LeqEntry a b → LeqEntry b c → LeqEntry a c
chain a b c h k = (omega arith, λ e. omega arith)

turn : (a b : Entry) → (LeqEntry a b → ⊥) → LeqEntry b a
turn a b h = (
  ⊎_elim (λ (l : a.cost < b.cost). absurd (h (omega arith, λ e. absurd (omega arith)))) (λ (l : b.cost ≤ a.cost). l) (cases_lt a.cost b.cost),
  λ e. ⊎_elim (λ (l : a.count < b.count). absurd (h (omega arith, λ _. omega arith))) (λ (l : b.count ≤ a.count). l) (cases_lt a.count b.count),
)

pub same : (a b c d : Entry) → a ≡ c → b ≡ d → LeqEntry c d → LeqEntry a b
same a b c d e f h = subst (λ x. LeqEntry x b) (sym e) (subst (LeqEntry c) (sym f) h)

-- a write keeps who is whose child
unset : (es : List Entry) (i : ℕ) (x : Entry) (p k : ℕ) → IsChild (set es i x) p k → IsChild es p k
unset es i x p k h = record { first = h.first; last = h.last; inside = omega (arith, length-set es i x, h.inside) }

module _ (es : List Entry) (i : ℕ) (e : Entry) (in' : i < length es) (h : HasHole es i) where
  -- an entry that fits is written into the hole
  pub healed : IsAbove es i e → IsBelow es i e → IsHeap (set es i e)
  healed above below = λ p k f.
      let g = unset es i e p k f in
      ⊎_elim
      (λ (p_is : p ≡ i). same _ _ e (entry_at es k) (ap (entry_at (set es i e)) p_is ∙ entry_here es i e in') (entry_else es i k e (omega (arith, g.first))) (above k (subst (λ q. IsChild es q k) p_is g)))
      (λ (p_not : p ≢ i). ⊎_elim
      (λ (k_is : k ≡ i). same _ _ (entry_at es p) e (entry_else es i p e p_not) (ap (entry_at (set es i e)) k_is ∙ entry_here es i e in') (below p (subst (IsChild es p) k_is g)))
      (λ (k_not : k ≢ i). same _ _ (entry_at es p) (entry_at es k) (entry_else es i p e p_not) (entry_else es i k e k_not) (h.ordered p k g p_not k_not))
      (cases_eq k i))
      (cases_eq p i)

-- above the hole there is nothing where it is the root, and else the parent
pub root_below : (es : List Entry) (i : ℕ) (e : Entry) → i ≡ 0 → IsBelow es i e
root_below es i e z = λ p c. absurd (omega (arith, c.first))

pub parent_below : (es : List Entry) (i q : ℕ) (e : Entry) → 2 * q + 1 ≤ i → i ≤ 2 * q + 2 → LeqEntry (entry_at es q) e → IsBelow es i e
parent_below es i q e lo hi h = λ p c.
    let is : p ≡ q = omega (arith, c.first, c.last) in
    same (entry_at es p) e (entry_at es q) e (ap (entry_at es) is) refl h

-- below the hole there is nothing, or a least child
pub leaf_above : (es : List Entry) (i : ℕ) (e : Entry) → length es ≤ 2 * i + 1 → IsAbove es i e
leaf_above es i e z = λ k c. absurd (omega (arith, c.first, c.inside))

pub child_above : (es : List Entry) (i q : ℕ) (e : Entry) → IsLeastChild es i q → LeqEntry e (entry_at es q) → IsAbove es i e
child_above es i q e l h = λ k c. chain e (entry_at es q) (entry_at es k) h (l.lesser k c)

module _ (es : List Entry) (i q : ℕ) (in' : i < length es) (h : HasHole es i) where
  -- what the list has once the entry at q is written into the hole
  at_hole : (k : ℕ) → k ≡ i → entry_at (set es i (entry_at es q)) k ≡ entry_at es q
  at_hole k k_is = ap (entry_at (set es i (entry_at es q))) k_is ∙ entry_here es i (entry_at es q) in'

  elsewhere : (k : ℕ) → k ≢ i → entry_at (set es i (entry_at es q)) k ≡ entry_at es k
  elsewhere k k_not = entry_else es i k (entry_at es q) k_not

  -- the parent moves down into the hole
  module _ (lo : 2 * q + 1 ≤ i) (hi : i ≤ 2 * q + 2) where
    parent : IsChild es q i
    parent = record { first = lo; last = hi; inside = in' }

    pub hole_up : HasHole (set es i (entry_at es q)) q
    hole_up = record {
      ordered = λ p k f p_not k_not.
          let g = unset es i (entry_at es q) p k f in
          let k_other : k ≢ i = omega (arith, g.first, g.last) in
          ⊎_elim
          (λ (p_is : p ≡ i). same _ _ (entry_at es q) (entry_at es k) (at_hole p p_is) (elsewhere k k_other) (h.across q k parent (subst (λ m. IsChild es m k) p_is g)))
          (λ (p_other : p ≢ i). same _ _ (entry_at es p) (entry_at es k) (elsewhere p p_other) (elsewhere k k_other) (h.ordered p k g p_other k_other))
          (cases_eq p i);
      across = λ p k f g.
          let f' = unset es i (entry_at es q) p q f in
          let g' = unset es i (entry_at es q) q k g in
          let p_other : p ≢ i = omega (arith, f'.first) in
          let q_other : q ≢ i = omega arith in
          let over = h.ordered p q f' p_other q_other in
          ⊎_elim
          (λ (k_is : k ≡ i). same _ _ (entry_at es p) (entry_at es q) (elsewhere p p_other) (at_hole k k_is) over)
          (λ (k_other : k ≢ i). same _ _ (entry_at es p) (entry_at es k) (elsewhere p p_other) (elsewhere k k_other) (chain (entry_at es p) (entry_at es q) (entry_at es k) over (h.ordered q k g' q_other k_other)))
          (cases_eq k i);
    }

    pub above_up : (e : Entry) → (LeqEntry (entry_at es q) e → ⊥) → IsAbove (set es i (entry_at es q)) q e
    above_up e n = λ k f.
        let less = turn (entry_at es q) e n in
        ⊎_elim
        (λ (k_is : k ≡ i). same e _ e (entry_at es q) refl (at_hole k k_is) less)
        (λ (k_other : k ≢ i). same e _ e (entry_at es k) refl (elsewhere k k_other) (chain e (entry_at es q) (entry_at es k) less (h.ordered q k (unset es i (entry_at es q) q k f) (omega arith) k_other)))
        (cases_eq k i)

  -- the least child moves up into the hole
  module _ (l : IsLeastChild es i q) where
    pub hole_down : HasHole (set es i (entry_at es q)) q
    hole_down = record {
      ordered = λ p k f p_not k_not.
          let g = unset es i (entry_at es q) p k f in
          ⊎_elim
          (λ (k_is : k ≡ i).
          let p_other : p ≢ i = omega (arith, g.first) in
          same _ _ (entry_at es p) (entry_at es q) (elsewhere p p_other) (at_hole k k_is) (h.across p q (subst (IsChild es p) k_is g) l.child))
          (λ (k_other : k ≢ i). ⊎_elim
          (λ (p_is : p ≡ i). same _ _ (entry_at es q) (entry_at es k) (at_hole p p_is) (elsewhere k k_other) (l.lesser k (subst (λ m. IsChild es m k) p_is g)))
          (λ (p_other : p ≢ i). same _ _ (entry_at es p) (entry_at es k) (elsewhere p p_other) (elsewhere k k_other) (h.ordered p k g p_other k_other))
          (cases_eq p i))
          (cases_eq k i);
      across = λ p k f g.
          let g' = unset es i (entry_at es q) q k g in
          let p_is : p ≡ i = omega (arith, f.first, f.last, l.child.first, l.child.last) in
          let q_other : q ≢ i = omega (arith, l.child.first) in
          let k_other : k ≢ i = omega (arith, l.child.first, g.first) in
          same _ _ (entry_at es q) (entry_at es k) (at_hole p p_is) (elsewhere k k_other) (h.ordered q k g' q_other k_other);
    }

    pub below_down : (e : Entry) → (LeqEntry e (entry_at es q) → ⊥) → IsBelow (set es i (entry_at es q)) q e
    below_down e n = λ p f.
        let p_is : p ≡ i = omega (arith, f.first, f.last, l.child.first, l.child.last) in
        same _ e (entry_at es q) e (at_hole p p_is) refl (turn e (entry_at es q) n)
