-- Patterns fit nodes where they fit their trees; and what is added up over the nodes that are met.
use Rattle.std.proofs.Common.{◌≡◌, ℕ, ◌+◌, ◌≤◌, ◌==◌, List, [], ◌∷◌, ◌++◌, Bool, true, false, Option, Some, None, map, refl, sym, ap, ◌∙◌, subst, arith}
use Rattle.std.specs.Prelude.{if◌then◌else◌}
use Rattle.std.proofs.lemmas.List.{map-append}
use Rattle.std.proofs.lemmas.Option.{same_Some, none-some}
use Rattle.lburg_model.specs.Pattern.{MPattern, PHole, PLeaf, POne, PTwo, Goal, goals_at, joined}
use Rattle.op_forest.specs.Nodes.{Head, Node, Leaf, One, Two, head_of, nodes, gives, one_where, value_nodes, number_of, tree_of}
use Rattle.vcode.specs.Patterns.{Meeting, leaves_at, both, is_chain}
use Rattle.vcode.specs.Leaves.{turned, all_turned, met_by, met, IsSum}

turned_if : (b : Bool) (gs : Option (List Goal)) (ms : Option (List Meeting)) → gs ≡ all_turned ms → (if b then gs else None) ≡ all_turned (if b then ms else None)
turned_if true gs ms e = e
turned_if false gs ms e = refl

turned_both : (xs ys : Option (List Meeting)) → joined (all_turned xs) (all_turned ys) ≡ all_turned (both xs ys)
turned_both None ys = refl
turned_both (Some xs) None = refl
turned_both (Some xs) (Some ys) = ap Some (sym (map-append turned xs ys))

-- a pattern fits a tree where it fits the node
pub goals_are : (p : MPattern) (t : Node) → goals_at p (tree_of t) ≡ all_turned (leaves_at p t)
goals_are (PHole n) (Leaf h) = refl
goals_are (PHole n) (One h a) = refl
goals_are (PHole n) (Two h a b) = refl
goals_are (PLeaf op) (Leaf h) = turned_if (op == number_of h) (Some []) (Some []) refl
goals_are (PLeaf op) (One h a) = refl
goals_are (PLeaf op) (Two h a b) = refl
goals_are (POne op p) (Leaf h) = refl
goals_are (POne op p) (One h a) = turned_if (op == number_of h) (goals_at p (tree_of a)) (leaves_at p a) (goals_are p a)
goals_are (POne op p) (Two h a b) = refl
goals_are (PTwo op p q) (Leaf h) = refl
goals_are (PTwo op p q) (One h a) = refl
goals_are (PTwo op p q) (Two h a b) =
    turned_if (op == number_of h) (joined (goals_at p (tree_of a)) (goals_at q (tree_of b))) (both (leaves_at p a) (leaves_at q b))
    (ap (λ g. joined g (goals_at q (tree_of b))) (goals_are p a) ∙ ap (λ g. joined (all_turned (leaves_at p a)) g) (goals_are q b) ∙ turned_both (leaves_at p a) (leaves_at q b))

untwist : (o : Option (List Meeting)) (gs : List Goal) → all_turned o ≡ Some gs → (ms : List Meeting) × (o ≡ Some ms) × (gs ≡ map turned ms)
untwist None gs e = absurd (none-some gs e)
untwist (Some ms) gs e = (ms, refl, sym (same_Some (map turned ms) gs e))

pub meetings_of : (p : MPattern) (t : Node) (gs : List Goal) → goals_at p (tree_of t) ≡ Some gs → (ms : List Meeting) × (leaves_at p t ≡ Some ms) × (gs ≡ map turned ms)
meetings_of p t gs e = untwist (leaves_at p t) gs (sym (goals_are p t) ∙ e)

pub some_if : {A : Type 0} (b : Bool) (x : Option A) (y : A) → (if b then x else None) ≡ Some y → x ≡ Some y
some_if true x y e = e
some_if false x y e = absurd (none-some y e)

pub some_both : (xs ys : Option (List Meeting)) (zs : List Meeting) → both xs ys ≡ Some zs → (us vs : List Meeting) × (xs ≡ Some us) × (ys ≡ Some vs) × (zs ≡ us ++ vs)
some_both None ys zs e = absurd (none-some zs e)
some_both (Some us) None zs e = absurd (none-some zs e)
some_both (Some us) (Some vs) zs e = (us, vs, refl, refl, sym (same_Some (us ++ vs) zs e))

pub met_by_append : (f : Node → ℕ) (us vs : List Meeting) → met_by f (us ++ vs) ≡ met_by f us + met_by f vs
met_by_append f [] vs = omega arith
met_by_append f (m ∷ us) vs = let e : met_by f (us ++ vs) ≡ met_by f us + met_by f vs = met_by_append f us vs in omega (arith, e)

pub met_append : (us vs : List Meeting) → met (us ++ vs) ≡ met us + met vs
met_append us vs = met_by_append nodes us vs

module _ (f : Node → ℕ) (own : Head → ℕ) (sum : IsSum f own) where
  -- the trees that are met come to no more than the whole, and an operator adds its own
  pub few_met_by : (p : MPattern) (t : Node) (ms : List Meeting) → leaves_at p t ≡ Some ms → met_by f ms ≤ f t
  few_met_by (PHole n) t ms e = subst (λ l. met_by f l ≤ f t) (same_Some ((n, t) ∷ []) ms e) (omega arith)
  few_met_by (PLeaf op) (Leaf h) ms e = subst (λ l. met_by f l ≤ f (Leaf h)) (same_Some [] ms (some_if (op == number_of h) (Some []) ms e)) (omega arith)
  few_met_by (PLeaf op) (One h a) ms e = absurd (none-some ms e)
  few_met_by (PLeaf op) (Two h a b) ms e = absurd (none-some ms e)
  few_met_by (POne op p) (Leaf h) ms e = absurd (none-some ms e)
  few_met_by (POne op p) (One h a) ms e =
      let i : met_by f ms ≤ f a = few_met_by p a ms (some_if (op == number_of h) (leaves_at p a) ms e) in
      let s = sum.one h a in
      omega (arith, i, s)
  few_met_by (POne op p) (Two h a b) ms e = absurd (none-some ms e)
  few_met_by (PTwo op p q) (Leaf h) ms e = absurd (none-some ms e)
  few_met_by (PTwo op p q) (One h a) ms e = absurd (none-some ms e)
  few_met_by (PTwo op p q) (Two h a b) ms e =
      let s = some_both (leaves_at p a) (leaves_at q b) ms (some_if (op == number_of h) (both (leaves_at p a) (leaves_at q b)) ms e) in
      let i : met_by f s.0 ≤ f a = few_met_by p a s.0 s.2 in
      let j : met_by f s.1 ≤ f b = few_met_by q b s.1 s.3 in
      let k : met_by f ms ≡ met_by f s.0 + met_by f s.1 = ap (met_by f) s.4 ∙ met_by_append f s.0 s.1 in
      let w = sum.two h a b in
      omega (arith, i, j, k, w)

  pub fewer_met_by : (p : MPattern) (t : Node) (ms : List Meeting) → is_chain p ≡ false → leaves_at p t ≡ Some ms → met_by f ms + own (head_of t) ≤ f t
  fewer_met_by (PHole n) t ms c e = absurd (cc)
  fewer_met_by (PLeaf op) (Leaf h) ms c e =
      let s = sum.leaf h in
      subst (λ l. met_by f l + own h ≤ f (Leaf h)) (same_Some [] ms (some_if (op == number_of h) (Some []) ms e)) (omega (arith, s))
  fewer_met_by (PLeaf op) (One h a) ms c e = absurd (none-some ms e)
  fewer_met_by (PLeaf op) (Two h a b) ms c e = absurd (none-some ms e)
  fewer_met_by (POne op p) (Leaf h) ms c e = absurd (none-some ms e)
  fewer_met_by (POne op p) (One h a) ms c e =
      let i : met_by f ms ≤ f a = few_met_by p a ms (some_if (op == number_of h) (leaves_at p a) ms e) in
      let s = sum.one h a in
      omega (arith, i, s)
  fewer_met_by (POne op p) (Two h a b) ms c e = absurd (none-some ms e)
  fewer_met_by (PTwo op p q) (Leaf h) ms c e = absurd (none-some ms e)
  fewer_met_by (PTwo op p q) (One h a) ms c e = absurd (none-some ms e)
  fewer_met_by (PTwo op p q) (Two h a b) ms c e =
      let s = some_both (leaves_at p a) (leaves_at q b) ms (some_if (op == number_of h) (both (leaves_at p a) (leaves_at q b)) ms e) in
      let i : met_by f s.0 ≤ f a = few_met_by p a s.0 s.2 in
      let j : met_by f s.1 ≤ f b = few_met_by q b s.1 s.3 in
      let k : met_by f ms ≡ met_by f s.0 + met_by f s.1 = ap (met_by f) s.4 ∙ met_by_append f s.0 s.1 in
      let w = sum.two h a b in
      omega (arith, i, j, k, w)

nodes_sum : IsSum nodes (λ h. 1)
nodes_sum = record { leaf = λ h. refl; one = λ h a. refl; two = λ h a b. refl }

values_sum : IsSum value_nodes (λ h. one_where (gives h))
values_sum = record { leaf = λ h. refl; one = λ h a. refl; two = λ h a b. refl }

-- below an operator fewer nodes are met than the whole has
pub fewer_met : (p : MPattern) (t : Node) (ms : List Meeting) → is_chain p ≡ false → leaves_at p t ≡ Some ms → met ms + 1 ≤ nodes t
fewer_met p t ms chain fits = fewer_met_by nodes (λ h. 1) nodes_sum p t ms chain fits

-- the same of nodes that give a value
pub few_values : (p : MPattern) (t : Node) (ms : List Meeting) → leaves_at p t ≡ Some ms → met_by value_nodes ms ≤ value_nodes t
few_values p t ms fits = few_met_by value_nodes (λ h. one_where (gives h)) values_sum p t ms fits

pub fewer_values : (p : MPattern) (t : Node) (ms : List Meeting) → is_chain p ≡ false → leaves_at p t ≡ Some ms → met_by value_nodes ms + one_where (gives (head_of t)) ≤ value_nodes t
fewer_values p t ms chain fits = fewer_met_by value_nodes (λ h. one_where (gives h)) values_sum p t ms chain fits

-- a chain rule's nonterminal meets the node itself
pub chain_meets : (p : MPattern) (t : Node) (ms : List Meeting) → is_chain p ≡ true → leaves_at p t ≡ Some ms → (k : ℕ) × (ms ≡ (k, t) ∷ [])
chain_meets (PHole k) t ms c e = (k, sym (same_Some ((k, t) ∷ []) ms e))
chain_meets (PLeaf op) t ms c e = absurd (cc)
chain_meets (POne op p) t ms c e = absurd (cc)
chain_meets (PTwo op p q) t ms c e = absurd (cc)
