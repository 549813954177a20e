-- The tree of a node that stands by its own.
use Rattle.std.proofs.Common.{◌≡◌, ℕ, zero, suc, ◌+◌, ◌<◌, ℤ, List, [], ◌∷◌, length, get_or, refl, sym, ap, ◌∙◌, arith, subst}
use Rattle.std.proofs.lemmas.List.{get_or_default}
use Rattle.op_forest.specs.NodeParts.{under}
use Rattle.dag_forest.specs.declared.kind.Kind.{Kind}
use Rattle.op_forest.specs.Nodes.{Head}
use Rattle.op_forest.specs.Nodes.{Node as Tree}
use Rattle.op_forest.specs.Nodes.{One as OneTree, Two as TwoTree}
use Rattle.dag_forest.specs.declared.kids.Kids.{Kids}
use Rattle.dag_forest.specs.declared.kids.Kids.TheVariants.{Zero, One, Two}
use Rattle.dag_forest.specs.declared.parts.Parts.{Parts}
use Rattle.dag_forest.specs.declared.standing.Standing.{Standing}
use Rattle.dag_forest.specs.declared.standing.Standing.TheVariants.{Whole, Kept}
use Rattle.dag_forest.specs.Entries.{AreBelow}
use Rattle.dag_forest.specs.Schedules.{head_of}
use Rattle.dag_forest.specs.Emission.{tree_by, tree_at}
use Rattle.dag_forest.specs.Slots.{slot_read}
use Rattle.dag_forest.specs.Standings.{AreStood, nothing, standing_by, standing_tree, standing_trees}

tree_same : (n : ℕ) (h : Head) (k : Kids) (ts us : ℕ → Tree) → AreBelow n k → ((m : ℕ) → m < n → ts m ≡ us m) → tree_by ts h k ≡ tree_by us h k
tree_same n h Zero ts us is same = refl
tree_same n h (One a) ts us is same = ap (OneTree h) (same a is)
tree_same n h (Two a c) ts us is same = ap (λ t. TwoTree h t (ts c)) (same a is.0) ∙ ap (λ t. TwoTree h (us a) t) (same c is.1)

by_standing : (n : ℕ) (st : Standing) (ts us : ℕ → Tree) → ((x : Parts) → st ≡ Whole x → AreBelow n x.kids) → ((m : ℕ) → m < n → ts m ≡ us m) → standing_by ts st ≡ standing_by us st
by_standing n (Whole x) ts us are same = tree_same n (head_of x) x.kids ts us (are x refl) same
by_standing n (Kept kind offset) ts us are same = refl

module _ (s : List Standing) (are : AreStood s) where
  enough : (f g n : ℕ) → n < f → n < g → standing_tree s f n ≡ standing_tree s g n
  enough zero g n h k = absurd (omega (arith, h))
  enough (suc f) zero n h k = absurd (omega (arith, k))
  enough (suc f) (suc g) n h k = by_standing n (get_or s n nothing) (standing_tree s f) (standing_tree s g) (are n) (λ m l. enough f g m (omega (arith, l, h)) (omega (arith, l, k)))

  -- it is made of its operands' trees
  pub whole : (n : ℕ) (x : Parts) → get_or s n nothing ≡ Whole x → standing_trees s n ≡ tree_at (standing_trees s) x
  whole n x e = ap (standing_by (standing_tree s n)) e ∙ tree_same n (head_of x) x.kids (standing_tree s n) (standing_trees s) (are n x e) (λ m l. enough n (suc m) m l (omega arith))

  pub kept : (n : ℕ) (st : Standing) → get_or s n nothing ≡ st → standing_trees s n ≡ standing_by (standing_tree s n) st
  kept n st e = ap (standing_by (standing_tree s n)) e

-- ---- the trees that are built

pub stands : (s : List Standing) (n : ℕ) (d st : Standing) → n < length s → get_or s n d ≡ st → get_or s n nothing ≡ st
stands s n d st l e = get_or_default s n nothing d l ∙ e

more : (s : List Standing) (n : ℕ) → standing_tree s (n + 1) n ≡ standing_trees s n
more s n = ap (λ f. standing_tree s f n) (let e : n + 1 ≡ suc n = omega arith in e)

pub leaf_is : (s : List Standing) (x : Parts) (kids : List Tree) (result : Tree) → x.kids ≡ Zero → kids ≡ [] → result ≡ under (head_of x) kids → result ≡ tree_at (standing_trees s) x
leaf_is s x kids result k e r = r ∙ ap (under (head_of x)) e ∙ sym (ap (tree_by (standing_trees s) (head_of x)) k)

pub one_is : (s : List Standing) (x : Parts) (a : ℕ) (t : Tree) (kids : List Tree) (result : Tree) → x.kids ≡ One a → t ≡ standing_tree s (a + 1) a → kids ≡ t ∷ [] → result ≡ under (head_of x) kids → result ≡ tree_at (standing_trees s) x
one_is s x a t kids result k e l r = r ∙ ap (under (head_of x)) l ∙ ap (OneTree (head_of x)) (e ∙ more s a) ∙ sym (ap (tree_by (standing_trees s) (head_of x)) k)

pub two_is : (s : List Standing) (x : Parts) (a c : ℕ) (t u : Tree) (kids : List Tree) (result : Tree) → x.kids ≡ Two a c → t ≡ standing_tree s (a + 1) a → u ≡ standing_tree s (c + 1) c → kids ≡ t ∷ u ∷ [] → result ≡ under (head_of x) kids → result ≡ tree_at (standing_trees s) x
two_is s x a c t u kids result k e g l r =
    r ∙ ap (under (head_of x)) l ∙ ap (λ z. TwoTree (head_of x) z u) (e ∙ more s a) ∙ ap (λ z. TwoTree (head_of x) (standing_trees s a) z) (g ∙ more s c)
    ∙ sym (ap (tree_by (standing_trees s) (head_of x)) k)

pub node_is : (s : List Standing) → AreStood s → (n : ℕ) (x : Parts) → get_or s n nothing ≡ Whole x → tree_at (standing_trees s) x ≡ standing_tree s (n + 1) n
node_is s are n x e = sym (more s n ∙ whole s are n x e)

pub kept_is : (s : List Standing) (n : ℕ) (kind : Kind) (offset : ℤ) → get_or s n nothing ≡ Kept kind offset → slot_read kind offset ≡ standing_tree s (n + 1) n
kept_is s n kind offset e = sym (more s n ∙ ap (standing_by (standing_tree s n)) e)

one_below : (n : ℕ) (k : Kids) (a : ℕ) → k ≡ One a → AreBelow n k → a < n
one_below n k a e h = subst (AreBelow n) e h

two_below : (n : ℕ) (k : Kids) (a c : ℕ) → k ≡ Two a c → AreBelow n k → (a < n) × (c < n)
two_below n k a c e h = subst (AreBelow n) e h

pub kid_below : (s : List Standing) → AreStood s → (n : ℕ) (d : Standing) (x : Parts) (a : ℕ) → n < length s → get_or s n d ≡ Whole x → x.kids ≡ One a → a < n
kid_below s are n d x a l e k = one_below n x.kids a k (are n x (stands s n d (Whole x) l e))

pub kids_below : (s : List Standing) → AreStood s → (n : ℕ) (d : Standing) (x : Parts) (a c : ℕ) → n < length s → get_or s n d ≡ Whole x → x.kids ≡ Two a c → (a < n) × (c < n)
kids_below s are n d x a c l e k = two_below n x.kids a c k (are n x (stands s n d (Whole x) l e))
