-- The trees of the steps are those of the acts, where the nodes stand as they were chosen.
use Rattle.std.proofs.Common.{◌≡◌, ⊎_elim, ℕ, Bool, true, Option, Some, None, List, [], ◌∷◌, ◌++◌, get_or, refl, sym, ap, ◌∙◌}
use Rattle.std.specs.Prelude.{◌⊎◌}
use Rattle.std.proofs.lemmas.Bool.{cases_eq}
use Rattle.lcc_base.specs.declared.order.Order.{Order}
use Rattle.op_forest.specs.declared.frame.Slot.{Slot}
use Rattle.op_forest.specs.Nodes.{Head}
use Rattle.op_forest.specs.Nodes.{Node as Tree}
use Rattle.op_forest.specs.Nodes.{One as OneTree, Two as TwoTree}
use Rattle.forests.specs.Addresses.{Home}
use Rattle.dag_forest.specs.declared.kids.Kids.{Kids}
use Rattle.dag_forest.specs.declared.kids.Kids.TheVariants.{Zero, One, Two}
use Rattle.dag_forest.specs.declared.standing.Standing.{Standing}
use Rattle.dag_forest.specs.Schedules.{Act, Made, Acts, head_of, at}
use Rattle.dag_forest.specs.Emission.{tree_by, tree_at, emit, emitted}
use Rattle.op_forest.specs.Frames.{lowest}
use Rattle.dag_forest.specs.Choice.{Room}
use Rattle.dag_forest.specs.Walks.{steps_of}
use Rattle.dag_forest.specs.Split.{temporary_of, kept_by}
use Rattle.dag_forest.specs.Standings.{AreStood, nothing, standing_trees, stored_by, stood}
use Rattle.dag_forest.proofs.lemmas.Maps.{at_new, at_old}
use Rattle.dag_forest.proofs.Ready.{AllKids, kids_map, AreReady, ready_map}
use Rattle.dag_forest.proofs.StandingLaws.{whole, kept}
use Rattle.dag_forest.proofs.PlacedLaws.{standing_of, AreAsChosen}

same_kids : (h : Head) (k : Kids) (ts us : ℕ → Tree) → AllKids (λ m. ts m ≡ us m) k → tree_by ts h k ≡ tree_by us h k
same_kids h Zero ts us same = refl
same_kids h (One a) ts us same = ap (OneTree h) same
same_kids h (Two a c) ts us same = ap (λ t. TwoTree h t (ts c)) same.0 ∙ ap (λ t. TwoTree h (us a) t) same.1

module _ (order : Order) (home : Home) (before : List Slot) (final : List Standing) (are : AreStood final) (rooms : ℕ → Option Room) where
  pub emits : (xs : List Act) (made : ℕ → Bool) (ts : ℕ → Tree) → AreReady xs (λ m. made m ≡ true) → AreAsChosen (lowest before) final rooms xs → ((m : ℕ) → made m ≡ true → ts m ≡ standing_trees final m) → emit (λ n. kept_by (temporary_of order home before) (rooms n)) xs ts [] ≡ stood final (steps_of xs)
  emits [] made ts ready as_chosen same = refl
  emits (Made n x ∷ as') made ts ready as_chosen same =
      let T = standing_trees final in
      let tree : tree_at ts x ≡ tree_at T x = same_kids (head_of x) x.kids ts T (kids_map (λ m. made m ≡ true) (λ m. ts m ≡ T m) x.kids same ready.0) in
      by (rooms n) as_chosen.0 tree
      (λ t is. emits as' (at made n true) (at ts n t)
      (ready_map as' (λ m. (made m ≡ true) ⊎ (m ≡ n)) (λ m. at made n true m ≡ true) (λ m. ⊎_elim
      (λ e. ⊎_elim (λ q. ap (at made n true) q ∙ at_new made n true) (λ q. at_old made n true m q ∙ e) (cases_eq m n))
      (λ q. ap (at made n true) q ∙ at_new made n true)) ready.1)
      as_chosen.1
      (λ m e. ⊎_elim
      (λ q. ap (at ts n t) q ∙ at_new ts n t ∙ is ∙ ap T (sym q))
      (λ q. at_old ts n t m q ∙ same m (sym (at_old made n true m q) ∙ e))
      (cases_eq m n)))
    where
      by : (k : Option Room) → get_or final n nothing ≡ standing_of (lowest before) k x → tree_at ts x ≡ tree_at (standing_trees final) x
          → ((t : Tree) → t ≡ standing_trees final n → emit (λ n. kept_by (temporary_of order home before) (rooms n)) as' (at ts n t) [] ≡ stood final (steps_of as'))
          → emitted (kept_by (temporary_of order home before) k) (tree_at ts x) (λ t. emit (λ n. kept_by (temporary_of order home before) (rooms n)) as' (at ts n t) []) ≡ stored_by (get_or final n nothing) (tree_at (standing_trees final) x) ++ stood final (steps_of as')
      by None stands tree go = go (tree_at ts x) (tree ∙ sym (whole final are n x stands)) ∙ ap (λ z. stored_by z (tree_at (standing_trees final) x) ++ stood final (steps_of as')) (sym stands)
      by (Some r) stands tree go =
          ap (λ z. (temporary_of order home before r).store (tree_at ts x) ∷ z) (go (temporary_of order home before r).read (sym (kept final are n _ stands)))
          ∙ ap (λ z. (temporary_of order home before r).store z ∷ stood final (steps_of as')) tree
          ∙ ap (λ z. stored_by z (tree_at (standing_trees final) x) ++ stood final (steps_of as')) (sym stands)
  emits (Acts x ∷ as') made ts ready as_chosen same =
      ap (λ z. z ∷ emit (λ n. kept_by (temporary_of order home before) (rooms n)) as' ts []) (same_kids (head_of x) x.kids ts (standing_trees final) (kids_map (λ m. made m ≡ true) (λ m. ts m ≡ standing_trees final m) x.kids same ready.0))
      ∙ ap (λ z. tree_at (standing_trees final) x ∷ z) (emits as' made ts ready.1 as_chosen same)
