-- The walk that finds the first roots.
use Rattle.std.proofs.Common.{◌≡◌, ℕ, suc, ◌+◌, ◌-◌, ◌<◌, ◌≤◌, Some, List, [], ◌∷◌, ◌++◌, length, get_or, take, drop, slice_get, replicate, refl, sym, ap, ◌∙◌, arith, subst, append-nil}
use Rattle.std.proofs.lemmas.List.{drop_all, take_all}
use Rattle.std.proofs.lemmas.Option.{slice_get_read, get_or_from_slice_get}
use Rattle.dag_forest.specs.declared.entry.Entry.{Entry}
use Rattle.dag_forest.specs.declared.entry.Entry.TheVariants.{Value, Root}
use Rattle.dag_forest.specs.declared.parts.Parts.{Parts}
use Rattle.dag_forest.specs.Entries.{AreBelow}
use Rattle.dag_forest.specs.Tally.{AreFormed, node_count}
use Rattle.dag_forest.specs.Releases.{root_count, lowered_kids, first_roots}
use Rattle.dag_forest.proofs.Counts.{drop_get, node_or_root, fewer_nodes, fewer_roots, formed_drop}
use Rattle.dag_forest.proofs.Ready.{below_more}
use Rattle.dag_forest.proofs.ReleaseLaws.{length_first}

-- what the entries behind the first ones tell, where so many nodes and roots are before
pub record AreFirst (es : List Entry) (id : ℕ) (first : List ℕ) (node root : ℕ) : Type 0 where
  pub told : first ≡ first_roots (drop id es) node root
  pub nodes : node + node_count (drop id es) ≡ node_count es
  pub roots : root + root_count (drop id es) ≡ root_count es

-- a slice of the whole list is put back
pub put_back : (len : ℕ) (new old : List ℕ) → len ≡ length old → length new ≡ length old → take len (new ++ drop (length new) old) ≡ new
put_back len new old e l = ap (λ z. take len (new ++ z)) (drop_all (length new) old (omega (arith, l))) ∙ ap (take len) (append-nil new) ∙ take_all len new (omega (arith, e, l))

pub read_at : {X : Type 0} (xs : List X) (i : ℕ) (x d : X) → i < length xs → x ≡ get_or xs i x → x ≡ get_or xs i d
read_at xs i x d l e = sym (get_or_from_slice_get xs i x d (slice_get_read xs (length xs) i x refl l e))

pub first_none : (es : List Entry) (id node root : ℕ) (first : List ℕ) → id ≡ length es → node ≡ node_count es → root ≡ length es - node → first ≡ replicate node root → AreFirst es id first node root
first_none es id node root first e n r is =
    let d : drop id es ≡ [] = drop_all id es (omega (arith, e)) in
    let o = node_or_root es in
    record {
      told = is ∙ sym (ap (λ z. first_roots z node root) d);
      nodes = let q = ap node_count d in omega (arith, n, q);
      roots = let q = ap root_count d in omega (arith, n, r, o, q);
    }

pub first_all : (es : List Entry) (first : List ℕ) (id node root : ℕ) → id ≡ 0 → AreFirst es id first node root → first ≡ first_roots es 0 0
first_all es first id node root e h =
    let d : drop id es ≡ es = ap (λ k. drop k es) e in
    let n : node ≡ 0 = let q = ap node_count d in let a = h.nodes in omega (arith, q, a) in
    let r : root ≡ 0 = let q = ap root_count d in let a = h.roots in omega (arith, q, a) in
    h.told ∙ (λ i. first_roots (d i) (n i) (r i))

module _ (es : List Entry) (j id : ℕ) (first : List ℕ) (node root : ℕ) (next : j + 1 ≡ id) (h : AreFirst es id first node root) where
  step : (e : Entry) → slice_get es j ≡ Some e → drop j es ≡ e ∷ drop id es
  step e is = drop_get es j e is ∙ ap (λ k. e ∷ drop k es) next

  first_length : length first ≡ node_count es
  first_length = let a = ap length h.told in let b = length_first (drop id es) node root in let c = h.nodes in omega (arith, a, b, c)

  module _ (x : Parts) (is : slice_get es j ≡ Some (Value x)) where
    pub some_node : 1 ≤ node
    some_node = let a = ap node_count (step (Value x) is) in let b = h.nodes in let c = fewer_nodes j es in omega (arith, a, b, c)

    pub node_within : node - 1 < length first
    node_within = let a = some_node in let b = h.nodes in let c = first_length in omega (arith, a, b, c)

    pub node_kids : AreFormed es 0 → AreBelow (length first) x.kids
    node_kids formed =
        let s = step (Value x) is in
        let a = ap node_count s in let b = h.nodes in let c = some_node in let d = first_length in
        let f : AreFormed (Value x ∷ drop id es) (node - 1) = subst (λ z. AreFormed z (node - 1)) s (formed_drop j es 0 (node - 1) (omega (arith, a, b, c)) formed) in
        below_more (node - 1) (length first) x.kids (omega (arith, b, d)) f.0

    pub first_node : (new : List ℕ) → new ≡ lowered_kids (get_or first (node - 1) 0) x.kids first → AreFirst es j new (node - 1) root
    first_node new e =
        let s = step (Value x) is in
        let c = some_node in
        let n : node ≡ suc (node - 1) = omega (arith, c) in
        record {
          told = e ∙ ap (λ z. lowered_kids (get_or z (node - 1) 0) x.kids z) (h.told ∙ ap (λ z. first_roots (drop id es) z root) n) ∙ sym (ap (λ z. first_roots z (node - 1) root) s);
          nodes = let a = ap node_count s in let b = h.nodes in omega (arith, a, b, c);
          roots = let a = ap root_count s in let b = h.roots in omega (arith, a, b);
        }

  module _ (x : Parts) (is : slice_get es j ≡ Some (Root x)) where
    pub some_root : 1 ≤ root
    some_root = let a = ap root_count (step (Root x) is) in let b = h.roots in let c = fewer_roots j es in omega (arith, a, b, c)

    pub root_kids : AreFormed es 0 → AreBelow (length first) x.kids
    root_kids formed =
        let s = step (Root x) is in
        let a = ap node_count s in let b = h.nodes in let d = first_length in
        let f : AreFormed (Root x ∷ drop id es) node = subst (λ z. AreFormed z node) s (formed_drop j es 0 node (omega (arith, a, b)) formed) in
        below_more node (length first) x.kids (omega (arith, b, d)) f.0

    pub first_root : (new : List ℕ) → new ≡ lowered_kids (root - 1) x.kids first → AreFirst es j new node (root - 1)
    first_root new e =
        let s = step (Root x) is in
        let c = some_root in
        let n : root ≡ suc (root - 1) = omega (arith, c) in
        record {
          told = e ∙ ap (lowered_kids (root - 1) x.kids) (h.told ∙ ap (λ z. first_roots (drop id es) node z) n) ∙ sym (ap (λ z. first_roots z node (root - 1)) s);
          nodes = let a = ap node_count s in let b = h.nodes in omega (arith, a, b);
          roots = let a = ap root_count s in let b = h.roots in omega (arith, a, b, c);
        }
