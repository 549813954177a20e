-- How many nodes and roots there are.
use Rattle.std.proofs.Common.{◌≡◌, ℕ, zero, suc, ◌+◌, ◌≤◌, Some, List, [], ◌∷◌, length, drop, slice_get, ap, ◌∙◌, arith, subst}
use Rattle.dag_forest.specs.declared.entry.Entry.{Entry}
use Rattle.dag_forest.specs.declared.entry.Entry.TheVariants.{Value, Root}
use Rattle.dag_forest.specs.Releases.{root_count}
use Rattle.dag_forest.specs.Tally.{AreFormed, node_count}

pub drop_get : {X : Type 0} (xs : List X) (i : ℕ) (x : X) → slice_get xs i ≡ Some x → drop i xs ≡ x ∷ drop (i + 1) xs
drop_get [] i x e = let no : ⊥ = cc in absurd no
drop_get (y ∷ ys) zero x e = let q : y ≡ x = cc in ap (λ z. z ∷ ys) q
drop_get (y ∷ ys) (suc i) x e = drop_get ys i x e ∙ ap (λ k. x ∷ drop k (y ∷ ys)) (let z : suc (i + 1) ≡ suc i + 1 = omega arith in z)

pub count_cons : (e : Entry) (es : List Entry) → node_count (e ∷ es) ≡ node_count (e ∷ []) + node_count es
count_cons (Value x) es = omega arith
count_cons (Root x) es = omega arith

pub node_or_root : (es : List Entry) → node_count es + root_count es ≡ length es
node_or_root [] = omega arith
node_or_root (Value x ∷ es) = let h = node_or_root es in omega (arith, h)
node_or_root (Root x ∷ es) = let h = node_or_root es in omega (arith, h)

pub fewer_nodes : (i : ℕ) (es : List Entry) → node_count (drop i es) ≤ node_count es
fewer_nodes zero es = omega arith
fewer_nodes (suc i) [] = omega arith
fewer_nodes (suc i) (Value x ∷ es) = let h = fewer_nodes i es in omega (arith, h)
fewer_nodes (suc i) (Root x ∷ es) = let h = fewer_nodes i es in omega (arith, h)

pub fewer_roots : (i : ℕ) (es : List Entry) → root_count (drop i es) ≤ root_count es
fewer_roots zero es = omega arith
fewer_roots (suc i) [] = omega arith
fewer_roots (suc i) (Value x ∷ es) = let h = fewer_roots i es in omega (arith, h)
fewer_roots (suc i) (Root x ∷ es) = let h = fewer_roots i es in omega (arith, h)

-- the entries behind the first ones are formed where so many nodes stand before
pub formed_drop : (i : ℕ) (es : List Entry) (n k : ℕ) → k + node_count (drop i es) ≡ n + node_count es → AreFormed es n → AreFormed (drop i es) k
formed_drop zero es n k e h = let q : n ≡ k = omega (arith, e) in subst (λ z. AreFormed es z) q h
formed_drop (suc i) [] n k e h = tt
formed_drop (suc i) (Value x ∷ es) n k e h = let q : k + node_count (drop i es) ≡ suc n + node_count es = omega (arith, e) in formed_drop i es (suc n) k q h.1
formed_drop (suc i) (Root x ∷ es) n k e h = formed_drop i es n k e h.1
