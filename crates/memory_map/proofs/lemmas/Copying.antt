-- A block is copied part by part: changes one behind the other are one change.
use Rattle.std.proofs.Common.{◌≡◌, ◌⊎◌, inl, inr, ℕ, ◌+◌, ◌<◌, ◌≤◌, ◌++◌, length, Some, ap, ◌∙◌, arith, length-append}
use Rattle.std.proofs.lemmas.Option.{slice_get_within}
use Rattle.memory_map.specs.Blocks.{ChangesJoin, ApartStands}
use Rattle.memory_map.proofs.lemmas.New.{Either, either}

pub changed_twice : ChangesJoin
changed_twice m0 m1 m2 at next vs ws is a b = record {
  inside = λ k v e. inside k v (either vs ws k v e);
  outside = λ x o. outside x o;
}
  where
    inside : (k v : ℕ) → Either vs ws k v → m2 (at + k) ≡ Some v
    inside k v (inl e) = let l = e.0 in b.outside (at + k) (inl (omega (arith, l, is))) ∙ a.inside k v e.1
    inside k v (inr r) = let q = r.1 in let p : at + k ≡ next + r.0 = omega (arith, q, is) in ap m2 p ∙ b.inside r.0 v r.2

    outside : (x : ℕ) → (x < at) ⊎ (at + length (vs ++ ws) ≤ x) → m2 x ≡ m0 x
    outside x (inl l) = b.outside x (inl (omega (arith, l, is))) ∙ a.outside x (inl l)
    outside x (inr l) = let e = length-append vs ws in b.outside x (inr (omega (arith, l, is, e))) ∙ a.outside x (inr (omega (arith, l, e)))

-- bytes that are read from apart of the change are there still
pub stands_off : ApartStands
stands_off m0 m1 at from vs us c o s k u e = c.outside (from + k) (off o) ∙ s k u e
  where
    off : (from + length us ≤ at) ⊎ (at + length vs ≤ from) → (from + k < at) ⊎ (at + length vs ≤ from + k)
    off (inl l) = inl (let i = slice_get_within us k u e in omega (arith, l, i))
    off (inr l) = inr (omega (arith, l))
