-- A function's body begins in the scope of its parameters, which are its first locals.
use Rattle.std.proofs.Common.{◌≡◌, ◌⊎◌, ℕ, ◌<◌, ◌≤◌, List, [], ◌∷◌, ◌++◌, length, get_or, refl, sym, ap, subst, ◌∙◌, inl, inr, arith, lt_of_lt_of_le}
use Rattle.std.specs.Prelude.{pos, Some, None}
use Rattle.c_symbols.specs.Scoping.{found, or_else, symbol_named}
use Rattle.c_types.specs.CType.{CType}
use Rattle.c_fits.proofs.lemmas.Booleans.{never}
use Rattle.c_fits.proofs.lemmas.Following.{pushed}
use Rattle.c_fits.proofs.lemmas.Lists.{last_below, longer, named_last, seam}
use Rattle.c_meaning.specs.Linkage.{count_known, count_name, counted_at, with_count}
use Rattle.c_meaning.specs.State.{Known, State, declared, known_at, left, level_of, nothing_known}
use Rattle.c_units.specs.Functions.{is_object_class, reopened}
use Rattle.c_local_names.proofs.lemmas.Keeping.{Counted, Keeps, left_named, other_stays}
use Rattle.c_local_names.proofs.lemmas.Knowing.{IsPlaced, Knows, none_placed, other_placed}
use Rattle.c_local_names.proofs.lemmas.Naming.{SameOthers}
use Rattle.c_local_names.proofs.lemmas.Parameters.{InnerPlaced, IsScope}
use Rattle.c_local_names.proofs.lemmas.Scopes.{Has, IsSome, Named, SomeHas, found_empty, found_same, has_append, named_none, some_push}

-- ---- the scope, reopened

pub reopened_counted : (s : State) (locals : List CType) (scope : List (List ℕ × ℕ)) → Counted None s → IsScope s locals scope → Counted None (reopened s scope)
reopened_counted s locals scope c h =
    record {
      found = found_same (s.outer ++ s.inner ∷ []) scope [] count_name (named_none scope count_name (λ id k. let a = h count_name id k in never (a.1))) ∙ (found_empty (s.outer ++ s.inner ∷ []) count_name ∙ c.found);
      below = λ x id k. below x id k;
      beside = λ x id k. beside x id k;
      links_below = c.links_below;
      links_beside = λ x id k e. absurd (let none : ⊥ = cc in none);
      linked = c.linked;
    }
  where
    below : (x : List ℕ) (id : ℕ) → Named (reopened s scope) x id → id < length s.symbols
    below x id (inl k) = c.below x id (some_push s.outer s.inner x id k)
    below x id (inr k) = (h x id k).0

    beside : (x : List ℕ) (id : ℕ) → Named (reopened s scope) x id → IsSome x
    beside x id (inl k) = c.beside x id (some_push s.outer s.inner x id k)
    beside x id (inr k) = (h x id k).1

-- what is known in it, behind what stands before the body
pub scope_knows : (locals : List CType) (s r u : State) → Knows None [] s → r.outer ≡ s.outer ++ s.inner ∷ [] → r.symbols ≡ s.symbols → Keeps None r u → InnerPlaced locals u → Knows None locals u
scope_knows locals s r u h e g f p =
    record {
      counted = f.counted;
      placed = λ name id k. by name id k;
      count = λ c q. absurd (let none : ⊥ = cc in none);
    }
  where
    old : (name : List ℕ) (id : ℕ) → Named s name id → IsPlaced locals (known_at u id)
    old name id k =
        let same : known_at r id ≡ known_at s id = ap (λ (ks : List Known). get_or ks id nothing_known) g in
        let l : id < length r.symbols = subst (λ (ks : List Known). id < length ks) (sym g) (h.counted.below name id k) in
        other_placed locals (known_at u id) (other_stays (known_at r id) (known_at u id) (f.known id l) (ap (λ (k : Known). is_object_class k.class) same ∙ none_placed (known_at s id) (h.placed name id k)))

    by : (name : List ℕ) (id : ℕ) → Named u name id → IsPlaced locals (known_at u id)
    by name id (inl k) = old name id (some_push s.outer s.inner name id (subst (λ ss. SomeHas ss name id) (f.outer ∙ e) k))
    by name id (inr k) = p name id k

-- ---- the count

found_inner : (ss : List (List (List ℕ × ℕ))) (t : List (List ℕ × ℕ)) (name : List ℕ) (id : ℕ) → symbol_named t name ≡ Some id → found (ss ++ t ∷ []) name ≡ Some id
found_inner [] t name id e = ap (or_else None) e
found_inner (x ∷ ss) t name id e = ap (λ o. or_else o (symbol_named x name)) (found_inner ss t name id e)

pub record Starts (locals : List CType) (s u : State) : Type 0 where
  pub counter : ℕ
  pub knows : Knows (Some counter) locals u
  pub outer : u.outer ≡ s.outer
  pub symbols : length s.symbols ≤ length u.symbols
  pub others : SameOthers s u

count_starts : (locals : List CType) (s : State) (k : Known) → k ≡ count_known (level_of s) (length locals) → Knows None locals s → Starts locals s (declared s count_name k)
count_starts locals s k e h =
    record {
      counter = length s.symbols;
      knows =
          record {
            counted =
                record {
                  found = found_inner s.outer (s.inner ++ (count_name, length s.symbols) ∷ []) count_name (length s.symbols) last;
                  below = λ x id q. below x id q;
                  beside = λ x id q. beside x id q;
                  links_below = λ x id q. lt_of_lt_of_le (h.counted.links_below x id q) (longer s.symbols k);
                  links_beside = λ x id q g. let l = h.counted.links_below x id q in apart id l (some g);
                  linked = λ x id q. ap (λ (k : Known). is_object_class k.class) (pushed s.symbols k id (h.counted.links_below x id q)) ∙ h.counted.linked x id q;
                };
            placed = λ x id q. placed x id q;
            count = λ d g. subst (λ i. (known_at (declared s count_name k) i).value ≡ Some (pos (length locals))) (some g) (ap (λ (k : Known). k.value) (seam s.symbols k nothing_known ∙ e));
          };
      outer = refl;
      symbols = longer s.symbols k;
      others = λ id l q. ap (λ (k : Known). is_object_class k.class) (pushed s.symbols k id l) ∙ q;
    }
  where
    some : {d : ℕ} → Some (length s.symbols) ≡ Some d → length s.symbols ≡ d
    some g = cc

    apart : (id : ℕ) → id < length s.symbols → length s.symbols ≡ id → ⊥
    apart id l g = let no : ⊥ = omega (arith, l, g) in no

    last : symbol_named (s.inner ++ (count_name, length s.symbols) ∷ []) count_name ≡ Some (length s.symbols)
    last = named_last s.inner count_name (length s.symbols) (named_none s.inner count_name (λ id q. never (h.counted.beside count_name id (inr q))))

    behind : (x : List ℕ) (id : ℕ) → Named (declared s count_name k) x id → Named s x id ⊎ ((count_name ≡ x) × (length s.symbols ≡ id))
    behind x id (inl q) = inl (inl q)
    behind x id (inr q) = by (has_append s.inner (count_name, length s.symbols) x id q)
      where
        by : Has s.inner x id ⊎ ((count_name ≡ x) × (length s.symbols ≡ id)) → Named s x id ⊎ ((count_name ≡ x) × (length s.symbols ≡ id))
        by (inl g) = inl (inr g)
        by (inr g) = inr g

    below_by : (x : List ℕ) (id : ℕ) → Named s x id ⊎ ((count_name ≡ x) × (length s.symbols ≡ id)) → id < length (s.symbols ++ k ∷ [])
    below_by x id (inl q) = lt_of_lt_of_le (h.counted.below x id q) (longer s.symbols k)
    below_by x id (inr q) = subst (λ i. i < length (s.symbols ++ k ∷ [])) q.1 (last_below s.symbols k)

    below : (x : List ℕ) (id : ℕ) → Named (declared s count_name k) x id → id < length (s.symbols ++ k ∷ [])
    below x id q = below_by x id (behind x id q)

    beside_by : (x : List ℕ) (id : ℕ) → Named s x id ⊎ ((count_name ≡ x) × (length s.symbols ≡ id)) → IsSome x → id ≡ length s.symbols → ⊥
    beside_by x id (inl q) n g = apart id (h.counted.below x id q) (sym g)
    beside_by x id (inr q) n g = never (subst IsSome (sym q.0) n)

    beside : (x : List ℕ) (id : ℕ) → Named (declared s count_name k) x id → IsSome x → id ≡ length s.symbols → ⊥
    beside x id q = beside_by x id (behind x id q)

    placed_by : (x : List ℕ) (id : ℕ) → Named s x id ⊎ ((count_name ≡ x) × (length s.symbols ≡ id)) → IsPlaced locals (known_at (declared s count_name k) id)
    placed_by x id (inl q) = subst (IsPlaced locals) (sym (pushed s.symbols k id (h.counted.below x id q))) (h.placed x id q)
    placed_by x id (inr q) = subst (λ i. IsPlaced locals (known_at (declared s count_name k) i)) q.1 (subst (IsPlaced locals) (sym (seam s.symbols k nothing_known ∙ e)) tt)

    placed : (x : List ℕ) (id : ℕ) → Named (declared s count_name k) x id → IsPlaced locals (known_at (declared s count_name k) id)
    placed x id q = placed_by x id (behind x id q)

pub body_starts : (locals : List CType) (s : State) → Knows None locals s → Starts locals s (with_count s (length locals))
body_starts locals s h = subst (λ o. Starts locals s (counted_at s (length locals) o)) (sym h.counted.found) (count_starts locals s (count_known (level_of s) (length locals)) refl h)

-- ---- behind the body

-- what is known outside is as it was, but for what isn't a local's
pub outside_knows : (c : ℕ) (all : List CType) (s r t : State) → Knows None [] s → r.symbols ≡ s.symbols → length r.symbols ≤ length t.symbols → SameOthers r t → Knows (Some c) all t → t.outer ≡ s.outer ++ s.inner ∷ [] → Knows None [] (left s.outer s.inner t)
outside_knows c all s r t h g l o k e =
    record {
      counted =
          record {
            found = h.counted.found;
            below = λ x id q. k.counted.below x id (left_named s t x id e q);
            beside = h.counted.beside;
            links_below = k.counted.links_below;
            links_beside = λ x id q n. absurd (let none : ⊥ = cc in none);
            linked = k.counted.linked;
          };
      placed = λ x id q. other_placed [] (known_at t id) (o id (subst (λ (ks : List Known). id < length ks) (sym g) (h.counted.below x id q)) (ap (λ (ks : List Known). is_object_class (get_or ks id nothing_known).class) g ∙ none_placed (known_at s id) (h.placed x id q)));
      count = λ d q. absurd (let none : ⊥ = cc in none);
    }
