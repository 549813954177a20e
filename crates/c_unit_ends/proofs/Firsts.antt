-- What symbols stand for, list behind list: the first that is there.
use Rattle.std.proofs.Common.{◌≡◌, ℕ, suc, ◌+◌, ◌<◌, ◌≤◌, Bool, true, false, List, [], ◌∷◌, ◌++◌, length, get_or, set, drop, map, refl, sym, ap, ◌∙◌, arith}
use Rattle.std.specs.Prelude.{◌==◌, Option, Some, None, if◌then◌else◌}
use Rattle.std.proofs.lemmas.Bool.{eqb-true, eqb-false}
use Rattle.std.proofs.lemmas.List.{at_drop_all, at_drop_more, get_or-set_other, get_or-set_same}
use Rattle.c_meaning.specs.declared.built_in.BuiltIn.{BuiltIn}
use Rattle.c_units.specs.Ends.{built_in_named, name_of}
use Rattle.c_standings.specs.declared.Standing.{Standing}
use Rattle.c_standings.specs.StandingLists.{of_symbol}
use Rattle.c_unit_ends.specs.Standing.{alone, by_name, first_of, named_among, placed_from}

pub first_none : (x : Option Standing) → first_of x None ≡ x
first_none None = refl
first_none (Some y) = refl

pub first_assoc : (x y z : Option Standing) → first_of (first_of x y) z ≡ first_of x (first_of y z)
first_assoc None y z = refl
first_assoc (Some x) y z = refl

-- ---- one more

pub of_symbol_push : (xs : List (ℕ × Standing)) (id : ℕ) (s : Standing) (k : ℕ) → of_symbol (xs ++ (id, s) ∷ []) k ≡ first_of (of_symbol xs k) (alone id (Some s) k)
of_symbol_push [] id s k = refl
of_symbol_push (x ∷ xs) id s k = by (x.0 == k) (of_symbol (xs ++ (id, s) ∷ []) k) (of_symbol xs k) (alone id (Some s) k) (of_symbol_push xs id s k)
  where
    by : (b : Bool) (r t v : Option Standing) → r ≡ first_of t v → (if b then Some x.1 else r) ≡ first_of (if b then Some x.1 else t) v
    by true r t v h = refl
    by false r t v h = h

pub stands_already : (xs : List (ℕ × Standing)) (id : ℕ) (s x : Standing) → of_symbol xs id ≡ Some x → (k : ℕ) → of_symbol xs k ≡ first_of (of_symbol xs k) (alone id (Some s) k)
stands_already xs id s x h k = by (id == k) (of_symbol xs k) (λ e. ap (of_symbol xs) (sym (eqb-true id k e)) ∙ h)
  where
    by : (b : Bool) (o : Option Standing) → (b ≡ true → o ≡ Some x) → o ≡ first_of o (if b then Some s else None)
    by true o e = rw (e refl) refl
    by false o e = sym (first_none o)

pub stands_new : (xs new : List (ℕ × Standing)) (id : ℕ) (s : Standing) → new ≡ xs ++ (id, s) ∷ [] → (k : ℕ) → of_symbol new k ≡ first_of (of_symbol xs k) (alone id (Some s) k)
stands_new xs new id s e k = ap (λ es. of_symbol es k) e ∙ of_symbol_push xs id s k

pub stands_none : (xs : List (ℕ × Standing)) (id k : ℕ) → of_symbol xs k ≡ first_of (of_symbol xs k) (alone id None k)
stands_none xs id k = by (id == k) (of_symbol xs k)
  where
    by : (b : Bool) (o : Option Standing) → o ≡ first_of o (if b then None else None)
    by true o = sym (first_none o)
    by false o = sym (first_none o)

-- ---- places in order

placed_step : (stands : ℕ → Standing) (i id k : ℕ) (rest : List ℕ) → first_of (alone id (Some (stands i)) k) (placed_from stands (suc i) rest k) ≡ placed_from stands i (id ∷ rest) k
placed_step stands i id k rest = by (id == k) (placed_from stands (suc i) rest k)
  where
    by : (b : Bool) (o : Option Standing) → first_of (if b then Some (stands i) else None) o ≡ (if b then Some (stands i) else o)
    by true o = refl
    by false o = refl

pub placed_more : {A : Type 0} (symbol : A → ℕ) (stands : ℕ → Standing) (xs new : List (ℕ × Standing)) (ys : List A) (i n : ℕ) (d : A) → i < length ys → n ≡ i
    → ((k : ℕ) → of_symbol new k ≡ first_of (of_symbol xs k) (alone (symbol (get_or ys i d)) (Some (stands n)) k))
    → (k : ℕ) → first_of (of_symbol new k) (placed_from stands (i + 1) (map symbol (drop (i + 1) ys)) k) ≡ first_of (of_symbol xs k) (placed_from stands i (map symbol (drop i ys)) k)
placed_more {A} symbol stands xs new ys i n d l g h k =
    let id = symbol (get_or ys i d) in
    let rest = map symbol (drop (i + 1) ys) in
    let next : i + 1 ≡ suc i = omega arith in
    ap (λ o. first_of o (placed_from stands (i + 1) rest k)) (h k) ∙ first_assoc (of_symbol xs k) (alone id (Some (stands n)) k) (placed_from stands (i + 1) rest k)
    ∙ ap (λ (m : ℕ). first_of (of_symbol xs k) (first_of (alone id (Some (stands m)) k) (placed_from stands (i + 1) rest k))) g
    ∙ ap (λ (j : ℕ). first_of (of_symbol xs k) (first_of (alone id (Some (stands i)) k) (placed_from stands j rest k))) next
    ∙ ap (first_of (of_symbol xs k)) (placed_step stands i id k rest)
    ∙ ap (first_of (of_symbol xs k)) (sym (at_drop_more (λ (zs : List A). placed_from stands i (map symbol zs) k) ys i d l))

pub placed_all : {A : Type 0} (symbol : A → ℕ) (stands : ℕ → Standing) (xs : List (ℕ × Standing)) (ys : List A) (i j k : ℕ) → length ys ≤ i → of_symbol xs k ≡ first_of (of_symbol xs k) (placed_from stands j (map symbol (drop i ys)) k)
placed_all {A} symbol stands xs ys i j k l = sym (ap (first_of (of_symbol xs k)) (at_drop_all (λ (zs : List A). placed_from stands j (map symbol zs) k) ys i l) ∙ first_none (of_symbol xs k))

-- ---- names, each symbol's first one

abbrev pub unless : Bool → Option Standing → Option Standing
unless true x = None
unless false x = x

pub unless_none : (b : Bool) → unless b None ≡ None
unless_none true = refl
unless_none false = refl

module _ (xs : List (ℕ × Standing)) (named : List Bool) (ns : List (List ℕ × ℕ)) (n : List ℕ × ℕ) where
  -- the symbol had a name before
  pub named_before : get_or named n.1 false ≡ true → (k : ℕ) → first_of (of_symbol xs k) (unless (get_or named k false) (named_among ns k)) ≡ first_of (of_symbol xs k) (unless (get_or named k false) (named_among (n ∷ ns) k))
  named_before h k = ap (first_of (of_symbol xs k)) (by (n.1 == k) (get_or named k false) (λ e. ap (λ (j : ℕ). get_or named j false) (sym (eqb-true n.1 k e)) ∙ h))
    where
      by : (b d : Bool) → (b ≡ true → d ≡ true) → unless d (named_among ns k) ≡ unless d (by_name (built_in_named (if b then n.0 else name_of ns k)))
      by true d e = rw (e refl) refl
      by false d e = refl

  -- this is its first one
  module _ (new : List (ℕ × Standing)) (b : Option BuiltIn) (l : n.1 < length named) (h : get_or named n.1 false ≡ false) (e : b ≡ built_in_named n.0) (g : (k : ℕ) → of_symbol new k ≡ first_of (of_symbol xs k) (alone n.1 (by_name b) k)) where
    pub named_first : (k : ℕ) → first_of (of_symbol new k) (unless (get_or (set named n.1 true) k false) (named_among ns k)) ≡ first_of (of_symbol xs k) (unless (get_or named k false) (named_among (n ∷ ns) k))
    named_first k =
        ap (λ o. first_of o (unless (get_or (set named n.1 true) k false) (named_among ns k))) (g k) ∙ first_assoc (of_symbol xs k) (alone n.1 (by_name b) k) _
        ∙ ap (first_of (of_symbol xs k)) (by (n.1 == k) (get_or (set named n.1 true) k false) (get_or named k false) (λ i. same (eqb-true n.1 k i)) (λ i. get_or-set_other named n.1 k true false (λ j. eqb-false n.1 k i (sym j))))
      where
        same : n.1 ≡ k → (get_or (set named n.1 true) k false ≡ true) × (get_or named k false ≡ false)
        same i = (ap (λ (j : ℕ). get_or (set named n.1 true) j false) (sym i) ∙ get_or-set_same named n.1 true false l, ap (λ (j : ℕ). get_or named j false) (sym i) ∙ h)

        by : (c d f : Bool) → (c ≡ true → (d ≡ true) × (f ≡ false)) → (c ≡ false → d ≡ f)
            → first_of (if c then by_name b else None) (unless d (named_among ns k)) ≡ unless f (by_name (built_in_named (if c then n.0 else name_of ns k)))
        by true d f i j = ap (λ x. first_of (by_name b) (unless x (named_among ns k))) (i refl).0 ∙ first_none (by_name b) ∙ ap by_name e ∙ ap (λ x. unless x (by_name (built_in_named n.0))) (sym (i refl).1)
        by false d f i j = ap (λ x. unless x (named_among ns k)) (j refl)
