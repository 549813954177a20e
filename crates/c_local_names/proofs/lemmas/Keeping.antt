-- The names of scopes where locals are counted, and what is known behind a part that declares no local: its names are those before,
-- and others that aren't locals'; and nothing else becomes a local.
use Rattle.std.proofs.Common.{◌≡◌, ◌⊎◌, ℕ, ◌<◌, ◌≤◌, false, List, [], ◌∷◌, ◌++◌, length, get_or, refl, sym, ap, subst, ◌∙◌, inl, inr, arith, le_trans, lt_of_lt_of_le}
use Rattle.std.specs.Prelude.{Option, Some, None}
use Rattle.std.proofs.lemmas.List.{length-set, get_or-set_other}
use Rattle.c_meaning.specs.Linkage.{count_name}
use Rattle.c_meaning.specs.State.{Known, State, declared, entered, known_at, left, nothing_known, place_here, place_of, replaced, with_link}
use Rattle.c_units.specs.Functions.{is_object_class}
use Rattle.c_fits.proofs.lemmas.Following.{pushed}
use Rattle.c_fits.proofs.lemmas.Lists.{last_below, longer, named_append, seam, set_related, some_id}
use Rattle.c_local_names.proofs.lemmas.Scopes.{Has, IsSome, Named, SomeHas, found_empty, found_same, has_append, named_other, place_named, some_push, some_pushed}

-- what stands under a name that isn't empty isn't what locals are counted by; where they aren't counted no name is empty
abbrev pub IsBeside : Option ℕ → List ℕ → ℕ → Type 0
IsBeside None name id = IsSome name
IsBeside (Some c) name id = IsSome name → id ≡ c → ⊥

-- locals are counted by this symbol, if they are
pub record Counted (o : Option ℕ) (s : State) : Type 0 where
  pub found : place_of s count_name ≡ o
  pub below : (name : List ℕ) (id : ℕ) → Named s name id → id < length s.symbols
  pub beside : (name : List ℕ) (id : ℕ) → Named s name id → IsBeside o name id
  pub links_below : (name : List ℕ) (id : ℕ) → Has s.links name id → id < length s.symbols
  pub links_beside : (name : List ℕ) (id : ℕ) → Has s.links name id → o ≡ Some id → ⊥
  pub linked : (name : List ℕ) (id : ℕ) → Has s.links name id → is_object_class (known_at s id).class ≡ false

-- a symbol stays as it is, or becomes no local's
abbrev pub Stays : Known → Known → Type 0
Stays old new = (new ≡ old) ⊎ (is_object_class new.class ≡ false)

-- so do all behind a part, and the scopes around it are the same
pub record Keeps (o : Option ℕ) (s u : State) : Type 0 where
  pub counted : Counted o u
  pub outer : u.outer ≡ s.outer
  pub symbols : length s.symbols ≤ length u.symbols
  pub known : (id : ℕ) → id < length s.symbols → Stays (known_at s id) (known_at u id)
  pub counter : (c : ℕ) → o ≡ Some c → known_at u c ≡ known_at s c

-- and the innermost scope has other names than locals' besides
pub record Adds (o : Option ℕ) (s u : State) : Type 0 where
  pub keeps : Keeps o s u
  pub inner : (name : List ℕ) (id : ℕ) → Has u.inner name id → Has s.inner name id ⊎ (is_object_class (known_at u id).class ≡ false)
  pub here : (name : List ℕ) (id : ℕ) → place_here s name ≡ Some id → place_here u name ≡ Some id

pub not_counter : (o : Option ℕ) (name : List ℕ) (id : ℕ) → IsBeside o name id → IsSome name → o ≡ Some id → ⊥
not_counter None name id b n e = cc
not_counter (Some c) name id b n e = b n (sym (some_id c id e))

pub counter_below : (o : Option ℕ) (s : State) (c : ℕ) → Counted o s → o ≡ Some c → c < length s.symbols
counter_below o s c h e = h.below count_name c (place_named s count_name c (h.found ∙ e))

pub other_stays : (old new : Known) → Stays old new → is_object_class old.class ≡ false → is_object_class new.class ≡ false
other_stays old new (inl e) h = ap (λ (k : Known). is_object_class k.class) e ∙ h
other_stays old new (inr h) k = h

stays_then : (x y z : Known) → Stays x y → Stays y z → Stays x z
stays_then x y z h (inr k) = inr k
stays_then x y z (inl e) (inl f) = inl (f ∙ e)
stays_then x y z (inr h) (inl f) = inr (ap (λ (k : Known). is_object_class k.class) f ∙ h)

-- ---- one behind the other

pub same_keeps : (o : Option ℕ) (s : State) → Counted o s → Keeps o s s
same_keeps o s h = record { counted = h; outer = refl; symbols = omega arith; known = λ id l. inl refl; counter = λ c e. refl }

pub same_adds : (o : Option ℕ) (s : State) → Counted o s → Adds o s s
same_adds o s h = record { keeps = same_keeps o s h; inner = λ name id k. inl k; here = λ name id e. e }

pub then_keeps : (o : Option ℕ) (s t u : State) → Keeps o s t → Keeps o t u → Keeps o s u
then_keeps o s t u f g =
    record {
      counted = g.counted;
      outer = g.outer ∙ f.outer;
      symbols = le_trans f.symbols g.symbols;
      known = λ id l. stays_then (known_at s id) (known_at t id) (known_at u id) (f.known id l) (g.known id (lt_of_lt_of_le l f.symbols));
      counter = λ c e. g.counter c e ∙ f.counter c e;
    }

pub then_adds : (o : Option ℕ) (s t u : State) → Adds o s t → Adds o t u → Adds o s u
then_adds o s t u f g =
    record {
      keeps = then_keeps o s t u f.keeps g.keeps;
      inner = λ name id k. by name id (g.inner name id k);
      here = λ name id e. g.here name id (f.here name id e);
    }
  where
    both : (name : List ℕ) (id : ℕ) → Has t.inner name id → Has s.inner name id ⊎ (is_object_class (known_at t id).class ≡ false) → Has s.inner name id ⊎ (is_object_class (known_at u id).class ≡ false)
    both name id k (inl h) = inl h
    both name id k (inr h) = inr (other_stays (known_at t id) (known_at u id) (g.keeps.known id (f.keeps.counted.below name id (inr k))) h)

    by : (name : List ℕ) (id : ℕ) → Has t.inner name id ⊎ (is_object_class (known_at u id).class ≡ false) → Has s.inner name id ⊎ (is_object_class (known_at u id).class ≡ false)
    by name id (inl k) = both name id k (f.inner name id k)
    by name id (inr h) = inr h

-- ---- a further name of the innermost scope

pub declared_counted : (o : Option ℕ) (s : State) (name : List ℕ) (k : Known) → Counted o s → IsSome name → Counted o (declared s name k)
declared_counted o s name k h n =
    record {
      found = found_same s.outer (s.inner ++ (name, length s.symbols) ∷ []) s.inner count_name (named_other s.inner (name, length s.symbols) count_name n) ∙ h.found;
      below = λ x id. below x id;
      beside = λ x id. beside x id;
      links_below = λ x id g. lt_of_lt_of_le (h.links_below x id g) (longer s.symbols k);
      links_beside = h.links_beside;
      linked = λ x id g. ap (λ (k : Known). is_object_class k.class) (pushed s.symbols k id (h.links_below x id g)) ∙ h.linked x id g;
    }
  where
    below_last : (x : List ℕ) (id : ℕ) → Has s.inner x id ⊎ ((name ≡ x) × (length s.symbols ≡ id)) → id < length (s.symbols ++ k ∷ [])
    below_last x id (inl g) = lt_of_lt_of_le (h.below x id (inr g)) (longer s.symbols k)
    below_last x id (inr e) = subst (λ i. i < length (s.symbols ++ k ∷ [])) e.1 (last_below s.symbols k)

    below : (x : List ℕ) (id : ℕ) → Named (declared s name k) x id → id < length (s.symbols ++ k ∷ [])
    below x id (inl g) = lt_of_lt_of_le (h.below x id (inl g)) (longer s.symbols k)
    below x id (inr g) = below_last x id (has_append s.inner (name, length s.symbols) x id g)

    fresh : (p : Option ℕ) → o ≡ p → IsBeside p name (length s.symbols)
    fresh None e = n
    fresh (Some c) e = λ m g. (let l = counter_below o s c h e in let no : ⊥ = omega (arith, l, g) in no)

    beside_last : (x : List ℕ) (id : ℕ) → Has s.inner x id ⊎ ((name ≡ x) × (length s.symbols ≡ id)) → IsBeside o x id
    beside_last x id (inl g) = h.beside x id (inr g)
    beside_last x id (inr e) = subst (IsBeside o x) e.1 (subst (λ x. IsBeside o x (length s.symbols)) e.0 (fresh o refl))

    beside : (x : List ℕ) (id : ℕ) → Named (declared s name k) x id → IsBeside o x id
    beside x id (inl g) = h.beside x id (inl g)
    beside x id (inr g) = beside_last x id (has_append s.inner (name, length s.symbols) x id g)

pub declared_keeps : (o : Option ℕ) (s : State) (name : List ℕ) (k : Known) → Counted o s → IsSome name → Keeps o s (declared s name k)
declared_keeps o s name k h n =
    record {
      counted = declared_counted o s name k h n;
      outer = refl;
      symbols = longer s.symbols k;
      known = λ id l. inl (pushed s.symbols k id l);
      counter = λ c e. pushed s.symbols k c (counter_below o s c h e);
    }

pub declared_adds : (o : Option ℕ) (s : State) (name : List ℕ) (k : Known) → Counted o s → IsSome name → is_object_class k.class ≡ false → Adds o s (declared s name k)
declared_adds o s name k h n e =
    record {
      keeps = declared_keeps o s name k h n;
      inner = λ x id g. by x id (has_append s.inner (name, length s.symbols) x id g);
      here = λ x id g. named_append s.inner (name, length s.symbols) x id g;
    }
  where
    by : (x : List ℕ) (id : ℕ) → Has s.inner x id ⊎ ((name ≡ x) × (length s.symbols ≡ id)) → Has s.inner x id ⊎ (is_object_class (known_at (declared s name k) id).class ≡ false)
    by x id (inl g) = inl g
    by x id (inr g) = inr (subst (λ i. is_object_class (known_at (declared s name k) i).class ≡ false) g.1 (ap (λ (k : Known). is_object_class k.class) (seam s.symbols k nothing_known) ∙ e))

-- ---- another meaning for a symbol

pub replaced_counted : (o : Option ℕ) (s : State) (id : ℕ) (k : Known) → Counted o s → (is_object_class (known_at s id).class ≡ false → is_object_class k.class ≡ false) → Counted o (replaced s id k)
replaced_counted o s id k h e =
    record {
      found = h.found;
      below = λ x i g. subst (λ n. i < n) (sym (length-set s.symbols id k)) (h.below x i g);
      beside = h.beside;
      links_below = λ x i g. subst (λ n. i < n) (sym (length-set s.symbols id k)) (h.links_below x i g);
      links_beside = h.links_beside;
      linked = λ x i g. set_related (λ (old new : Known). is_object_class old.class ≡ false → is_object_class new.class ≡ false) s.symbols id k nothing_known (λ y z. z) e i (h.linked x i g);
    }

pub replaced_adds : (o : Option ℕ) (s : State) (id : ℕ) (k : Known) → Counted o s → Stays (known_at s id) k → (o ≡ Some id → ⊥) → Adds o s (replaced s id k)
replaced_adds o s id k h e n =
    record {
      keeps =
          record {
            counted = replaced_counted o s id k h (other_stays (known_at s id) k e);
            outer = refl;
            symbols = let l = length-set s.symbols id k in omega (arith, l);
            known = λ i l. set_related Stays s.symbols id k nothing_known (λ x. inl refl) e i;
            counter = λ c g. get_or-set_other s.symbols id c k nothing_known (λ f. n (g ∙ ap Some f));
          };
      inner = λ x i g. inl g;
      here = λ x i g. g;
    }

-- ---- a further name with linkage

pub link_adds : (o : Option ℕ) (s : State) (name : List ℕ) (i : Option ℕ) (k : Known) → Counted o s → is_object_class k.class ≡ false → Adds o s (with_link s name i k)
link_adds o s name (Some id) k h e = same_adds o s h
link_adds o s name None k h e =
    record {
      keeps =
          record {
            counted =
                record {
                  found = h.found;
                  below = λ x id g. lt_of_lt_of_le (h.below x id g) (longer s.symbols k);
                  beside = h.beside;
                  links_below = λ x id g. below x id (has_append s.links (name, length s.symbols) x id g);
                  links_beside = λ x id g. beside x id (has_append s.links (name, length s.symbols) x id g);
                  linked = λ x id g. linked x id (has_append s.links (name, length s.symbols) x id g);
                };
            outer = refl;
            symbols = longer s.symbols k;
            known = λ id l. inl (pushed s.symbols k id l);
            counter = λ c g. pushed s.symbols k c (counter_below o s c h g);
          };
      inner = λ x id g. inl g;
      here = λ x id g. g;
    }
  where
    below : (x : List ℕ) (id : ℕ) → Has s.links x id ⊎ ((name ≡ x) × (length s.symbols ≡ id)) → id < length (s.symbols ++ k ∷ [])
    below x id (inl g) = lt_of_lt_of_le (h.links_below x id g) (longer s.symbols k)
    below x id (inr g) = subst (λ i. i < length (s.symbols ++ k ∷ [])) g.1 (last_below s.symbols k)

    beside : (x : List ℕ) (id : ℕ) → Has s.links x id ⊎ ((name ≡ x) × (length s.symbols ≡ id)) → o ≡ Some id → ⊥
    beside x id (inl g) e = h.links_beside x id g e
    beside x id (inr g) e = let l = counter_below o s id h e in let q = g.1 in let no : ⊥ = omega (arith, l, q) in no

    linked : (x : List ℕ) (id : ℕ) → Has s.links x id ⊎ ((name ≡ x) × (length s.symbols ≡ id)) → is_object_class (get_or (s.symbols ++ k ∷ []) id nothing_known).class ≡ false
    linked x id (inl g) = ap (λ (k : Known). is_object_class k.class) (pushed s.symbols k id (h.links_below x id g)) ∙ h.linked x id g
    linked x id (inr g) = subst (λ i. is_object_class (get_or (s.symbols ++ k ∷ []) i nothing_known).class ≡ false) g.1 (ap (λ (k : Known). is_object_class k.class) (seam s.symbols k nothing_known) ∙ e)

-- ---- scopes

pub entered_counted : (o : Option ℕ) (s : State) → Counted o s → Counted o (entered s)
entered_counted o s h =
    record {
      found = found_empty (s.outer ++ s.inner ∷ []) count_name ∙ h.found;
      below = λ x id g. h.below x id (before x id g);
      beside = λ x id g. h.beside x id (before x id g);
      links_below = h.links_below;
      links_beside = h.links_beside;
      linked = h.linked;
    }
  where
    before : (x : List ℕ) (id : ℕ) → Named (entered s) x id → Named s x id
    before x id (inl g) = some_push s.outer s.inner x id g
    before x id (inr g) = absurd g

-- the names of the scopes around are names inside
pub left_named : (s t : State) (x : List ℕ) (id : ℕ) → t.outer ≡ s.outer ++ s.inner ∷ [] → Named (left s.outer s.inner t) x id → Named t x id
left_named s t x id e g = inl (subst (λ ss. SomeHas ss x id) (sym e) (some_pushed s.outer s.inner x id g))

pub left_counted : (o : Option ℕ) (s t : State) → Counted o s → Counted o t → t.outer ≡ s.outer ++ s.inner ∷ [] → Counted o (left s.outer s.inner t)
left_counted o s t h k e =
    record {
      found = h.found;
      below = λ x id g. k.below x id (left_named s t x id e g);
      beside = λ x id g. k.beside x id (left_named s t x id e g);
      links_below = k.links_below;
      links_beside = k.links_beside;
      linked = k.linked;
    }

pub left_adds : (o : Option ℕ) (s t : State) → Counted o s → Keeps o (entered s) t → Adds o s (left s.outer s.inner t)
left_adds o s t h k =
    record {
      keeps =
          record {
            counted = left_counted o s t h k.counted k.outer;
            outer = refl;
            symbols = k.symbols;
            known = k.known;
            counter = k.counter;
          };
      inner = λ x id g. inl g;
      here = λ x id g. g;
    }
