-- The names that scopes have with their symbols, one by one, and which of them is in force.
use Rattle.std.proofs.Common.{◌≡◌, ◌⊎◌, ℕ, Bool, true, false, List, [], ◌∷◌, ◌++◌, refl, sym, ap, ◌∙◌, inl, inr}
use Rattle.std.specs.Prelude.{Option, Some, None, if◌then◌else◌}
use Rattle.std.specs.Str.{bytes_eq}
use Rattle.std.proofs.lemmas.Slice.Eq.{bytes_eq-Decides}
use Rattle.c_symbols.specs.Scoping.{found, or_else, symbol_named}
use Rattle.c_meaning.specs.State.{State, place_of}
use Rattle.c_fits.proofs.lemmas.Lists.{some_id}
use Rattle.c_tree_names.specs.Names.{IsName}

-- a scope has the name with this symbol
abbrev pub Has : List (List ℕ × ℕ) → List ℕ → ℕ → Type 0
Has [] name id = ⊥
Has (n ∷ ns) name id = ((n.0 ≡ name) × (n.1 ≡ id)) ⊎ Has ns name id

-- one of the scopes has it
abbrev pub SomeHas : List (List (List ℕ × ℕ)) → List ℕ → ℕ → Type 0
SomeHas [] name id = ⊥
SomeHas (s ∷ ss) name id = Has s name id ⊎ SomeHas ss name id

-- one of those where this is known, hidden or not
abbrev pub Named : State → List ℕ → ℕ → Type 0
Named s name id = SomeHas s.outer name id ⊎ Has s.inner name id

-- ---- one more name, one more scope

pub has_append : (ns : List (List ℕ × ℕ)) (m : List ℕ × ℕ) (name : List ℕ) (id : ℕ) → Has (ns ++ m ∷ []) name id → Has ns name id ⊎ ((m.0 ≡ name) × (m.1 ≡ id))
has_append [] m name id (inl e) = inr e
has_append [] m name id (inr e) = absurd e
has_append (n ∷ ns) m name id (inl e) = inl (inl e)
has_append (n ∷ ns) m name id (inr h) = by (has_append ns m name id h)
  where
    by : Has ns name id ⊎ ((m.0 ≡ name) × (m.1 ≡ id)) → Has (n ∷ ns) name id ⊎ ((m.0 ≡ name) × (m.1 ≡ id))
    by (inl k) = inl (inr k)
    by (inr e) = inr e

pub some_push : (ss : List (List (List ℕ × ℕ))) (s : List (List ℕ × ℕ)) (name : List ℕ) (id : ℕ) → SomeHas (ss ++ s ∷ []) name id → SomeHas ss name id ⊎ Has s name id
some_push [] s name id (inl h) = inr h
some_push [] s name id (inr h) = absurd h
some_push (x ∷ ss) s name id (inl h) = inl (inl h)
some_push (x ∷ ss) s name id (inr h) = by (some_push ss s name id h)
  where
    by : SomeHas ss name id ⊎ Has s name id → SomeHas (x ∷ ss) name id ⊎ Has s name id
    by (inl k) = inl (inr k)
    by (inr k) = inr k

pub some_pushed : (ss : List (List (List ℕ × ℕ))) (s : List (List ℕ × ℕ)) (name : List ℕ) (id : ℕ) → SomeHas ss name id ⊎ Has s name id → SomeHas (ss ++ s ∷ []) name id
some_pushed [] s name id (inl h) = absurd h
some_pushed [] s name id (inr h) = inl h
some_pushed (x ∷ ss) s name id (inl (inl h)) = inl h
some_pushed (x ∷ ss) s name id (inl (inr h)) = inr (some_pushed ss s name id (inl h))
some_pushed (x ∷ ss) s name id (inr h) = inr (some_pushed ss s name id (inr h))

-- ---- names in force

pub named_has : (ns : List (List ℕ × ℕ)) (name : List ℕ) (id : ℕ) → symbol_named ns name ≡ Some id → Has ns name id
named_has [] name id e = absurd (let none : ⊥ = cc in none)
named_has (m ∷ ms) name id e = by (bytes_eq name m.0) refl e (named_has ms name id)
  where
    by : (b : Bool) → bytes_eq name m.0 ≡ b → (if b then Some m.1 else symbol_named ms name) ≡ Some id → (symbol_named ms name ≡ Some id → Has ms name id) → Has (m ∷ ms) name id
    by true g e k = inl (sym ((bytes_eq-Decides name m.0).0 g), some_id m.1 id e)
    by false g e k = inr (k e)

pub found_has : (ss : List (List (List ℕ × ℕ))) (name : List ℕ) (id : ℕ) → found ss name ≡ Some id → SomeHas ss name id
found_has [] name id e = absurd (let none : ⊥ = cc in none)
found_has (s ∷ ss) name id e = by (found ss name) refl e (found_has ss name id)
  where
    by : (o : Option ℕ) → found ss name ≡ o → or_else o (symbol_named s name) ≡ Some id → (found ss name ≡ Some id → SomeHas ss name id) → SomeHas (s ∷ ss) name id
    by (Some i) g e k = inr (k (g ∙ e))
    by None g e k = inl (named_has s name id e)

pub place_named : (s : State) (name : List ℕ) (id : ℕ) → place_of s name ≡ Some id → Named s name id
place_named s name id e = some_push s.outer s.inner name id (found_has (s.outer ++ s.inner ∷ []) name id e)

-- another name behind those of a scope
pub named_other : (ns : List (List ℕ × ℕ)) (m : List ℕ × ℕ) (name : List ℕ) → bytes_eq name m.0 ≡ false → symbol_named (ns ++ m ∷ []) name ≡ symbol_named ns name
named_other [] m name e = rw e
named_other (n ∷ ns) m name e = ap (λ o. if bytes_eq name n.0 then Some n.1 else o) (named_other ns m name e)

pub found_same : (ss : List (List (List ℕ × ℕ))) (s t : List (List ℕ × ℕ)) (name : List ℕ) → symbol_named s name ≡ symbol_named t name → found (ss ++ s ∷ []) name ≡ found (ss ++ t ∷ []) name
found_same [] s t name e = ap (or_else None) e
found_same (x ∷ ss) s t name e = ap (λ o. or_else o (symbol_named x name)) (found_same ss s t name e)

-- an empty scope, and one that lacks the name
pub found_empty : (ss : List (List (List ℕ × ℕ))) (name : List ℕ) → found (ss ++ [] ∷ []) name ≡ found ss name
found_empty [] name = refl
found_empty (x ∷ ss) name = ap (λ o. or_else o (symbol_named x name)) (found_empty ss name)

pub named_none : (ns : List (List ℕ × ℕ)) (name : List ℕ) → ((id : ℕ) → Has ns name id → ⊥) → symbol_named ns name ≡ None
named_none ns name h = by (symbol_named ns name) refl
  where
    by : (o : Option ℕ) → symbol_named ns name ≡ o → o ≡ None
    by None e = refl
    by (Some id) e = absurd (h id (named_has ns name id e))

-- ---- names that aren't empty

abbrev pub IsSome : List ℕ → Type 0
IsSome name = bytes_eq [] name ≡ false

pub name_some : (name : List ℕ) → IsName name → IsSome name
name_some [] h = absurd (let none : ⊥ = cc in none)
name_some (b ∷ bs) h = refl
