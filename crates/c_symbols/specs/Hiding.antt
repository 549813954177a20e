-- What the names of open scopes hide, and the meanings when it is given back.
use Rattle.std.proofs.Common.{refl}
use Rattle.std.specs.Prelude.{◌≡◌, codes, ℕ, ◌<◌, List, [], ◌∷◌, ◌++◌, length, map, Option, Some, None}
use Rattle.std.specs.List.{AllByRecursion}
use Rattle.indexmap.specs.Layout.{set_value_at}
use Rattle.c_symbols.specs.declared.hidden.Hidden.{Hidden}
use Rattle.c_symbols.specs.declared.open.Open.{Open}
use Rattle.c_symbols.specs.declared.symbol.Symbol.{Symbol}
use Rattle.c_symbols.specs.Meanings.{Meant, meaning, IsAt}
use Rattle.c_symbols.specs.Scoping.{IsDeclared, Scoping, found}

-- each name has the place of what it hides, which is what the name meant before
abbrev pub Hide : Meant → (List ℕ → Option ℕ) → List (List ℕ × ℕ) → List Hidden → Type 0
Hide meant before [] [] = Unit {0}
Hide meant before [] (h ∷ hs) = ⊥
Hide meant before (n ∷ ns) [] = ⊥
Hide meant before (n ∷ ns) (h ∷ hs) = (IsAt meant n.0 h.place × (h.before ≡ before n.0)) × Hide meant before ns hs

-- in each scope, what the scopes around it made of the name
abbrev pub HideBehind : Meant → List (List (List ℕ × ℕ)) → List Open → Type 0
HideBehind meant around [] = Unit {0}
HideBehind meant around (o ∷ os) = Hide meant (found around) o.names o.hidden.items × HideBehind meant (around ++ o.names ∷ []) os

abbrev pub names_of : List Open → List (List (List ℕ × ℕ))
names_of os = map (λ o. o.names) os

abbrev pub scoping : List Open → Open → List (List ℕ × ℕ) → List Symbol → Scoping
scoping outer inner links symbols = record { outer = names_of outer; inner = inner.names; links = links; symbols = symbols }

-- what the scopes keep: each name means what its innermost declaration made it, and what that hides is kept
pub record AreKept (meant : Meant) (outer : List Open) (inner : Open) (links : List (List ℕ × ℕ)) (symbols : List Symbol) : Type 0 where
  pub declared : IsDeclared (scoping outer inner links symbols)
  pub newest : (name : List ℕ) → meaning meant name ≡ found (names_of outer ++ inner.names ∷ []) name
  pub of_outer : HideBehind meant [] outer
  pub of_inner : Hide meant (found (names_of outer)) inner.names inner.hidden.items

-- ---- a scope begins, or ends

abbrev pub HavePlaces : Meant → List Hidden → Type 0
HavePlaces meant hs = AllByRecursion (λ h. h.place < length meant) hs

-- each name has its symbol, the first of them last
abbrev pub bound : Meant → List (List ℕ × ℕ) → List Hidden → Meant
bound meant [] hs = meant
bound meant (n ∷ ns) [] = meant
bound meant (n ∷ ns) (h ∷ hs) = set_value_at (bound meant ns hs) h.place (Some n.1)

-- what was hidden is in force
abbrev pub restored : Meant → List Hidden → Meant
restored meant [] = meant
restored meant (h ∷ hs) = restored (set_value_at meant h.place h.before) hs

-- ---- examples: the inner x hides the outer one, and no other

abbrev hidden_at : ℕ → Option ℕ → Hidden
hidden_at place before = record { place = place; before = before }

inner_hides : Hide ((codes "x", Some 1) ∷ []) (found (((codes "x", 0) ∷ []) ∷ [])) ((codes "x", 1) ∷ []) (hidden_at 0 (Some 0) ∷ [])
inner_hides = ((refl, refl), tt)

hides_no_other : Hide ((codes "x", Some 1) ∷ []) (found (((codes "x", 0) ∷ []) ∷ [])) ((codes "x", 1) ∷ []) (hidden_at 0 None ∷ []) → ⊥
hides_no_other h = let e = h.0.1 in cc

given_back : restored ((codes "x", Some 1) ∷ []) (hidden_at 0 (Some 0) ∷ []) ≡ (codes "x", Some 0) ∷ []
given_back = refl
