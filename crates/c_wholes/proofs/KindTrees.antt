-- Trees with other kinds in them, over types as mathematics has them.
use Rattle.std.proofs.Common.{◌≡◌, ◌≤◌, ℕ, List, [], ◌∷◌, ◌++◌, length, map, take, drop, take_all, drop_of_length-le, append-nil, refl, ap, ◌∙◌}
use Rattle.c_types.specs.CType.{CType}
use Rattle.c_meaning.specs.declared.core_expr.CoreKind.{CoreKind}
use Rattle.c_meaning.specs.declared.filled_place.FilledPlace.{FilledPlace}
use Rattle.c_meaning.specs.CoreTrees.{CoreOf, Core, CoresOf, NoCore, Cores, IsIn, AreIn, seen, all_seen, cores_of}
use Rattle.c_meaning.specs.StmtTrees.{FilledOf, ArePlacesIn, filled_of, place_seen}
use Rattle.c_units.specs.Wholes.{whole_kind, whole, all_whole, whole_places}
use Rattle.c_wholes.specs.Kinds.{with_kinds, all_with_kinds, place_with_kinds}

pub exprs_with_kinds : {T : Type 0} (f : CoreKind → CoreKind) (cs : List (CoreOf T)) → cores_of (map (with_kinds f) cs) ≡ all_with_kinds f (cores_of cs)
exprs_with_kinds f [] = refl
exprs_with_kinds f (c ∷ cs) = ap (Cores (with_kinds f c)) (exprs_with_kinds f cs)

-- the places of an object, over types as mathematics has them
pub filled_seen : (f : ℕ → CType) (ps : List FilledPlace) → map (place_seen f) (map filled_of ps) ≡ map (λ p. place_seen f (filled_of p)) ps
filled_seen f [] = refl
filled_seen f (p ∷ ps) = ap (λ qs. place_seen f (filled_of p) ∷ qs) (filled_seen f ps)

module _ (meant : ℕ → CoreKind) (texts : List (List ℕ)) (known : ℕ → CType) where
  mutual
    pub seen_whole : (c : CoreOf ℕ) → seen known (with_kinds (whole_kind meant texts) c) ≡ whole meant texts (seen known c)
    seen_whole (Core what of line kids) = ap (Core (whole_kind meant texts what) (known of) line) (all_seen_whole kids)

    pub all_seen_whole : (cs : CoresOf ℕ) → all_seen known (all_with_kinds (whole_kind meant texts) cs) ≡ all_whole meant texts (all_seen known cs)
    all_seen_whole NoCore = refl
    all_seen_whole (Cores c cs) = rw (seen_whole c, all_seen_whole cs) refl

  pub places_seen_whole : (ps : List (FilledOf ℕ)) → map (place_seen known) (map (place_with_kinds (whole_kind meant texts)) ps) ≡ whole_places meant texts (map (place_seen known) ps)
  places_seen_whole [] = refl
  places_seen_whole (p ∷ ps) = rw (seen_whole p.value, places_seen_whole ps) refl

module _ (f : CoreKind → CoreKind) (n : ℕ) where
  mutual
    pub in_with_kinds : (c : CoreOf ℕ) → IsIn n c → IsIn n (with_kinds f c)
    in_with_kinds (Core what of line kids) i = (i.0, all_in_with_kinds kids i.1)

    pub all_in_with_kinds : (cs : CoresOf ℕ) → AreIn n cs → AreIn n (all_with_kinds f cs)
    all_in_with_kinds NoCore i = tt
    all_in_with_kinds (Cores c cs) i = (in_with_kinds c i.0, all_in_with_kinds cs i.1)

  pub places_in_with_kinds : (ps : List (FilledOf ℕ)) → ArePlacesIn n ps → ArePlacesIn n (map (place_with_kinds f) ps)
  places_in_with_kinds [] i = tt
  places_in_with_kinds (p ∷ ps) i = ((i.0.0, in_with_kinds p.value i.0.1), places_in_with_kinds ps i.1)

pub filled_with_kinds : (f : CoreKind → CoreKind) (ps : List FilledPlace) → map filled_of (map (λ (p : FilledPlace). record p { value = with_kinds f p.value }) ps) ≡ map (λ p. place_with_kinds f (filled_of p)) ps
filled_with_kinds f [] = refl
filled_with_kinds f (p ∷ ps) = ap (λ qs. place_with_kinds f (filled_of p) ∷ qs) (filled_with_kinds f ps)

-- a loop over all places of a list has done all of it
pub all_mapped : {X : Type 0} (f : X → X) (xs ys : List X) (i : ℕ) → length xs ≤ i → ys ≡ map f (take i xs) ++ drop i xs → ys ≡ map f xs
all_mapped f xs ys i l h = h ∙ (λ j. map f (take_all i xs l j) ++ drop_of_length-le xs l j) ∙ append-nil (map f xs)
