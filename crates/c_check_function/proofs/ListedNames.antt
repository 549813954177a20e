-- The names of an old-style list, each declared unless it was, and their types in the order of the list.
use Rattle.std.proofs.Common.{◌≡◌, ℕ, suc, ◌+◌, ◌<◌, ◌≤◌, List, [], ◌∷◌, ◌++◌, length, map, get_or, drop, sym, ap, ◌∙◌, append_assoc, subst}
use Rattle.std.specs.Prelude.{Some, slice_get, true, false, ◌||◌}
use Rattle.std.proofs.lemmas.List.{append-nil, at_drop_all, at_drop_more, drop_all, drop_more, map-append}
use Rattle.std.proofs.lemmas.Option.{get_or_from_slice_get, slice_get_within}
use Rattle.c_symbols.specs.Scoping.{AreBelow}
use Rattle.c_types.specs.CType.{CType}
use Rattle.c_types.specs.Table.{Table, type_at}
use Rattle.c_meaning.specs.State.{State, place_here}
use Rattle.c_check_decl.specs.Declares.{AreLocalsIn}
use Rattle.c_check_function.proofs.DifferentNames.{one_more}
use Rattle.c_units.specs.Functions.{has_other, is_other, listed_types, type_at as type_or_int, with_all_listed, with_listed}

-- ---- declared one behind the other

module _ (s : State) (line : ℕ) (names : List (List ℕ)) (i : ℕ) (n : List ℕ) (l : i < length names) (is : n ≡ get_or names i n) where
  pub listed_next : with_all_listed s line i (drop i names) ≡ with_all_listed (with_listed s line i n (place_here s n)) line (suc i) (drop (i + 1) names)
  listed_next = at_drop_more (with_all_listed s line i) names i n l ∙ ap (λ x. with_all_listed s line i (x ∷ drop (i + 1) names)) (sym is)

  pub listed_on : (m : State) → m ≡ with_listed s line i n (place_here s n) → with_all_listed m line (i + 1) (drop (i + 1) names) ≡ with_all_listed s line i (drop i names)
  listed_on m h = ap (λ x. with_all_listed x line (i + 1) (drop (i + 1) names)) h ∙ ap (λ k. with_all_listed (with_listed s line i n (place_here s n)) line k (drop (i + 1) names)) (sym (one_more i)) ∙ sym listed_next

pub listed_end : (s : State) (line : ℕ) (names : List (List ℕ)) (i : ℕ) → length names ≤ i → with_all_listed s line i (drop i names) ≡ s
listed_end s line names i l = at_drop_all (with_all_listed s line i) names i l

-- ---- their types

pub types_on : (t : Table) (s : State) (names : List (List ℕ)) (i : ℕ) (n : List ℕ) (done more : List ℕ) (of : ℕ) → i < length names → n ≡ get_or names i n → more ≡ done ++ of ∷ [] → type_at t of ≡ type_or_int s (place_here s n)
    → map (type_at t) done ++ listed_types s (drop i names) ≡ listed_types s names → map (type_at t) more ++ listed_types s (drop (i + 1) names) ≡ listed_types s names
types_on t s names i n done more of l is e h g =
    ap (λ xs. map (type_at t) xs ++ listed_types s (drop (i + 1) names)) e
    ∙ ap (λ xs. xs ++ listed_types s (drop (i + 1) names)) (map-append (type_at t) done (of ∷ []))
    ∙ append_assoc (map (type_at t) done) (type_at t of ∷ []) (listed_types s (drop (i + 1) names))
    ∙ ap (λ (x : CType). map (type_at t) done ++ (x ∷ listed_types s (drop (i + 1) names))) h
    ∙ ap (λ x. map (type_at t) done ++ listed_types s (x ∷ drop (i + 1) names)) is
    ∙ ap (λ xs. map (type_at t) done ++ xs) (sym (at_drop_more (listed_types s) names i n l))
    ∙ g

pub types_end : (t : Table) (s : State) (names : List (List ℕ)) (i : ℕ) (done : List ℕ) → length names ≤ i → map (type_at t) done ++ listed_types s (drop i names) ≡ listed_types s names → map (type_at t) done ≡ listed_types s names
types_end t s names i done l g = sym (append-nil (map (type_at t) done)) ∙ ap (λ xs. map (type_at t) done ++ xs) (sym (at_drop_all (listed_types s) names i l)) ∙ g

pub one_below : (n : ℕ) (done more : List ℕ) (of : ℕ) → more ≡ done ++ of ∷ [] → AreLocalsIn n done → of < n → AreLocalsIn n more
one_below n done more of e i l = rw e (by done i)
  where
    by : (xs : List ℕ) → AreLocalsIn n xs → AreLocalsIn n (xs ++ of ∷ [])
    by [] h = (l, tt)
    by (x ∷ xs) h = (h.0, by xs h.1)

-- ---- what they stand for

module _ (s : State) (names : List (List ℕ)) (i : ℕ) (n : List ℕ) (l : i < length names) (is : n ≡ get_or names i n) where
  others_next : has_other s (drop i names) ≡ (is_other s (place_here s n) || has_other s (drop (i + 1) names))
  others_next = at_drop_more (has_other s) names i n l ∙ ap (λ x. has_other s (x ∷ drop (i + 1) names)) (sym is)

  pub other_met : is_other s (place_here s n) ≡ true → has_other s (drop i names) ≡ true
  other_met h = others_next ∙ ap (λ b. b || has_other s (drop (i + 1) names)) h

  pub other_behind : is_other s (place_here s n) ≡ false → has_other s (drop i names) ≡ has_other s (drop (i + 1) names)
  other_behind h = others_next ∙ ap (λ b. b || has_other s (drop (i + 1) names)) h

pub no_other : (s : State) (names : List (List ℕ)) (i : ℕ) → length names ≤ i → has_other s (drop i names) ≡ false
no_other s names i l = at_drop_all (has_other s) names i l

-- ---- names with symbols that were declared

pub below_all : (count : ℕ) (names : List (List ℕ × ℕ)) (i : ℕ) (n : List ℕ × ℕ) → slice_get names i ≡ Some n → n.1 < count → AreBelow count (drop (i + 1) names) → AreBelow count (drop i names)
below_all count names i n e l h =
    subst (AreBelow count) (sym (drop_more names i n (slice_get_within names i n e) ∙ ap (λ (x : List ℕ × ℕ). x ∷ drop (i + 1) names) (get_or_from_slice_get names i n n e))) (l, h)

pub below_end : (count : ℕ) (names : List (List ℕ × ℕ)) (i : ℕ) → length names ≤ i → AreBelow count (drop i names)
below_end count names i l = subst (AreBelow count) (sym (drop_all i names l)) tt
