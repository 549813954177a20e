-- Names that are used and have addresses, one after another.
use Rattle.std.proofs.Common.{◌≡◌, ◌+◌, ℕ, List, [], ◌∷◌, ◌++◌, map, take, drop, Option, Some, None, refl, sym, ap, ◌∙◌, subst}
use Rattle.std.specs.Prelude.{All, slice_get}
use Rattle.std.proofs.lemmas.List.{drop_more, map_push, take-append-drop, take_more}
use Rattle.std.proofs.lemmas.List.Elements.{All-push}
use Rattle.std.proofs.lemmas.Option.{get_or_from_slice_get, slice_get_within}
use Rattle.asm_text.specs.Addresses.{IsKnown, address_by}
use Rattle.asm_text.specs.FirstFault.{IsFirstUnknown}
use Rattle.asm_text.specs.Linked.{linked_name, or_zero}
use Rattle.asm_text.specs.Made.{Made, Use}
use Rattle.asm_text.specs.Program.{MLabel, place_of}
use Rattle.asm_text.specs.Uses.{used_names}

abbrev name : Use → List ℕ
name u = u.name

module _ (labels : List MLabel) (uses : List Use) (i : ℕ) (u : Use) (at : slice_get uses i ≡ Some u) where
  next_use : take (i + 1) uses ≡ take i uses ++ u ∷ []
  next_use = take_more uses i u (slice_get_within uses i u at) ∙ ap (λ (x : Use). take i uses ++ x ∷ []) (get_or_from_slice_get uses i u u at)

  -- one more has this address
  pub address_more : (address : ℕ) (found more : List ℕ) → address_by u.name (place_of labels u.name) ≡ Some address → found ≡ map (linked_name labels) (used_names (take i uses)) → more ≡ found ++ address ∷ [] → more ≡ map (linked_name labels) (used_names (take (i + 1) uses))
  address_more address found more h e f =
      let ns = used_names (take i uses) in
      f ∙ ap (λ (l : List ℕ). l ++ address ∷ []) e ∙ ap (λ (n : ℕ). map (linked_name labels) ns ++ n ∷ []) (sym (ap or_zero h)) ∙ sym (map_push (linked_name labels) ns u.name) ∙ ap (map (linked_name labels)) (sym (map_push name (take i uses) u)) ∙ ap (λ (l : List Use). map (linked_name labels) (used_names l)) (sym next_use)

  -- one more is known
  pub known_more : (address : ℕ) → address_by u.name (place_of labels u.name) ≡ Some address → All (λ u. IsKnown labels u.name) (take i uses) → All (λ u. IsKnown labels u.name) (take (i + 1) uses)
  known_more address h k =
      let P : Use → Type 0 = λ u. IsKnown labels u.name in
      let Q : List Use → Type 0 = λ l. All P l in
      subst Q (sym next_use) (All-push P (take i uses) u k (address, h))

  -- or it is the first that isn't
  pub first_unknown : address_by u.name (place_of labels u.name) ≡ None → All (λ u. IsKnown labels u.name) (take i uses) → (m : Made) → m.labels ≡ labels → m.uses ≡ uses → IsFirstUnknown m u.line
  first_unknown h k m e f =
      let P : List MLabel → Type 0 = λ ls. All (λ u. IsKnown ls u.name) (take i uses) in
      let Q : List MLabel → Type 0 = λ ls. IsKnown ls u.name in
      let split = sym (take-append-drop i uses) ∙ ap (λ (l : List Use). take i uses ++ l) (drop_more uses i u (slice_get_within uses i u at) ∙ ap (λ (x : Use). x ∷ drop (i + 1) uses) (get_or_from_slice_get uses i u u at)) in
      record {
        known = take i uses;
        first = u;
        behind = drop (i + 1) uses;
        uses = f ∙ split;
        are_known = subst P (sym e) k;
        unknown = λ q. none (address_by u.name (place_of labels u.name)) h (subst Q e q);
        line_is = refl;
      }
    where
      none : (o : Option ℕ) → o ≡ None → (address : ℕ) × (o ≡ Some address) → ⊥
      none o h q = let a : None ≡ Some q.0 = sym h ∙ q.1 in cc
