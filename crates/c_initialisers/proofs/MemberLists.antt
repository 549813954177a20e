-- The members of an object, of which those from one on wait.
use Rattle.std.proofs.Common.{◌≡◌, ℕ, zero, suc, ◌+◌, ◌<◌, ◌≤◌, false, List, [], ◌∷◌, length, drop, get_or, refl, sym, ap, ◌∙◌, arith}
use Rattle.std.specs.Prelude.{Some, map, ◌==◌}
use Rattle.std.proofs.lemmas.List.{at_drop_more, drop_all, length-map}
use Rattle.c_types.specs.declared.type_form.MemberPlace.{MemberPlace}
use Rattle.c_types.specs.CType.{CType, Plain, Array, Simple, Pointer, Function, Structure, Union, Enumeration, qualify}
use Rattle.c_types.specs.Definitions.{AreComplete}
use Rattle.c_types.specs.Layout.{Tag, extent}
use Rattle.c_types.specs.Members.{MemberAt}
use Rattle.c_types.proofs.lemmas.Qualifying.{qualify_none}
use Rattle.c_types.specs.Table.{Table, member_seen, tags, type_at, types}
use Rattle.c_meaning.specs.Filling.{Whole, found, moved_to, next, parts}
use Rattle.c_meaning.specs.Types.{is_array}
use Rattle.c_initialisers.specs.declared.place.Place.{Place}
use Rattle.c_initialisers.specs.declared.waits.Waits.TheVariants as waits
use Rattle.c_initialisers.specs.Members.{moved_place, type_members}
use Rattle.c_initialisers.specs.Waiting.{entries_in, place_in}
use Rattle.c_initialisers.proofs.Complete.{AreParts, nested_once, type_parts}
use Rattle.c_initialisers.proofs.Searches.{greatest, members_parts}

moved_seen : (t : Table) (offset : ℕ) (m : MemberPlace) → place_in t (moved_place offset m) ≡ moved_to offset (member_seen (types t) m)
moved_seen t offset m = ap (λ of. record { of = of; offset = offset + m.offset; first = m.first; width = m.width }) (qualify_none (type_at t m.of))

-- qualifiers don't change the members
members_qualify : (tags : List Tag) (q : ℕ) (t : CType) (offset : ℕ) → type_members tags (qualify q t) offset ≡ type_members tags t offset
members_qualify tags q (Plain p k) offset = refl
members_qualify tags q (Array of count) offset = refl

drop_map : {A B : Type 0} (f : A → B) (xs : List A) (i : ℕ) → drop i (map f xs) ≡ map f (drop i xs)
drop_map f xs zero = refl
drop_map f [] (suc i) = refl
drop_map f (x ∷ xs) (suc i) = drop_map f xs i

pub not_none : {A : Type 0} (xs : List A) → false ≡ (length xs == 0) → 0 < length xs
not_none [] h = absurd (cc)
not_none (x ∷ xs) h = omega arith

-- ---- members that are told by a table

module _ (t : Table) (of offset : ℕ) (ms : List MemberPlace) (are : map (moved_to offset) (map (member_seen (types t)) ms) ≡ type_members (tags t) (type_at t of) offset) where
  pub members_count : length ms ≡ length (type_members (tags t) (type_at t of) offset)
  members_count = sym (length-map (map (member_seen (types t)) ms) (moved_to offset) ∙ length-map ms (member_seen (types t))) ∙ ap length are

  -- those from one on
  from : (i : ℕ) → entries_in t (waits.Members of offset i) ≡ map Whole (map (moved_to offset) (map (member_seen (types t)) (drop i ms)))
  from i = ap (λ l. map Whole (drop i l)) (sym are) ∙ ap (map Whole) (drop_map (moved_to offset) (map (member_seen (types t)) ms) i ∙ ap (map (moved_to offset)) (drop_map (member_seen (types t)) ms i))

  pub none_from : (i : ℕ) → length ms ≤ i → entries_in t (waits.Members of offset i) ≡ []
  none_from i l = from i ∙ ap (λ k. map Whole (map (moved_to offset) (map (member_seen (types t)) k))) (drop_all i ms l)

  pub first_from : (i : ℕ) (d : MemberPlace) (p : Place) → i < length ms → p ≡ moved_place offset (get_or ms i d) → Some (found (place_in t p) (entries_in t (waits.Members of offset (i + 1)))) ≡ next (tags t) (entries_in t (waits.Members of offset i))
  first_from i d p l e =
      ap (λ q. Some (found (place_in t q) (entries_in t (waits.Members of offset (i + 1))))) e
      ∙ ap (λ a. Some (found a (entries_in t (waits.Members of offset (i + 1))))) (moved_seen t offset (get_or ms i d))
      ∙ ap (λ k. Some (found (moved_to offset (member_seen (types t) (get_or ms i d))) k)) (from (i + 1))
      ∙ sym (ap (next (tags t)) (from i ∙ at_drop_more (λ k. map Whole (map (moved_to offset) (map (member_seen (types t)) k))) ms i d l))

  -- all of them, of an object whose type is qualified so
  pub all_parts : (q : ℕ) → is_array (qualify q (type_at t of)) ≡ false → entries_in t (waits.Members of offset 0) ≡ parts (tags t) (qualify q (type_at t of)) offset
  all_parts q h = ap (map Whole) (sym (members_qualify (tags t) q (type_at t of) offset)) ∙ members_parts (tags t) (qualify q (type_at t of)) offset h

-- ---- parts are nested less than their object

parts_below : (tags : List Tag) (n : ℕ) (ms : List MemberAt) → 0 < n → AreParts tags n ms → greatest tags (map Whole ms) < n
parts_below tags n [] p h = omega (arith, p)
parts_below tags n (m ∷ ms) p h = let k = parts_below tags n ms p h.2 in let l = h.1 in omega (arith, k, l)

pub parts_nested : (tags : List Tag) → AreComplete tags → (t : CType) (offset : ℕ) → greatest tags (parts tags t offset) < (extent tags t).nesting
parts_nested tags h (Plain q (Simple b)) offset = nested_once tags (Plain q (Simple b))
parts_nested tags h (Plain q (Pointer to)) offset = omega arith
parts_nested tags h (Plain q (Function r ps)) offset = omega arith
parts_nested tags h (Plain q (Structure n)) offset = parts_below tags _ _ (nested_once tags (Plain q (Structure n))) (type_parts tags h (Plain q (Structure n)) offset)
parts_nested tags h (Plain q (Union n)) offset = parts_below tags _ _ (nested_once tags (Plain q (Union n))) (type_parts tags h (Plain q (Union n)) offset)
parts_nested tags h (Plain q (Enumeration n)) offset = omega arith
parts_nested tags h (Array of count) offset = omega arith
