-- What is stored, over a table that grows meanwhile.
use Rattle.std.proofs.Common.{◌≡◌, ℕ, ◌+◌, true, false, List, [], ◌∷◌, ◌++◌, map, length, refl, sym, ap, ◌∙◌}
use Rattle.c_types.specs.CType.{CType}
use Rattle.c_types.specs.Table.{Table, Extends, type_at}
use Rattle.c_meaning.specs.CoreTrees.{Core, CoreOf, IsIn, seen, what_of}
use Rattle.c_meaning.specs.Filling.{filled_by, is_text_over, sized, stored, text_of}
use Rattle.c_meaning.specs.StmtTrees.{FilledOf}
use Rattle.c_meaning.specs.Values.{CoreTree, passed_to, value}
use Rattle.c_values.specs.Valued.{qualified_in}
use Rattle.c_values.specs.Stays.{seen_stays}
use Rattle.c_initialisers.specs.declared.place.Place.{Place}
use Rattle.c_initialisers.specs.declared.stored.Stored.{Stored}
use Rattle.c_initialisers.specs.Storing.{AreStoredIn, stored_in}
use Rattle.c_initialisers.specs.StoresStay.{stores_stay}
use Rattle.c_initialisers.specs.Waiting.{IsPlaceIn, place_in}

pub what_seen : {T U : Type 0} (known : T → U) (c : CoreOf T) → what_of (seen known c) ≡ what_of c
what_seen known (Core what of line kids) = refl

pub map_append : {X Y : Type 0} (f : X → Y) (xs ys : List X) → map f (xs ++ ys) ≡ map f xs ++ map f ys
map_append f [] ys = refl
map_append f (x ∷ xs) ys = ap (λ zs. f x ∷ zs) (map_append f xs ys)

-- one more behind what was stored over the earlier table
pub one_stored : (a d : Table) → Extends a d → (ps qs : List Stored) (s : Stored) (more : List (FilledOf CType)) → AreStoredIn (length a.forms) ps → qs ≡ ps ++ s ∷ [] → stored_in d s ∷ [] ≡ more → map (stored_in d) qs ≡ map (stored_in a) ps ++ more
one_stored a d h ps qs s more i e m =
    ap (map (stored_in d)) e ∙ map_append (stored_in d) ps (s ∷ []) ∙ ap (λ xs. xs ++ stored_in d s ∷ []) (stores_stay a d h ps i) ∙ ap (λ xs. map (stored_in a) ps ++ xs) m

-- what fills a place is the same over the later table
pub filled_stays : (a b : Table) → Extends a b → (p : Place) (c : CoreOf ℕ) → IsPlaceIn (length a.forms) p → IsIn (length a.forms) c → filled_by (place_in b p) (seen (type_at b) c) ≡ filled_by (place_in a p) (seen (type_at a) c)
filled_stays a b h p c i j = rw (h.types_stay p.of.of i, seen_stays a b h c j) refl

filled_by_value : (p : Place) (a : Table) (c : CoreTree) → is_text_over (qualified_in a p.of) c ≡ false → filled_by (place_in a p) c ≡ stored (place_in a p) (passed_to (qualified_in a p.of) (value c))
filled_by_value p a c e = rw e refl

-- a value that is passed over the later table
pub value_stored : (b d : Table) → Extends b d → (p : Place) (v w : CoreOf ℕ) (id : ℕ) → IsIn (length b.forms) v → type_at d id ≡ qualified_in b p.of → seen (type_at d) w ≡ passed_to (type_at d id) (seen (type_at d) v) → stored_in d (record { of = id; offset = p.offset; first = p.first; width = p.width; value = w }) ∷ [] ≡ stored (place_in b p) (passed_to (qualified_in b p.of) (seen (type_at b) v)) ∷ []
value_stored b d k p v w id j q f =
    let z : seen (type_at d) w ≡ passed_to (qualified_in b p.of) (seen (type_at b) v) = f ∙ ap (λ x. passed_to x (seen (type_at d) v)) q ∙ ap (passed_to (qualified_in b p.of)) (seen_stays b d k v j) in
    rw (q, z) refl

-- a value that is formed over the later table, behind what was stored over the earlier one
pub value_filled : (a b : Table) → Extends a b → (p : Place) (c v : CoreOf ℕ) (ps : List Stored) (all : List (FilledOf CType)) → IsPlaceIn (length a.forms) p → AreStoredIn (length a.forms) ps → is_text_over (qualified_in a p.of) (seen (type_at a) c) ≡ false → seen (type_at b) v ≡ value (seen (type_at a) c) → all ≡ map (stored_in b) ps ++ stored (place_in b p) (passed_to (qualified_in b p.of) (seen (type_at b) v)) ∷ [] → all ≡ map (stored_in a) ps ++ filled_by (place_in a p) (seen (type_at a) c) ∷ []
value_filled a b h p c v ps all i j t e s =
    s ∙ ap (λ xs. xs ++ stored (place_in b p) (passed_to (qualified_in b p.of) (seen (type_at b) v)) ∷ []) (stores_stay a b h ps j)
    ∙ ap (λ x. map (stored_in a) ps ++ x ∷ []) (rw (h.types_stay p.of.of i, e) (sym (filled_by_value p a (seen (type_at a) c) t)))

-- a text over an array of characters, whose type is formed over the later table
pub text_stored : (a d : Table) → Extends a d → (p : Place) (c : CoreOf ℕ) (id : ℕ) (bytes : List ℕ) → IsIn (length a.forms) c → is_text_over (qualified_in a p.of) (seen (type_at a) c) ≡ true → bytes ≡ text_of (what_of c) → type_at d id ≡ sized (qualified_in a p.of) (length bytes + 1) → stored_in d (record { of = id; offset = p.offset; first = 0; width = 0; value = c }) ∷ [] ≡ filled_by (place_in a p) (seen (type_at a) c) ∷ []
text_stored a d h p c id bytes i t b e = rw (t, e, b, seen_stays a d h c i, what_seen (type_at a) c) refl
