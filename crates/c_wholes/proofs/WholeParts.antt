-- Functions and objects, made whole.
use Rattle.std.proofs.Common.{◌≡◌, ℕ, Bool, List, [], ◌∷◌, ◌++◌, map, refl, sym, ap, ◌∙◌, subst}
use Rattle.c_types.specs.CType.{CType}
use Rattle.c_types.specs.Table.{Table, type_at, type_in, types}
use Rattle.c_meaning.specs.declared.core_unit.CoreFunction.{CoreFunction}
use Rattle.c_meaning.specs.declared.core_unit.CoreObject.{CoreObject}
use Rattle.c_meaning.specs.declared.core_stmt.CoreStmt.{CoreStmt}
use Rattle.c_meaning.specs.declared.filled_place.FilledPlace.{FilledPlace}
use Rattle.c_meaning.specs.StmtTrees.{ArePlacesIn, filled_of, place_seen, stmt_of, stmt_seen}
use Rattle.c_meaning.specs.Units.{function_seen, object_seen}
use Rattle.c_units.specs.Wholes.{placed_stmt, whole_function, whole_kind, whole_name, whole_object, whole_places, whole_stmt}
use Rattle.c_standings.specs.declared.Standing.{Standing}
use Rattle.c_standings.specs.StandingLists.{meant}
use Rattle.c_wholes.specs.Kinds.{place_with_kinds}
use Rattle.c_wholes.specs.Placing.{IsStmtPlaced}
use Rattle.c_wholes.proofs.KindTrees.{filled_seen, places_in_with_kinds, places_seen_whole}
use Rattle.c_wholes.proofs.PlacedParts.{length_of_map}
use Rattle.c_wholes.proofs.WholeCopies.{same_copied_types}

-- a function with a whole body and the copies behind its locals
pub function_is_whole : (t : Table) (standings : List (ℕ × Standing)) (texts : List (List ℕ)) (f : CoreFunction) (locals : List ℕ) (body : CoreStmt)
    → IsStmtPlaced t f.locals locals (whole_stmt (meant standings) texts (stmt_seen (type_at t) (stmt_of f.body))) body
    → function_seen (types t) (record f { locals = locals; body = body }) ≡ whole_function (meant standings) texts (function_seen (types t) f)
function_is_whole t standings texts f locals body p =
    let k = type_at t in
    let s = stmt_seen k (stmt_of f.body) in
    let l = p.grows.types ∙ ap (λ us. map k f.locals ++ us) (same_copied_types standings texts s) in
    let b = p.means ∙ ap (λ n. placed_stmt n (whole_stmt (meant standings) texts s)) (sym (length_of_map k f.locals)) in
    λ j. record { name = f.name; of = type_in (types t) f.of; parameters = f.parameters; locals = l j; body = b j }

kinds_twice : (standings : List (ℕ × Standing)) (texts : List (List ℕ)) (ps : List FilledPlace) → map (λ p. place_with_kinds (whole_kind (meant standings) texts) (filled_of p)) ps ≡ map (place_with_kinds (whole_kind (meant standings) texts)) (map filled_of ps)
kinds_twice standings texts [] = refl
kinds_twice standings texts (p ∷ ps) = ap (λ qs. place_with_kinds (whole_kind (meant standings) texts) (filled_of p) ∷ qs) (kinds_twice standings texts ps)

-- the places that an object begins with
pub places_are_whole : (standings : List (ℕ × Standing)) (texts : List (List ℕ)) (f : ℕ → CType) (ps qs : List FilledPlace)
    → map filled_of qs ≡ map (λ p. place_with_kinds (whole_kind (meant standings) texts) (filled_of p)) ps
    → map (λ q. place_seen f (filled_of q)) qs ≡ whole_places (meant standings) texts (map (λ p. place_seen f (filled_of p)) ps)
places_are_whole standings texts f ps qs h =
    sym (filled_seen f qs) ∙ ap (map (place_seen f)) (h ∙ kinds_twice standings texts ps) ∙ places_seen_whole (meant standings) texts f (map filled_of ps)
    ∙ ap (whole_places (meant standings) texts) (filled_seen f ps)

pub object_is_whole : (t : Table) (standings : List (ℕ × Standing)) (texts : List (List ℕ)) (linked : Bool) (place : ℕ) (o : CoreObject) (name : List ℕ) (qs : List FilledPlace)
    → name ≡ whole_name linked place o.name
    → map filled_of qs ≡ map (λ p. place_with_kinds (whole_kind (meant standings) texts) (filled_of p)) o.places
    → object_seen (types t) (record { name = name; of = o.of; line = o.line; constant = o.constant; places = qs }) ≡ whole_object (meant standings) texts linked place (object_seen (types t) o)
object_is_whole t standings texts linked place o name qs h i =
    let p = places_are_whole standings texts (type_at t) o.places qs i in
    λ j. record { name = h j; of = type_in (types t) o.of; line = o.line; constant = o.constant; places = p j }

pub places_stay_in : (standings : List (ℕ × Standing)) (texts : List (List ℕ)) (n : ℕ) (ps qs : List FilledPlace)
    → map filled_of qs ≡ map (λ p. place_with_kinds (whole_kind (meant standings) texts) (filled_of p)) ps → ArePlacesIn n (map filled_of ps) → ArePlacesIn n (map filled_of qs)
places_stay_in standings texts n ps qs h i = subst (ArePlacesIn n) (sym (h ∙ kinds_twice standings texts ps)) (places_in_with_kinds (whole_kind (meant standings) texts) n (map filled_of ps) i)
