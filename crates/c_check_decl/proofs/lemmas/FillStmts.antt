-- The statement by which a local object begins with what its initialiser fills.
use Rattle.std.proofs.Common.{◌≡◌, ℕ, Bool, List, [], ◌∷◌, map, refl, sym, ap, ◌∙◌, subst}
use Rattle.c_types.specs.Table.{Table, type_at}
use Rattle.c_meaning.specs.declared.core_stmt.CoreStmt.{CoreStmt-F, fold-roll-CoreStmt}
use Rattle.c_meaning.specs.declared.core_stmt.CoreStmt.TheVariants as stmt
use Rattle.c_meaning.specs.declared.filled_place.FilledPlace.{FilledPlace}
use Rattle.c_meaning.specs.StmtTrees.{Initialise, IsStmtIn, StmtOf, filled_of, place_seen, stmt_layer, stmt_of, stmt_seen}
use Rattle.c_meaning.specs.StmtTrees.{ArePlacesIn as AreFilledIn}
use Rattle.c_initialisers.specs.FilledPlaces.{ArePlacesIn, filled_place_in}
use Rattle.c_check_decl.specs.Declares.{stmt_in}

is_initialise : (local : ℕ) (zero : Bool) (ps : List FilledPlace) → stmt_of (stmt.Initialise local zero ps) ≡ Initialise local zero (map filled_of ps)
is_initialise local zero ps = ap stmt_of (sym (stmt.rolls-Initialise local zero ps)) ∙ fold-roll-CoreStmt (StmtOf ℕ) stmt_layer (CoreStmt-F.Initialise local zero ps)

places_seen : (t : Table) (ps : List FilledPlace) → map (place_seen (type_at t)) (map filled_of ps) ≡ map (filled_place_in t) ps
places_seen t [] = refl
places_seen t (p ∷ ps) = ap (λ qs. filled_place_in t p ∷ qs) (places_seen t ps)

pub fill_seen : (t : Table) (local : ℕ) (zero : Bool) (ps : List FilledPlace) → stmt_in t (stmt.Initialise local zero ps) ≡ Initialise local zero (map (filled_place_in t) ps)
fill_seen t local zero ps = ap (stmt_seen (type_at t)) (is_initialise local zero ps) ∙ ap (Initialise local zero) (places_seen t ps)

places_within : (n : ℕ) (ps : List FilledPlace) → ArePlacesIn n ps → AreFilledIn n (map filled_of ps)
places_within n [] i = tt
places_within n (p ∷ ps) i = (i.0, places_within n ps i.1)

pub fill_within : (n local : ℕ) (zero : Bool) (ps : List FilledPlace) → ArePlacesIn n ps → IsStmtIn n (stmt_of (stmt.Initialise local zero ps))
fill_within n local zero ps i = subst (IsStmtIn n) (sym (is_initialise local zero ps)) (places_within n ps i)
