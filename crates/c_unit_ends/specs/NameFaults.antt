-- The least lines that tell of names, by what the names' symbols stand for.
use Rattle.std.specs.Prelude.{ℕ, suc, ◌&&◌, not, Bool, false, Option, Some, None, List, [], ◌∷◌, is_some, if◌then◌else◌}
use Rattle.c_types.specs.CType.{CType}
use Rattle.c_meaning.specs.Declarations.{Linked}
use Rattle.c_meaning.specs.State.{Known}
use Rattle.c_units.specs.Ends.{fits_built_in, gives_otherwise, is_link, least, linked_symbol}
use Rattle.c_standings.specs.declared.Standing.{Standing}
use Rattle.c_standings.specs.declared.Standing.TheVariants as standing
use Rattle.c_standings.specs.StandingLists.{of_symbol}

-- of a name that nothing defines
abbrev pub missing_with : List (ℕ × Standing) → Option ℕ → ℕ × ℕ → Option ℕ
missing_with xs found x = if is_some (of_symbol xs x.0) then found else least found x.1

abbrev pub missing_in : List (ℕ × Standing) → Option ℕ → List (ℕ × ℕ) → Option ℕ
missing_in xs found [] = found
missing_in xs found (u ∷ us) = missing_in xs (missing_with xs found u) us

-- of a declaration of a built-in function with another type
abbrev pub is_other : Option Standing → CType → Bool
is_other (Some (standing.BuiltIn b)) of = not (fits_built_in (Some b) of)
is_other x of = false

abbrev pub other_with : List (ℕ × Standing) → Option ℕ → Linked → Option ℕ
other_with xs found d = if is_other (of_symbol xs d.symbol) d.of then least found d.line else found

abbrev pub other_in : List (ℕ × Standing) → Option ℕ → List Linked → Option ℕ
other_in xs found [] = found
other_in xs found (d ∷ ds) = other_in xs (other_with xs found d) ds

-- of a call that declares a built-in function with another result
abbrev pub gives_other : Option Standing → CType → Bool
gives_other (Some (standing.BuiltIn b)) of = gives_otherwise (Some b) of
gives_other x of = false

abbrev pub is_called : List (ℕ × Standing) → Option ℕ → CType → Bool
is_called xs None of = false
is_called xs (Some id) of = gives_other (of_symbol xs id) of

abbrev pub called_with : List (ℕ × Standing) → List (List ℕ × ℕ) → ℕ → Option ℕ → Known → Option ℕ
called_with xs ns id found k = if not (is_link ns id) && is_called xs (linked_symbol k) k.of then least found k.line else found

abbrev pub called_in : List (ℕ × Standing) → List (List ℕ × ℕ) → ℕ → Option ℕ → List Known → Option ℕ
called_in xs ns id found [] = found
called_in xs ns id found (k ∷ ks) = called_in xs ns (suc id) (called_with xs ns id found k) ks
