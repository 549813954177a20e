-- What symbols stand for in a unit: a function, else an object, else a built-in function.
use Rattle.std.specs.Prelude.{◌≡◌, ℕ, suc, ◌==◌, Option, Some, None, List, [], ◌∷◌, if◌then◌else◌}
use Rattle.c_meaning.specs.declared.built_in.BuiltIn.{BuiltIn}
use Rattle.c_meaning.specs.State.{State}
use Rattle.c_units.specs.Ends.{built_in_named, name_of}
use Rattle.c_units.specs.Externals.{Parts}
use Rattle.c_units.specs.Wholes.{stands_for}
use Rattle.c_standings.specs.declared.Standing.{Standing}
use Rattle.c_standings.specs.declared.Standing.TheVariants as standing
use Rattle.c_standings.specs.StandingLists.{meant}

abbrev pub AreStandings : State → Parts → List (ℕ × Standing) → Type 0
AreStandings s u xs = (id : ℕ) → meant xs id ≡ stands_for s u id

-- ---- the same from the symbols of functions and objects, and the names with linkage

abbrev pub first_of : Option Standing → Option Standing → Option Standing
first_of (Some x) y = Some x
first_of None y = y

-- the first place of a symbol in a list whose first one has this place
abbrev pub placed_from : (ℕ → Standing) → ℕ → List ℕ → ℕ → Option Standing
placed_from stands k [] id = None
placed_from stands k (x ∷ xs) id = if x == id then Some (stands k) else placed_from stands (suc k) xs id

abbrev pub functions_from : ℕ → List ℕ → ℕ → Option Standing
functions_from = placed_from (λ n. standing.Function n)

abbrev pub objects_from : ℕ → List ℕ → ℕ → Option Standing
objects_from = placed_from (λ n. standing.Object n)

-- a built-in function
abbrev pub by_name : Option BuiltIn → Option Standing
by_name (Some b) = Some (standing.BuiltIn b)
by_name None = None

-- by the first name that has the symbol
abbrev pub named_among : List (List ℕ × ℕ) → ℕ → Option Standing
named_among ns id = by_name (built_in_named (name_of ns id))

-- only this symbol stands for this
abbrev pub alone : ℕ → Option Standing → ℕ → Option Standing
alone id x k = if id == k then x else None
