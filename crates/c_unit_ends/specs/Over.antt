-- Values with the types that their objects have in the whole unit, over types by their places.
use Rattle.std.specs.Prelude.{◌≡◌, ℕ, ◌==◌, Option, Some, None, List, [], ◌∷◌, map, if◌then◌else◌}
use Rattle.c_types.specs.Layout.{Tag}
use Rattle.c_meaning.specs.declared.core_expr.CoreKind.{CoreKind}
use Rattle.c_meaning.specs.declared.core_expr.CoreKind.TheVariants as kind
use Rattle.c_meaning.specs.CoreTrees.{CoreOf, Core, CoresOf, NoCore, Cores}
use Rattle.c_meaning.specs.State.{State}
use Rattle.c_check_decl.specs.declared.declares.DefinedObject.{DefinedObject}
use Rattle.c_standings.specs.declared.Standing.{Standing}
use Rattle.c_standings.specs.declared.Standing.TheVariants as standing
use Rattle.c_standings.specs.StandingLists.{of_symbol}
use Rattle.c_unit_ends.specs.Standing.{objects_from}

abbrev pub symbols_of : List DefinedObject → List ℕ
symbols_of os = map (λ (o : DefinedObject). o.symbol) os

-- the list has the first place of each object's symbol
abbrev pub AreObjectPlaces : List (ℕ × Standing) → List DefinedObject → Type 0
AreObjectPlaces xs os = (id : ℕ) → of_symbol xs id ≡ objects_from 0 (symbols_of os) id

abbrev pub place_of : Option Standing → Option ℕ
place_of (Some (standing.Object n)) = Some n
place_of x = None

-- the type of the first object that a symbol names, or this one
abbrev pub first_type : List DefinedObject → ℕ → ℕ → ℕ
first_type [] id of = of
first_type (o ∷ os) id of = if o.symbol == id then o.object.of else first_type os id of

abbrev pub whole_place : List DefinedObject → CoreKind → ℕ → ℕ
whole_place os (kind.Symbol id) of = first_type os id of
whole_place os what of = of

abbrev mutual
  pub over_places : List DefinedObject → CoreOf ℕ → CoreOf ℕ
  over_places os (Core what of line kids) = Core what (whole_place os what of) line (all_over_places os kids)

  pub all_over_places : List DefinedObject → CoresOf ℕ → CoresOf ℕ
  all_over_places os NoCore = NoCore
  all_over_places os (Cores c cs) = Cores (over_places os c) (all_over_places os cs)

-- a state of which only the definitions of structures and unions are asked
abbrev pub with_tags : List Tag → State
with_tags tags = record { outer = []; inner = []; links = []; symbols = []; tags = tags; count = 0 }
