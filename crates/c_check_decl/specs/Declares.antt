-- What a declaration declares, over a table of types.
use Rattle.std.specs.Prelude.{◌<◌, ℕ, Option, Some, None, List, [], ◌∷◌, map}
use Rattle.c_types.specs.CType.{CType}
use Rattle.c_types.specs.Table.{Table, type_at, types}
use Rattle.c_meaning.specs.declared.core_unit.CoreObject.{CoreObject}
use Rattle.c_meaning.specs.declared.core_stmt.CoreStmt.{CoreStmt}
use Rattle.c_meaning.specs.declared.filled_place.FilledPlace.{FilledPlace}
use Rattle.c_meaning.specs.Declarations.{Declares as DeclaresTrees, Defined, Linked}
use Rattle.c_meaning.specs.Initialising.{Filled as FilledTrees}
use Rattle.c_meaning.specs.StmtTrees.{IsStmtIn, StmtOf, stmt_of, stmt_seen}
use Rattle.c_meaning.specs.Units.{object_seen}
use Rattle.c_initialisers.specs.declared.filled.Filled.{Filled}
use Rattle.c_initialisers.specs.FilledPlaces.{ArePlacesIn}
use Rattle.c_initialisers.specs.Objects.{IsFilledIn, filled_in}
use Rattle.c_check_decl.specs.declared.declares.Declares.{Declares}
use Rattle.c_check_decl.specs.declared.declares.DefinedObject.{DefinedObject}
use Rattle.c_check_decl.specs.declared.declares.LinkedName.{LinkedName}

abbrev pub stmt_in : Table → CoreStmt → StmtOf CType
stmt_in t s = stmt_seen (type_at t) (stmt_of s)

abbrev pub defined_in : Table → DefinedObject → Defined
defined_in t d = record { symbol = d.symbol; object = object_seen (types t) d.object }

abbrev pub linked_in : Table → LinkedName → Linked
linked_in t l = record { symbol = l.symbol; of = type_at t l.of; line = l.line }

abbrev pub declares_in : Table → Declares → DeclaresTrees
declares_in t d =
    record {
      objects = map (defined_in t) d.objects;
      locals = map (type_at t) d.locals;
      fills = map (stmt_in t) d.fills;
      linked = map (linked_in t) d.linked;
    }

abbrev pub maybe_filled_in : Table → Option Filled → Option FilledTrees
maybe_filled_in t None = None
maybe_filled_in t (Some f) = Some (filled_in t f)

abbrev pub places_in : Option Filled → List FilledPlace
places_in None = []
places_in (Some f) = f.places

-- ---- their types stand below this place

abbrev pub IsMaybeFilledIn : ℕ → Option Filled → Type 0
IsMaybeFilledIn n None = Unit {0}
IsMaybeFilledIn n (Some f) = IsFilledIn n f

abbrev pub IsObjectIn : ℕ → CoreObject → Type 0
IsObjectIn n o = (o.of < n) × ArePlacesIn n o.places

abbrev pub AreObjectsIn : ℕ → List DefinedObject → Type 0
AreObjectsIn n [] = Unit {0}
AreObjectsIn n (d ∷ ds) = IsObjectIn n d.object × AreObjectsIn n ds

abbrev pub AreLocalsIn : ℕ → List ℕ → Type 0
AreLocalsIn n [] = Unit {0}
AreLocalsIn n (t ∷ ts) = (t < n) × AreLocalsIn n ts

abbrev pub AreFillsIn : ℕ → List CoreStmt → Type 0
AreFillsIn n [] = Unit {0}
AreFillsIn n (s ∷ ss) = IsStmtIn n (stmt_of s) × AreFillsIn n ss

abbrev pub AreLinkedIn : ℕ → List LinkedName → Type 0
AreLinkedIn n [] = Unit {0}
AreLinkedIn n (l ∷ ls) = (l.of < n) × AreLinkedIn n ls

pub record AreDeclaredIn (n : ℕ) (d : Declares) : Type 0 where
  pub objects : AreObjectsIn n d.objects
  pub locals : AreLocalsIn n d.locals
  pub fills : AreFillsIn n d.fills
  pub linked : AreLinkedIn n d.linked
