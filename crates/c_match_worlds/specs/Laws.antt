-- What keeps worlds of forests standing for those of C: accesses, events, and the objects of calls.
use Rattle.std.specs.Prelude.{◌≡◌, ◌≤◌, ◌<◌, ℕ, ◌+◌, Bool, false, Some, List, length, slice_get}
use Rattle.lcc_base.specs.Traces.{Event, Opened, Closed}
use Rattle.lcc_base.specs.declared.order.Order.{Order}
use Rattle.objects.specs.declared.byte.Byte.{Byte}
use Rattle.objects.specs.declared.value.ObjectName.{ObjectName}
use Rattle.objects.specs.declared.value.Value.{Value}
use Rattle.objects.specs.declared.value.Value.TheVariants.{Pointer}
use Rattle.objects.specs.Objects.{Object as Old}
use Rattle.op_forest.specs.declared.lowered.LoweredObject.{LoweredObject}
use Rattle.op_forest.specs.Callees.{Body}
use Rattle.op_forest.specs.Lowered.{LoweredUnit}
use Rattle.forests.specs.Functions.{own_bytes, entered, left_behind}
use Rattle.forests.specs.Objects.{Object}
use Rattle.forests.specs.Sound.{AreSoundObjects, AreInput, IsSound}
use Rattle.forests.specs.Units.{pointer_to}
use Rattle.forests.specs.Words.{Word, Plain}
use Rattle.forests.specs.Worlds.{World, with_event, with_input, with_objects}
use Rattle.c_runs.specs.Places.{static_place}
use Rattle.c_runs.specs.Soundness.{outlines}
use Rattle.c_runs.specs.Worlds as c
use Rattle.c_match.specs.Ranges.{Range, Map, Grown, AreApart, with_range}
use Rattle.c_match.specs.Values.{IsValue}
use Rattle.c_match.specs.Bytes.{AreBytesOf}
use Rattle.c_match.specs.Held.{IsHeldIn}
use Rattle.c_match.specs.Left.{IsPrivate, IsLeft}
use Rattle.c_match_objects.specs.Accesses.{IsKept}
use Rattle.c_match_worlds.specs.Matches.{Matches}

-- ---- accesses and events

-- a store
abbrev pub StoresKeep : Type 0
StoresKeep =
    (u : LoweredUnit) (own : ℕ) (map : Map) (old : c.World) (w : World) (new : List Old) (after : List Object)
    → Matches u own map old w → IsKept map (c.objects old) new w.objects after → AreSoundObjects after
    → Matches u own map (c.with_objects old new) (with_objects w after)

-- what changes private objects behind the unit's alone, and argument words, as the lowering's own temporaries do
abbrev pub PrivateStoresKeep : Type 0
PrivateStoresKeep =
    (u : LoweredUnit) (own : ℕ) (map : Map) (old : c.World) (w new : World)
    → Matches u own map old w → IsSound new → new.input ≡ w.input → new.trace ≡ w.trace
    → ((place : ℕ) → (IsPrivate map (c.objects old) place → ⊥) → slice_get new.objects place ≡ slice_get w.objects place)
    → ((t : ℕ) (o : LoweredObject) → slice_get u.objects t ≡ Some o → slice_get new.objects t ≡ slice_get w.objects t)
    → Matches u own map old new

-- something is seen, and input is read
abbrev pub EventsKeep : Type 0
EventsKeep = (u : LoweredUnit) (own : ℕ) (map : Map) (old : c.World) (w : World) (e : Event) → Matches u own map old w → Matches u own map (c.with_event old e) (with_event w e)

abbrev pub InputKeeps : Type 0
InputKeeps = (u : LoweredUnit) (own : ℕ) (map : Map) (old : c.World) (w : World) (rest : List ℕ) → Matches u own map old w → AreInput rest → Matches u own map (c.with_input old rest) (with_input w rest)

-- the address of one of the unit's own objects or texts is that of the unit's object in its place
abbrev pub OwnObjectsStand : Type 0
OwnObjectsStand =
    (u : LoweredUnit) (own : ℕ) (map : Map) (old : c.World) (w : World) (p size : ℕ)
    → Matches u own map old w → p < own → IsValue map (static_place p size) (Plain (pointer_to u p))

-- ---- calls

-- A call is open in both: of the objects that forests make for it none holds anything of C yet.
abbrev pub CallsOpen : Type 0
CallsOpen =
    (u : LoweredUnit) (own : ℕ) (map : Map) (old : c.World) (w : World) (order : Order) (name : ℕ) (f : Body)
    → Matches u own map old w
    → Matches u own map (c.entered (Opened name) old) (entered order name f w)
    × IsLeft map (c.objects old) w.objects (entered order name f w).objects
    × ((place : ℕ) → length w.objects ≤ place → IsPrivate map (c.objects old) place)

-- They are its slots, of unknown bytes, and its argument words.
abbrev pub CallsMakeHomes : Type 0
CallsMakeHomes =
    (w : World) (order : Order) (name : ℕ) (f : Body) (i : ℕ) (bytes : List (Byte Word)) → slice_get (own_bytes order f w.arguments) i ≡ Some bytes
    → slice_get (entered order name f w).objects (length w.objects + i) ≡ Some (record { made = w.made + i; constant = false; bytes = bytes })

-- An object of the running call, or another one, begins where a home holds its bytes, apart from all others and from the tables.
pub record MayBegin (u : LoweredUnit) (own : ℕ) (map : Map) (old : c.World) (w : World) (x : Old) (range : Range) : Type 0 where
  pub home : IsHeldIn map x w.objects range
  pub apart : (p : ℕ) (y : Old) (r : Range) → slice_get (c.objects old) p ≡ Some y → map y.made ≡ Some r → AreApart range (length x.bytes) r (length y.bytes)
  pub no_table : (t : ℕ) (o : LoweredObject) → own ≤ t → slice_get u.objects t ≡ Some o → range.object.place ≡ t → ⊥

abbrev pub object_made : c.World → Bool → List (Byte Value) → Old
object_made old constant bytes = record { made = old.storage.made; constant = constant; bytes = bytes }

-- so in a private object behind the unit's that may be written, from its start on
abbrev pub whole_of : ℕ → Object → Range
whole_of place home = record { object = record { place = place; made = home.made; size = length home.bytes }; start = 0 }

abbrev pub HomesMayHold : Type 0
HomesMayHold =
    (u : LoweredUnit) (own : ℕ) (map : Map) (old : c.World) (w : World) (constant : Bool) (bytes : List (Byte Value)) (place : ℕ) (home : Object)
    → slice_get w.objects place ≡ Some home → home.constant ≡ false → IsPrivate map (c.objects old) place → length u.objects ≤ place
    → AreBytesOf map bytes home.bytes → length bytes ≤ length home.bytes
    → MayBegin u own map old w (object_made old constant bytes) (whole_of place home)

abbrev pub LocalsBegin : Type 0
LocalsBegin =
    (u : LoweredUnit) (own : ℕ) (map : Map) (old : c.World) (w : World) (constant : Bool) (bytes : List (Byte Value)) (range : Range)
    → Matches u own map old w → MayBegin u own map old w (object_made old constant bytes) range
    → Matches u own (with_range old.storage.made range map) (c.with_local constant bytes old) w × Grown map (with_range old.storage.made range map)

-- what held nothing of C holds nothing still, but for the home
abbrev pub BeginningHides : Type 0
BeginningHides =
    (u : LoweredUnit) (own : ℕ) (map : Map) (old : c.World) (w : World) (constant : Bool) (bytes : List (Byte Value)) (range : Range) (place : ℕ)
    → Matches u own map old w → IsPrivate map (c.objects old) place → (range.object.place ≡ place → ⊥)
    → IsPrivate (with_range old.storage.made range map) (c.objects (c.with_local constant bytes old)) place

abbrev pub OthersBegin : Type 0
OthersBegin =
    (u : LoweredUnit) (own : ℕ) (map : Map) (old : c.World) (w : World) (constant : Bool) (bytes : List (Byte Value)) (range : Range)
    → Matches u own map old w → MayBegin u own map old w (object_made old constant bytes) range
    → Matches u own (with_range old.storage.made range map) (c.made constant bytes old) w × Grown map (with_range old.storage.made range map)

-- a structure that was passed is a parameter, const or not
abbrev pub CopiesArePassed : Type 0
CopiesArePassed =
    (u : LoweredUnit) (own : ℕ) (map : Map) (old : c.World) (w : World) (constant : Bool) (name : ObjectName) (offset : ℕ)
    → Matches u own map old w
    → ((x : Old) (r : Range) (home : Object) → slice_get (c.objects old) name.place ≡ Some x → map x.made ≡ Some r → slice_get w.objects r.object.place ≡ Some home → home.constant ≡ false)
    → Matches u own map (c.with_passed constant (Pointer name offset) old) w

-- The call is over: the worlds in which it was made matched, and what lived in C's then lives still, under its names.
abbrev pub CallsClose : Type 0
CallsClose =
    (u : LoweredUnit) (own : ℕ) (map more : Map) (before old : c.World) (first w : World)
    → Matches u own map before first → Matches u own more old w → Grown map more
    → ((p : ℕ) → p < length (c.objects before) → slice_get (outlines (c.objects old)) p ≡ slice_get (outlines (c.objects before)) p)
    → Matches u own more (c.left_behind Closed before old) (left_behind first w)

-- What held nothing of C when the call was made is as it was, where the body leaves what holds nothing of C when it starts.
abbrev pub CallsLeave : Type 0
CallsLeave =
    (map more : Map) (before started : c.World) (first w : World) (order : Order) (name : ℕ) (f : Body)
    → IsLeft more (c.objects started) (entered order name f first).objects w.objects
    → ((place : ℕ) → place < length first.objects → IsPrivate map (c.objects before) place → IsPrivate more (c.objects started) place)
    → IsLeft map (c.objects before) first.objects (left_behind first w).objects
