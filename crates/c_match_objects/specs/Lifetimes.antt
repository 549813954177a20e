-- Objects that begin and end, in C and in forests.
use Rattle.std.specs.Prelude.{◌≡◌, ◌≤◌, ◌<◌, ℕ, Bool, false, Some, None, List, [], ◌∷◌, ◌++◌, length, take, replicate, slice_get}
use Rattle.objects.specs.declared.value.ObjectName.{ObjectName}
use Rattle.objects.specs.declared.value.Value.TheVariants.{Pointer}
use Rattle.objects.specs.Bytes.{unknown_byte}
use Rattle.objects.specs.Objects.{flagged_through}
use Rattle.objects.specs.Objects.{Object as Old}
use Rattle.forests.specs.Objects.{Object}
use Rattle.c_match.specs.Ranges.{Range, Map, Grown, AreApart, with_range}
use Rattle.c_match.specs.Bytes.{AreBytesOf}
use Rattle.c_match.specs.Held.{IsHeldIn, AreHeld}
use Rattle.c_match.specs.Left.{IsPrivate, IsLeft}

-- ---- objects of forests alone

-- Objects of C are held as long as their homes are as they were: so a store to a private object, and a further one, change nothing.
abbrev pub HeldBySameHomes : Type 0
HeldBySameHomes =
    (map : Map) (old : List Old) (objects new : List Object)
    → AreHeld map old objects → ((p : ℕ) (x : Old) (r : Range) → slice_get old p ≡ Some x → map x.made ≡ Some r → slice_get new r.object.place ≡ slice_get objects r.object.place)
    → AreHeld map old new

-- further objects of forests are private, and leave the others
abbrev pub HomesBegin : Type 0
HomesBegin =
    (map : Map) (old : List Old) (objects more : List Object) → AreHeld map old objects
    → AreHeld map old (objects ++ more) × IsLeft map old objects (objects ++ more) × ((place : ℕ) → length objects ≤ place → IsPrivate map old place)

-- what was left is left by what leaves it again
abbrev pub LeavingGoesOn : Type 0
LeavingGoesOn =
    (map more : Map) (old later : List Old) (first second third : List Object)
    → IsLeft map old first second → IsLeft more later second third → length first ≤ length second
    → ((place : ℕ) → place < length first → IsPrivate map old place → IsPrivate more later place)
    → IsLeft map old first third

-- ---- an object of C begins

-- in a home that is there, where no other object's bytes are
abbrev pub ObjectsBegin : Type 0
ObjectsBegin =
    (map : Map) (old : List Old) (objects : List Object) (x : Old) (range : Range)
    → AreHeld map old objects → map x.made ≡ None → IsHeldIn map x objects range
    → ((p : ℕ) (y : Old) (r : Range) → slice_get old p ≡ Some y → map y.made ≡ Some r → AreApart range (length x.bytes) r (length y.bytes))
    → AreHeld (with_range x.made range map) (old ++ x ∷ []) objects × Grown map (with_range x.made range map)

-- none are in a private one
abbrev pub PrivateIsApart : Type 0
PrivateIsApart =
    (map : Map) (old : List Old) (range : Range) (size : ℕ) → IsPrivate map old range.object.place
    → (p : ℕ) (y : Old) (r : Range) → slice_get old p ≡ Some y → map y.made ≡ Some r → AreApart range size r (length y.bytes)

-- a new slot holds an object of which nothing is known
abbrev pub SlotsHold : Type 0
SlotsHold = (map : Map) (size room : ℕ) → size ≤ room → AreBytesOf map (replicate size unknown_byte) (replicate room unknown_byte)

-- an object of C that begins to be const, or ends to be so, stands in its home, if that may be written
abbrev pub FlagsStay : Type 0
FlagsStay =
    (map : Map) (old : List Old) (objects : List Object) (name : ObjectName) (offset : ℕ) (constant : Bool)
    → AreHeld map old objects → ((x : Old) (r : Range) (home : Object) → slice_get old name.place ≡ Some x → map x.made ≡ Some r → slice_get objects r.object.place ≡ Some home → home.constant ≡ false)
    → AreHeld map (flagged_through old (Pointer name offset) constant) objects

-- ---- objects end

-- the last objects of both end, and no home of those of C that live on
abbrev pub ObjectsEnd : Type 0
ObjectsEnd =
    (map : Map) (old : List Old) (objects : List Object) (count homes : ℕ)
    → AreHeld map old objects → ((p : ℕ) (x : Old) (r : Range) → p < count → slice_get old p ≡ Some x → map x.made ≡ Some r → r.object.place < homes)
    → AreHeld map (take count old) (take homes objects)
