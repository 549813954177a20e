-- Objects that begin and end, and what lies in memory then.
-- Source: ISO/IEC 9899:1990, 6.1.2.4 (storage durations).
use Rattle.std.specs.Prelude.{◌≡◌, ◌≤◌, ◌<◌, ℕ, ◌*◌, ◌+◌, ◌-◌, ◌%◌, ◌^◌, List, ◌++◌, Option, Some, length, slice_get}
use Rattle.lcc_base.specs.declared.order.Order.{Order}
use Rattle.objects.specs.declared.byte.Byte.{Byte}
use Rattle.op_forest.specs.Callees.{Body}
use Rattle.forests.specs.Words.{Word}
use Rattle.forests.specs.Objects.{Object}
use Rattle.forests.specs.Worlds.{World}
use Rattle.forests.specs.Addresses.{Home}
use Rattle.forests.specs.Functions.{entered, home_in, left_behind}
use Rattle.memory_map.specs.Maps.{Map, Grown, HasByte}
use Rattle.memory_map.specs.Lies.{IsLaid, Lies, IsClear, Fades, extended, AreNumbered, Spread, IsOf, StandAll}
use Rattle.memory_map.specs.Frames.{own_places, IsHome, IsHomed, IsOwn, Passed, data_places, EndBy, bare_map}

-- further objects have addresses of their own, and those that were there keep theirs
abbrev pub MapsGrow : Type 0
MapsGrow =
    (map : Map) (floor made : ℕ) (objects : List Object) (places : List ℕ)
    → IsLaid map floor made objects → Grown map (extended map made places)

-- objects are made where none lies
abbrev pub ObjectsBegin : Type 0
ObjectsBegin =
    (map : Map) (floor made : ℕ) (objects new : List Object) (places : List ℕ)
    (memory : ℕ → Option ℕ)
    → Lies map floor made objects memory → AreNumbered made new → Spread floor places new
    → IsClear map objects (IsOf places new)
    → StandAll map places new memory
    → Lies (extended map made places) floor (made + length new) (objects ++ new) memory

-- objects end, or lose bytes
abbrev pub ObjectsEnd : Type 0
ObjectsEnd =
    (map : Map) (floor made : ℕ) (old new : List Object) (memory : ℕ → Option ℕ)
    → Fades old new → ((o i : ℕ) (b : Byte Word) → HasByte new o i b → HasByte old o i b)
    → Lies map floor made old memory → Lies map floor made new memory

-- a call's objects end with it
abbrev pub CallsEnd : Type 0
CallsEnd =
    (map : Map) (floor : ℕ) (before after : World) (memory : ℕ → Option ℕ)
    → Lies map floor after.made after.objects memory
    → Lies map floor (left_behind before after).made (left_behind before after).objects memory

-- A call is entered: its slots and parameter words are new objects. Nothing lay there; in the slots are any bytes, and in
-- the parameter words the arguments.
abbrev pub CallsBegin : Type 0
CallsBegin =
    (map : Map) (floor : ℕ) (memory : ℕ → Option ℕ) (order : Order) (name : ℕ) (f : Body)
    (w : World) (top words_at depth : ℕ)
    → let words = length w.arguments in
    Lies map floor w.made w.objects memory → IsHome floor top words_at depth words f.slots
    → IsClear map w.objects (IsOwn top words_at depth words)
    → ((x : ℕ) → top - depth ≤ x → x < top → (v : ℕ) × (memory x ≡ Some v) × (v < 256))
    → ((k : ℕ) (a : Word) → slice_get w.arguments k ≡ Some a → Passed map order memory (words_at + 4 * k) a)
    → Lies (extended map w.made (own_places top words_at f.slots words)) floor (entered order name f w).made (entered order name f w).objects memory

-- and the body finds them there, as long as it runs
abbrev pub CallsAreHomed : Type 0
CallsAreHomed =
    (map : Map) (name : ℕ) (f : Body) (w : World) (top words_at : ℕ)
    → length w.arguments ≡ f.words
    → IsHomed (extended map w.made (own_places top words_at f.slots (length w.arguments))) (home_in name f w) top words_at

abbrev pub HomesStay : Type 0
HomesStay =
    (a b : Map) (home : Home) (top words_at : ℕ) → Grown a b → IsHomed a home top words_at
    → IsHomed b home top words_at

-- The unit's objects at the start, whose bytes memory has: no other object lies there.
abbrev pub UnitsBegin : Type 0
UnitsBegin =
    (functions : ℕ → ℕ) (labels : ℕ → ℕ → ℕ) (floor at : ℕ) (new : List Object)
    (memory : ℕ → Option ℕ)
    → let places = data_places at new in
    at % 4 ≡ 0 → 0 < at → floor < 2 ^ 32 → EndBy floor at new → AreNumbered 0 new
    → StandAll (extended (bare_map functions labels) 0 places) places new memory
    → Lies (extended (bare_map functions labels) 0 places) floor (length new) new memory
