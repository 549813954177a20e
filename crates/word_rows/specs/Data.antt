-- The data of a unit in a machine's memory: the bytes of an item are those of the object that it stands in.
-- Source: ISO/IEC 9899:1990, 6.5.7 (initialization).
use Rattle.std.specs.Prelude.{◌≡◌, ◌<◌, ℕ, ◌^◌, List, [], ◌∷◌, ◌++◌, flat_map, replicate, Option, Some, slice_get}
use Rattle.std.specs.List.{AllZip}
use Rattle.objects.specs.declared.value.Value.{Value}
use Rattle.objects.specs.Bytes.{number_bytes}
use Rattle.op_forest.specs.declared.lowered.Datum.{Datum}
use Rattle.op_forest.specs.declared.lowered.Datum.TheVariants as datum
use Rattle.op_forest.specs.declared.lowered.LoweredFunction.{LoweredFunction}
use Rattle.op_forest.specs.declared.lowered.LoweredObject.{LoweredObject}
use Rattle.op_forest.specs.Lowered.{LoweredUnit}
use Rattle.forests.specs.Words.{Plain}
use Rattle.forests.specs.Units.{value_of, bytes_in}
use Rattle.memory_map.specs.Maps.{Map, IsWord, IsByte}
use Rattle.memory_map.specs.Lies.{StandAll}
use Rattle.memory_map.specs.Memory.{Stand}
use Rattle.memory_map.specs.Frames.{data_places}
use Rattle.memory_map.specs.Starts.{unit_objects}
use Rattle.word_rows.specs.Pointers.{moved_number}

abbrev pub AreSmall : List ℕ → Type 0
AreSmall [] = Unit {0}
AreSmall (b ∷ bs) = (b < 256) × AreSmall bs

-- These are an item's bytes among the data: those that it lists, zeros, or the four of an address in the unit's order.
abbrev pub IsItem : Map → LoweredUnit → Datum → List ℕ → Type 0
IsItem map u (datum.Bytes bytes) ns = AreSmall bytes × (ns ≡ bytes)
IsItem map u (datum.Zero n) ns = ns ≡ replicate n 0
IsItem map u (datum.Name name offset) ns =
    (v : Value) × (h : ℕ) × (value_of u name ≡ Some v) × IsWord map (Plain v) h × (h < 2 ^ 32)
    × (ns ≡ number_bytes u.order 4 (moved_number h offset))
IsItem map u (datum.Label function label) ns =
    (f : LoweredFunction) × (slice_get u.functions function ≡ Some f) × (map.label f.name label < 2 ^ 32)
    × (ns ≡ number_bytes u.order 4 (map.label f.name label))

-- and these the bytes of items, one behind the other
abbrev pub AreItems : Map → LoweredUnit → List Datum → List ℕ → Type 0
AreItems map u [] ns = ns ≡ []
AreItems map u (d ∷ ds) ns =
    (first : List ℕ) × (rest : List ℕ) × IsItem map u d first × AreItems map u ds rest × (ns ≡ first ++ rest)

abbrev pub ItemsAreBytes : Type 0
ItemsAreBytes =
    (map : Map) (u : LoweredUnit) (d : Datum) (ns : List ℕ)
    → IsItem map u d ns → AllZip (IsByte map) (bytes_in u d) ns

abbrev pub DataAreBytes : Type 0
DataAreBytes =
    (map : Map) (u : LoweredUnit) (ds : List Datum) (ns : List ℕ)
    → AreItems map u ds ns → AllZip (IsByte map) (flat_map (bytes_in u) ds) ns

-- So where memory has the items of each object at its address, the unit's objects stand there.
abbrev pub UnitsStand : Type 0
UnitsStand =
    (map : Map) (u : LoweredUnit) (at : ℕ) (memory : ℕ → Option ℕ)
    → ((k a : ℕ) (o : LoweredObject) → slice_get u.objects k ≡ Some o
    → slice_get (data_places at (unit_objects u)) k ≡ Some a
    → (ns : List ℕ) × AreItems map u o.items ns × Stand memory a ns)
    → StandAll map (data_places at (unit_objects u)) (unit_objects u) memory
