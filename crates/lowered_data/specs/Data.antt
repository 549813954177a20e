-- What the items of a lowered unit's objects hold, as bytes of C's objects. Names are numbers: the unit's functions come first, then its
-- objects and texts, in order; a built-in function has its own number behind them.
-- Source: ISO/IEC 9899:1990, 6.5.7 (initialization); Fraser and Hanson, A Retargetable C Compiler, chapter 5 (data: bytes, addresses, space).
use Rattle.std.specs.Prelude.{◌≡◌, ◌≤◌, ◌<◌, ◌⊎◌, ℕ, ◌+◌, ℤ, pos, false, IsSome, is_none, List, [], ◌∷◌, ◌++◌, length, replicate, slice_get, Some}
use Rattle.lcc_base.specs.declared.order.Order.{Order}
use Rattle.objects.specs.declared.byte.Byte.{Byte}
use Rattle.objects.specs.declared.byte.Byte.TheVariants.{Bits}
use Rattle.objects.specs.declared.value.ObjectName.{ObjectName}
use Rattle.objects.specs.declared.value.Value.{Value}
use Rattle.objects.specs.declared.value.Value.TheVariants.{Number, Pointer, Function}
use Rattle.objects.specs.Bytes.{known_bytes, part_bytes}
use Rattle.objects.specs.Objects.{Object, Storage, contents, object_of}
use Rattle.op_forest.specs.declared.lowered.Datum.{Datum}
use Rattle.op_forest.specs.declared.lowered.Datum.TheVariants as datum
use Rattle.op_forest.specs.declared.lowered.LoweredObject.{LoweredObject}
use Rattle.c_meaning.specs.Each.{EachIs}
use Rattle.c_meaning.specs.Units.{UnitTree}
use Rattle.c_runs.specs.Calls.{function_at, built_in_at}
use Rattle.c_runs.specs.Soundness.{IsSoundObject}
use Rattle.lowered_data.specs.Stand.{Stand}

-- what a program holds: its unit, the order of bytes in memory, and the objects that live
pub record Image : Type 0 where
  pub unit : UnitTree
  pub order : Order
  pub objects : List Object

abbrev pub image : UnitTree → Order → List Object → Image
image u order os = record { unit = u; order = order; objects = os }

-- bytes are bytes, and numbers words
abbrev pub IsSoundStorage : Storage → Type 0
IsSoundStorage s = EachIs (IsSoundObject s.made) s.objects

-- the bytes of the object of a name
abbrev pub bytes_of : List Object → ObjectName → List (Byte Value)
bytes_of os name = contents (object_of os name)

-- a function of the unit, or a built-in one that it doesn't define
abbrev pub IsFunctionNumber : UnitTree → ℕ → Type 0
IsFunctionNumber u f = IsSome (function_at u f) ⊎ IsSome (built_in_at u f)

-- what a name stands for, moved by so many bytes: a function, or a place in an object that lives, or one past its last byte
abbrev pub IsAddress : Image → ℕ → ℤ → Value → Type 0
IsAddress m name offset (Function f) = IsFunctionNumber m.unit f × ((name ≡ f) × (offset ≡ pos 0))
IsAddress m name offset (Pointer object x) = (is_none (object_of m.objects object) ≡ false) × ((name ≡ length m.unit.functions + object.place) × ((offset ≡ pos x) × (x ≤ object.size)))
IsAddress m name offset (Number n) = ⊥

-- the bytes that an item stands for
abbrev pub IsDatumOf : Image → Datum → List (Byte Value) → Type 0
IsDatumOf m (datum.Bytes bytes) cs = cs ≡ known_bytes bytes
IsDatumOf m (datum.Name name offset) cs = (v : Value) × IsAddress m name offset v × (cs ≡ part_bytes m.order v)
IsDatumOf m (datum.Label function label) cs = ⊥
IsDatumOf m (datum.Zero n) cs = cs ≡ replicate n (Bits 255 0)

-- those of items, one behind the other
abbrev pub AreDataOf : Image → List Datum → List (Byte Value) → Type 0
AreDataOf m [] cs = cs ≡ []
AreDataOf m (d ∷ ds) cs = (front : List (Byte Value)) × (rest : List (Byte Value)) × (cs ≡ front ++ rest) × IsDatumOf m d front × AreDataOf m ds rest

-- An item and the place where what it stands for ends, in bytes from a place on: it stands for some of them.
pub record IsStretch (m : Image) (bytes : List (Byte Value)) (from : ℕ) (d : Datum) (end : ℕ) : Type 0 where
  pub held : List (Byte Value)
  pub datum : IsDatumOf m d held
  pub stand : Stand bytes from held
  pub count : from + length held ≡ end
  pub some : from < end
  pub within : end ≤ length bytes

-- an item that stands for the four bytes of a pointer or function at a place
pub record IsWordAt (m : Image) (bytes : List (Byte Value)) (from : ℕ) (d : Datum) : Type 0 where
  pub value : Value
  pub datum : IsDatumOf m d (part_bytes m.order value)
  pub stand : Stand bytes from (part_bytes m.order value)

-- items that stand for the bytes up to a place
pub record Reach (m : Image) (bytes : List (Byte Value)) (ds : List Datum) (end : ℕ) : Type 0 where
  pub held : List (Byte Value)
  pub data_of : AreDataOf m ds held
  pub stand : Stand bytes 0 held
  pub count : length held ≡ end
  pub within : end ≤ length bytes

-- A lowered object holds what C's object at a place of the storage does: it has its size, and may be written where it may.
pub record IsHomeOf (m : Image) (place : ℕ) (x : Object) (home : LoweredObject) : Type 0 where
  pub name : home.name ≡ length m.unit.functions + place
  pub size : home.size ≡ length x.bytes
  pub constant : home.constant ≡ x.constant
  pub items : AreDataOf m home.items x.bytes

-- the object at a place was made as the one of this place, and a lowered object holds what it does
pub record HasHome (m : Image) (place : ℕ) (home : LoweredObject) : Type 0 where
  pub object : Object
  pub there : slice_get m.objects place ≡ Some object
  pub made : object.made ≡ place
  pub is : IsHomeOf m place object home

-- one for each object from a place on
abbrev pub HaveHomes : Image → ℕ → List LoweredObject → Type 0
HaveHomes m place [] = Unit {0}
HaveHomes m place (o ∷ os) = HasHome m place o × HaveHomes m (place + 1) os
