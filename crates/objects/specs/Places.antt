-- Where accesses through values go, and what a store leaves that comes to no end.
use Rattle.std.specs.Prelude.{◌≡◌, ◌≤◌, ℕ, ◌+◌, true, List, take, Some, slice_get, Result, Err}
use Rattle.lcc_base.specs.declared.cause.Cause.{Cause}
use Rattle.objects.specs.declared.byte.Byte.{Byte}
use Rattle.objects.specs.declared.store_fault.StoreFault.{StoreFault}
use Rattle.objects.specs.declared.store_fault.StoreFault.TheVariants.{Undefined, Memory}
use Rattle.objects.specs.declared.value.ObjectName.{ObjectName}
use Rattle.objects.specs.declared.value.Value.{Value}
use Rattle.objects.specs.declared.value.Value.TheVariants.{Pointer}
use Rattle.objects.specs.Objects.{Object, is_named}
use Rattle.objects.specs.Accesses.{stored_through}

-- so many bytes through a value are those of the living object at a place, from an offset on
pub record GoesTo (objects : List Object) (p : Value) (size place offset : ℕ) : Type 0 where
  pub name : ObjectName
  pub it : Object
  pub points : p ≡ Pointer name offset
  pub stands : name.place ≡ place
  pub lives : slice_get objects place ≡ Some it
  pub named : is_named name it ≡ true
  pub inside : offset + size ≤ name.size

-- What a store of bytes through a value leaves, by its fault: where it is undefined, as the objects that were wanted say,
-- all is as before; want of memory leaves some of the first bytes stored.
abbrev pub IsLeft : List Object → Value → List (Byte Value) → Result (List Object) Cause → List Object → StoreFault → Type 0
IsLeft old p bytes wanted new (Undefined c) = (wanted ≡ Err c) × (new ≡ old)
IsLeft old p bytes wanted new Memory = (count : ℕ) × (new ≡ stored_through old p (take count bytes))
