-- Addresses that are clear of objects: they stay so, and stores into objects leave what stands there. The laws speak of sets
-- of addresses that a test tells.
use Rattle.std.specs.Prelude.{◌≡◌, ℕ, ◌+◌, Bool, true, List, ◌++◌, Option, Some, length}
use Rattle.forests.specs.Objects.{Object}
use Rattle.forests.specs.Worlds.{World}
use Rattle.forests.specs.Kept.{Keeps}
use Rattle.forests.specs.Functions.{left_behind}
use Rattle.memory_map.specs.Maps.{Map, Grown, start_at}
use Rattle.memory_map.specs.Lies.{IsLaid, IsClear, Fades, extended, AreNumbered, IsOf}
use Rattle.memory_map.specs.Memory.{Changed, HasSome}

-- no object that lives has a byte at an address of the set
abbrev pub IsClearOf : Map → List Object → (ℕ → Bool) → Type 0
IsClearOf map objects set = IsClear map objects (λ x. set x ≡ true)

-- a write into an object leaves clear bytes as they were
abbrev pub PrivateStays : Type 0
PrivateStays =
    (map : Map) (objects : List Object) (set : ℕ → Bool) (old new : ℕ → Option ℕ) (o offset a : ℕ)
    (vs : List ℕ) (x : ℕ)
    → IsClearOf map objects set → start_at map objects o ≡ Some a
    → HasSome objects o offset (length vs) → Changed old new (a + offset) vs
    → set x ≡ true → new x ≡ old x

-- fewer addresses are clear too
abbrev pub ClearLess : Type 0
ClearLess =
    (map : Map) (objects : List Object) (set fewer : ℕ → Bool)
    → ((x : ℕ) → fewer x ≡ true → set x ≡ true) → IsClearOf map objects set
    → IsClearOf map objects fewer

-- and those that new objects are clear of
abbrev pub ClearNew : Type 0
ClearNew =
    (map : Map) (floor made : ℕ) (objects new : List Object) (places : List ℕ) (set : ℕ → Bool)
    → IsLaid map floor made objects → AreNumbered made new
    → ((x : ℕ) → IsOf places new x → set x ≡ true → ⊥) → IsClearOf map objects set
    → IsClearOf (extended map made places) (objects ++ new) set

-- over a run in which objects end, or have other bytes
abbrev pub ClearFades : Type 0
ClearFades =
    (a b : Map) (floor made : ℕ) (old new : List Object) (set : ℕ → Bool)
    → IsLaid a floor made old → Grown a b → Fades old new → IsClearOf a old set
    → IsClearOf b new set

-- runs of bodies and calls are such
abbrev pub RunsFade : Type 0
RunsFade = (old new : World) → Keeps old new → Fades old.objects new.objects

-- and a whole call: what its own run left of the objects that it found and made, less what it made
abbrev pub CallsFade : Type 0
CallsFade =
    (before w : World) (own : List Object) → Fades (before.objects ++ own) w.objects
    → Fades before.objects (left_behind before w).objects
