-- What forests do with pointers, where C moves, orders, subtracts, compares and tests those that they stand for.
use Rattle.std.specs.Prelude.{◌≡◌, ℕ, ℤ, neg_ℤ, not, Bool, Some, Ok, List}
use Rattle.std.specs.declared.cmp.Ordering.{Ordering}
use Rattle.objects.specs.declared.value.Value.{Value}
use Rattle.objects.specs.declared.value.Value.TheVariants.{Number}
use Rattle.objects.specs.Arithmetic.{signed_of}
use Rattle.objects.specs.Objects.{Object as Old}
use Rattle.objects.specs.Pointers.{moved, ordered, subtracted, compared, tested}
use Rattle.forests.specs.Addresses.{moved_from}
use Rattle.forests.specs.Numbers.{moved_on, moved_back, equal}
use Rattle.forests.specs.Objects.{Object, shapes}
use Rattle.forests.specs.Words.{Word, Plain}
use Rattle.c_match.specs.Ranges.{Map}
use Rattle.c_match.specs.Values.{IsValue, StaysInside}
use Rattle.c_match.specs.Held.{AreHeld}

-- moved by so many bytes, as the offset of a symbol moves its name
abbrev pub PointersMove : Type 0
PointersMove =
    (map : Map) (old : List Old) (objects : List Object) (p q : Value) (w : Word) (by : ℤ)
    → AreHeld map old objects → IsValue map p w → moved old p by ≡ Ok q
    → (a b : Value) × (w ≡ Plain a) × (moved_from objects (Some a) by ≡ Some (Plain b)) × IsValue map q (Plain b)

-- and by as many bytes as a number says, on and back
abbrev pub PointersMoveOn : Type 0
PointersMoveOn =
    (map : Map) (old : List Old) (objects : List Object) (p q : Value) (w : Word) (n : ℕ)
    → AreHeld map old objects → IsValue map p w → moved old p (signed_of n) ≡ Ok q
    → (u : Word) × (moved_on objects w (Plain (Number n)) ≡ Some u) × IsValue map q u

abbrev pub PointersMoveBack : Type 0
PointersMoveBack =
    (map : Map) (old : List Old) (objects : List Object) (p q : Value) (w : Word) (n : ℕ)
    → AreHeld map old objects → IsValue map p w → moved old p (neg_ℤ (signed_of n)) ≡ Ok q
    → (u : Word) × (moved_back objects w (Plain (Number n)) ≡ Some u) × IsValue map q u

-- two into one object, or two numbers, are ordered alike
abbrev pub PointersAreOrdered : Type 0
PointersAreOrdered =
    (map : Map) (old : List Old) (objects : List Object) (p q : Value) (v w : Word) (o : Ordering)
    → AreHeld map old objects → IsValue map p v → IsValue map q w → ordered old p q ≡ Ok o
    → (a b : Value) × (v ≡ Plain a) × (w ≡ Plain b) × (ordered (shapes objects) a b ≡ Ok o)

-- and have the same difference, in elements of any size
abbrev pub PointersAreSubtracted : Type 0
PointersAreSubtracted =
    (map : Map) (old : List Old) (objects : List Object) (element : ℕ) (p q d : Value) (v w : Word)
    → AreHeld map old objects → IsValue map p v → IsValue map q w → subtracted old element p q ≡ Ok d
    → (a b : Value) × (v ≡ Plain a) × (w ≡ Plain b) × (subtracted (shapes objects) element a b ≡ Ok d)

-- Equality is the same: two objects of C may stand one behind the other in one home, but none of these pointers is one past its object.
abbrev pub PointersAreCompared : Type 0
PointersAreCompared =
    (map : Map) (old : List Old) (objects : List Object) (p q : Value) (v w : Word) (b : Bool)
    → AreHeld map old objects → IsValue map p v → IsValue map q w → StaysInside p → StaysInside q → compared old p q ≡ Ok b
    → equal objects v w ≡ Some b

-- a test is a comparison with 0
abbrev pub PointersAreTested : Type 0
PointersAreTested =
    (map : Map) (old : List Old) (objects : List Object) (p : Value) (w : Word) (b : Bool)
    → AreHeld map old objects → IsValue map p w → tested old p ≡ Ok b
    → equal objects w (Plain (Number 0)) ≡ Some (not b)
