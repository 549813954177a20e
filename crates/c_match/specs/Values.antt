-- Which words stand for a value of C.
use Rattle.std.specs.Prelude.{◌≡◌, ◌≤◌, ◌+◌, Option, Some, None}
use Rattle.objects.specs.declared.value.Value.{Value}
use Rattle.objects.specs.declared.value.Value.TheVariants.{Number, Pointer, Function}
use Rattle.forests.specs.Words.{Word, Plain}
use Rattle.c_match.specs.Ranges.{Range, Map}

-- Numbers and functions stand for themselves, a pointer, live or dead, for the pointer as far into its object's range.
abbrev pub IsValue : Map → Value → Word → Type 0
IsValue map (Number n) w = w ≡ Plain (Number n)
IsValue map (Pointer object offset) w = (r : Range) × (map object.made ≡ Some r) × (w ≡ Plain (Pointer r.object (r.start + offset)))
IsValue map (Function f) w = w ≡ Plain (Function f)

-- of a call that gives no value nothing is asked
abbrev pub IsResult : Map → Option Value → Word → Type 0
IsResult map None w = Unit {0}
IsResult map (Some v) w = IsValue map v w

-- a pointer stays in its object, or is one past its last byte
abbrev pub StaysInside : Value → Type 0
StaysInside (Number n) = Unit {0}
StaysInside (Pointer object offset) = offset ≤ object.size
StaysInside (Function f) = Unit {0}
