-- Values: numbers, places in objects, and functions; and how many bytes hold one.
-- Source: ISO/IEC 9899:1990, 6.1.2.5; char has 8 bits, short 16, int, long and pointers 32.
use Rattle.std.specs.Prelude.{ℕ, ◌==◌, ◌&&◌, Bool, false}
use Rattle.objects.specs.declared.value.ObjectName.{ObjectName}
use Rattle.objects.specs.declared.value.Value.{Value}
use Rattle.objects.specs.declared.value.Value.TheVariants.{Pointer, Function}
use Rattle.objects.specs.declared.width.Width.{Width}
use Rattle.objects.specs.declared.width.Width.TheVariants.{One, Two, Four}

abbrev pub bytes_in : Width → ℕ
bytes_in One = 1
bytes_in Two = 2
bytes_in Four = 4

abbrev pub bits_in : Width → ℕ
bits_in One = 8
bits_in Two = 16
bits_in Four = 32

abbrev pub same_object : ObjectName → ObjectName → Bool
same_object a b = (a.place == b.place) && ((a.made == b.made) && (a.size == b.size))

-- the same pointer or function
abbrev pub same_whole : Value → Value → Bool
same_whole (Pointer a x) (Pointer b y) = same_object a b && (x == y)
same_whole (Function f) (Function g) = f == g
same_whole v w = false
