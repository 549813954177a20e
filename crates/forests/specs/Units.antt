-- A lowered unit as a program: what its names stand for, and the world in which it starts.
-- Source: ISO/IEC 9899:1990, 5.1.2.2.1 (main), 6.5.7 (initialization), 7.9.7 (putchar, getchar) and 7.10.4 (exit).
use Rattle.std.specs.Prelude.{ℕ, zero, suc, ◌+◌, ℤ, false, Option, Some, None, List, [], ◌∷◌, ◌++◌, length, flat_map, replicate, slice_get}
use Rattle.objects.specs.declared.byte.Byte.{Byte}
use Rattle.objects.specs.declared.byte.Byte.TheVariants.{Bits}
use Rattle.objects.specs.declared.value.ObjectName.{ObjectName}
use Rattle.objects.specs.declared.value.Value.{Value}
use Rattle.objects.specs.declared.value.Value.TheVariants.{Number, Pointer, Function}
use Rattle.objects.specs.Bytes.{known_bytes}
use Rattle.objects.specs.Pointers.{moved_if}
use Rattle.op_forest.specs.declared.lowered.LoweredFunction.{LoweredFunction}
use Rattle.op_forest.specs.declared.lowered.LoweredObject.{LoweredObject}
use Rattle.op_forest.specs.declared.lowered.Datum.{Datum}
use Rattle.op_forest.specs.declared.lowered.Datum.TheVariants as datum
use Rattle.op_forest.specs.Callees.{BuiltIn}
use Rattle.op_forest.specs.Lowered.{LoweredUnit}
use Rattle.op_forest.specs.Units.{function_of, object_place, built_in_named, callee_of}
use Rattle.forests.specs.Words.{Word, Plain, Label, unknown}
use Rattle.forests.specs.WordBytes.{word_bytes}
use Rattle.forests.specs.Objects.{Object}
use Rattle.forests.specs.Worlds.{World}
use Rattle.forests.specs.Accesses.{defined}
use Rattle.forests.specs.Functions.{Program}

abbrev pub size_by : Option LoweredObject → ℕ
size_by None = 0
size_by (Some o) = o.size

-- the unit's objects are the program's first, in their order
abbrev pub pointer_to : LoweredUnit → ℕ → Value
pointer_to u place = Pointer (record { place = place; made = place; size = size_by (slice_get u.objects place) }) 0

-- A name stands for the unit's function of this name, else for its object, else for the built-in function.
abbrev pub value_by : LoweredUnit → ℕ → Option LoweredFunction → Option ℕ → Option BuiltIn → Option Value
value_by u name (Some f) object built_in = Some (Function name)
value_by u name None (Some place) built_in = Some (pointer_to u place)
value_by u name None None (Some b) = Some (Function name)
value_by u name None None None = None

abbrev pub value_of : LoweredUnit → ℕ → Option Value
value_of u name = value_by u name (function_of u name) (object_place u name) (built_in_named u name)

abbrev pub program_of : LoweredUnit → Program
program_of u = record { callee = callee_of u; global = value_of u; order = u.order }

abbrev pub word_or_unknown : Option Value → Word
word_or_unknown None = unknown
word_or_unknown (Some v) = Plain v

-- a name's value moved by a number of bytes, as long as it stays in its object
abbrev pub moved_or_unknown : Option Value → ℤ → Word
moved_or_unknown None by = unknown
moved_or_unknown (Some v) by = word_or_unknown (defined (moved_if false v by))

-- the label of a function, which the word tells by its name
abbrev pub label_word : Option LoweredFunction → ℕ → Word
label_word None label = unknown
label_word (Some f) label = Label f.name label

-- the bytes of an item
abbrev pub bytes_in : LoweredUnit → Datum → List (Byte Word)
bytes_in u (datum.Bytes bytes) = known_bytes bytes
bytes_in u (datum.Name name offset) = word_bytes u.order (moved_or_unknown (value_of u name) offset)
bytes_in u (datum.Label function label) = word_bytes u.order (label_word (slice_get u.functions function) label)
bytes_in u (datum.Zero n) = replicate n (Bits 255 0)

-- the objects with which the program starts, from a place on
abbrev pub objects_in : LoweredUnit → ℕ → List LoweredObject → List Object
objects_in u place [] = []
objects_in u place (o ∷ os) = record { made = place; constant = o.constant; bytes = flat_map (bytes_in u) o.items } ∷ objects_in u (suc place) os

-- the world in which the program starts, with this input
abbrev pub start_world : LoweredUnit → List ℕ → World
start_world u input = record { objects = objects_in u 0 u.objects; made = length u.objects; arguments = []; input = input; trace = [] }

-- the object that main's second argument points to, behind the unit's objects
abbrev pub null_name : LoweredUnit → ObjectName
null_name u = record { place = length u.objects; made = length u.objects; size = 4 }

abbrev pub null_object : LoweredUnit → Object
null_object u = record { made = length u.objects; constant = false; bytes = replicate 4 (Bits 255 0) }

-- The world in which main is called: where it has parameter words, they are 0 and a pointer to a null pointer.
abbrev pub main_world : LoweredUnit → ℕ → List ℕ → World
main_world u zero input = start_world u input
main_world u (suc words) input = record {
  objects = objects_in u 0 u.objects ++ null_object u ∷ [];
  made = length u.objects + 1;
  arguments = Plain (Number 0) ∷ Plain (Pointer (null_name u) 0) ∷ [];
  input = input;
  trace = [];
}
