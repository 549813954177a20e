-- A function's objects and environment, and operators over values: what the examples act on.
use Rattle.std.specs.Prelude.{ℕ, zero, suc, ℤ, negsuc, true, false, Option, Some, None, List, [], ◌∷◌}
use Rattle.lcc_base.specs.declared.order.Order.{Order}
use Rattle.lcc_base.specs.declared.order.Order.TheVariants.{Big}
use Rattle.objects.specs.declared.byte.Byte.{Byte}
use Rattle.objects.specs.declared.byte.Byte.TheVariants.{Bits, Part}
use Rattle.objects.specs.declared.value.ObjectName.{ObjectName}
use Rattle.objects.specs.declared.value.Value.{Value}
use Rattle.objects.specs.declared.value.Value.TheVariants.{Number, Pointer, Function}
use Rattle.op_forest.specs.declared.op.Op.{Op}
use Rattle.op_forest.specs.declared.suffix.Suffix.{Suffix}
use Rattle.op_forest.specs.declared.sym.Sym.{Sym}
use Rattle.op_forest.specs.declared.sym.Sym.TheVariants as sym
use Rattle.op_forest.specs.Nodes.{Head}
use Rattle.forests.specs.Words.{Word, Plain, Label}
use Rattle.forests.specs.Objects.{Object}
use Rattle.forests.specs.Actions.{Action}
use Rattle.forests.specs.Addresses.{Environment}
use Rattle.forests.specs.Rows.{acts}

abbrev pub number : ℕ → Word
number n = Plain (Number n)

-- -1 as a word
abbrev pub minus_one : Word
minus_one = number 4294967295

-- a constant of 4 bytes, a variable of 8, the function's slot of 8 bytes, and its parameter word
abbrev pub table : ObjectName
table = record { place = 0; made = 0; size = 4 }

abbrev pub variable : ObjectName
variable = record { place = 1; made = 1; size = 8 }

abbrev pub slot : ObjectName
slot = record { place = 2; made = 7; size = 8 }

abbrev pub argument : ObjectName
argument = record { place = 3; made = 8; size = 4 }

-- an object that stood where the slot stands, and is past its lifetime
abbrev pub gone : ObjectName
gone = record { place = 2; made = 4; size = 8 }

abbrev pub at : ObjectName → ℕ → Word
at name offset = Plain (Pointer name offset)

abbrev pub function : ℕ → Word
function f = Plain (Function f)

-- the variable holds a pointer to the table's end, and then 0x8000fffe; the slot holds a label, and then two bytes
-- that aren't known, a byte of which four bits are known, and the last byte of a function
abbrev pub variable_bytes : List (Byte Word)
variable_bytes =
    Part (at table 4) 0 ∷ Part (at table 4) 1 ∷ Part (at table 4) 2 ∷ Part (at table 4) 3
    ∷ Bits 255 128 ∷ Bits 255 0 ∷ Bits 255 255 ∷ Bits 255 254 ∷ []

abbrev pub slot_bytes : List (Byte Word)
slot_bytes =
    Part (Label 5 3) 0 ∷ Part (Label 5 3) 1 ∷ Part (Label 5 3) 2 ∷ Part (Label 5 3) 3
    ∷ Bits 0 0 ∷ Bits 0 0 ∷ Bits 240 48 ∷ Part (function 9) 3 ∷ []

abbrev pub objects : List Object
objects =
    record { made = 0; constant = true; bytes = Bits 255 1 ∷ Bits 255 2 ∷ Bits 255 3 ∷ Bits 255 132 ∷ [] }
    ∷ record { made = 1; constant = false; bytes = variable_bytes }
    ∷ record { made = 7; constant = false; bytes = slot_bytes }
    ∷ record { made = 8; constant = false; bytes = Bits 255 0 ∷ Bits 255 0 ∷ Bits 255 0 ∷ Bits 255 65 ∷ [] }
    ∷ []

-- the objects with other bytes in the variable
abbrev pub with_variable : List (Byte Word) → List Object
with_variable bytes =
    record { made = 0; constant = true; bytes = Bits 255 1 ∷ Bits 255 2 ∷ Bits 255 3 ∷ Bits 255 132 ∷ [] }
    ∷ record { made = 1; constant = false; bytes = bytes }
    ∷ record { made = 7; constant = false; bytes = slot_bytes }
    ∷ record { made = 8; constant = false; bytes = Bits 255 0 ∷ Bits 255 0 ∷ Bits 255 0 ∷ Bits 255 65 ∷ [] }
    ∷ []

abbrev pub values : ℕ → Option Value
values zero = Some (Pointer table 0)
values (suc zero) = Some (Function 1)
values (suc (suc n)) = None

abbrev pub environment : Order → Environment
environment order = record {
  global = values;
  order = order;
  home = record { function = 5; place = 2; made = 7; slots = record { offset = negsuc 7; size = 8 } ∷ []; words = 1 };
}

abbrev pub head : Op → Suffix → Sym → Option ℤ → Head
head o x y v = record { operator = record { op = o; suffix = x }; sym = y; value = v }

-- an operator with its symbol and constant over values, in an order of bytes; and without a symbol or constant
abbrev pub does_with : Order → Op → Suffix → Sym → Option ℤ → List Word → Action
does_with order o x y v ws = acts (environment order) (head o x y v) ws objects

abbrev pub does : Op → Suffix → List Word → Action
does o x ws = does_with Big o x sym.Nothing None ws
