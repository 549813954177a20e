-- The operations of C on pointers, as templates over their operands'.
-- Source: ISO/IEC 9899:1990, 6.3.2.2, 6.3.2.3 and 6.3.6; Fraser and Hanson, A Retargetable C Compiler, chapters 5 and 9 (an index
-- times the size of an element; a difference divided by it).
use Rattle.std.specs.Prelude.{ℕ, zero, suc, ◌+◌, ◌*◌, ◌^◌, ◌==◌, ℤ, pos, Bool, true, false, Option, Some, None, length, if◌then◌else◌}
use Rattle.objects.specs.declared.value.ObjectName.{ObjectName}
use Rattle.op_forest.specs.declared.op.Op.{Op}
use Rattle.op_forest.specs.declared.op.Op.TheVariants as op
use Rattle.op_forest.specs.declared.suffix.Suffix.TheVariants.{I, U, P, V}
use Rattle.op_forest.specs.declared.frame.Slot.{Slot}
use Rattle.op_forest.specs.declared.sym.Sym.TheVariants as sym
use Rattle.op_forest.specs.Nodes.{Head}
use Rattle.forests.specs.Addresses.{Home}
use Rattle.c_rows_agree.specs.Templates.{Template, Leaf}
use Rattle.c_rows_agree.specs.Typed.{Typed, head_with, head, over_two, constant_i, as_i, as_u, as_p}

-- ---- moves

-- an index as it is, shifted, or multiplied by the size of an element
pub data Scaling : Type 0 where
  Single : Scaling
  Shifted : (count : ℕ) → Scaling
  Multiplied : (size : ℕ) → Scaling

-- the exponent above 0, and not above this one, of which a number is the power of two
abbrev pub exponent_in : ℕ → ℕ → Option ℕ
exponent_in zero n = None
exponent_in (suc k) n = if n == 2 ^ suc k then Some (suc k) else exponent_in k n

abbrev pub shifted_or_multiplied : Option ℕ → ℕ → Scaling
shifted_or_multiplied (Some count) size = Shifted count
shifted_or_multiplied None size = Multiplied size

-- a power of two is a shift
abbrev pub scaling_of : ℕ → Scaling
scaling_of size = if size == 1 then Single else shifted_or_multiplied (exponent_in 31 size) size

abbrev pub scaled_by : Scaling → Template → Template
scaled_by Single t = t
scaled_by (Shifted count) t = over_two op.Lsh I t (constant_i count)
scaled_by (Multiplied size) t = over_two op.Mul I t (constant_i size)

abbrev pub scaled : ℕ → Typed → Template
scaled size n = scaled_by (scaling_of size) (as_i n)

abbrev pub move_op : Bool → Op
move_op true = op.Sub
move_op false = op.Add

-- a pointer on, or back, by as many elements of this size as an integer says
abbrev pub moved : ℕ → Bool → Typed → Typed → Typed
moved size back p n = record { tree = over_two (move_op back) P (as_p p) (scaled size n); suffix = P }

-- the pointer may stand on either side
abbrev pub moved_among : ℕ → Bool → Bool → Typed → Typed → Typed
moved_among size back true a b = moved size back a b
moved_among size back false a b = moved size back b a

-- a place so many bytes further
abbrev pub displaced : ℕ → Typed → Typed
displaced zero p = p
displaced by p = record { tree = over_two op.Add P (as_p p) (constant_i by); suffix = P }

-- so many bytes behind what a name stands for
abbrev pub name : ℕ → ℤ → Typed
name n offset = record { tree = Leaf (head_with op.Addrg P (sym.Global n offset) None); suffix = P }

-- the place at an offset from the frame's top
abbrev pub local : ℤ → Typed
local offset = record { tree = Leaf (head_with op.Addrl P sym.Nothing (Some offset)); suffix = P }

-- a parameter word, by its place among them
abbrev pub argument : ℕ → Typed
argument i = record { tree = Leaf (head_with op.Addrf P sym.Nothing (Some (pos (4 * i)))); suffix = P }

abbrev pub argument_name : Home → ℕ → ObjectName
argument_name home i = record { place = home.place + length home.slots + i; made = home.made + length home.slots + i; size = 4 }

-- the object of a slot of the frame, by its place among them
abbrev pub slot_name : Home → ℕ → Slot → ObjectName
slot_name home i s = record { place = home.place + i; made = home.made + i; size = s.size }

-- ---- differences

-- how many bytes lie between two places, and how many elements of a size
abbrev pub between : Typed → Typed → Typed
between p q = record { tree = over_two op.Sub U (as_u p) (as_u q); suffix = U }

abbrev pub difference : ℕ → Typed → Typed → Typed
difference size p q = if size == 1 then between p q else record { tree = over_two op.Div I (as_i (between p q)) (constant_i size); suffix = I }

-- ---- calls

-- a call of a function whose value is used, or isn't
abbrev pub call_head : Bool → Head
call_head true = head op.Call I
call_head false = head op.Call V
