-- The operations of C on numbers, as templates over their operands'.
-- Source: ISO/IEC 9899:1990, 6.2.1.2, 6.3.3.3, 6.3.4 to 6.3.12; Fraser and Hanson, A Retargetable C Compiler, chapter 5.
use Rattle.std.specs.Prelude.{ℕ, Bool, true, false, None}
use Rattle.objects.specs.declared.operators.Unary.{Unary}
use Rattle.objects.specs.declared.operators.Unary.TheVariants as unary
use Rattle.objects.specs.declared.operators.Binary.{Binary}
use Rattle.objects.specs.declared.operators.Binary.TheVariants as binary
use Rattle.objects.specs.declared.operators.Comparison.{Comparison}
use Rattle.objects.specs.declared.operators.Comparison.TheVariants as comparison
use Rattle.objects.specs.declared.width.Scalar.{Scalar}
use Rattle.objects.specs.declared.width.Width.{Width}
use Rattle.objects.specs.declared.width.Width.TheVariants as width
use Rattle.op_forest.specs.declared.op.Op.{Op}
use Rattle.op_forest.specs.declared.op.Op.TheVariants as op
use Rattle.op_forest.specs.declared.suffix.Suffix.{Suffix}
use Rattle.op_forest.specs.declared.suffix.Suffix.TheVariants.{C, S, I, U, P}
use Rattle.op_forest.specs.declared.sym.Sym.TheVariants as sym
use Rattle.forests.specs.Worlds.{Move, Next, To}
use Rattle.c_rows_agree.specs.Templates.{Template, Root}
use Rattle.c_rows_agree.specs.Typed.{Typed, head_with, over, over_two, constant_i, constant_u, as_i, as_u, as_p, suffix_by, as_by}

-- ---- constants

-- a number of a signed or an unsigned type
abbrev pub number : Bool → ℕ → Typed
number true n = record { tree = constant_i n; suffix = I }
number false n = record { tree = constant_u n; suffix = U }

-- ---- conversions

-- a value as an integer of four bytes: only a pointer's suffix changes
abbrev pub integer_from : Suffix → Template → Typed
integer_from P t = record { tree = over op.Cvp U t; suffix = U }
integer_from s t = record { tree = t; suffix = s }

-- so many low bits of it: a char's or a short's suffix stands inside a conversion alone
abbrev pub narrow_from : Suffix → Suffix → Template → Template
narrow_from U s t = over op.Cvu s t
narrow_from P s t = over op.Cvu s (over op.Cvp U t)
narrow_from x s t = over op.Cvi s t

abbrev pub converted_by : Width → Bool → Typed → Typed
converted_by width.One signed a = record { tree = over op.Cvc (suffix_by signed) (narrow_from a.suffix C a.tree); suffix = suffix_by signed }
converted_by width.Two signed a = record { tree = over op.Cvs (suffix_by signed) (narrow_from a.suffix S a.tree); suffix = suffix_by signed }
converted_by width.Four signed a = integer_from a.suffix a.tree

abbrev pub converted_to : Scalar → Typed → Typed
converted_to s a = converted_by s.width s.signed a

abbrev pub as_pointer : Typed → Typed
as_pointer a = record { tree = as_p a; suffix = P }

-- ---- operators

abbrev pub unary_of : Unary → Typed → Typed
unary_of unary.Plus a = a
unary_of unary.Negate a = record { tree = over op.Neg I (as_i a); suffix = I }
unary_of unary.Complement a = record { tree = over op.Bcom U (as_u a); suffix = U }

abbrev pub operator_of : Binary → Op
operator_of binary.Add = op.Add
operator_of binary.Subtract = op.Sub
operator_of binary.Multiply = op.Mul
operator_of binary.Divide = op.Div
operator_of binary.Remainder = op.Mod
operator_of binary.ShiftLeft = op.Lsh
operator_of binary.ShiftRight = op.Rsh
operator_of binary.And = op.Band
operator_of binary.Or = op.Bor
operator_of binary.Xor = op.Bxor

-- the operators on bits have the suffix U alone
abbrev pub has_sign : Bool → Binary → Bool
has_sign signed binary.And = false
has_sign signed binary.Or = false
has_sign signed binary.Xor = false
has_sign signed o = signed

-- a shift's count has the suffix I
abbrev pub right_sign : Bool → Binary → Bool
right_sign signed binary.ShiftLeft = true
right_sign signed binary.ShiftRight = true
right_sign signed o = has_sign signed o

abbrev pub binary_of : Binary → Bool → Typed → Typed → Typed
binary_of o signed a b = record {
  tree = over_two (operator_of o) (suffix_by (has_sign signed o)) (as_by (has_sign signed o) a) (as_by (right_sign signed o) b);
  suffix = suffix_by (has_sign signed o);
}

-- ---- tests

abbrev pub jump_of : Comparison → Op
jump_of comparison.Equal = op.Eq
jump_of comparison.NotEqual = op.Ne
jump_of comparison.Less = op.Lt
jump_of comparison.LessEqual = op.Le
jump_of comparison.Greater = op.Gt
jump_of comparison.GreaterEqual = op.Ge

-- what holds where a comparison doesn't
abbrev pub opposite : Comparison → Comparison
opposite comparison.Equal = comparison.NotEqual
opposite comparison.NotEqual = comparison.Equal
opposite comparison.Less = comparison.GreaterEqual
opposite comparison.LessEqual = comparison.Greater
opposite comparison.Greater = comparison.LessEqual
opposite comparison.GreaterEqual = comparison.Less

abbrev pub comparison_where : Bool → Comparison → Comparison
comparison_where true o = o
comparison_where false o = opposite o

-- whether words are equal is asked with the suffix I alone
abbrev pub compares_signed : Bool → Comparison → Bool
compares_signed signed comparison.Equal = true
compares_signed signed comparison.NotEqual = true
compares_signed signed o = signed

-- a jump to a label where two numbers compare so, or where they don't
abbrev pub compared_by : Comparison → Bool → ℕ → Typed → Typed → Root
compared_by o signed l a b = record {
  head = head_with (jump_of o) (suffix_by (compares_signed signed o)) (sym.Label l) None;
  left = as_by (compares_signed signed o) a;
  right = as_by (compares_signed signed o) b;
}

abbrev pub compared : Comparison → Bool → Bool → ℕ → Typed → Typed → Root
compared o signed when l a b = compared_by (comparison_where when o) signed l a b

abbrev pub jump_by_zero : Bool → Op
jump_by_zero true = op.Ne
jump_by_zero false = op.Eq

-- a jump to a label where a number isn't 0, or where it is
abbrev pub tested : Bool → ℕ → Typed → Root
tested when l a = record { head = head_with (jump_by_zero when) I (sym.Label l) None; left = as_i a; right = constant_i 0 }

-- where a jump goes that is taken when a truth is so
abbrev pub move_where : Bool → Bool → ℕ → Move
move_where true true l = To l
move_where true false l = Next
move_where false true l = Next
move_where false false l = To l
