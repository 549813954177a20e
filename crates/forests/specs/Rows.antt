-- What each operator does once its operands have values: a row an operator, by the number of its operands.
-- Source: Fraser and Hanson, A Retargetable C Compiler, chapter 5; values as in ISO/IEC 9899:1990, 6.2 and 6.3.
use Rattle.std.specs.Prelude.{ℕ, ◌==◌, Bool, true, false, Option, Some, None, List, [], ◌∷◌, if◌then◌else◌}
use Rattle.objects.specs.declared.operators.Unary.TheVariants.{Negate}
use Rattle.objects.specs.declared.operators.Binary.TheVariants as binary
use Rattle.objects.specs.declared.operators.Comparison.TheVariants as comparison
use Rattle.objects.specs.declared.value.Value.TheVariants.{Function}
use Rattle.objects.specs.declared.width.Width.TheVariants as width
use Rattle.op_forest.specs.declared.op.Op.{Op}
use Rattle.op_forest.specs.declared.op.Op.TheVariants as op
use Rattle.op_forest.specs.declared.suffix.Suffix.{Suffix}
use Rattle.op_forest.specs.declared.suffix.Suffix.TheVariants.{C, S, I, U, P, B, V}
use Rattle.op_forest.specs.declared.sym.Sym.{Sym}
use Rattle.op_forest.specs.declared.sym.Sym.TheVariants as sym
use Rattle.op_forest.specs.Nodes.{Head}
use Rattle.forests.specs.Words.{Word, Plain, Label}
use Rattle.forests.specs.Objects.{Object}
use Rattle.forests.specs.Accesses.{word_read, number_read, word_written, number_written, block_copied}
use Rattle.forests.specs.Bits.{bits_and, bits_or, bits_xor, bits_left, bits_right, bits_right_signed, complemented, bitwise, shifted}
use Rattle.forests.specs.Worlds.{Next, To, End}
use Rattle.forests.specs.Actions.{Action, Gave, Passed, Called, Moved, Meaningless, gave, changed}
use Rattle.forests.specs.Addresses.{Environment, named, local, parameter}
use Rattle.forests.specs.Numbers.{constant, narrow_constant, widened, narrowed, of_one, of_two, moved_on, moved_back, difference, equal, negated, signed_are, unsigned_are}

-- the function that is called
abbrev pub called : Bool → Word → Action
called valued (Plain (Function f)) = Called valued f
called valued w = Meaningless

-- a jump to the address of one of the function's own labels
abbrev pub jumped : ℕ → Word → Action
jumped function (Label f l) = if f == function then Moved (To l) else Meaningless
jumped function w = Meaningless

-- a jump to the symbol's label where it holds
abbrev pub branched : Sym → Option Bool → Action
branched (sym.Label l) (Some true) = Moved (To l)
branched (sym.Label l) (Some false) = Moved Next
branched x b = Meaningless

-- a block of the symbol's size and alignment is copied from the second place to the first
abbrev pub assigned : Sym → List Object → Word → Word → Action
assigned (sym.Block size align) objects to from = changed (block_copied size align objects from to)
assigned x objects to from = Meaningless

abbrev pub leaf_row : Environment → Head → List Object → Op → Suffix → Action
leaf_row e h objects op.Cnst C = gave (narrow_constant 8 h.value)
leaf_row e h objects op.Cnst S = gave (narrow_constant 16 h.value)
leaf_row e h objects op.Cnst I = gave (constant h.value)
leaf_row e h objects op.Cnst U = gave (constant h.value)
leaf_row e h objects op.Cnst P = gave (constant h.value)
leaf_row e h objects op.Addrg P = gave (named e objects h.sym)
leaf_row e h objects op.Addrf P = gave (parameter e.home h.value)
leaf_row e h objects op.Addrl P = gave (local e.home h.value)
leaf_row e h objects op.Ret V = Moved (End None)
leaf_row e h objects op.Label V = Moved Next
leaf_row e h objects o x = Meaningless

abbrev pub unary_row : Environment → Head → List Object → Op → Suffix → Word → Action
unary_row e h objects op.Indir C a = gave (number_read e.order width.One objects a)
unary_row e h objects op.Indir S a = gave (number_read e.order width.Two objects a)
unary_row e h objects op.Indir I a = gave (word_read e.order objects a)
unary_row e h objects op.Indir P a = gave (word_read e.order objects a)
unary_row e h objects op.Indir B a = Gave a
unary_row e h objects op.Arg I a = Passed a
unary_row e h objects op.Arg P a = Passed a
unary_row e h objects op.Call I a = called true a
unary_row e h objects op.Call V a = called false a
unary_row e h objects op.Ret I a = Moved (End (Some a))
unary_row e h objects op.Cvc I a = gave (widened true 8 a)
unary_row e h objects op.Cvc U a = gave (widened false 8 a)
unary_row e h objects op.Cvs I a = gave (widened true 16 a)
unary_row e h objects op.Cvs U a = gave (widened false 16 a)
unary_row e h objects op.Cvi C a = gave (narrowed 8 a)
unary_row e h objects op.Cvi S a = gave (narrowed 16 a)
unary_row e h objects op.Cvi U a = Gave a
unary_row e h objects op.Cvu C a = gave (narrowed 8 a)
unary_row e h objects op.Cvu S a = gave (narrowed 16 a)
unary_row e h objects op.Cvu I a = Gave a
unary_row e h objects op.Cvu P a = Gave a
unary_row e h objects op.Cvp U a = Gave a
unary_row e h objects op.Neg I a = gave (of_one Negate a)
unary_row e h objects op.Bcom U a = gave (complemented a)
unary_row e h objects op.Jump V a = jumped e.home.function a
unary_row e h objects o x a = Meaningless

abbrev pub binary_row : Environment → Head → List Object → Op → Suffix → Word → Word → Action
binary_row e h objects op.Asgn C a b = changed (number_written e.order width.One b objects a)
binary_row e h objects op.Asgn S a b = changed (number_written e.order width.Two b objects a)
binary_row e h objects op.Asgn I a b = changed (word_written e.order b objects a)
binary_row e h objects op.Asgn P a b = changed (word_written e.order b objects a)
binary_row e h objects op.Asgn B a b = assigned h.sym objects a b
binary_row e h objects op.Add I a b = gave (of_two true binary.Add a b)
binary_row e h objects op.Add U a b = gave (of_two false binary.Add a b)
binary_row e h objects op.Add P a b = gave (moved_on objects a b)
binary_row e h objects op.Sub I a b = gave (of_two true binary.Subtract a b)
binary_row e h objects op.Sub U a b = gave (difference objects a b)
binary_row e h objects op.Sub P a b = gave (moved_back objects a b)
binary_row e h objects op.Mul I a b = gave (of_two true binary.Multiply a b)
binary_row e h objects op.Mul U a b = gave (of_two false binary.Multiply a b)
binary_row e h objects op.Div I a b = gave (of_two true binary.Divide a b)
binary_row e h objects op.Div U a b = gave (of_two false binary.Divide a b)
binary_row e h objects op.Mod I a b = gave (of_two true binary.Remainder a b)
binary_row e h objects op.Mod U a b = gave (of_two false binary.Remainder a b)
binary_row e h objects op.Lsh I a b = gave (shifted true binary.ShiftLeft bits_left a b)
binary_row e h objects op.Lsh U a b = gave (shifted false binary.ShiftLeft bits_left a b)
binary_row e h objects op.Rsh I a b = gave (shifted true binary.ShiftRight bits_right_signed a b)
binary_row e h objects op.Rsh U a b = gave (shifted false binary.ShiftRight bits_right a b)
binary_row e h objects op.Band U a b = gave (bitwise binary.And bits_and a b)
binary_row e h objects op.Bor U a b = gave (bitwise binary.Or bits_or a b)
binary_row e h objects op.Bxor U a b = gave (bitwise binary.Xor bits_xor a b)
binary_row e h objects op.Eq I a b = branched h.sym (equal objects a b)
binary_row e h objects op.Ne I a b = branched h.sym (negated (equal objects a b))
binary_row e h objects op.Lt I a b = branched h.sym (signed_are comparison.Less a b)
binary_row e h objects op.Lt U a b = branched h.sym (unsigned_are objects comparison.Less a b)
binary_row e h objects op.Le I a b = branched h.sym (signed_are comparison.LessEqual a b)
binary_row e h objects op.Le U a b = branched h.sym (unsigned_are objects comparison.LessEqual a b)
binary_row e h objects op.Gt I a b = branched h.sym (signed_are comparison.Greater a b)
binary_row e h objects op.Gt U a b = branched h.sym (unsigned_are objects comparison.Greater a b)
binary_row e h objects op.Ge I a b = branched h.sym (signed_are comparison.GreaterEqual a b)
binary_row e h objects op.Ge U a b = branched h.sym (unsigned_are objects comparison.GreaterEqual a b)
binary_row e h objects o x a b = Meaningless

-- what an operator does, by its operands' values
abbrev pub acts : Environment → Head → List Word → List Object → Action
acts e h [] objects = leaf_row e h objects h.operator.op h.operator.suffix
acts e h (a ∷ []) objects = unary_row e h objects h.operator.op h.operator.suffix a
acts e h (a ∷ b ∷ []) objects = binary_row e h objects h.operator.op h.operator.suffix a b
acts e h ws objects = Meaningless
