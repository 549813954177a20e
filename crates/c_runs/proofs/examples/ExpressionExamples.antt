-- Runs of small programs: what expressions do, and in which order.
use Rattle.std.specs.Prelude.{◌≡◌, refl, ℕ, codes, true, false, [], ◌∷◌}
use Rattle.lcc_base.specs.declared.cause.Cause.TheVariants as cause
use Rattle.lcc_base.specs.declared.order.Order.TheVariants.{Big, Little}
use Rattle.objects.specs.declared.operators.Binary.TheVariants as binary
use Rattle.objects.specs.declared.operators.Unary.TheVariants as unary
use Rattle.objects.specs.declared.operators.Comparison.TheVariants as comparison
use Rattle.c_types.specs.CType.{CType, UnsignedChar, Unsigned, basic}
use Rattle.c_meaning.specs.declared.core_expr.Change.TheVariants as change
use Rattle.c_meaning.specs.declared.core_expr.CoreKind.TheVariants as kind
use Rattle.c_meaning.specs.CoreTrees.{Core, one, two, three}
use Rattle.c_meaning.specs.Types.{pointer_to}
use Rattle.c_meaning.specs.Units.{UnitTree}
use Rattle.c_meaning.specs.Values.{CoreTree}
use Rattle.c_runs.specs.Below.{below}
use Rattle.c_runs.specs.Outcomes.{Undefined, Exit}
use Rattle.c_runs.specs.Run.{calls_below, call, context, run_tree}
use Rattle.c_runs.specs.Samples.{int, char, of_types, pair, number, local, object, read, var, set, put, address, pointed, part, as_pointer, as_integer, binary, compare, comma, call_of, act, give, defined, main, static, filling, unit, program, how_of}

-- ---- order

-- int x = 1; int f(void) { x = 5; return 10; } x + f()
abbrev left_first : UnitTree
left_first =
    unit (main [] (give (binary 2 binary.Add (read 2 (object 2 int 0)) (call_of 2 (of_types int []) int 1 [])) ∷ [])
    ∷ defined (codes "f") (of_types int []) 0 [] (act (set 1 (object 1 int 0) (number 1 5)) ∷ give (number 1 10) ∷ []) ∷ [])
    (static (codes "x") int (filling int 0 (number 1 1) ∷ []) ∷ []) []

left_is_read_first : how_of left_first 1 ≡ Exit 11
unfolding context call calls_below below
left_is_read_first = refl

-- int x = 1; x += (x = 5, 1): the place is read behind the right operand
changed_is_read_last : how_of (program (int ∷ []) (act (put 1 0 1) ∷ give (Core (kind.Change (change.Arithmetic binary.Add true)) int 2 (two (local 2 int 0) (comma 2 (put 2 0 5) (number 2 1)))) ∷ [])) 0 ≡ Exit 6
unfolding context call calls_below below
changed_is_read_last = refl

-- int x = 4; x++ * 10 + x
abbrev step : CoreTree
step = Core (kind.Postfix (change.Arithmetic binary.Add true)) int 2 (two (local 2 int 0) (number 2 1))

old_value_is_given : how_of (program (int ∷ []) (act (put 1 0 4) ∷ give (binary 2 binary.Add (binary 2 binary.Multiply step (number 2 10)) (var 2 0)) ∷ [])) 0 ≡ Exit 45
unfolding context call calls_below below
old_value_is_given = refl

-- 1 || 1 / 0, and 0 && 1 / 0
abbrev failing : CoreTree
failing = binary 3 binary.Divide (number 3 1) (number 3 0)

right_of_or_is_left_out : how_of (program [] (give (Core kind.Or int 2 (two (number 2 1) failing)) ∷ [])) 0 ≡ Exit 1
unfolding context call calls_below below
right_of_or_is_left_out = refl

right_of_and_is_left_out : how_of (program [] (give (Core kind.And int 2 (two (number 2 0) failing)) ∷ [])) 0 ≡ Exit 0
unfolding context call calls_below below
right_of_and_is_left_out = refl

one_of_two : how_of (program [] (give (Core kind.Conditional int 2 (three (number 2 1) (number 2 7) failing)) ∷ [])) 0 ≡ Exit 7
unfolding context call calls_below below
one_of_two = refl

-- the test of a conditional has its own line, that of && and of ! the operator's
abbrev unset : ℕ → CoreTree
unset line = read line (local line (pointer_to int) 0)

abbrev dead_pointer : CoreTree → UnitTree
dead_pointer e =
    unit (main (pointer_to int ∷ []) (act (set 1 (local 1 (pointer_to int) 0) (call_of 1 (of_types (pointer_to int) []) (pointer_to int) 1 [])) ∷ give e ∷ [])
    ∷ defined (codes "f") (of_types (pointer_to int) []) 0 (int ∷ []) (give (address 1 (local 1 int 0)) ∷ []) ∷ []) [] []

test_of_conditional : how_of (dead_pointer (Core kind.Conditional int 3 (three (unset 4) (number 5 1) (number 5 2)))) 1 ≡ Undefined cause.Dead 4
unfolding context call calls_below below
test_of_conditional = refl

test_of_and : how_of (dead_pointer (Core kind.And int 3 (two (unset 4) (number 5 1)))) 1 ≡ Undefined cause.Dead 3
unfolding context call calls_below below
test_of_and = refl

test_of_not : how_of (dead_pointer (Core kind.Not int 3 (one (unset 4)))) 1 ≡ Undefined cause.Dead 3
unfolding context call calls_below below
test_of_not = refl

-- ---- numbers

minus : how_of (program [] (give (Core (kind.Unary unary.Negate) int 2 (one (number 2 1))) ∷ [])) 0 ≡ Exit 4294967295
unfolding context call calls_below below
minus = refl

inverted : how_of (program [] (give (Core kind.Not int 2 (one (number 2 0))) ∷ [])) 0 ≡ Exit 1
unfolding context call calls_below below
inverted = refl

-- -1 < 1, as signed and as unsigned numbers
signed_order : how_of (program [] (give (compare 2 comparison.Less (number 2 4294967295) (number 2 1)) ∷ [])) 0 ≡ Exit 1
unfolding context call calls_below below
signed_order = refl

unsigned_order : how_of (program [] (give (Core (kind.Compare comparison.Less false) int 2 (two (number 2 4294967295) (number 2 1))) ∷ [])) 0 ≡ Exit 0
unfolding context call calls_below below
unsigned_order = refl

-- char c; (c = 200), and of unsigned char
abbrev narrow : CType → UnitTree
narrow of = program (of ∷ []) (act (set 1 (local 1 of 0) (as_integer 1 of (number 1 200))) ∷ give (as_integer 2 int (read 2 (local 2 of 0))) ∷ [])

signed_char : how_of (narrow char) 0 ≡ Exit 4294967240
unfolding context call calls_below below
signed_char = refl

unsigned_char : how_of (narrow (basic UnsignedChar)) 0 ≡ Exit 200
unfolding context call calls_below below
unsigned_char = refl

-- ---- bytes and bits

-- int x = 1; *(char *)&x
abbrev first_byte : UnitTree
first_byte = program (int ∷ []) (act (put 1 0 1) ∷ give (as_integer 2 int (read 2 (pointed 2 (as_pointer 2 char (address 2 (local 2 int 0)))))) ∷ [])

little_first : (run_tree first_byte Little [] 0).how ≡ Exit 1
unfolding context call calls_below below
little_first = refl

big_first : (run_tree first_byte Big [] 0).how ≡ Exit 0
unfolding context call calls_below below
big_first = refl

-- unsigned w = 0; the 4 bits at 28 of it, as the bit-field a: 4 behind 28 others, become 9; then w, and a
abbrev field : ℕ → CoreTree
field line = Core (kind.Member 0 28 4) (basic Unsigned) line (one (local line pair 0))

abbrev bits : CoreTree → UnitTree
bits e = program (pair ∷ []) (act (set 1 (part 1 int 0 (local 1 pair 0)) (number 1 0)) ∷ act (set 1 (field 1) (number 1 25)) ∷ give e ∷ [])

low_bits_are_kept : how_of (bits (read 2 (field 2))) 0 ≡ Exit 9
unfolding context call calls_below below
low_bits_are_kept = refl

unit_of_little : how_of (bits (read 2 (part 2 int 0 (local 2 pair 0)))) 0 ≡ Exit 2415919104
unfolding context call calls_below below
unit_of_little = refl

unit_of_big : (run_tree (bits (read 2 (part 2 int 0 (local 2 pair 0)))) Big [] 0).how ≡ Exit 9
unfolding context call calls_below below
unit_of_big = refl

-- what the assignment gives is what the field holds then
field_assigned : how_of (program (pair ∷ []) (act (set 1 (part 1 int 0 (local 1 pair 0)) (number 1 0)) ∷ give (set 2 (field 2) (number 2 25)) ∷ [])) 0 ≡ Exit 9
unfolding context call calls_below below
field_assigned = refl

-- its bits are unknown as those of a scalar are
unknown_field : how_of (program (pair ∷ []) (give (read 2 (field 2)) ∷ [])) 0 ≡ Undefined cause.Unknown 2
unfolding context call calls_below below
unknown_field = refl

-- ---- structures

-- struct s x, y; x.m = 4; y = x; x.m = 5; y.m: unknown bytes are copied too
pub structure_assigned : how_of (program (pair ∷ pair ∷ []) (act (set 1 (part 1 int 0 (local 1 pair 0)) (number 1 4)) ∷ act (set 1 (local 1 pair 1) (local 1 pair 0)) ∷ act (set 1 (part 1 int 0 (local 1 pair 0)) (number 1 5)) ∷ give (read 2 (part 2 int 0 (local 2 pair 1))) ∷ [])) 0 ≡ Exit 4
unfolding context call calls_below below
structure_assigned = refl
