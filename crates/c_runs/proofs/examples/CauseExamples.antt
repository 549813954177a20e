-- Each cause for which a run is undefined, and beside it the nearest program that hasn't it.
use Rattle.std.specs.Prelude.{◌≡◌, refl, ℕ, codes, List, [], ◌∷◌}
use Rattle.lcc_base.specs.declared.cause.Cause.TheVariants as cause
use Rattle.objects.specs.declared.operators.Binary.TheVariants as binary
use Rattle.objects.specs.declared.operators.Comparison.TheVariants as comparison
use Rattle.c_types.specs.CType.{CType, Open}
use Rattle.c_meaning.specs.CoreTrees.{Core, none}
use Rattle.c_meaning.specs.declared.core_expr.CoreKind.TheVariants as kind
use Rattle.c_meaning.specs.StmtTrees.{StmtOf}
use Rattle.c_meaning.specs.Types.{pointer_to}
use Rattle.c_meaning.specs.Units.{FunctionTree, UnitTree}
use Rattle.c_meaning.specs.Values.{CoreTree}
use Rattle.c_runs.specs.Below.{below}
use Rattle.c_runs.specs.Outcomes.{How, Undefined, Exit}
use Rattle.c_runs.specs.Run.{calls_below, call, context}
use Rattle.c_runs.specs.Samples.{int, char, array, function, of_types, pair, number, local, object, read, var, set, put, address, first, pointed, moved, as_pointer, as_integer, binary, compare, comma, call_of, act, give, defined, main, static, unit, program, how_of}

abbrev acts : List CoreTree → CoreTree → List (StmtOf CType)
acts [] e = give e ∷ []
acts (x ∷ xs) e = act x ∷ acts xs e

-- how main ends that does these and returns e, with these locals and one turn
abbrev comes_to : List CType → List CoreTree → CoreTree → How
comes_to locals before e = how_of (program locals (acts before e)) 1

-- ---- ZeroDivisor: 7 / 0, 7 % 0, and 7 / 2

division_by_zero : comes_to [] [] (binary 2 binary.Divide (number 2 7) (number 2 0)) ≡ Undefined cause.ZeroDivisor 2
unfolding context call calls_below below
division_by_zero = refl

remainder_by_zero : comes_to [] [] (binary 2 binary.Remainder (number 2 7) (number 2 0)) ≡ Undefined cause.ZeroDivisor 2
unfolding context call calls_below below
remainder_by_zero = refl

division_by_two : comes_to [] [] (binary 2 binary.Divide (number 2 7) (number 2 2)) ≡ Exit 3
unfolding context call calls_below below
division_by_two = refl

-- ---- DivideOverflow: -2^31 / -1, and -2^31 / 1

division_overflows : comes_to [] [] (binary 2 binary.Divide (number 2 2147483648) (number 2 4294967295)) ≡ Undefined cause.DivideOverflow 2
unfolding context call calls_below below
division_overflows = refl

division_by_one : comes_to [] [] (binary 2 binary.Divide (number 2 2147483648) (number 2 1)) ≡ Exit 2147483648
unfolding context call calls_below below
division_by_one = refl

-- ---- ShiftCount: 1 << 32, and 1 << 31

shift_by_32 : comes_to [] [] (binary 2 binary.ShiftLeft (number 2 1) (number 2 32)) ≡ Undefined cause.ShiftCount 2
unfolding context call calls_below below
shift_by_32 = refl

shift_by_31 : comes_to [] [] (binary 2 binary.ShiftLeft (number 2 1) (number 2 31)) ≡ Exit 2147483648
unfolding context call calls_below below
shift_by_31 = refl

-- ---- Unknown: int x; x, and behind x = 4

unset : comes_to (int ∷ []) [] (var 2 0) ≡ Undefined cause.Unknown 2
unfolding context call calls_below below
unset = refl

is_set : comes_to (int ∷ []) (put 1 0 4 ∷ []) (var 2 0) ≡ Exit 4
unfolding context call calls_below below
is_set = refl

-- ---- PointerBytes: int x = 4, *p = &x; *(char *)&p, and *p

abbrev pointed_at : List CoreTree
pointed_at = put 1 0 4 ∷ set 1 (local 1 (pointer_to int) 1) (address 1 (local 1 int 0)) ∷ []

byte_of_a_pointer : comes_to (int ∷ pointer_to int ∷ []) pointed_at (read 2 (pointed 2 (as_pointer 2 char (address 2 (local 2 (pointer_to int) 1))))) ≡ Undefined cause.PointerBytes 2
unfolding context call calls_below below
byte_of_a_pointer = refl

whole_pointer : comes_to (int ∷ pointer_to int ∷ []) pointed_at (read 2 (pointed 2 (read 2 (local 2 (pointer_to int) 1)))) ≡ Exit 4
unfolding context call calls_below below
whole_pointer = refl

-- ---- Outside: int x = 4; *(&x + 1), *(int *)0, and *(&x + 0)

abbrev behind_x : ℕ → CoreTree
behind_x n = read 2 (pointed 2 (moved 2 4 (address 2 (local 2 int 0)) (number 2 n)))

one_past : comes_to (int ∷ []) (put 1 0 4 ∷ []) (behind_x 1) ≡ Undefined cause.Outside 2
unfolding context call calls_below below
one_past = refl

through_null : comes_to (int ∷ []) [] (read 2 (pointed 2 (as_pointer 2 int (number 2 0)))) ≡ Undefined cause.Outside 2
unfolding context call calls_below below
through_null = refl

at_x : comes_to (int ∷ []) (put 1 0 4 ∷ []) (behind_x 0) ≡ Exit 4
unfolding context call calls_below below
at_x = refl

-- ---- Misaligned: int a[2]; *(int *)((char *)a + 2) = 5, and + 4

abbrev set_at : ℕ → CoreTree
set_at n = set 2 (pointed 2 (as_pointer 2 int (moved 2 1 (as_pointer 2 char (first 2 int (local 2 (array int 2) 0))) (number 2 n)))) (number 2 5)

at_2 : comes_to (array int 2 ∷ []) [] (set_at 2) ≡ Undefined cause.Misaligned 2
unfolding context call calls_below below
at_2 = refl

at_4 : comes_to (array int 2 ∷ []) [] (set_at 4) ≡ Exit 5
unfolding context call calls_below below
at_4 = refl

-- ---- Dead: int *f(void) { int x; x = 4; return &x; } *f(), and with static int x

abbrev gives_pointer : CType
gives_pointer = of_types (pointer_to int) []

abbrev through_f : FunctionTree → UnitTree
through_f f = unit (main [] (give (read 2 (pointed 2 (call_of 2 gives_pointer (pointer_to int) 1 []))) ∷ []) ∷ f ∷ []) (static (codes "x") int [] ∷ []) []

past_its_lifetime : how_of (through_f (defined (codes "f") gives_pointer 0 (int ∷ []) (act (put 1 0 4) ∷ give (address 1 (local 1 int 0)) ∷ []))) 1 ≡ Undefined cause.Dead 2
unfolding context call calls_below below
past_its_lifetime = refl

of_static_storage : how_of (through_f (defined (codes "f") gives_pointer 0 [] (act (set 1 (object 1 int 0) (number 1 4)) ∷ give (address 1 (object 1 int 0)) ∷ []))) 1 ≡ Exit 4
unfolding context call calls_below below
of_static_storage = refl

-- ---- ReadOnly: *"a" = 98, and char a[2]; *a = 98

abbrev sets_first : CoreTree → UnitTree
sets_first a = unit (main (array char 2 ∷ []) (give (set 2 (pointed 2 (first 2 char a)) (number 2 98)) ∷ []) ∷ []) [] (codes "a" ∷ [])

over_a_literal : how_of (sets_first (Core (kind.Text 0) (array char 2) 2 none)) 0 ≡ Undefined cause.ReadOnly 2
unfolding context call calls_below below
over_a_literal = refl

over_an_array : how_of (sets_first (local 2 (array char 2) 0)) 0 ≡ Exit 98
unfolding context call calls_below below
over_an_array = refl

-- ---- PointerRange: int x; (&x + 2, 1), and (&x + 1, 1)

abbrev past_x : ℕ → CoreTree
past_x n = comma 2 (moved 2 4 (address 2 (local 2 int 0)) (number 2 n)) (number 2 1)

two_past : comes_to (int ∷ []) [] (past_x 2) ≡ Undefined cause.PointerRange 2
unfolding context call calls_below below
two_past = refl

to_its_end : comes_to (int ∷ []) [] (past_x 1) ≡ Exit 1
unfolding context call calls_below below
to_its_end = refl

-- ---- PointerOrder: int x, y; &x < &y, and int a[2]; a < a + 1

order_of_objects : comes_to (int ∷ int ∷ []) [] (compare 2 comparison.Less (address 2 (local 2 int 0)) (address 2 (local 2 int 1))) ≡ Undefined cause.PointerOrder 2
unfolding context call calls_below below
order_of_objects = refl

order_of_elements : comes_to (array int 2 ∷ []) [] (compare 2 comparison.Less (first 2 int (local 2 (array int 2) 0)) (moved 2 4 (first 2 int (local 2 (array int 2) 0)) (number 2 1))) ≡ Exit 1
unfolding context call calls_below below
order_of_elements = refl

-- ---- PointerEqual: int x, y; &x + 1 == &y, and &x == &y

past_is_other : comes_to (int ∷ int ∷ []) [] (compare 2 comparison.Equal (moved 2 4 (address 2 (local 2 int 0)) (number 2 1)) (address 2 (local 2 int 1))) ≡ Undefined cause.PointerEqual 2
unfolding context call calls_below below
past_is_other = refl

is_other : comes_to (int ∷ int ∷ []) [] (compare 2 comparison.Equal (address 2 (local 2 int 0)) (address 2 (local 2 int 1))) ≡ Exit 0
unfolding context call calls_below below
is_other = refl

-- ---- PointerNumber: int x = 4; (int)&x + 1, (char)(int)&x, and *(int *)(int)&x

abbrev held_in_int : CoreTree
held_in_int = as_integer 2 int (address 2 (local 2 int 0))

sum_with_a_pointer : comes_to (int ∷ []) (put 1 0 4 ∷ []) (binary 3 binary.Add held_in_int (number 2 1)) ≡ Undefined cause.PointerNumber 3
unfolding context call calls_below below
sum_with_a_pointer = refl

narrowed_pointer : comes_to (int ∷ []) (put 1 0 4 ∷ []) (as_integer 3 char held_in_int) ≡ Undefined cause.PointerNumber 2
unfolding context call calls_below below
narrowed_pointer = refl

pointer_and_back : comes_to (int ∷ []) (put 1 0 4 ∷ []) (read 3 (pointed 3 (as_pointer 3 int held_in_int))) ≡ Exit 4
unfolding context call calls_below below
pointer_and_back = refl

-- ---- CallMismatch: int f(int n) { return n; } called as int f(), by f() and by f(4)

abbrev given_back : FunctionTree
given_back = defined (codes "f") (of_types int (int ∷ [])) 1 (int ∷ []) (give (var 1 0) ∷ [])

abbrev calls_it : List CoreTree → UnitTree
calls_it arguments = unit (main [] (give (call_of 2 (function int Open) int 1 arguments) ∷ []) ∷ given_back ∷ []) [] []

without_its_argument : how_of (calls_it []) 1 ≡ Undefined cause.CallMismatch 2
unfolding context call calls_below below
without_its_argument = refl

with_its_argument : how_of (calls_it (number 2 4 ∷ [])) 1 ≡ Exit 4
unfolding context call calls_below below
with_its_argument = refl

-- ---- NoResult: int f(void) { } f(), and (f(), 4)

abbrev calls_empty : (CoreTree → CoreTree) → UnitTree
calls_empty using = unit (main [] (give (using (call_of 2 (of_types int []) int 1 [])) ∷ []) ∷ defined (codes "f") (of_types int []) 0 [] [] ∷ []) [] []

result_used : how_of (calls_empty (λ c. c)) 1 ≡ Undefined cause.NoResult 2
unfolding context call calls_below below
result_used = refl

result_not_used : how_of (calls_empty (λ c. comma 2 c (number 2 4))) 1 ≡ Exit 4
unfolding context call calls_below below
result_not_used = refl

-- ---- Overlap: int a[4]; *(struct s *)(a + 1) = *(struct s *)a, and a + 2

abbrev as_pair : ℕ → CoreTree
as_pair n = pointed 2 (as_pointer 2 pair (moved 2 4 (first 2 int (local 2 (array int 4) 0)) (number 2 n)))

abbrev copies_by : ℕ → How
copies_by n = comes_to (array int 4 ∷ []) (set 2 (as_pair n) (as_pair 0) ∷ []) (number 3 4)

overlap_in_part : copies_by 1 ≡ Undefined cause.Overlap 2
unfolding context call calls_below below
overlap_in_part = refl

beside_it : copies_by 2 ≡ Exit 4
unfolding context call calls_below below
beside_it = refl

pub onto_itself : copies_by 0 ≡ Exit 4
unfolding context call calls_below below
onto_itself = refl
