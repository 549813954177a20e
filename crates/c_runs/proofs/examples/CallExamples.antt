-- Runs of small programs: calls, their lines and turns, structures in calls, the built-in functions, and main's own call.
use Rattle.std.specs.Prelude.{◌≡◌, refl, codes, [], ◌∷◌}
use Rattle.lcc_base.specs.declared.cause.Cause.TheVariants as cause
use Rattle.lcc_base.specs.declared.order.Order.TheVariants.{Little}
use Rattle.objects.specs.declared.operators.Binary.TheVariants as binary
use Rattle.c_types.specs.CType.{CType, Open}
use Rattle.c_meaning.specs.declared.core_expr.CoreKind.TheVariants as kind
use Rattle.c_meaning.specs.CoreTrees.{Core, Cores, none, one, three}
use Rattle.c_meaning.specs.Types.{pointer_to}
use Rattle.c_meaning.specs.Units.{FunctionTree, UnitTree}
use Rattle.c_meaning.specs.Values.{CoreTree}
use Rattle.c_runs.specs.Below.{below}
use Rattle.c_runs.specs.Outcomes.{Undefined, OutOfTurns, Exit}
use Rattle.c_runs.specs.Run.{calls_below, call, context, run_tree}
use Rattle.c_runs.specs.Samples.{int, char, function, of_types, pair, number, local, read, var, set, address, pointed, part, as_pointer, as_integer, as_void, binary, call_at, call_of, putchar, getchar, exit, act, give, defined, main, unit, program, how_of, output_of}

-- ---- turns

-- int f(int n) { return n ? n + f(n - 1) : 0; } f(3)
abbrev of_int : CType
of_int = of_types int (int ∷ [])

abbrev summing : FunctionTree
summing = defined (codes "f") of_int 1 (int ∷ []) (give (Core kind.Conditional int 1 (three (var 1 0) (binary 1 binary.Add (var 1 0) (call_of 1 of_int int 1 (binary 1 binary.Subtract (var 1 0) (number 1 1) ∷ []))) (number 1 0))) ∷ [])

abbrev recursive : UnitTree
recursive = unit (main [] (give (call_of 2 of_int int 1 (number 2 3 ∷ [])) ∷ []) ∷ summing ∷ []) [] []

four_calls : how_of recursive 4 ≡ Exit 6
unfolding context call calls_below below
four_calls = refl

three_are_too_few : how_of recursive 3 ≡ OutOfTurns
unfolding context call calls_below below
three_are_too_few = refl

-- ---- lines

-- int f(char c); old-style, called with a pointer held in an int: behind the turn, at the argument's line
abbrev old_style : FunctionTree
old_style = defined (codes "f") (function int Open) 1 (char ∷ []) (give (number 1 0) ∷ [])

abbrev passes_pointer : UnitTree
passes_pointer = unit (main (int ∷ []) (give (call_of 2 (function int Open) int 1 (as_integer 3 int (address 3 (local 3 int 0)) ∷ [])) ∷ []) ∷ old_style ∷ []) [] []

pointer_to_a_char : how_of passes_pointer 1 ≡ Undefined cause.PointerNumber 3
unfolding context call calls_below below
pointer_to_a_char = refl

behind_the_turn : how_of passes_pointer 0 ≡ OutOfTurns
unfolding context call calls_below below
behind_the_turn = refl

-- a number is narrowed there: f(300) of unsigned low bits
abbrev narrowed : FunctionTree
narrowed = defined (codes "f") (function int Open) 1 (char ∷ []) (give (as_integer 1 int (read 1 (local 1 char 0))) ∷ [])

low_byte : how_of (unit (main [] (give (call_of 2 (function int Open) int 1 (number 2 300 ∷ [])) ∷ []) ∷ narrowed ∷ []) [] []) 1 ≡ Exit 44
unfolding context call calls_below below
low_byte = refl

-- a mismatch is told before the turn is spent, and behind the arguments
abbrev mismatched : CoreTree → UnitTree
mismatched argument = unit (main [] (act (call_of 5 (function int Open) int 1 (argument ∷ number 5 1 ∷ [])) ∷ []) ∷ summing ∷ []) [] []

no_turn_for_it : how_of (mismatched (number 5 1)) 0 ≡ Undefined cause.CallMismatch 5
unfolding context call calls_below below
no_turn_for_it = refl

arguments_go_first : how_of (mismatched (binary 6 binary.Divide (number 6 1) (number 6 0))) 0 ≡ Undefined cause.ZeroDivisor 6
unfolding context call calls_below below
arguments_go_first = refl

-- the callee is a number: (*(int (*)())1)()
no_function : how_of (program [] (act (Core (kind.Call 0) int 3 (one (as_pointer 2 (function int Open) (number 2 1)))) ∷ [])) 1 ≡ Undefined cause.CallMismatch 3
unfolding context call calls_below below
no_function = refl

-- a pointer to a function is held, and called
through_a_pointer : how_of (unit (main (pointer_to of_int ∷ []) (act (set 1 (local 1 (pointer_to of_int) 0) (address 1 (Core (kind.Function 1) of_int 1 none))) ∷ give (Core (kind.Call 1) int 2 (Cores (read 2 (local 2 (pointer_to of_int) 0)) (one (number 2 0)))) ∷ []) ∷ summing ∷ []) [] []) 1 ≡ Exit 0
unfolding context call calls_below below
through_a_pointer = refl

-- void conversion drops what isn't there
dropped : how_of (unit (main [] (act (as_void 2 (call_of 2 (of_types int []) int 1 [])) ∷ []) ∷ defined (codes "f") (of_types int []) 0 [] [] ∷ []) [] []) 1 ≡ Exit 0
unfolding context call calls_below below
dropped = refl

-- ---- structures

-- struct s f(struct s p) { p.m = p.m + 1; return p; }
abbrev of_pair : CType
of_pair = of_types pair (pair ∷ [])

abbrev adding_one : FunctionTree
adding_one = defined (codes "f") of_pair 1 (pair ∷ []) (act (set 1 (part 1 int 0 (local 1 pair 0)) (binary 1 binary.Add (read 1 (part 1 int 0 (local 1 pair 0))) (number 1 1))) ∷ give (local 2 pair 0) ∷ [])

-- struct s x; x.m = 5; f(x); return f(f(x)).m * 10 + x.m; behind x stand the copies that each call passes and gives
abbrev passing : UnitTree
passing =
    unit (main (pair ∷ pair ∷ pair ∷ pair ∷ pair ∷ pair ∷ pair ∷ [])
    (act (set 1 (part 1 int 0 (local 1 pair 0)) (number 1 5))
    ∷ act (call_at 1 2 of_pair pair 1 (local 2 pair 0 ∷ []))
    ∷ give (binary 3 binary.Add
    (binary 3 binary.Multiply (read 3 (part 3 int 0 (call_at 3 3 of_pair pair 1 (call_at 5 3 of_pair pair 1 (local 3 pair 0 ∷ []) ∷ [])))) (number 3 10))
    (read 3 (part 3 int 0 (local 3 pair 0)))) ∷ [])
    ∷ adding_one ∷ []) [] []

structures_are_copied : how_of passing 3 ≡ Exit 75
unfolding context call calls_below below
structures_are_copied = refl

-- ---- the built-in functions

-- putchar('h'); putchar('i'); return 3;
abbrev writing : UnitTree
writing = program [] (act (putchar 1 (number 1 104)) ∷ act (putchar 2 (number 2 105)) ∷ give (number 3 3) ∷ [])

written : output_of writing 2 ≡ codes "hi"
unfolding context call calls_below below
written = refl

written_before : output_of writing 1 ≡ codes "h"
unfolding context call calls_below below
written_before = refl

-- putchar(321) gives 65
low_byte_is_given : how_of (program [] (give (putchar 1 (number 1 321)) ∷ [])) 1 ≡ Exit 65
unfolding context call calls_below below
low_byte_is_given = refl

-- putchar((int)&x), at the call's line
pointer_is_written : how_of (program (int ∷ []) (act (putchar 2 (as_integer 3 int (address 3 (local 3 int 0)))) ∷ [])) 1 ≡ Undefined cause.PointerNumber 2
unfolding context call calls_below below
pointer_is_written = refl

-- getchar() * 1000 + getchar() of the input A, and then of none
reads_then_ends : (run_tree (program [] (give (binary 1 binary.Add (binary 1 binary.Multiply (getchar 1) (number 1 1000)) (getchar 1)) ∷ [])) Little (65 ∷ []) 2).how ≡ Exit 64999
unfolding context call calls_below below
reads_then_ends = refl

-- exit(7) in a call
exits : how_of (unit (main [] (act (call_of 2 (of_types int []) int 1 []) ∷ give (number 3 1) ∷ []) ∷ defined (codes "f") (of_types int []) 0 [] (act (exit 1 (number 1 7)) ∷ []) ∷ []) [] []) 2 ≡ Exit 7
unfolding context call calls_below below
exits = refl

-- ---- main

-- main(int n, char **p) { return n + (p[0] == 0); }
abbrev with_arguments : UnitTree
with_arguments =
    unit (defined (codes "main") (of_types int (int ∷ pointer_to (pointer_to char) ∷ [])) 2 (int ∷ pointer_to (pointer_to char) ∷ [])
    (give (binary 1 binary.Add (var 1 0) (Core kind.Not int 1 (one (read 1 (pointed 1 (read 1 (local 1 (pointer_to (pointer_to char)) 1))))))) ∷ []) ∷ []) [] []

null_argument : how_of with_arguments 0 ≡ Exit 1
unfolding context call calls_below below
null_argument = refl

-- main(n) with one parameter, old-style
one_parameter : how_of (unit (defined (codes "main") (function int Open) 1 (int ∷ []) [] ∷ []) [] []) 0 ≡ Undefined cause.CallMismatch 1
unfolding context call calls_below below
one_parameter = refl

-- return (int)&x; at the returned expression's line
pub pointer_as_status : how_of (program (int ∷ []) (give (as_integer 4 int (address 3 (local 3 int 0))) ∷ [])) 0 ≡ Undefined cause.PointerNumber 4
unfolding context call calls_below below
pointer_as_status = refl
