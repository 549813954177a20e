-- Runs of small programs: loops, jumps, switches, initialisers, and the turns that they spend.
use Rattle.std.specs.Prelude.{◌≡◌, refl, ℕ, codes, true, false, Some, None, [], ◌∷◌}
use Rattle.lcc_base.specs.declared.cause.Cause.TheVariants as cause
use Rattle.objects.specs.declared.operators.Binary.TheVariants as binary
use Rattle.objects.specs.declared.operators.Comparison.TheVariants as comparison
use Rattle.c_meaning.specs.declared.core_expr.Change.TheVariants as change
use Rattle.c_meaning.specs.declared.core_expr.CoreKind.TheVariants as kind
use Rattle.c_meaning.specs.declared.core_stmt.CoreCase.{CoreCase}
use Rattle.c_meaning.specs.CoreTrees.{Core, none, two}
use Rattle.c_meaning.specs.StmtTrees.{StmtOf}
use Rattle.c_meaning.specs.StmtTrees as stmt
use Rattle.c_meaning.specs.Units.{UnitTree}
use Rattle.c_meaning.specs.Values.{CoreTree}
use Rattle.c_runs.specs.Below.{below}
use Rattle.c_runs.specs.Outcomes.{Undefined, OutOfTurns, Exit}
use Rattle.c_runs.specs.Statements.{rounds, loop, jumps, jump}
use Rattle.c_runs.specs.Run.{calls_below, call, context}
use Rattle.c_runs.specs.Samples.{int, char, array, number, local, read, var, set, put, address, first, pointed, moved, as_integer, binary, compare, putchar, block, act, give, main, filling, unit, program, how_of, output_of}

-- x = x + n
abbrev add : ℕ → ℕ → ℕ → CoreTree
add line x n = set line (local line int x) (binary line binary.Add (var line x) (number line n))

abbrev less : ℕ → ℕ → ℕ → CoreTree
less line x n = compare line comparison.Less (var line x) (number line n)

abbrev equals : ℕ → ℕ → ℕ → CoreTree
equals line x n = compare line comparison.Equal (var line x) (number line n)

-- ---- ends

the_end_of_main_gives_0 : how_of (program [] []) 0 ≡ Exit 0
unfolding context call calls_below below
the_end_of_main_gives_0 = refl

return_without_a_value : how_of (program [] (stmt.Return None ∷ act (putchar 1 (number 1 97)) ∷ [])) 0 ≡ Exit 0
unfolding context call calls_below below
return_without_a_value = refl

-- ---- loops

-- while (1) putchar('a'); each repetition and each call spends a turn
abbrev endless : UnitTree
endless = program [] (stmt.While (number 1 1) (act (putchar 1 (number 1 97))) ∷ [])

turns_are_spent : how_of endless 7 ≡ OutOfTurns
unfolding context call calls_below below loop rounds
turns_are_spent = refl

what_was_written : output_of endless 7 ≡ codes "aaa"
unfolding context call calls_below below loop rounds
what_was_written = refl

-- while (0) ; spends none
no_repetition : how_of (program [] (stmt.While (number 1 0) stmt.Nothing ∷ [])) 0 ≡ Exit 0
unfolding context call calls_below below loop rounds
no_repetition = refl

-- do ; while (0) spends one
one_repetition : how_of (program [] (stmt.Do stmt.Nothing (number 1 0) ∷ [])) 0 ≡ OutOfTurns
unfolding context call calls_below below loop rounds
one_repetition = refl

-- for (x = 0; x < 3; x = x + 1) { if (x == 1) continue; putchar('0' + x); } return x;
abbrev counting : UnitTree
counting =
    program (int ∷ [])
    (stmt.For (Some (put 1 0 0)) (Some (less 1 0 3)) (Some (add 1 0 1))
    (block (stmt.If (equals 2 0 1) stmt.Continue stmt.Nothing ∷ act (putchar 3 (binary 3 binary.Add (number 3 48) (var 3 0))) ∷ []))
    ∷ give (var 4 0) ∷ [])

last_part_behind_continue : how_of counting 5 ≡ Exit 3
unfolding context call calls_below below loop rounds jump jumps
last_part_behind_continue = refl

written_by_for : output_of counting 5 ≡ codes "02"
unfolding context call calls_below below loop rounds jump jumps
written_by_for = refl

-- three repetitions and two calls
spent_by_for : how_of counting 4 ≡ OutOfTurns
unfolding context call calls_below below loop rounds jump jumps
spent_by_for = refl

-- for (x = 0; ; x = x + 1) if (x == 2) break; return x;
without_a_test : how_of (program (int ∷ []) (stmt.For (Some (put 1 0 0)) None (Some (add 1 0 1)) (stmt.If (equals 2 0 2) stmt.Break stmt.Nothing) ∷ give (var 3 0) ∷ [])) 3 ≡ Exit 2
unfolding context call calls_below below loop rounds jump jumps
without_a_test = refl

-- ---- jumps

-- goto 1; { int x = 5; 1: return x; }
abbrev skipping : UnitTree
skipping = program (int ∷ []) (stmt.Goto 1 ∷ block (stmt.Initialise 0 false (filling int 0 (number 2 5) ∷ []) ∷ stmt.Label 1 (give (var 3 0)) ∷ []) ∷ [])

initialiser_is_skipped : how_of skipping 1 ≡ Undefined cause.Unknown 3
unfolding context call calls_below below jump jumps
initialiser_is_skipped = refl

goto_spends : how_of skipping 0 ≡ OutOfTurns
unfolding context call calls_below below jump jumps
goto_spends = refl

-- int r = 1; goto 1; { int k; r = 9; 1: k = 3; r = r + k; } return r;
into_a_block : how_of (program (int ∷ int ∷ []) (act (put 1 0 1) ∷ stmt.Goto 1 ∷ block (act (put 2 0 9) ∷ stmt.Label 1 (act (put 2 1 3)) ∷ act (set 2 (local 2 int 0) (binary 2 binary.Add (var 2 0) (var 2 1))) ∷ []) ∷ give (var 3 0) ∷ [])) 1 ≡ Exit 4
unfolding context call calls_below below jump jumps
into_a_block = refl

-- x = 0; goto 1; while (x < 5) { x = x + 1; 1: x = x + 2; } return x;
abbrev into_a_loop : UnitTree
into_a_loop = program (int ∷ []) (act (put 1 0 0) ∷ stmt.Goto 1 ∷ stmt.While (less 2 0 5) (block (act (add 3 0 1) ∷ stmt.Label 1 (act (add 4 0 2)) ∷ [])) ∷ give (var 5 0) ∷ [])

-- 0, 2, 5: the goto and one repetition spend a turn each, the entered half none
entered_in_its_middle : how_of into_a_loop 2 ≡ Exit 5
unfolding context call calls_below below loop rounds jump jumps
entered_in_its_middle = refl

spent_by_both : how_of into_a_loop 1 ≡ OutOfTurns
unfolding context call calls_below below loop rounds jump jumps
spent_by_both = refl

-- while (1) { x = 7; goto 1; } 1: return x;
out_of_a_loop : how_of (program (int ∷ []) (stmt.While (number 1 1) (block (act (put 1 0 7) ∷ stmt.Goto 1 ∷ [])) ∷ stmt.Label 1 (give (var 2 0)) ∷ [])) 2 ≡ Exit 7
unfolding context call calls_below below loop rounds jump jumps
out_of_a_loop = refl

-- x = 0; 1: x = x + 1; if (x < 3) goto 1; return x;
abbrev going_back : UnitTree
going_back = program (int ∷ []) (act (put 1 0 0) ∷ stmt.Label 1 (act (add 2 0 1)) ∷ stmt.If (less 3 0 3) (stmt.Goto 1) stmt.Nothing ∷ give (var 4 0) ∷ [])

twice_back : how_of going_back 2 ≡ Exit 3
unfolding context call calls_below below jump jumps
twice_back = refl

once_back : how_of going_back 1 ≡ OutOfTurns
unfolding context call calls_below below jump jumps
once_back = refl

-- ---- switches

abbrev case : ℕ → ℕ → CoreCase
case number label = record { number = number; label = label }

abbrev switching : ℕ → UnitTree
switching n =
    program (int ∷ [])
    (act (put 1 0 0)
    ∷ stmt.Switch (number 2 n) (case 1 1 ∷ case 2 2 ∷ []) (Some 3)
    (block (stmt.Label 1 (act (add 3 0 1)) ∷ stmt.Label 2 (act (add 4 0 10)) ∷ stmt.Break ∷ stmt.Label 3 (act (add 5 0 100)) ∷ []))
    ∷ give (var 6 0) ∷ [])

falls_through : how_of (switching 1) 0 ≡ Exit 11
unfolding context call calls_below below jump jumps
falls_through = refl

to_its_case : how_of (switching 2) 0 ≡ Exit 10
unfolding context call calls_below below jump jumps
to_its_case = refl

to_the_default : how_of (switching 7) 0 ≡ Exit 100
unfolding context call calls_below below jump jumps
to_the_default = refl

-- switch (1 / 0) ; where no case stands, the value is evaluated
without_a_case : how_of (program [] (stmt.Switch (binary 2 binary.Divide (number 2 1) (number 2 0)) [] None stmt.Nothing ∷ [])) 0 ≡ Undefined cause.ZeroDivisor 2
unfolding context call calls_below below
without_a_case = refl

-- switch ((int)&x) ; a pointer is no number, at the value's line
on_a_pointer : how_of (program (int ∷ []) (stmt.Switch (as_integer 3 int (address 2 (local 2 int 0))) (case 0 1 ∷ []) None (stmt.Label 1 stmt.Nothing) ∷ [])) 0 ≡ Undefined cause.PointerNumber 3
unfolding context call calls_below below
on_a_pointer = refl

-- int n = 0, i = 5; switch (i % 4) { case 0: do { n++; case 3: n++; case 2: n++; case 1: n++; } while ((i -= 4) > 0); } return n;
abbrev one_more : CoreTree
one_more = Core (kind.Postfix (change.Arithmetic binary.Add true)) int 1 (two (local 1 int 0) (number 1 1))

abbrev unrolled : UnitTree
unrolled =
    program (int ∷ int ∷ [])
    (act (put 1 0 0) ∷ act (put 1 1 5)
    ∷ stmt.Switch (binary 1 binary.Remainder (var 1 1) (number 1 4)) (case 0 0 ∷ case 3 3 ∷ case 2 2 ∷ case 1 1 ∷ []) None
    (block (stmt.Label 0 (stmt.Do
    (block (act one_more ∷ stmt.Label 3 (act one_more) ∷ stmt.Label 2 (act one_more) ∷ stmt.Label 1 (act one_more) ∷ []))
    (compare 1 comparison.Greater (Core (kind.Change (change.Arithmetic binary.Subtract true)) int 1 (two (local 1 int 1) (number 1 4))) (number 1 0))) ∷ []))
    ∷ give (var 1 0) ∷ [])

-- the entered part costs nothing, the repetition one turn
enters_the_loop : how_of unrolled 1 ≡ Exit 5
unfolding context call calls_below below loop rounds jump jumps
enters_the_loop = refl

enters_for_one : how_of unrolled 0 ≡ OutOfTurns
unfolding context call calls_below below loop rounds jump jumps
enters_for_one = refl

-- ---- initialisers

-- int a[2] = {4}; a[0] * 10 + a[1]: what isn't listed is zero
abbrev element : ℕ → ℕ → CoreTree
element line n = read line (pointed line (moved line 4 (first line int (local line (array int 2) 0)) (number line n)))

rest_is_zero : how_of (program (array int 2 ∷ []) (stmt.Initialise 0 true (filling int 0 (number 1 4) ∷ []) ∷ give (binary 2 binary.Add (binary 2 binary.Multiply (element 2 0) (number 2 10)) (element 2 1)) ∷ [])) 0 ≡ Exit 40
unfolding context call calls_below below
rest_is_zero = refl

-- char a[3] = "b"; a[0] and a[2]: the string's bytes, and then zeros
abbrev character : ℕ → CoreTree
character n = as_integer 2 int (read 2 (pointed 2 (moved 2 1 (first 2 char (local 2 (array char 3) 0)) (number 2 n))))

abbrev spelling : ℕ → UnitTree
spelling n = unit (main (array char 3 ∷ []) (stmt.Initialise 0 true (filling (array char 3) 0 (Core (kind.Text 0) (array char 2) 1 none) ∷ []) ∷ give (character n) ∷ []) ∷ []) [] (codes "b" ∷ [])

byte_of_the_string : how_of (spelling 0) 0 ≡ Exit 98
unfolding context call calls_below below
byte_of_the_string = refl

pub zero_behind_it : how_of (spelling 2) 0 ≡ Exit 0
unfolding context call calls_below below
zero_behind_it = refl
