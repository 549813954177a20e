-- The parts of loops: what is repeated, and what stands between two repetitions.
use Rattle.std.specs.Prelude.{ℕ, true, Some}
use Rattle.c_types.specs.CType.{CType}
use Rattle.c_meaning.specs.CoreTrees.{line_of}
use Rattle.c_meaning.specs.StmtTrees.{StmtOf}
use Rattle.c_meaning.specs.StmtTrees as stmt
use Rattle.c_meaning.specs.Values.{CoreTree}
use Rattle.c_runs.specs.Calls.{Setting}
use Rattle.c_runs.specs.Expressions.{asked, test}
use Rattle.c_runs.specs.Outcomes.{Result, Gives, Out, Next, truth, then_do, then_give, then_drop, branch, looped}
use Rattle.c_runs.specs.Statements.{Start, exec, loop, loop_between, maybe_test, last_and_test}
use Rattle.c_runs.specs.Worlds.{World}
use Rattle.c_worlds.specs.Shown.{giving}

-- a test of which this comes: 1 or 0
abbrev pub asked_of : CoreTree → ℕ → Result → Result
asked_of c line r = then_give r (λ v k w. asked (giving c v) line k w)

abbrev pub body_of : Setting → StmtOf CType → ℕ → World → Out
body_of s (stmt.While x t) k w = exec s t Start k w
body_of s (stmt.Do t x) k w = exec s t Start k w
body_of s (stmt.For a b c t) k w = exec s t Start k w
body_of s other k w = Next k w

-- what stands between two repetitions
abbrev pub between_of : Setting → StmtOf CType → ℕ → World → Result
between_of s (stmt.While x t) k w = test s x k w
between_of s (stmt.Do t x) k w = test s x k w
between_of s (stmt.For a b c t) k w = last_and_test s c b k w
between_of s other k w = Gives (truth true) k w

-- the loop's test, of which this comes
abbrev pub tested_of : StmtOf CType → Result → Result
tested_of (stmt.While x t) r = asked_of x (line_of x) r
tested_of (stmt.Do t x) r = asked_of x (line_of x) r
tested_of (stmt.For a (Some b) c t) r = asked_of b (line_of b) r
tested_of other r = r

-- the test that stands in front of a repetition
abbrev pub test_of : Setting → StmtOf CType → ℕ → World → Result
test_of s (stmt.While x t) k w = test s x k w
test_of s (stmt.Do t x) k w = test s x k w
test_of s (stmt.For a b c t) k w = maybe_test s b k w
test_of s other k w = Gives (truth true) k w

-- from its body's start on
abbrev pub repeated : Setting → StmtOf CType → ℕ → World → Out
repeated s l k w = loop (λ k1 w1. body_of s l k1 w1) (λ k1 w1. between_of s l k1 w1) k w

-- by a test's answer
abbrev pub repeated_by : Setting → StmtOf CType → Result → Out
repeated_by s l r = then_do r (λ v k w. branch v (λ k1 w1. repeated s l k1 w1) (λ k1 w1. Next k1 w1) k w)

-- behind its body
abbrev pub repeated_behind : Setting → StmtOf CType → Out → Out
repeated_behind s l o = looped o (λ k w. loop_between (λ k1 w1. body_of s l k1 w1) (λ k1 w1. between_of s l k1 w1) k w)

-- behind its first part, or its last, whose value isn't used
abbrev pub repeated_after : Setting → StmtOf CType → Result → Out
repeated_after s l r = repeated_by s l (then_drop r (λ k w. test_of s l k w))
