-- The parts of loops, by the test and the last part that they have.
use Rattle.std.proofs.Common.{◌≡◌, ℕ, refl, ap, ◌∙◌}
use Rattle.std.specs.Prelude.{Option, Some, None}
use Rattle.c_meaning.specs.CoreTrees.{CoreOf, line_of}
use Rattle.c_meaning.specs.StmtTrees.{StmtOf, maybe_seen}
use Rattle.c_meaning.specs.StmtTrees as stmt
use Rattle.c_runs.specs.Calls.{Setting}
use Rattle.c_runs.specs.Expressions.{eval, test}
use Rattle.c_runs.specs.Outcomes.{Result, then_drop}
use Rattle.c_runs.specs.Statements.{maybe_test, last_and_test}
use Rattle.c_runs.specs.Worlds.{World}
use Rattle.c_worlds.specs.declared.program.Program.{Program}
use Rattle.c_worlds.specs.Programs.{known, stmt_tree, tree}
use Rattle.c_eval.specs.LoopParts.{last_in, test_in}
use Rattle.c_eval.specs.Loops.{asked_of, between_of, test_of, tested_of}

-- ---- tests

test_seen : (s : Setting) (p : Program) (x : StmtOf ℕ) (k : ℕ) (w : World) → test_of s (stmt_tree p x) k w ≡ maybe_test s (maybe_seen (known p) (test_in x)) k w
test_seen s p stmt.Nothing k w = refl
test_seen s p (stmt.Expression e) k w = refl
test_seen s p (stmt.Initialise local zero ps) k w = refl
test_seen s p (stmt.Block first locals ss) k w = refl
test_seen s p (stmt.If x t u) k w = refl
test_seen s p (stmt.While x t) k w = refl
test_seen s p (stmt.Do t x) k w = refl
test_seen s p (stmt.For a b c t) k w = refl
test_seen s p (stmt.Switch x cases default t) k w = refl
test_seen s p (stmt.Label m t) k w = refl
test_seen s p (stmt.Goto m) k w = refl
test_seen s p stmt.Break k w = refl
test_seen s p stmt.Continue k w = refl
test_seen s p (stmt.Return x) k w = refl

pub test_is : (s : Setting) (p : Program) (x : StmtOf ℕ) (c : CoreOf ℕ) (k : ℕ) (w : World) → test_in x ≡ Some c → test_of s (stmt_tree p x) k w ≡ test s (tree p c) k w
test_is s p x c k w e = test_seen s p x k w ∙ ap (λ o. maybe_test s (maybe_seen (known p) o) k w) e

-- a test's value, where there is one
abbrev maybe_tested : Program → Option (CoreOf ℕ) → Result → Result
maybe_tested p None r = r
maybe_tested p (Some c) r = asked_of (tree p c) (line_of (tree p c)) r

pub tested_is : (p : Program) (x : StmtOf ℕ) (c : CoreOf ℕ) (r : Result) → test_in x ≡ Some c → tested_of (stmt_tree p x) r ≡ asked_of (tree p c) (line_of (tree p c)) r
tested_is p (stmt.While x t) c r e = ap (λ (o : Option (CoreOf ℕ)). maybe_tested p o r) e
tested_is p (stmt.Do t x) c r e = ap (λ (o : Option (CoreOf ℕ)). maybe_tested p o r) e
tested_is p (stmt.For a (Some b) d t) c r e = ap (λ (o : Option (CoreOf ℕ)). maybe_tested p o r) e
tested_is p (stmt.For a None d t) c r e = absurd cc
tested_is p x c r e = absurd cc

-- ---- what stands between two repetitions

pub between_last : (s : Setting) (p : Program) (x : StmtOf ℕ) (c : CoreOf ℕ) (k : ℕ) (w : World) → last_in x ≡ Some c
    → between_of s (stmt_tree p x) k w ≡ then_drop (eval s (tree p c) k w) (λ k1 w1. test_of s (stmt_tree p x) k1 w1)
between_last s p (stmt.For a b d t) c k w e = ap (λ o. last_and_test s (maybe_seen (known p) o) (maybe_seen (known p) b) k w) e
between_last s p x c k w e = absurd cc
