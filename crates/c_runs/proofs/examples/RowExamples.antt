-- Rows compute: what an expression or statement with unknown parts is, by its definition alone. The proofs of an evaluator
-- and of a lowering rest on such equations.
use Rattle.std.specs.Prelude.{◌≡◌, refl, ℕ, true, false, Some}
use Rattle.objects.specs.declared.operators.Binary.{Binary}
use Rattle.objects.specs.Arithmetic.{binary_value}
use Rattle.c_types.specs.CType.{CType}
use Rattle.c_meaning.specs.declared.core_expr.CoreKind.TheVariants as kind
use Rattle.c_meaning.specs.CoreTrees.{Core, one, two, type_of, line_of}
use Rattle.c_meaning.specs.StmtTrees.{StmtOf, StmtsOf}
use Rattle.c_meaning.specs.StmtTrees as stmt
use Rattle.c_meaning.specs.Values.{CoreTree}
use Rattle.c_runs.specs.Worlds.{World, objects}
use Rattle.c_runs.specs.Outcomes.{Return, truth, Gives, then_give, then_do, gives, branch, catch, tells}
use Rattle.c_runs.specs.Places.{spot_of, held}
use Rattle.c_runs.specs.Calls.{Setting}
use Rattle.c_runs.specs.Expressions.{eval, holds}
use Rattle.c_runs.specs.Expressions.{test}
use Rattle.c_runs.specs.Statements.{exec, exec_all, Start, At, loop_between, jump, any_has}

read : (s : Setting) (of : CType) (line k : ℕ) (a : CoreTree) (w : World) → eval s (Core kind.Read of line (one a)) k w ≡ then_give (eval s a k w) (λ p k1 w1. gives (held s.order (spot_of a) (objects w1) p) line k1 w1)
read s of line k a w = refl

binary : (s : Setting) (op : Binary) (of : CType) (line k : ℕ) (a b : CoreTree) (w : World) → eval s (Core (kind.Binary op true) of line (two a b)) k w ≡ then_give (eval s a k w) (λ v k1 w1. then_give (eval s b k1 w1) (λ u k2 w2. gives (binary_value true op v u) line k2 w2))
binary s op of line k a b w = refl

both : (s : Setting) (of : CType) (line k : ℕ) (a b : CoreTree) (w : World) → eval s (Core kind.And of line (two a b)) k w ≡ then_give (then_give (eval s a k w) (λ v k1 w1. tells (holds (type_of a) (objects w1) v) line k1 w1)) (λ v k1 w1. branch v (λ k2 w2. then_give (eval s b k2 w2) (λ u k3 w3. tells (holds (type_of b) (objects w3) u) line k3 w3)) (λ k2 w2. Gives (truth false) k2 w2) k1 w1)
both s of line k a b w = refl

while : (s : Setting) (x : CoreTree) (t : StmtOf CType) (k : ℕ) (w : World) → exec s (stmt.While x t) Start k w ≡ loop_between (λ k1 w1. exec s t Start k1 w1) (λ k1 w1. test s x k1 w1) k w
while s x t k w = refl

block : (s : Setting) (ts : StmtsOf CType) (k : ℕ) (w : World) → exec s (stmt.Block 0 0 ts) Start k w ≡ catch (any_has ts) (exec_all s ts Start k w) (λ l k1 w1. jump (any_has ts) (λ m k2 w2. exec_all s ts (At m) k2 w2) l k1 w1)
block s ts k w = refl

pub return : (s : Setting) (x : CoreTree) (k : ℕ) (w : World) → exec s (stmt.Return (Some x)) Start k w ≡ then_do (eval s x k w) (λ v k1 w1. Return (Some v) (line_of x) k1 w1)
return s x k w = refl
