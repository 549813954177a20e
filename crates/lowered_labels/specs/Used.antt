-- The labels to which the lowered statements of a function go have been used, and so each of them is marked.
-- Source: ISO/IEC 9899:1990, 6.6; Fraser and Hanson, A Retargetable C Compiler, chapter 10.
use Rattle.std.specs.Prelude.{◌≡◌, ◌<◌, ◌≤◌, ℕ, Bool, true, false, IfSome, length}
use Rattle.std.specs.List.{AllByRecursion}
use Rattle.lcc_base.specs.declared.order.Order.{Order}
use Rattle.c_meaning.specs.StmtTrees as stmt
use Rattle.c_meaning.specs.Units.{FunctionTree, UnitTree}
use Rattle.lowered_blocks.specs.Known.{IsKnown}
use Rattle.lowered_statements.specs.Bodies.{Body}
use Rattle.lowered_statements.specs.FunctionBodies.{function_in, low_f}
use Rattle.lowered_statements.specs.Functions.{Function, Exits, label_at}
use Rattle.lowered_statements.specs.Statements.{StmtTree, StmtTrees, low_s}

-- a label of the program is one of the function's
abbrev pub IsOwn : Function → ℕ → Type 0
IsOwn f n = label_at f n < length f.labels

-- by whether there is a loop or a switch that a `break`, and a loop that a `continue`, is in
abbrev mutual
  pub GoesWithin : Function → Bool → Bool → StmtTree → Type 0
  GoesWithin f breaks continues (stmt.Block first locals ts) = AllGoWithin f breaks continues ts
  GoesWithin f breaks continues (stmt.If e t u) = GoesWithin f breaks continues t × GoesWithin f breaks continues u
  GoesWithin f breaks continues (stmt.While e t) = GoesWithin f true true t
  GoesWithin f breaks continues (stmt.Do t e) = GoesWithin f true true t
  GoesWithin f breaks continues (stmt.For first test last t) = GoesWithin f true true t
  GoesWithin f breaks continues (stmt.Switch e cases default t) = (AllByRecursion (λ c. IsOwn f c.label) cases × IfSome default (IsOwn f)) × GoesWithin f true continues t
  GoesWithin f breaks continues (stmt.Label n t) = IsOwn f n × GoesWithin f breaks continues t
  GoesWithin f breaks continues (stmt.Goto n) = IsOwn f n
  GoesWithin f breaks continues stmt.Break = breaks ≡ true
  GoesWithin f breaks continues stmt.Continue = continues ≡ true
  GoesWithin f breaks continues t = Unit {0}

  pub AllGoWithin : Function → Bool → Bool → StmtTrees → Type 0
  AllGoWithin f breaks continues stmt.NoStmt = Unit {0}
  AllGoWithin f breaks continues (stmt.Stmts t ts) = GoesWithin f breaks continues t × AllGoWithin f breaks continues ts

-- where `break` and `continue` go has been used, if they go anywhere
abbrev pub AreUsed : Bool → Bool → Exits → ℕ → Type 0
AreUsed breaks continues y k = (breaks ≡ true → y.breaks < k) × (continues ≡ true → y.continues < k)

abbrev pub StatementsKeepKnown : Type 0
StatementsKeepKnown =
    (f : Function) (breaks continues : Bool) (y : Exits) (t : StmtTree) (b : Body) → GoesWithin f breaks continues t → length f.labels ≤ b.low.labels → AreUsed breaks continues y b.low.labels
    → IsKnown b.low → IsKnown (low_s f y t b).low

-- in a function whose jumps stay in it each label that is named has been used
abbrev pub FunctionsAreKnown : Type 0
FunctionsAreKnown =
    (u : UnitTree) (order : Order) (number tables : ℕ) (f : FunctionTree) → GoesWithin (function_in u order number tables f) false false f.body → IsKnown (low_f u order number tables f).low
