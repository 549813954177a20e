-- The meaning of trees and of a function's body under any meaning of calls: each tree is evaluated whole, operands
-- from left to right and before their operator, and the roots act in order.
-- Source: Fraser and Hanson, A Retargetable C Compiler, chapter 5.
use Rattle.std.specs.Prelude.{ℕ, zero, suc, Option, Some, None, List, [], ◌∷◌, ◌++◌}
use Rattle.op_forest.specs.Nodes.{Head, Node, Leaf, One, Two}
use Rattle.op_forest.specs.Labels.{behind}
use Rattle.forests.specs.Words.{Word}
use Rattle.forests.specs.Worlds.{Point, Move, Next, To, End, Effect, then_do, goes, Outcome, Finished, Going, Failed}
use Rattle.forests.specs.Actions.{Calls, effect_of}
use Rattle.forests.specs.Addresses.{Environment}
use Rattle.forests.specs.Rows.{acts}

-- what stays the same while a body runs: the calls of functions, and what its rows read. A call takes the world's
-- argument words and gives its value.
pub record Setting : Type 0 where
  pub call : Calls
  pub environment : Environment

-- an operator at a point, with its operands' values
abbrev pub does : Setting → Head → List Word → Point → Effect
does s h ws p = effect_of s.call (acts s.environment h ws p.world.objects) p

abbrev pub evaluate : Setting → Node → Point → Effect
evaluate s (Leaf h) p = does s h [] p
evaluate s (One h a) p = then_do (evaluate s a p) (λ xs p1. does s h xs p1)
evaluate s (Two h a b) p = then_do (evaluate s a p) (λ xs p1. then_do (evaluate s b p1) (λ ys p2. does s h (xs ++ ys) p2))

abbrev pub at_label : Option (List Node) → (List Node → Outcome) → Outcome
at_label None go = Failed
at_label (Some ts) go = go ts

-- where the run goes on, given the roots behind this one
abbrev pub follow : List Node → List Node → Move → Point → (List Node → Outcome) → Outcome
follow whole rest Next p go = go rest
follow whole rest (To l) p go = at_label (behind l whole) go
follow whole rest (End v) p go = Finished v p

-- one root, given the run from each place and point
abbrev pub act : Setting → List Node → Node → List Node → Point → (List Node → Point → Outcome) → Outcome
act s whole t rest p go = goes (evaluate s t p) (λ ws p1 mv. follow whole rest mv p1 (λ ts. go ts p1))

-- At most n roots of a body, whose end is a step as well. What calls take of the steps that are left isn't looked at.
abbrev pub body_run : Setting → List Node → ℕ → List Node → Point → Outcome
body_run s whole zero ts p = Going p.world
body_run s whole (suc n) [] p = Finished None p
body_run s whole (suc n) (t ∷ ts) p = act s whole t ts p (λ js p1. body_run s whole n js p1)
