-- Forest meaning: a program's calls with so many root steps for all of them together. A label is a root step as any
-- other root, and so is the end of the roots.
-- Source: Fraser and Hanson, A Retargetable C Compiler, chapter 5.
use Rattle.std.specs.Prelude.{ℕ, zero, suc, List, [], ◌∷◌, None}
use Rattle.op_forest.specs.Nodes.{Node}
use Rattle.forests.specs.Worlds.{World, Point, Effect, Unfinished, Outcome, Finished, Going}
use Rattle.forests.specs.Bodies.{Setting, act}
use Rattle.forests.specs.Functions.{Program, call_by}

-- one of the steps that are left is taken, where there is one
abbrev pub spend : ℕ → World → (Point → Outcome) → Outcome
spend zero w go = Going w
spend (suc left) w go = go (record { left = left; world = w })

-- the run of a body, each root of which takes one of the steps that are left; `fuel` is above their number
abbrev pub counted_run : ℕ → Setting → List Node → List Node → Point → Outcome
counted_run zero s whole ts p = Going p.world
counted_run (suc fuel) s whole [] p = spend p.left p.world (λ p1. Finished None p1)
counted_run (suc fuel) s whole (t ∷ ts) p = spend p.left p.world (λ p1. act s whole t ts p1 (λ js p2. counted_run fuel s whole js p2))

-- a call, where at most the steps that are left are taken; `fuel` is above their number
abbrev pub counted_call : Program → ℕ → ℕ → Point → Effect
counted_call g zero name p = Unfinished p.world
counted_call g (suc fuel) name p = call_by g (λ s roots p1. counted_run (suc fuel) s roots roots p1) (counted_call g fuel) name (g.callee name) p

-- the call of a name with the steps that are left
abbrev pub call_of : Program → ℕ → Point → Effect
call_of g name p = counted_call g (suc p.left) name p
