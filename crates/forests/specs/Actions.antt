-- What an operator does once its operands have values, and what this makes of a point of a run. No action but a call
-- takes steps, changes the input or is seen.
use Rattle.std.specs.Prelude.{ℕ, List, [], ◌∷◌, ◌++◌, Bool, true, false, Option, Some, None}
use Rattle.forests.specs.Words.{Word}
use Rattle.forests.specs.Objects.{Object}
use Rattle.forests.specs.Worlds.{Point, at_world, with_objects, with_arguments, Move, Next, Effect, Went, Stuck, gives, then_do}

-- it gives a value; or leaves other bytes in the objects; or adds an argument word for the next call; or calls a
-- function, whose value it gives if it is valued; or moves; or it has no meaning
pub data Action : Type 0 where
  Gave : (value : Word) → Action
  Stored : (objects : List Object) → Action
  Passed : (argument : Word) → Action
  Called : (valued : Bool) (function : ℕ) → Action
  Moved : (move : Move) → Action
  Meaningless : Action

-- what a call of each name does
abbrev pub Calls : Type 0
Calls = ℕ → Point → Effect

-- A call goes on behind it, with its value; where that is left out, with none.
abbrev pub handed : Bool → List Word → Point → Effect
handed valued [] p = Stuck
handed true (w ∷ ws) p = gives w p
handed false (w ∷ ws) p = Went [] p Next

-- an action's effect at a point
abbrev pub effect_of : Calls → Action → Point → Effect
effect_of call (Gave v) p = gives v p
effect_of call (Stored objects) p = Went [] (at_world p (with_objects p.world objects)) Next
effect_of call (Passed w) p = Went [] (at_world p (with_arguments p.world (p.world.arguments ++ w ∷ []))) Next
effect_of call (Called valued f) p = then_do (call f p) (λ ws p1. handed valued ws p1)
effect_of call (Moved mv) p = Went [] p mv
effect_of call Meaningless p = Stuck

-- a value, or objects, where they are defined
abbrev pub gave : Option Word → Action
gave None = Meaningless
gave (Some w) = Gave w

abbrev pub changed : Option (List Object) → Action
changed None = Meaningless
changed (Some objects) = Stored objects
