-- Points with so many steps left, and settings with a meaning of calls.
use Rattle.std.specs.Prelude.{ℕ, ◌+◌}
use Rattle.forests.specs.Worlds.{World, Point}
use Rattle.forests.specs.Actions.{Calls}
use Rattle.forests.specs.Bodies.{Setting}

-- a world with so many steps left
abbrev pub with_left : ℕ → World → Point
with_left left w = record { left = left; world = w }

-- the same point with more steps left
abbrev pub with_more : ℕ → Point → Point
with_more more p = record p { left = p.left + more }

-- the same setting under this meaning of calls
abbrev pub with_calls : Setting → Calls → Setting
with_calls s call = record { call = call; environment = s.environment }
