-- The run in which steps are counted over all calls is never ahead of the nested ones: what it has come to with so
-- many steps, calls come to with that budget, and with any larger one.
use Rattle.std.specs.Prelude.{◌≡◌, ℕ}
use Rattle.forests.specs.Worlds.{Effect, Went, Exits, Unfinished, Stuck}
use Rattle.forests.specs.Begun.{Begins}

-- The second effect has come as far as the first one: it is over in the same way, whatever steps are left, or stuck
-- where the first one is; and it has begun with the first one's trace where that is unfinished.
abbrev pub Reaches : Effect → Effect → Type 0
Reaches (Went vs p mv) e = (left : ℕ) × (e ≡ Went vs (record p { left = left }) mv)
Reaches (Exits status w) e = e ≡ Exits status w
Reaches (Unfinished w) e = Begins w.trace e
Reaches Stuck e = e ≡ Stuck
