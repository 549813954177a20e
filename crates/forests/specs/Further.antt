-- A run with more steps: what is over stays, with the rest of the steps; what was unfinished has begun with the same
-- trace; what is stuck stays.
use Rattle.std.specs.Prelude.{◌≡◌, ℕ, ◌<◌, ◌≤◌}
use Rattle.forests.specs.Worlds.{Point, Effect, Went, Exits, Unfinished, Stuck, Outcome, Finished, Exited, Going, Failed}
use Rattle.forests.specs.Budgets.{with_more}
use Rattle.forests.specs.Actions.{Calls}
use Rattle.forests.specs.Begun.{Begins, BeginsIn}

-- the second effect is the first one's with d steps more, where the first had so many left
abbrev pub Further : ℕ → ℕ → Effect → Effect → Type 0
Further left d (Went ws p mv) e = (p.left ≤ left) × (e ≡ Went ws (with_more d p) mv)
Further left d (Exits status w) e = e ≡ Exits status w
Further left d (Unfinished w) e = (d ≡ 0 → e ≡ Unfinished w) × Begins w.trace e
Further left d Stuck e = e ≡ Stuck

-- likewise of a body's outcome
abbrev pub FurtherIn : ℕ → ℕ → Outcome → Outcome → Type 0
FurtherIn left d (Finished v p) e = (p.left ≤ left) × (e ≡ Finished v (with_more d p))
FurtherIn left d (Exited status w) e = e ≡ Exited status w
FurtherIn left d (Going w) e = (d ≡ 0 → e ≡ Going w) × BeginsIn w.trace e
FurtherIn left d Failed e = e ≡ Failed

-- the second calls are the first ones with d steps more, where fewer than so many are left
abbrev pub CallsFurther : ℕ → ℕ → Calls → Calls → Type 0
CallsFurther bound d c1 c2 = (name : ℕ) (p : Point) → p.left < bound → Further p.left d (c1 name p) (c2 name (with_more d p))
