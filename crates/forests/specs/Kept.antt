-- What a body and its calls leave of objects: those that lived before live on, with their names, sizes and constancy;
-- their bytes may be others. And no fewer were made.
use Rattle.std.specs.Prelude.{◌≡◌, ℕ, ◌≤◌}
use Rattle.forests.specs.Objects.{shapes}
use Rattle.forests.specs.Worlds.{World, Point, Effect, Went, Exits, Unfinished, Stuck, Outcome, Finished, Exited, Going, Failed}
use Rattle.forests.specs.Actions.{Calls}

pub record Keeps (old new : World) : Type 0 where
  pub shapes : shapes new.objects ≡ shapes old.objects
  pub made : old.made ≤ new.made

-- an effect, where it goes on, keeps the objects of a world; and so does a body's outcome that is over
abbrev pub Kept : World → Effect → Type 0
Kept w (Went ws p mv) = Keeps w p.world
Kept w (Exits status w1) = Unit {0}
Kept w (Unfinished w1) = Unit {0}
Kept w Stuck = Unit {0}

abbrev pub KeptIn : World → Outcome → Type 0
KeptIn w (Finished v p) = Keeps w p.world
KeptIn w (Exited status w1) = Unit {0}
KeptIn w (Going w1) = Unit {0}
KeptIn w Failed = Unit {0}

abbrev pub CallsKeep : Calls → Type 0
CallsKeep call = (name : ℕ) (p : Point) → Kept p.world (call name p)
