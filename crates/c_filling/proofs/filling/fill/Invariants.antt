use Rattle.std.proofs.Common.{drop}
use Rattle.c_worlds.specs.Programs.{Calls, setting_of}
use Rattle.c_worlds.specs.Shown.{StaysBelow}
use Rattle.c_filling.proofs.FilledPlaces.{IsFilling}
use Rattle.c_filling.proofs.filling.fill.Given as goal

abbrev pub invariant-loop-place : goal.invariant-loop-place
invariant-loop-place l =
    ((calls : Calls) → IsFilling (setting_of l.program calls) l.program l.base l.places (drop l.place-index l.places) l.fn.world l.world)
    × StaysBelow l.fn.world l.world
