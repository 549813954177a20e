use Rattle.c_worlds.specs.Programs.{Calls, setting_of}
use Rattle.c_worlds.specs.Shown.{StaysBelow}
use Rattle.c_filling.proofs.Started.{IsFillingFrom}
use Rattle.c_filling.proofs.starting.fill_objects.Given as goal

abbrev pub invariant-loop-place : goal.invariant-loop-place
invariant-loop-place l =
    ((calls : Calls) → IsFillingFrom (setting_of l.program calls) l.program l.objects l.place l.fn.world l.world)
    × StaysBelow l.fn.world l.world
