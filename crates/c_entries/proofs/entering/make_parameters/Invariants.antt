use Rattle.std.proofs.Common.{◌≡◌}
use Rattle.c_entries.proofs.Made.{AreMade}
use Rattle.c_entries.proofs.entering.make_parameters.Given as goal

abbrev pub invariant-loop-place : goal.invariant-loop-place
invariant-loop-place l = record {
  made : AreMade l.program l.parameters l.arguments l.place l.fn.world l.world;
  output : l.world.output ≡ l.fn.world.output;
  below : l.world.locals.below ≡ l.fn.world.locals.below;
}
