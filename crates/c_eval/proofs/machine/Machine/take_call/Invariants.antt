use Rattle.std.proofs.Common.{◌≡◌, ◌++◌, List, length, reverse}
use Rattle.objects.specs.declared.value.Value.{Value}
use Rattle.c_entries.specs.Arguments.{arguments_seen}
use Rattle.c_worlds.specs.declared.program.Program.{Program}
use Rattle.c_eval.specs.Ends.{Came}
use Rattle.c_eval.specs.Frames.{frames}
use Rattle.c_eval.specs.Stacks.{called, passed}
use Rattle.c_eval.specs.States.{ends}
use Rattle.c_eval.proofs.machine.Machine.take_call.Given as goal

abbrev pub invariant-passed : goal.invariant-passed
invariant-passed l = record {
  passed : (p : Program) → passed p (frames l.initial.self.stack) ≡ passed p (frames l.self.stack) ++ reverse (arguments_seen p l.arguments.items);
  called : called (frames l.self.stack) ≡ called (frames l.initial.self.stack);
  rest : (p : Program) (below : List Value) (came : Came) → ends p below (frames l.self.stack) came ≡ ends p below (frames l.initial.self.stack) came;
  world : l.self.world ≡ l.initial.self.world;
  turns : l.self.turns ≡ l.initial.self.turns;
}

abbrev pub decreases-passed : goal.decreases-passed
decreases-passed l = length (frames l.self.stack)
