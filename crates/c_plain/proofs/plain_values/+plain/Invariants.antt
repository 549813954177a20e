use Rattle.std.proofs.Common.{◌*◌, ◌+◌, drop}
use Rattle.c_meaning.specs.CoreTrees.{parts}
use Rattle.c_worlds.specs.Programs.{Calls, known, setting_of}
use Rattle.c_worlds.specs.Shown.{StaysBelow}
use Rattle.c_plain.proofs.Choices.{IsLeft}
use Rattle.c_plain.proofs.plain_values.+plain.Given as goal

abbrev pub decreases-plain_value : goal.decreases-plain_value
decreases-plain_value l = 4 * parts l.e.now + 1

abbrev pub decreases-plain_used : goal.decreases-plain_used
decreases-plain_used l = 4 * parts l.e.now + 2

abbrev pub decreases-tested : goal.decreases-tested
decreases-tested l = 4 * parts l.e.now + 3

abbrev pub decreases-dropped_value : goal.decreases-dropped_value
decreases-dropped_value l = 4 * parts l.e.now

abbrev pub decreases-unary_value : goal.decreases-unary_value
decreases-unary_value l = 4 * parts l.e.now

abbrev pub decreases-binary_value : goal.decreases-binary_value
decreases-binary_value l = 4 * parts l.e.now

abbrev pub decreases-logical_value : goal.decreases-logical_value
decreases-logical_value l = 4 * parts l.e.now

abbrev pub decreases-conditional_value : goal.decreases-conditional_value
decreases-conditional_value l = 4 * parts l.e.now

abbrev pub decreases-comma_value : goal.decreases-comma_value
decreases-comma_value l = 4 * parts l.e.now

abbrev pub invariant-comma_value-loop-part : goal.invariant-comma_value-loop-part
invariant-comma_value-loop-part l =
    ((calls : Calls) → IsLeft (setting_of l.program calls) (known l.program) l.e (drop l.part-index l.rest) l.fn.world l.world l.value)
    × StaysBelow l.fn.world l.world
