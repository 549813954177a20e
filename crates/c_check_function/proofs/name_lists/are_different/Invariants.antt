use Rattle.std.proofs.Common.{◌≡◌, drop}
use Rattle.c_meaning.specs.Units.{are_different}
use Rattle.c_check_function.proofs.DifferentNames.{differ_behind}
use Rattle.c_check_function.proofs.name_lists.are_different.Given as goal

-- those before it differ
abbrev pub invariant-loop-name : goal.invariant-loop-name
invariant-loop-name l = differ_behind l.seen (drop l.name-index l.names) ≡ are_different l.names
