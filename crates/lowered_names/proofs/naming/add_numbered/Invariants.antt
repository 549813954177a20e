use Rattle.std.proofs.Common.{◌≡◌, ◌++◌}
use Rattle.lowered_names.specs.UnitNames.{numbered}
use Rattle.lowered_names.proofs.naming.add_numbered.Given as goal

abbrev pub invariant-loop-n : goal.invariant-loop-n
invariant-loop-n l = l.all ≡ l.fn.all ++ numbered l.fn.front l.n
