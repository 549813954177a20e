use Rattle.std.proofs.Common.{◌≡◌, take, map}
use Rattle.mips_rules.specs.Tables.{terminal_of}
use Rattle.mips_rules.proofs.mips_description.terminals_of.Given as goal

abbrev pub invariant-loop-name : goal.invariant-loop-name
invariant-loop-name l = l.all.items ≡ map terminal_of (take l.name-index l.lines)
