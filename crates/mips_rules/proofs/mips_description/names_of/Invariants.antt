use Rattle.std.proofs.Common.{◌≡◌, take, map}
use Rattle.mips_rules.proofs.mips_description.names_of.Given as goal

abbrev pub invariant-loop-name : goal.invariant-loop-name
invariant-loop-name l = l.copies.items ≡ map (λ n. n.now) (take l.name-index l.names)
