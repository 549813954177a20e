use Rattle.std.proofs.Common.{◌≡◌, take, map}
use Rattle.lburg_grammar.proofs.resolve.copied_names.Given as goal

abbrev pub invariant-loop-name : goal.invariant-loop-name
invariant-loop-name l = l.copies.items ≡ map (λ n. n.now) (take l.name-index l.name-items)
