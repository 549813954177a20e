use Rattle.std.proofs.Common.{◌≡◌, take, map}
use Rattle.lcc_text.specs.Names.{bytes_of}
use Rattle.lburg_model.specs.declared.terminal.Terminal.{Terminal}
use Rattle.lburg_trees.proofs.tail.names_of.Given as goal

abbrev pub invariant-loop-terminal : goal.invariant-loop-terminal
invariant-loop-terminal l = bytes_of l.names ≡ map (λ (t : Terminal). t.name) (take l.terminal-index l.terminals)
