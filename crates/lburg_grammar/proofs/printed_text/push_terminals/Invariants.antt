use Rattle.std.proofs.Common.{◌≡◌, ◌++◌, take}
use Rattle.lburg_grammar.specs.Printed.{terminal_lines}
use Rattle.lburg_grammar.proofs.printed_text.push_terminals.Given as goal

abbrev pub invariant-loop-terminal : goal.invariant-loop-terminal
invariant-loop-terminal l = l.out ≡ l.fn.out ++ terminal_lines (take l.terminal-index l.terminals)
