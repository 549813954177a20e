use Rattle.std.proofs.Common.{◌≡◌, ◌≤◌, max}
use Rattle.lcc_text.specs.Names.{bytes_of}
use Rattle.lburg_lines.specs.Tokens.{views}
use Rattle.lburg_faults.proofs.RuleNames.{NotedTo}
use Rattle.lburg_faults.proofs.known.Known.note_nodes.Given as goal

abbrev pub invariant-loop-place : goal.invariant-loop-place
invariant-loop-place l = record {
  noted : NotedTo (views l.tokens) l.end l.place (bytes_of l.fn.self.terminals) (bytes_of l.fn.self.nonterminals) (bytes_of l.self.nonterminals);
  within : l.place ≤ max 2 l.end;
  terminals : l.self.terminals ≡ l.fn.self.terminals;
  numbers : l.self.numbers ≡ l.fn.self.numbers;
  arities : l.self.arities ≡ l.fn.self.arities;
  start : l.self.start ≡ l.fn.self.start;
  rules : l.self.rules ≡ l.fn.self.rules;
}
