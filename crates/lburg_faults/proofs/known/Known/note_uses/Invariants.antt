use Rattle.std.proofs.Common.{◌≡◌, ◌≤◌, max}
use Rattle.lburg_lines.specs.Tokens.{views}
use Rattle.lburg_faults.proofs.RuleArities.{UsesTo}
use Rattle.lburg_faults.proofs.known.Known.note_uses.Given as goal

abbrev pub invariant-loop-place : goal.invariant-loop-place
invariant-loop-place l = record {
  noted : UsesTo (views l.tokens) l.bound l.place l.fn.self l.self.arities.items l.least;
  within : l.place ≤ max 2 l.place-end;
  terminals : l.self.terminals ≡ l.fn.self.terminals;
  numbers : l.self.numbers ≡ l.fn.self.numbers;
  nonterminals : l.self.nonterminals ≡ l.fn.self.nonterminals;
  start : l.self.start ≡ l.fn.self.start;
  rules : l.self.rules ≡ l.fn.self.rules;
}
