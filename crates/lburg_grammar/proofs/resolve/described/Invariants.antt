use Rattle.std.proofs.Common.{◌≡◌, take, map}
use Rattle.lburg_model.specs.declared.terminal.Terminal.{Terminal}
use Rattle.lburg_grammar.proofs.resolve.described.Given as goal

abbrev pub invariant-loop-place : goal.invariant-loop-place
invariant-loop-place l = record {
  names : map (λ (t : Terminal). t.name) l.terminals.items ≡ map (λ n. n.now) (take l.place l.name-items);
  numbers : map (λ (t : Terminal). t.number) l.terminals.items ≡ take l.place l.numbers;
  arities : map (λ (t : Terminal). t.arity) l.terminals.items ≡ take l.place l.checked.arities.items;
}
