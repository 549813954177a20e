use Rattle.std.proofs.Common.{◌≡◌, map, take}
use Rattle.asm_text.specs.Grown.{HasGrown, AddsLabels}
use Rattle.asm_text.proofs.lines.add_labels.Given as goal

abbrev pub invariant-loop-label : goal.invariant-loop-label
invariant-loop-label l = record {
  grown : HasGrown l.fn.names l.names;
  added : AddsLabels l.names l.fn.numbers.items l.numbers.items (map (λ n. n.now) (take l.label-index l.labels));
}
