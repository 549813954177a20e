use Rattle.std.proofs.Common.{◌≡◌, ◌++◌, map, take, drop}
use Rattle.std.specs.Prelude.{All}
use Rattle.asm_text.specs.LineBack.{IsLabelBack}
use Rattle.asm_text.specs.Names.{name_at}
use Rattle.asm_text.specs.Printed.{labels_text}
use Rattle.asm_text.proofs.printing.add_labels.Given as goal

abbrev pub invariant-loop-label : goal.invariant-loop-label
invariant-loop-label l = record {
  text : l.out ++ labels_text (map (name_at l.names) (drop l.label-index l.labels)) ≡ l.fn.out ++ labels_text (map (name_at l.names) l.labels);
  back : All IsLabelBack (map (name_at l.names) (take l.label-index l.labels));
}
