use Rattle.std.proofs.Common.{◌≡◌, ◌++◌, length}
use Rattle.asm_text.specs.Entries.{labels_in}
use Rattle.asm_text.specs.Made.{label_at}
use Rattle.asm_text.specs.Paired.{paired}
use Rattle.asm_text.proofs.labels.Labels.into_table.Given as goal

abbrev pub invariant-loop-name : goal.invariant-loop-name
invariant-loop-name l = record {
  same_length : length l.places.items ≡ length l.names;
  labels : paired label_at l.places.items l.names ++ labels_in l.name-iterator ≡ l.fn.self;
}
