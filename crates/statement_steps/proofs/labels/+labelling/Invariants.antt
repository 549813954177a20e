use Rattle.std.proofs.Common.{◌≡◌, ◌++◌, ℕ, drop}
use Rattle.c_types.specs.CType.{CType}
use Rattle.statement_steps.specs.Numbering.{all_labels_of}
use Rattle.statement_steps.proofs.labels.+labelling.Given as goal

abbrev pub invariant-add_all-loop-s : goal.invariant-add_all-loop-s
invariant-add_all-loop-s l = (known : ℕ → CType) → l.all.items ++ all_labels_of known (drop l.s-index l.list) ≡ l.fn.all.items ++ all_labels_of known l.list
