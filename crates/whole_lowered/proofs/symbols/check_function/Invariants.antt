use Rattle.std.proofs.Common.{take, nat_eq}
use Rattle.std.specs.Prelude.{All}
use Rattle.indexmap.specs.IndexMap.{get}
use Rattle.whole_lowered.specs.Labels.{KnowsTree}
use Rattle.whole_lowered.proofs.symbols.check_function.Given as goal

abbrev pub invariant-loop-tree : goal.invariant-loop-tree
invariant-loop-tree l = All (KnowsTree l.names (get nat_eq l.labels.places)) (take l.tree-index l.function.forest.roots)
