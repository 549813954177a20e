use Rattle.std.proofs.Common.{nat_eq}
use Rattle.indexmap.specs.IndexMap.{get}
use Rattle.whole_lowered.proofs.Known.{labels_more}
use Rattle.whole_lowered.proofs.labels.labels_in.Goals as goal

pub loop-root-preserved : goal.loop-root-preserved
loop-root-preserved c =
    labels_more c.args.roots.now c.loop-root.root c.index-roots-root.result c.label_of-label.result (get nat_eq c.loop-root.labels.places) (get nat_eq c.note.new.self.places)
    c.loop-root-test.true c.loop-root.auto.root c.index-roots-root.is c.label_of-label.ensures c.loop-root.invariant c.in_ok-note.ensures
