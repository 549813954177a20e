use Rattle.asm_text.proofs.GrownNames.{grown_more}
use Rattle.asm_text.proofs.KeptItems.{labels_step}
use Rattle.asm_text.proofs.lines.add_labels.Goals as goal

pub loop-label-preserved : goal.loop-label-preserved
loop-label-preserved c =
    let names = c.loop-label.names in
    let new = c.add_name.new.names in
    record {
      grown = grown_more c.args.names.now names new c.loop-label.invariant.grown c.add_name.ensures.grown;
      added = labels_step names new c.args.numbers.now.items c.loop-label.numbers.items c.push.new.self.items c.args.labels.now c.loop-label.label-index _ c.in_ok-number.number c.loop-label-test.true c.loop-label.invariant.added c.add_name.ensures.grown c.in_ok-number.ensures.number c.in_ok-push.ensures.items;
    }
