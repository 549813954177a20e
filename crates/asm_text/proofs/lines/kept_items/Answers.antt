use Rattle.asm_text.proofs.GrownNames.{grown_more}
use Rattle.asm_text.proofs.KeptItems.{items_below, items_step}
use Rattle.asm_text.proofs.lines.kept_items.Goals as goal

pub loop-item-preserved : goal.loop-item-preserved
loop-item-preserved c =
    let names = c.loop-item.names in
    let new = c.kept_item.new.names in
    let found = c.loop-item.found in
    let out = c.push.new.self in
    let items = c.as_slice-item-items.result.now in
    let i = c.loop-item.item-index in
    record {
      grown = grown_more c.args.names.now names new c.loop-item.invariant.grown c.kept_item.ensures.grown;
      below = items_below names new found out c.in_ok-item.item c.kept_item.ensures.grown c.loop-item.invariant.below c.in_ok-item.ensures.below c.in_ok-push.ensures.ok;
      same = items_step names new found out c.in_ok-item.item items i _ c.loop-item-test.true c.kept_item.ensures.grown c.loop-item.invariant.below c.loop-item.invariant.same c.in_ok-item.ensures.same c.in_ok-push.ensures.ok;
    }
