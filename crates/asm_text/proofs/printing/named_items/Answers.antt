use Rattle.std.proofs.Common.{length}
use Rattle.asm_text.proofs.PrintSteps.{item_below}
use Rattle.asm_text.proofs.printing.named_items.Goals as goal

pub named_item-requires : goal.named_item-requires
named_item-requires c = item_below (length c.args.names.now) c.args.items.now c.loop-item.item-index _ c.loop-item-test.true c.requires
