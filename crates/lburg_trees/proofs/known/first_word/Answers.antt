use Rattle.std.proofs.Common.{arith}
use Rattle.lburg_trees.proofs.Words.{eight_bytes}
use Rattle.lburg_trees.proofs.known.first_word.Goals as goal

pub returns-in-len8-up : goal.returns-in-len8-up
returns-in-len8-up c = eight_bytes c.args.bytes.now c.from_le_bytes.result c.in-len8-up.len_at_least (λ i. (let h = c.type_inv.bytes i in omega arith)) c.from_le_bytes.ensures
