use Rattle.std.proofs.Common.{refl}
use Rattle.c_check_decl.proofs.TagSpecifiers.{names_declared, tags_declared}
use Rattle.c_check_decl.proofs.walk.declares_something.Goals as goal

pub returns-then-not-is_empty : goal.returns-then-not-is_empty
returns-then-not-is_empty c = names_declared c.args.d.now c.is_empty.result c.if-not-is_empty.true c.if-not-is_empty.ensures.1

pub returns-else-not-is_empty : goal.returns-else-not-is_empty
returns-else-not-is_empty c = tags_declared c.args.d.now c.declares_tag.result (c.if-not-is_empty.ensures.0 refl) c.declares_tag.ensures
