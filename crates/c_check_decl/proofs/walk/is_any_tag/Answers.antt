use Rattle.std.proofs.Common.{false, true, sym, ◌∙◌, arith}
use Rattle.std.proofs.lemmas.List.{at_drop_all}
use Rattle.c_check_decl.proofs.TagSpecifiers.{tag_first, tagged}
use Rattle.c_check_decl.proofs.walk.is_any_tag.Goals as goal

pub returns-then-is_tag : goal.returns-then-is_tag
returns-then-is_tag c = sym (tag_first c.args.list.now c.loop-specifier.specifier-index c.specifier-item.result true (omega arith) c.specifier-item.is c.if-is_tag.ensures) ∙ c.loop-specifier.invariant

pub loop-specifier-preserved : goal.loop-specifier-preserved
loop-specifier-preserved c = sym (tag_first c.args.list.now c.loop-specifier.specifier-index c.specifier-item.result false (omega arith) c.specifier-item.is c.if-is_tag.ensures) ∙ c.loop-specifier.invariant

pub returns : goal.returns
returns c = sym (at_drop_all tagged c.args.list.now c.loop-specifier.specifier-index (omega arith)) ∙ c.loop-specifier.invariant
