use Rattle.std.proofs.Common.{◌≡◌, drop}
use Rattle.c_check_decl.proofs.TagSpecifiers.{tagged}
use Rattle.c_check_decl.proofs.walk.is_any_tag.Given as goal

-- those before it declare none
abbrev pub invariant-loop-specifier : goal.invariant-loop-specifier
invariant-loop-specifier l = tagged (drop l.specifier-index l.list) ≡ tagged l.list
