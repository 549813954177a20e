use Rattle.std.proofs.Common.{◌<◌, length, sym, subst}
use Rattle.c_types.specs.declared.type_form.Member.{Member}
use Rattle.c_types.proofs.Below.{member_below}
use Rattle.c_types.proofs.type_table.TypeTable.some_const.Goals as goal

pub has_const-requires : goal.has_const-requires
has_const-requires c =
    let ms = c.args.members.now in
    subst (λ (m : Member). m.of < length c.args.self.now.forms) (sym c.member-item.is) (member_below (length c.args.self.now.forms) ms c.loop-member.member-index c.member-item.result c.requires c.loop-member-test.true)
