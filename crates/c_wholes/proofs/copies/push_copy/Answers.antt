use Rattle.std.proofs.Common.{sym, ◌∙◌}
use Rattle.c_types.specs.Table.{type_at}
use Rattle.c_wholes.proofs.PlacedParts.{push_type, one_copy}
use Rattle.c_wholes.proofs.copies.push_copy.Goals as goal

pub returns-in_ok-push : goal.returns-in_ok-push
returns-in_ok-push c =
    let t = c.args.types.now in
    one_copy t _ _ (type_at t c.args.of) (sym c.is_record.ensures ∙ c.if-is_record.true)
    (push_type t _ _ c.unqualified_type.result _ c.requires.locals c.unqualified_type.ensures.within c.unqualified_type.ensures.means c.in_ok-push.ensures.ok)
