use Rattle.std.proofs.Common.{sym, subst}
use Rattle.c_types.specs.Table.{type_at}
use Rattle.c_meaning.specs.Copies.{own_copies}
use Rattle.c_meaning.specs.CoreTrees.{all_seen, cores_of}
use Rattle.c_wholes.specs.Placing.{Grows}
use Rattle.c_wholes.proofs.PlacedParts.{grows_by_call}
use Rattle.c_wholes.proofs.copies.place_kind.Goals as goal

pub returns-in_ok-push_call-clause-copies : goal.returns-in_ok-push_call-clause-copies
returns-in_ok-push_call-clause-copies c =
    let t = c.args.types.now in
    let kids = all_seen (type_at t) (cores_of c.args.kids.now) in
    subst (λ what. Grows t (own_copies what (type_at t c.args.of) kids) c.args.locals.now c.push_call.new.locals) (sym c.in-Call.is)
    (grows_by_call t c.in-Call.copies (type_at t c.args.of) kids _ _ c.in_ok-push_call.ensures)
