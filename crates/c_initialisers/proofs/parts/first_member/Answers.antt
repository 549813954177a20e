use Rattle.std.proofs.Common.{◌+◌, ◌<◌, length, sym, ap, ◌∙◌, subst}
use Rattle.std.specs.Prelude.{Some}
use Rattle.c_meaning.specs.Filling.{found}
use Rattle.c_initialisers.specs.Waiting.{place_in}
use Rattle.c_initialisers.proofs.MemberLists.{first_from, members_count, none_from}
use Rattle.c_initialisers.proofs.parts.first_member.Goals as goal

pub bounds-members-index : goal.bounds-members-index
bounds-members-index c =
    let t = c.args.types.now in
    subst (λ n. c.args.index < n) (sym (members_count t c.args.of c.args.begin c.initialised-members.result.now (c.initialised-members.ensures.members c.args.begin))) c.requires.index

pub returns-then-index-members-clause-is : goal.returns-then-index-members-clause-is
returns-then-index-members-clause-is c =
    let t = c.args.types.now in
    let ms = c.initialised-members.result.now in
    let are = c.initialised-members.ensures.members c.args.begin in
    let within : c.args.index < length ms = subst (λ n. c.args.index < n) (sym (members_count t c.args.of c.args.begin ms are)) c.requires.index in
    first_from t c.args.of c.args.begin ms are c.args.index _ c.in_ok-place.place within c.in_ok-place.ensures

pub returns-else-index-members-clause-is : goal.returns-else-index-members-clause-is
returns-else-index-members-clause-is c =
    let t = c.args.types.now in
    let ms = c.initialised-members.result.now in
    let are = c.initialised-members.ensures.members c.args.begin in
    let within : c.args.index < length ms = subst (λ n. c.args.index < n) (sym (members_count t c.args.of c.args.begin ms are)) c.requires.index in
    ap (λ l. Some (found (place_in t c.in_ok-place.place) l)) (sym (none_from t c.args.of c.args.begin ms are (c.args.index + 1) c.if-index-members.false))
    ∙ first_from t c.args.of c.args.begin ms are c.args.index _ c.in_ok-place.place within c.in_ok-place.ensures
