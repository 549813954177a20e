use Rattle.std.proofs.Common.{true, length, sym, ap, ◌∙◌}
use Rattle.std.specs.Prelude.{map}
use Rattle.c_types.specs.Table.{member_seen, tags, type_at, types}
use Rattle.c_meaning.specs.Filling.{first_only, moved_to}
use Rattle.c_types.specs.Members.{member_places}
use Rattle.c_initialisers.proofs.Told.{places_below, take_first, told_members}
use Rattle.c_initialisers.proofs.parts.initialised.Goals as goal

pub returns-then-is_union-clause-members : goal.returns-then-is_union-clause-members
returns-then-is_union-clause-members c = λ offset.
    let t = c.args.types.now in
    let of = type_at t c.args.id in
    ap (map (moved_to offset)) (take_first (member_seen (types t)) c.named_members-members.result.now c.min.result c.min.ensures ∙ ap (first_only true) c.named_members-members.ensures.seen ∙ ap (λ b. first_only b (member_places (tags t) of)) (sym c.if-is_union.true ∙ c.is_union.ensures))
    ∙ told_members (tags t) of offset c.kind_is_told.ensures

pub returns-else-is_union-clause-members : goal.returns-else-is_union-clause-members
returns-else-is_union-clause-members c = λ offset.
    let t = c.args.types.now in
    let of = type_at t c.args.id in
    ap (map (moved_to offset)) (c.named_members-members.ensures.seen ∙ ap (λ b. first_only b (member_places (tags t) of)) (sym c.if-is_union.false ∙ c.is_union.ensures))
    ∙ told_members (tags t) of offset c.kind_is_told.ensures

pub returns-else-is_union-clause-within : goal.returns-else-is_union-clause-within
returns-else-is_union-clause-within c = places_below (length c.args.types.now.forms) c.named_members-members.result.now c.named_members-members.ensures.within
