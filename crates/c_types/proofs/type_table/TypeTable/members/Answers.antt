use Rattle.std.proofs.Common.{◌≡◌, [], sym, ap, subst, ◌∙◌}
use Rattle.std.specs.Option.{option_map}
use Rattle.c_types.specs.declared.definition.Definition.{Definition}
use Rattle.c_types.specs.Table.{Table, list_or_none, members_at}
use Rattle.c_types.proofs.Defined.{members_found}
use Rattle.c_types.proofs.type_table.TypeTable.members.Goals as goal

pub returns-in-Some : goal.returns-in-Some
returns-in-Some c =
    let d = c.in-Some.definition.now in
    c.as_slice.ensures ∙ subst (λ (t : Table). d.members ≡ list_or_none (members_at t c.args.id)) c.self.view_is
    (sym (ap list_or_none (members_found c.self.inside.definitions.entries c.args.id ∙ ap (option_map (λ (e : Definition). e.members)) (sym c.in-Some.ensures.value))))

pub returns-in-None : goal.returns-in-None
returns-in-None c =
    subst (λ (t : Table). [] ≡ list_or_none (members_at t c.args.id)) c.self.view_is
    (sym (ap list_or_none (members_found c.self.inside.definitions.entries c.args.id ∙ ap (option_map (λ (e : Definition). e.members)) (sym c.in-None.ensures.value))))
