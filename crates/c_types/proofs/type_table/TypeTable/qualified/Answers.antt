use Rattle.std.proofs.Common.{sym, ap, ◌∙◌}
use Rattle.c_types.specs.CType.{qualify}
use Rattle.c_types.specs.Table.{type_at}
use Rattle.c_types.proofs.lemmas.Qualifying.{qualify_none}
use Rattle.c_types.proofs.Limits.{qualified_accepted, within_at}
use Rattle.c_types.proofs.type_table.TypeTable.qualified.Goals as goal

pub returns-then-number-eq0-clause-means : goal.returns-then-number-eq0-clause-means
returns-then-number-eq0-clause-means c =
    let s = type_at c.args.self.now c.args.of in
    sym (ap (λ q. qualify q s) (sym c.number.ensures ∙ c.if-number-eq0.true) ∙ qualify_none s)

pub form_place-requires-clause-accepted : goal.form_place-requires-clause-accepted
form_place-requires-clause-accepted c =
    let i = c.self.inside in
    let t = c.args.self.now in
    qualified_accepted t c.args.of c.args.qualifiers (within_at i.basic i.formed.entries i.definitions.entries c.self.invariant t c.self.view_is c.args.of c.requires)
