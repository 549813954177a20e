use Rattle.std.proofs.Common.{ap, ◌∙◌}
use Rattle.c_types.specs.CType.{qualify}
use Rattle.c_types.specs.Compatible.{compatible}
use Rattle.c_types.specs.Table.{type_at}
use Rattle.c_types.proofs.lemmas.Qualifying.{qualify_none}
use Rattle.c_types.proofs.type_table.TypeTable.compatible.Goals as goal

pub returns : goal.returns
returns c =
    let s = type_at c.args.self.now c.args.a in
    let u = type_at c.args.self.now c.args.b in
    c.are_compatible.ensures.is ∙ ap (λ q. compatible (qualify q s) (qualify c.none-2.result.0 u)) c.none.ensures ∙ ap (λ q. compatible (qualify 0 s) (qualify q u)) c.none-2.ensures
    ∙ ap (λ z. compatible z (qualify 0 u)) (qualify_none s) ∙ ap (compatible s) (qualify_none u)
