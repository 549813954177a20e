use Rattle.std.proofs.Common.{◌<◌, false, length, ap, ◌∙◌, arith}
use Rattle.std.proofs.lemmas.List.{get_or_default}
use Rattle.c_types.specs.Table.{types}
use Rattle.c_units.specs.Ends.{is_link}
use Rattle.c_unit_ends.proofs.AtPlaces.{symbol_in}
use Rattle.c_unit_ends.proofs.CalledNames.{called_more}
use Rattle.c_unit_ends.proofs.called.called.Goals as goal

pub with_symbol-least-requires : goal.with_symbol-least-requires
with_symbol-least-requires c = symbol_in (length c.args.types.now.forms) c.args.scopes.now.symbols c.loop-id.id c.symbol.result.now c.requires.symbols c.symbol.ensures

pub loop-id-preserved : goal.loop-id-preserved
loop-id-preserved c =
    let id = c.loop-id.id in
    let marks = c.in_ok-linked.linked.items in
    let below : id < c.count.result = omega (arith, c.loop-id-test.true, c.count.ensures, c.count-id-end.ensures) in
    let within : id < length marks = omega (arith, below, c.in_ok-linked.ensures.many) in
    called_more c.args.standings.now c.args.scopes.now.links (types c.args.types.now) c.args.scopes.now.symbols id c.symbol.result.now c.index.result.now c.loop-id.least c.with_symbol-least.result c.symbol.ensures
    (c.index.ensures ∙ get_or_default marks id c.index.result.now false within ∙ c.in_ok-linked.ensures.marks id ∙ ap (λ ns. is_link ns id) c.links.ensures)
    c.with_symbol-least.ensures
    ∙ c.loop-id.invariant
