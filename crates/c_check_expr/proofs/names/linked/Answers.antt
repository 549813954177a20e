use Rattle.std.proofs.Common.{length, refl, ◌∙◌, sym, ap}
use Rattle.c_types.specs.Compatible.{compatible}
use Rattle.c_types.specs.Table.{type_at, types}
use Rattle.c_check_expr.specs.Known.{known_of, state_of}
use Rattle.c_check_expr.specs.KnownLaws.{symbols_in-append}
use Rattle.c_check_expr.proofs.lemmas.KnownSymbols.{known_there, length-all_known, state-link, symbol_in}
use Rattle.c_check_expr.proofs.LinkedNames.{differs_by}
use Rattle.c_check_expr.proofs.names.linked.Goals as goal

pub compatible-requires-clause-a : goal.compatible-requires-clause-a
compatible-requires-clause-a c = symbol_in (length c.args.types.now.forms) c.args.scopes.now.symbols _ c.symbol.result.now c.requires.symbols c.symbol.ensures

pub returns-then-compatible-clause-fits : goal.returns-then-compatible-clause-fits
returns-then-compatible-clause-fits c =
    let t = c.args.types.now in
    let y = c.symbol.result.now in
    differs_by (state_of c.args.scopes.now t) _ c.in-Some.id (known_of (types t) y) _ (sym c.linked.ensures.means ∙ c.in-Some.is)
    (known_there (types t) c.args.scopes.now.symbols c.in-Some.id y c.symbol.ensures)
    (ap (compatible (type_at t y.of)) (sym c.requires.function) ∙ sym c.compatible.ensures ∙ c.if-compatible.true)

pub returns-else-compatible-clause-err : goal.returns-else-compatible-clause-err
returns-else-compatible-clause-err c =
    let t = c.args.types.now in
    let y = c.symbol.result.now in (
      refl,
      (
        refl,
        differs_by (state_of c.args.scopes.now t) _ c.in-Some.id (known_of (types t) y) _ (sym c.linked.ensures.means ∙ c.in-Some.is)
            (known_there (types t) c.args.scopes.now.symbols c.in-Some.id y c.symbol.ensures)
            (ap (compatible (type_at t y.of)) (sym c.requires.function) ∙ sym c.compatible.ensures ∙ c.if-compatible.false),
      ),
    )

pub returns-in-Ok-clause-id : goal.returns-in-Ok-clause-id
returns-in-Ok-clause-id c =
    rw (sym c.linked.ensures.means ∙ c.in-None.is, length-all_known (types c.args.types.now) c.args.scopes.now.symbols) c.in-Ok.ensures.id

pub returns-in-Ok-clause-state : goal.returns-in-Ok-clause-state
returns-in-Ok-clause-state c =
    let e = c.in-Ok.ensures in
    rw (sym c.linked.ensures.means ∙ c.in-None.is, ← c.requires.function)
    (state-link c.args.scopes.now c.link.new.self c.args.types.now c.args.name.now c.in-Ok.id _ e.outer e.inner e.links e.id e.symbols)

pub returns-in-Ok-clause-symbols : goal.returns-in-Ok-clause-symbols
returns-in-Ok-clause-symbols c =
    rw (c.in-Ok.ensures.symbols) (symbols_in-append (length c.args.types.now.forms) c.args.scopes.now.symbols _ c.requires.symbols c.requires.within)
