use Rattle.std.proofs.Common.{length, ◌∙◌, sym}
use Rattle.c_types.specs.Table.{types}
use Rattle.c_check_expr.specs.Known.{known_of, state_of}
use Rattle.c_check_expr.proofs.lemmas.KnownSymbols.{known_there, symbol_in}
use Rattle.c_check_expr.proofs.NameNodes.{name_broken, name_fine}
use Rattle.c_check_expr.proofs.names.name.Goals as goal

pub returns-in_default-clause-err : goal.returns-in_default-clause-err
returns-in_default-clause-err c = name_broken (state_of c.args.scopes.now c.args.types.now) c.args.line c.args.name.now (sym c.in_default.is ∙ c.find.ensures.means)

pub returns-in-Some-meaning-clause-ok : goal.returns-in-Some-meaning-clause-ok
returns-in-Some-meaning-clause-ok c =
    let t = c.args.types.now in
    let ys = c.args.scopes.now.symbols in
    let y = c.symbol-symbol.result.now in
    let id = c.in-Some.id in
    rw (c.leaf.ensures, c.in-Some-meaning.ensures)
    (name_fine (state_of c.args.scopes.now t) c.args.line c.args.name.now id (known_of (types t) y) (sym c.in-Some.is ∙ c.find.ensures.means)
    (known_there (types t) ys id y c.symbol-symbol.ensures)
    (c.types_are_within_limits.ensures y.of (symbol_in (length t.forms) ys id y c.requires c.symbol-symbol.ensures)))

pub returns-in-Some-meaning-clause-within : goal.returns-in-Some-meaning-clause-within
returns-in-Some-meaning-clause-within c =
    rw (c.leaf.ensures) (symbol_in (length c.args.types.now.forms) c.args.scopes.now.symbols c.in-Some.id c.symbol-symbol.result.now c.requires c.symbol-symbol.ensures, tt)
