use Rattle.std.proofs.Common.{sym, ap, ◌∙◌, arith}
use Rattle.c_types.specs.Table.{type_at, types}
use Rattle.c_meaning.specs.State.{Known}
use Rattle.c_check_expr.proofs.lemmas.KnownSymbols.{known_nowhere, known_there, symbol_in}
use Rattle.c_check_expr.proofs.tags.symbol_type.Goals as goal

pub returns-then-id-count-clause-means : goal.returns-then-id-count-clause-means
returns-then-id-count-clause-means c =
    sym (ap (λ (k : Known). k.of) (known_there (types c.args.types.now) c.args.scopes.now.symbols c.args.id c.symbol.result.now c.symbol.ensures))

pub returns-then-id-count-clause-within : goal.returns-then-id-count-clause-within
returns-then-id-count-clause-within c = symbol_in _ c.args.scopes.now.symbols c.args.id c.symbol.result.now c.requires c.symbol.ensures

pub returns-else-id-count-clause-means : goal.returns-else-id-count-clause-means
returns-else-id-count-clause-means c =
    let t = c.args.types.now in
    let ys = c.args.scopes.now.symbols in
    ap (type_at t) c.basic_type.ensures.is ∙ c.basic_type.ensures.means ∙ sym (ap (λ (k : Known). k.of) (known_nowhere (types t) ys c.args.id (omega arith)))
