use Rattle.std.proofs.Common.{sym, ap}
use Rattle.c_types.specs.Table.{types}
use Rattle.c_meaning.specs.State.{Known}
use Rattle.c_check_expr.proofs.lemmas.KnownSymbols.{known_there}
use Rattle.c_check_decl.proofs.whole.first_line.Goals as goal

pub returns-in-Some : goal.returns-in-Some
returns-in-Some c = λ t. rw (c.in-Some.is) (sym (ap (λ (k : Known). k.line) (known_there (types t) c.args.scopes.now.symbols c.in-Some.id c.symbol.result.now c.symbol.ensures)))
