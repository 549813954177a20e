use Rattle.std.proofs.Common.{◌≡◌, false, sym, ap, ◌∙◌, arith}
use Rattle.std.specs.Prelude.{is_some, nat_lt}
use Rattle.std.proofs.lemmas.Bool.Decides.{nat_tests}
use Rattle.c_types.specs.Table.{types}
use Rattle.c_meaning.specs.State.{Known}
use Rattle.c_check_expr.proofs.lemmas.KnownSymbols.{known_nowhere, known_there}
use Rattle.c_check_expr.proofs.tags.has_stood.Goals as goal

pub returns-then-id-count : goal.returns-then-id-count
returns-then-id-count c = λ t.
    c.is_some.ensures ∙ sym (ap (λ (k : Known). is_some k.value) (known_there (types t) c.args.scopes.now.symbols c.args.id c.symbol.result.now c.symbol.ensures))

pub returns-else-id-count : goal.returns-else-id-count
returns-else-id-count c = λ t.
    let ys = c.args.scopes.now.symbols in
    let n : nat_lt c.args.id c.count.result ≡ false = grind (arith, nat_tests) in
    n ∙ sym (ap (λ (k : Known). is_some k.value) (known_nowhere (types t) ys c.args.id (omega arith)))
