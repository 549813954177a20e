use Rattle.std.proofs.Common.{sym, ap, ◌∙◌, arith}
use Rattle.c_types.specs.Table.{types}
use Rattle.c_meaning.specs.Linkage.{class_linkage as linkage_of_class}
use Rattle.c_meaning.specs.State.{Known}
use Rattle.c_check_expr.proofs.lemmas.KnownSymbols.{known_nowhere, known_there}
use Rattle.c_check_decl.proofs.name_faults.linkage_of.Goals as goal

pub returns-then-id-count : goal.returns-then-id-count
returns-then-id-count c t =
    let k = known_there (types t) c.args.scopes.now.symbols c.args.id c.symbol.result.now c.symbol.ensures in
    c.class_linkage.ensures ∙ sym (ap (λ (k : Known). linkage_of_class k.class) k)

pub returns-else-id-count : goal.returns-else-id-count
returns-else-id-count c t = sym (ap (λ (k : Known). linkage_of_class k.class) (known_nowhere (types t) c.args.scopes.now.symbols c.args.id (omega arith)))
