use Rattle.std.proofs.Common.{ap, not, sym, ◌∙◌}
use Rattle.c_types.specs.Table.{types}
use Rattle.c_check_expr.proofs.lemmas.KnownSymbols.{known_there}
use Rattle.c_check_function.proofs.listed_names.is_other.Goals as goal

pub returns-in-Some : goal.returns-in-Some
returns-in-Some c t =
    let k = known_there (types t) c.args.scopes.now.symbols c.in-Some.id c.symbol.result.now c.symbol.ensures in
    rw (sym c.find_here.ensures.means ∙ c.in-Some.is, k) (ap not c.is_object_class.ensures)
