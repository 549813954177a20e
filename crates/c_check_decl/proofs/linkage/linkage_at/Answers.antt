use Rattle.std.proofs.Common.{refl, arith}
use Rattle.c_types.specs.Table.{types}
use Rattle.c_check_expr.proofs.lemmas.KnownSymbols.{known_nowhere, known_there}
use Rattle.c_check_decl.proofs.linkage.linkage_at.Goals as goal

pub returns-in-Some-value : goal.returns-in-Some-value
returns-in-Some-value c t =
    let k = known_there (types t) c.args.scopes.now.symbols c.in-Some.id c.symbol-symbol.result.now c.symbol-symbol.ensures in
    rw (c.in-Some.is, k, c.in-Some-value.is) c.class_linkage.ensures

pub returns-in-None : goal.returns-in-None
returns-in-None c t =
    let k = known_there (types t) c.args.scopes.now.symbols c.in-Some.id c.symbol-symbol.result.now c.symbol-symbol.ensures in
    rw (c.in-Some.is, k, c.in-None.is) refl

pub returns-in_default : goal.returns-in_default
returns-in_default c t =
    let k = known_nowhere (types t) c.args.scopes.now.symbols c.in-Some.id (omega arith) in
    rw (c.in-Some.is, k) refl
