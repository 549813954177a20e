use Rattle.std.proofs.Common.{length}
use Rattle.c_check_expr.specs.Kept.{keeps_grown}
use Rattle.c_check_expr.proofs.lemmas.KnownSymbols.{symbol_in}
use Rattle.c_check_decl.proofs.ReplacedSymbols.{composed_there, keeps_composed, retyped_symbol}
use Rattle.c_check_decl.proofs.linked.compose.Goals as goal

pub compatible-requires-clause-a : goal.compatible-requires-clause-a
compatible-requires-clause-a c = symbol_in (length c.args.types.now.forms) c.args.scopes.now.symbols c.args.id c.symbol-symbol.result.now c.requires.symbols c.symbol-symbol.ensures

pub composite-requires-clause-a : goal.composite-requires-clause-a
composite-requires-clause-a c = symbol_in (length c.args.types.now.forms) c.args.scopes.now.symbols c.args.id c.symbol-symbol.result.now c.requires.symbols c.symbol-symbol.ensures

pub returns-in_err-whole-clause-keeps : goal.returns-in_err-whole-clause-keeps
returns-in_err-whole-clause-keeps c = keeps_grown c.args.scopes.now c.args.types.now c.composite.new.self c.requires.symbols c.composite.ensures.grows

pub returns-clause-state : goal.returns-clause-state
returns-clause-state c =
    let r = c.replace.ensures in
    composed_there c.args.scopes.now c.replace.new.self c.args.types.now c.composite.new.self c.args.id c.args.of c.in_ok-whole.whole c.symbol-symbol.result.now c.symbol-symbol.ensures c.requires.symbols c.composite.ensures.grows c.in_ok-whole.ensures.means
    (record { outer = r.outer; inner = r.inner; links = r.links; symbols = r.symbols })

pub returns-clause-keeps : goal.returns-clause-keeps
returns-clause-keeps c =
    let r = c.replace.ensures in
    keeps_composed c.args.scopes.now c.replace.new.self c.args.types.now c.composite.new.self c.args.id (retyped_symbol c.symbol-symbol.result.now c.in_ok-whole.whole) c.requires.symbols c.composite.ensures.grows
    (record { outer = r.outer; inner = r.inner; links = r.links; symbols = r.symbols }) c.in_ok-whole.ensures.within
