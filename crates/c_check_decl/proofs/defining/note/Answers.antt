use Rattle.std.proofs.Common.{length}
use Rattle.c_check_expr.proofs.lemmas.KnownSymbols.{symbol_in}
use Rattle.c_check_decl.proofs.ReplacedSymbols.{keeps_replaced, noted_there, revalued_symbol}
use Rattle.c_check_decl.proofs.defining.note.Goals as goal

pub returns-clause-state : goal.returns-clause-state
returns-clause-state c =
    let r = c.replace.ensures in
    noted_there c.args.scopes.now c.replace.new.self c.args.types.now c.args.id c.in-Some.id c.args.initialised c.symbol-symbol.result.now c.definition.result c.in-Some.is c.symbol-symbol.ensures c.definition.ensures
    (record { outer = r.outer; inner = r.inner; links = r.links; symbols = r.symbols })

pub returns-clause-keeps : goal.returns-clause-keeps
returns-clause-keeps c =
    let r = c.replace.ensures in
    let y = c.symbol-symbol.result.now in
    keeps_replaced c.args.scopes.now c.replace.new.self c.args.types.now c.in-Some.id (revalued_symbol y c.definition.result) (record { outer = r.outer; inner = r.inner; links = r.links; symbols = r.symbols })
    c.requires (symbol_in (length c.args.types.now.forms) c.args.scopes.now.symbols c.in-Some.id y c.requires c.symbol-symbol.ensures)
