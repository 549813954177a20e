use Rattle.c_check_decl.proofs.ReplacedSymbols.{keeps_replaced, retyped_symbol, retyped_there}
use Rattle.c_check_decl.proofs.defining.retype.Goals as goal

pub returns-clause-state : goal.returns-clause-state
returns-clause-state c =
    let r = c.replace.ensures in
    retyped_there c.args.scopes.now c.replace.new.self c.args.types.now c.args.id c.in-Some.id c.args.of c.symbol-symbol.result.now c.in-Some.is c.symbol-symbol.ensures
    (record { outer = r.outer; inner = r.inner; links = r.links; symbols = r.symbols })

pub returns-clause-keeps : goal.returns-clause-keeps
returns-clause-keeps c =
    let r = c.replace.ensures in
    keeps_replaced c.args.scopes.now c.replace.new.self c.args.types.now c.in-Some.id (retyped_symbol c.symbol-symbol.result.now c.args.of) (record { outer = r.outer; inner = r.inner; links = r.links; symbols = r.symbols })
    c.requires.symbols c.requires.of
