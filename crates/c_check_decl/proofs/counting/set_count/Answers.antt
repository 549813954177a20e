use Rattle.std.proofs.Common.{sym, ◌∙◌}
use Rattle.c_check_decl.proofs.ReplacedSymbols.{counted_there, keeps_replaced}
use Rattle.c_check_decl.proofs.counting.set_count.Goals as goal

pub returns-clause-state : goal.returns-clause-state
returns-clause-state c =
    let r = c.replace.ensures in
    counted_there c.args.scopes.now c.replace.new.self c.args.types.now c.args.n c.in-Some.id c.symbol.result.now _ (sym c.find.ensures.means ∙ c.in-Some.is) c.symbol.ensures c.in_ok-count_symbol-2.ensures.is
    (record { outer = r.outer; inner = r.inner; links = r.links; symbols = r.symbols })

pub returns-clause-keeps : goal.returns-clause-keeps
returns-clause-keeps c =
    let r = c.replace.ensures in
    keeps_replaced c.args.scopes.now c.replace.new.self c.args.types.now c.in-Some.id _ (record { outer = r.outer; inner = r.inner; links = r.links; symbols = r.symbols }) c.requires c.in_ok-count_symbol-2.ensures.within
