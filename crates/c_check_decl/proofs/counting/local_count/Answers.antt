use Rattle.std.proofs.Common.{sym, ◌∙◌}
use Rattle.c_check_decl.proofs.ReplacedSymbols.{count_nowhere, count_there}
use Rattle.c_check_decl.proofs.counting.local_count.Goals as goal

pub returns-in-Some : goal.returns-in-Some
returns-in-Some c = λ t. c.magnitude.ensures ∙ sym (count_there c.args.scopes.now t c.in-Some.id c.symbol.result.now (sym c.find.ensures.means ∙ c.in-Some.is) c.symbol.ensures)

pub returns-in-None : goal.returns-in-None
returns-in-None c = λ t. sym (count_nowhere c.args.scopes.now t (sym c.find.ensures.means ∙ c.in-None.is))
