use Rattle.std.proofs.Common.{sym, subst}
use Rattle.op_forest.specs.declared.sym.Sym.{Sym}
use Rattle.op_forest.specs.Lowered.{IsKnown}
use Rattle.whole_lowered.proofs.symbols.has_known_symbol.Goals as goal

pub returns-in-Label : goal.returns-in-Label
returns-in-Label c = λ t u roots many are. subst (λ (x : Sym). IsKnown u roots x) (sym c.in-Label.is) (are c.in-Label.label (c.has.ensures t))
