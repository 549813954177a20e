use Rattle.std.proofs.Common.{map, take}
use Rattle.lburg_model.specs.DerivationOf.{derivation_of}
use Rattle.vcode.proofs.Forests.{Gathered}
use Rattle.vcode.proofs.linearising.linearise_roots.Given as goal

abbrev pub invariant-loop-k : goal.invariant-loop-k
invariant-loop-k g l = Gathered g.T.Target.machine g.R.RuleSet.rules g.met.R.RuleSet.obeys (take l.k (map derivation_of l.cover)) (take l.k l.roots) l.next l.code l.cuts
