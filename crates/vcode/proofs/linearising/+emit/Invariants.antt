use Rattle.std.proofs.Common.{◌-◌, take, map}
use Rattle.std.specs.Prelude.{slice_get}
use Rattle.lburg_model.specs.declared.derivation.Derivation.{out-Derivation}
use Rattle.lburg_model.specs.Derivation.{count}
use Rattle.lburg_model.specs.DerivationOf.{derivation_of}
use Rattle.vcode.proofs.Emitting.{AddedAll, rule_meetings}
use Rattle.vcode.proofs.linearising.+emit.Given as goal

abbrev pub invariant-loop-k : goal.invariant-loop-k
invariant-loop-k g l =
    AddedAll g.R.RuleSet.rules (take l.k (map derivation_of l.part-items)) (take l.k (rule_meetings (slice_get l.emitter.rows.now ((out-Derivation l.derivation).rule - 1)) l.tree)) l.initial.next l.next l.initial.into l.into l.parts

abbrev pub decreases-emit : goal.decreases-emit
decreases-emit g l = count (derivation_of l.derivation.now)
