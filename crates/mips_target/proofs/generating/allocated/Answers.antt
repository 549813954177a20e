use Rattle.mips_target.proofs.Emission.{code_names_kept}
use Rattle.mips_target.proofs.Selection.{allocated}
use Rattle.mips_target.proofs.generating.allocated.Goals as goal

pub give_slots-requires-clause-names : goal.give_slots-requires-clause-names
give_slots-requires-clause-names c = let s = c.in_ok-code.ensures in code_names_kept c.args.forest.roots s.derivations c.in_ok-code.code s.linearised

pub returns : goal.returns
returns c = allocated c.args.forest.roots c.in_ok-code.code c.give_slots.result c.in_ok-code.ensures c.give_slots.ensures.code c.give_slots.ensures.slots c.give_slots.ensures.fits c.give_slots.ensures.form c.give_slots.ensures.agrees
