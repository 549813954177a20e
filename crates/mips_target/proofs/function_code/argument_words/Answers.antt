use Rattle.std.proofs.Common.{rules, ◌≡◌, max, arith, refl}
use Rattle.mips_target.proofs.Arguments.{counted, most_end}
use Rattle.mips_target.proofs.function_code.argument_words.Goals as goal

pub loop-instr-init : goal.loop-instr-init
loop-instr-init c = record { few = omega arith; least = omega arith; all_is = refl }

pub handed_behind-handed-requires : goal.handed_behind-handed-requires
handed_behind-handed-requires c = let a = c.loop-instr.invariant.few in let b = c.loop-instr-test.true in let r = c.requires in omega (arith, a, b, r)

pub loop-instr-preserved : goal.loop-instr-preserved
loop-instr-preserved c =
    let e : c.max-most.result ≡ max c.loop-instr.most c.handed_behind-handed.result = search rules in
    counted c.args.code.now c.loop-instr.instr-index c.loop-instr.handed c.loop-instr.most _ _ c.handed_behind-handed.result c.max-most.result c.loop-instr-test.true c.loop-instr.invariant c.handed_behind-handed.ensures e

pub returns : goal.returns
returns c =
    let i = c.loop-instr.invariant in
    most_end c.args.code.now c.loop-instr.instr-index c.loop-instr.handed c.loop-instr.most _ (search rules) i.least i.all_is
