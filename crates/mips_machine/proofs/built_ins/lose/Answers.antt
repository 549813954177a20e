use Rattle.std.proofs.Common.{◌∙◌, ◌<◌, length, arith}
use Rattle.mips_machine.specs.StepTable.{lost}
use Rattle.mips_machine.proofs.Lost.{without-drop}
use Rattle.mips_machine.proofs.built_ins.lose.Goals as goal

pub loop-r-preserved : goal.loop-r-preserved
loop-r-preserved c =
    let h : c.loop-r.r-index < length lost = omega arith in
    without-drop lost c.loop-r.r-index c.loop-r.registers h ∙ c.loop-r.invariant
