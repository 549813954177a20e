use Rattle.std.proofs.Common.{◌∙◌, SFits, w32, rules, sym, ap}
use Rattle.std.specs.Prelude.{ℤ}
use Rattle.std.proofs.Math.Facts.{to_z-of_z}
use Rattle.asm_text.specs.Runs.{MStep, Ends}
use Rattle.mips_machine.specs.State.{Cpu}
use Rattle.simrun_tool.proofs.Stepping.{quiet_step, quiet_fails, went, same_quiet}
use Rattle.simrun_tool.proofs.mips.MipsTurning.turn.Goals as goal

pub unreachable-requires : goal.unreachable-requires
unreachable-requires c = quiet_fails c.args.self.now.machine c.turn.new.self c.args.input.now c.turn.new.input _ c.in-Quiet-Failed.field-0-is c.in-Quiet-Failed.ensures

pub returns-in-Quiet-Went-clause-turned : goal.returns-in-Quiet-Went-clause-turned
returns-in-Quiet-Went-clause-turned c = went c.args.self.now.machine c.turn.new.self c.args.input.now c.turn.new.input _ c.in-Quiet-Went.field-0-is c.in-Quiet-Went.ensures

pub returns-in-Quiet-Ended-clause-turned : goal.returns-in-Quiet-Ended-clause-turned
returns-in-Quiet-Ended-clause-turned c =
    let fits : SFits w32 c.in-Quiet-Ended.status = search rules in
    let ends : ℤ → MStep Cpu = λ z. Ends z in
    (quiet_step c.args.self.now.machine c.turn.new.self c.args.input.now c.turn.new.input _ _ c.in-Quiet-Ended.field-0-is c.in-Quiet-Ended.ensures).0 ∙ ap ends (sym (to_z-of_z fits))

pub returns-in-Quiet-Stuck-clause-turned : goal.returns-in-Quiet-Stuck-clause-turned
returns-in-Quiet-Stuck-clause-turned c = (quiet_step c.args.self.now.machine c.turn.new.self c.args.input.now c.turn.new.input _ _ c.in-Quiet-Stuck.field-0-is c.in-Quiet-Stuck.ensures).0

pub returns-in-Quiet-StackOut-clause-turned : goal.returns-in-Quiet-StackOut-clause-turned
returns-in-Quiet-StackOut-clause-turned c = (quiet_step c.args.self.now.machine c.turn.new.self c.args.input.now c.turn.new.input _ _ c.in-Quiet-StackOut.field-0-is c.in-Quiet-StackOut.ensures).0

pub returns-in-Quiet-Went-clause-same : goal.returns-in-Quiet-Went-clause-same
returns-in-Quiet-Went-clause-same c = same_quiet c.args.self.now.machine c.turn.new.self c.args.input.now c.turn.new.input _ c.in-Quiet-Went.ensures

pub returns-in-Quiet-Ended-clause-same : goal.returns-in-Quiet-Ended-clause-same
returns-in-Quiet-Ended-clause-same c = same_quiet c.args.self.now.machine c.turn.new.self c.args.input.now c.turn.new.input _ c.in-Quiet-Ended.ensures

pub returns-in-Quiet-Stuck-clause-same : goal.returns-in-Quiet-Stuck-clause-same
returns-in-Quiet-Stuck-clause-same c = same_quiet c.args.self.now.machine c.turn.new.self c.args.input.now c.turn.new.input _ c.in-Quiet-Stuck.ensures

pub returns-in-Quiet-StackOut-clause-same : goal.returns-in-Quiet-StackOut-clause-same
returns-in-Quiet-StackOut-clause-same c = same_quiet c.args.self.now.machine c.turn.new.self c.args.input.now c.turn.new.input _ c.in-Quiet-StackOut.ensures
