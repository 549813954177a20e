-- The rule set of MIPS: the lines of its table.
-- Source: Fraser and Hanson, A Retargetable C Compiler, chapters 13, 14 and 16.
use Rattle.std.specs.Prelude.{ℕ}
use Rattle.vcode.specs.RuleSets.{Rules}
use Rattle.frame_code.specs.declared.instr.Instr.{Instr}
use Rattle.frame_rules.specs.declared.action.Action.{Action}
use Rattle.frame_rules.specs.declared.part.Part.{Part}
use Rattle.frame_rules.specs.FrameRules.{action_of, frame_rules}
use Rattle.mips_rules.specs.MipsRows.{lines}

-- the action of the rule with this number, from 1
abbrev pub action_at : ℕ → Action
action_at number = action_of lines number

abbrev pub mips_rules : Rules Instr Part
mips_rules = frame_rules lines
