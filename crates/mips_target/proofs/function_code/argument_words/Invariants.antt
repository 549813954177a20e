use Rattle.mips_target.specs.FunctionCode.{argument_words}
use Rattle.mips_target.proofs.Arguments.{IsCounted}
use Rattle.mips_target.proofs.function_code.argument_words.Given as goal

-- the most so far, and the most of the instructions that are left
abbrev pub invariant-loop-instr : goal.invariant-loop-instr
invariant-loop-instr l = IsCounted l.code l.instr-index l.handed l.most (argument_words l.code)
