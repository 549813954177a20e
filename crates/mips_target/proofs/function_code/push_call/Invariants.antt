use Rattle.std.proofs.Common.{◌≡◌, ◌+◌, ◌++◌, length}
use Rattle.mips_target.specs.FunctionCode.{unmarked, loads_of}
use Rattle.unit_text.specs.UnitLines.{numbered, label_text, code_lines}
use Rattle.mips_target.proofs.function_code.push_call.Given as goal

-- the argument words so far are loaded
abbrev pub invariant-loop-word : goal.invariant-loop-word
invariant-loop-word l = l.lines ≡ l.fn.lines ++ numbered (length l.fn.lines + 1) (code_lines label_text (unmarked (loads_of l.word)))
