use Rattle.std.proofs.Common.{◌≡◌, ◌≤◌, ◌+◌, ◌++◌, length, drop}
use Rattle.mips_target.specs.FunctionCode.{body_of, function_code}
use Rattle.mips_target.specs.Sizes.{Fits}
use Rattle.unit_text.specs.UnitLines.{numbered, label_text, code_lines}
use Rattle.mips_target.proofs.function_code.push_function_code.Given as goal

-- what was pushed, and the lines of what the instructions that are left become
abbrev pub invariant-loop-instr : goal.invariant-loop-instr
invariant-loop-instr l = record {
  pushed : l.lines ++ numbered (length l.lines + 1) (code_lines label_text (body_of l.names l.layout l.handed (drop l.instr-index l.code))) ≡ l.fn.lines ++ numbered (length l.fn.lines + 1) (code_lines label_text (function_code l.names l.layout l.code));
  fits : Fits l.names l.layout l.handed (drop l.instr-index l.code);
  few : l.handed ≤ l.instr-index;
}
