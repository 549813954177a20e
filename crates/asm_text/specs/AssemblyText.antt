-- Assembly text: the bytes whose lines make a program. What is read has a program within the limits, too.
use Rattle.std.specs.Prelude.{ℕ, List}
use Rattle.lcc_text.specs.Lines.{lines_of}
use Rattle.asm_text.specs.Lines.{MLine, AreLines}
use Rattle.asm_text.specs.Makes.{Makes, IsWithinLimits}
use Rattle.asm_text.specs.Program.{MProgram}

-- the bytes are a text of the program, also where that is beyond the limits
pub record IsText (bytes : List ℕ) (p : MProgram) : Type 0 where
  pub lines : List MLine
  pub spelled : AreLines (lines_of bytes) 1 lines
  pub made : Makes lines p

-- the same, of a program within the limits: what is read
pub record IsAssembly (bytes : List ℕ) (p : MProgram) : Type 0 where
  pub text : IsText bytes p
  pub limits : IsWithinLimits p
