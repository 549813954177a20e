-- A text is one program's at most.
use Rattle.std.proofs.Common.{◌≡◌, List, ℕ, sym, ap, ◌∙◌}
use Rattle.lcc_text.specs.Lines.{lines_of}
use Rattle.asm_text.specs.Lines.{MLine}
use Rattle.asm_text.specs.Made.{made_of}
use Rattle.asm_text.specs.Makes.{program_of}
use Rattle.asm_text.specs.Program.{MProgram}
use Rattle.asm_text.specs.AssemblyText.{IsText}
use Rattle.asm_text.proofs.LineLaws.{LineLaws, lines_once}

pub program_once : LineLaws → (text : List ℕ) (p q : MProgram) → IsText text p → IsText text q → p ≡ q
program_once laws text p q a b =
    let e = lines_once laws (lines_of text) 1 a.lines b.lines a.spelled b.spelled in
    a.made.program ∙ (ap (λ (ls : List MLine). program_of (made_of ls)) e ∙ sym b.made.program)
