-- Lines that can be written: their labels and names are names, their lists of items aren't empty, none is aligned to more
-- than 2^4 bytes, and they are numbered from 1 on.
use Rattle.std.specs.Prelude.{◌≡◌, ℕ, ◌+◌, List, [], ◌∷◌, All}
use Rattle.asm_lines.specs.Printable.{IsPrintable}
use Rattle.asm_lines.specs.Tokens.{IsName}
use Rattle.asm_text.specs.Lines.{MLine}

-- the same of lines that are numbered from this number on
abbrev pub PrintableFrom : ℕ → List MLine → Type 0
PrintableFrom number [] = Unit {0}
PrintableFrom number (line ∷ lines) = All IsName line.labels × IsPrintable line.statement × (line.number ≡ number) × PrintableFrom (number + 1) lines

abbrev pub ArePrintable : List MLine → Type 0
ArePrintable lines = PrintableFrom 1 lines
