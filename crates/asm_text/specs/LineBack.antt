-- Labels, statements and lines that are read back from what is printed of them.
use Rattle.std.specs.Prelude.{◌≡◌, ℕ, List, ◌++◌, All}
use Rattle.asm_lines.specs.Tokens.{Spaced, IsName}
use Rattle.asm_lines.specs.Printable.{IsPrintable}
use Rattle.asm_lines.specs.Printed.{printed_label, printed_statement}
use Rattle.asm_lines.specs.ReadBack.{ReadsBack}
use Rattle.asm_lines.specs.Statements.{MStatement, IsStatement, IsLabelled}
use Rattle.asm_text.specs.Lines.{MLine, AreTokens}
use Rattle.asm_text.specs.Printed.{line_text}

-- behind the label, a line that is read back as some tokens is read back as the label and those tokens
abbrev pub IsLabelBack : List ℕ → Type 0
IsLabelBack name = IsName name → (text : List ℕ) (tokens : List Spaced) → ReadsBack text (λ ts. ts ≡ tokens) → ReadsBack (printed_label name ++ text) (λ ts. IsLabelled ts name tokens)

abbrev pub IsStatementBack : MStatement → Type 0
IsStatementBack s = IsPrintable s → ReadsBack (printed_statement s) (λ ts. IsStatement ts s)

-- the text of the line is one line, whose tokens are the line's
abbrev pub IsLineBack : MLine → Type 0
IsLineBack line = All IsName line.labels → IsPrintable line.statement → ReadsBack (line_text line) (λ ts. AreTokens ts line)
