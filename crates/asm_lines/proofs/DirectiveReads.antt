-- No row of `.align` or `.space` where no number is all there is.
use Rattle.std.proofs.Common.{◌≡◌, ℕ, Some, List}
use Rattle.asm_lines.specs.declared.mnemonic.DirectiveWord.TheVariants as directive
use Rattle.asm_lines.specs.declared.statement_reader.Word.TheVariants as known
use Rattle.asm_lines.specs.Tokens.{Spaced}
use Rattle.asm_lines.specs.Numbers.{CountStands}
use Rattle.asm_lines.specs.Words.{directive_text}
use Rattle.asm_lines.specs.Statements.{MStatement, Align, Space, IsRow}
use Rattle.asm_lines.proofs.OneStatement.{spoken, row_of}

pub no_align : (ts : List Spaced) → ((n : ℕ) → CountStands ts n → ⊥) → (s : MStatement) → IsRow (directive_text directive.Align) ts s → ⊥
no_align ts h s p = row s (row_of (known.Directive directive.Align) ts s p) p where
  row : (u : MStatement) → spoken u ≡ Some (known.Directive directive.Align) → IsRow (directive_text directive.Align) ts u → ⊥
  row (Align n) e q = h n q.1
  row u e q = cc

pub no_space : (ts : List Spaced) → ((n : ℕ) → CountStands ts n → ⊥) → (s : MStatement) → IsRow (directive_text directive.Space) ts s → ⊥
no_space ts h s p = row s (row_of (known.Directive directive.Space) ts s p) p where
  row : (u : MStatement) → spoken u ≡ Some (known.Directive directive.Space) → IsRow (directive_text directive.Space) ts u → ⊥
  row (Space n) e q = h n q.1
  row u e q = cc
