-- What a known word stands for, and its text.
use Rattle.std.specs.Prelude.{ℕ, List}
use Rattle.asm_lines.specs.declared.statement_reader.Word.{Word}
use Rattle.asm_lines.specs.declared.statement_reader.Word.TheVariants as word
use Rattle.asm_lines.specs.Words.{word_of, directive_text}

abbrev pub text_of : Word → List ℕ
text_of (word.Instruction m) = word_of m
text_of (word.Directive d) = directive_text d
