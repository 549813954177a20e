use Rattle.asm_lines.specs.declared.mnemonic.DirectiveWord.TheVariants as directive
use Rattle.asm_lines.specs.Words.{directive_text}
use Rattle.asm_lines.proofs.WordTables.{directives, NoneBefore}
use Rattle.asm_lines.proofs.mnemonic.directive_at.Given as goal

abbrev pub invariant-loop-directive : goal.invariant-loop-directive
invariant-loop-directive l = NoneBefore directive_text directives directive.Text l.directive-index l.word
