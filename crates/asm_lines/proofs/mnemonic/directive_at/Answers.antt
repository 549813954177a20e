use Rattle.asm_lines.proofs.WordTables.{no_directive}
use Rattle.asm_lines.proofs.mnemonic.directive_at.Goals as goal

pub returns-clause-none : goal.returns-clause-none
returns-clause-none c = no_directive c.loop-directive.directive-index c.args.word.now c.loop-directive-test.false c.loop-directive.invariant
