use Rattle.asm_lines.proofs.WordTables.{no_mnemonic}
use Rattle.asm_lines.proofs.mnemonic.mnemonic_at.Goals as goal

pub returns-clause-none : goal.returns-clause-none
returns-clause-none c = no_mnemonic c.loop-mnemonic.mnemonic-index c.args.word.now c.loop-mnemonic-test.false c.loop-mnemonic.invariant
