use Rattle.asm_lines.specs.declared.mnemonic.Mnemonic.TheVariants as mnemonic
use Rattle.asm_lines.specs.Words.{word_of}
use Rattle.asm_lines.proofs.WordTables.{mnemonics, NoneBefore}
use Rattle.asm_lines.proofs.mnemonic.mnemonic_at.Given as goal

abbrev pub invariant-loop-mnemonic : goal.invariant-loop-mnemonic
invariant-loop-mnemonic l = NoneBefore word_of mnemonics mnemonic.LoadAddress l.mnemonic-index l.word
