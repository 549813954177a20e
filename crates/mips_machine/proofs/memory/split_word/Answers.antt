use Rattle.mips_machine.proofs.Words.{word_bytes-number}
use Rattle.mips_machine.proofs.memory.split_word.Goals as goal

pub returns-clause-is : goal.returns-clause-is
returns-clause-is c =
    word_bytes-number c.args.order c.split.result c.args.n c.split.ensures.four c.split.ensures.bytes c.split.ensures.number
