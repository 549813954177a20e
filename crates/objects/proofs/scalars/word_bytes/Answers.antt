use Rattle.objects.proofs.lemmas.NumberLaws.{split_is}
use Rattle.objects.proofs.scalars.word_bytes.Goals as goal

pub returns-clause-is : goal.returns-clause-is
returns-clause-is c = split_is c.args.order c.args.n c.split.result c.split.ensures.number c.split.ensures.four c.split.ensures.bytes
