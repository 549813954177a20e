use Rattle.std.proofs.Common.{drop}
use Rattle.c_meaning.specs.Each.{EachIs}
use Rattle.c_meaning.specs.Numbers.{IsText}
use Rattle.c_wholes.proofs.numbers.read_texts.Given as goal

abbrev pub invariant-loop-t : goal.invariant-loop-t
invariant-loop-t l = EachIs IsText (drop l.t-index l.texts) → EachIs IsText l.texts
