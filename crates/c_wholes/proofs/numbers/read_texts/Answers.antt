use Rattle.std.proofs.Common.{subst, sym}
use Rattle.std.proofs.lemmas.List.{drop_all}
use Rattle.c_meaning.specs.Each.{EachIs}
use Rattle.c_meaning.specs.Numbers.{IsText}
use Rattle.c_wholes.proofs.NumberTrees.{onward}
use Rattle.c_wholes.proofs.numbers.read_texts.Goals as goal

pub loop-t-init : goal.loop-t-init
loop-t-init c = λ h. h

pub loop-t-preserved : goal.loop-t-preserved
loop-t-preserved c = λ h. c.loop-t.invariant (onward c.args.texts.now c.loop-t.t-index c.t-item.result c.loop-t-test.true c.t-item.is (EachIs IsText) (subst IsText c.as_slice.ensures c.read_text.ensures, h))

pub returns : goal.returns
returns c = c.loop-t.invariant (subst (EachIs IsText) (sym (drop_all c.loop-t.t-index c.args.texts.now c.loop-t-test.false)) tt)
