use Rattle.std.proofs.Common.{drop}
use Rattle.std.proofs.lemmas.List.{drop_all, get_or_default}
use Rattle.c_lower_expr.proofs.lemmas.Holding.{words_begin, words_go, words_go_on}
use Rattle.c_lower_expr.proofs.calls.pass_words.Goals as goal

pub loop-v-init : goal.loop-v-init
loop-v-init c = words_begin c.args.block.now c.args.words.now

pub loop-v-preserved : goal.loop-v-preserved
loop-v-preserved c = words_go_on c.args.block.now c.loop-v.block c.pass_word.new.block c.args.words.now c.loop-v.v-index _ c.loop-v-test.true (get_or_default c.args.words.now c.loop-v.v-index _ _ c.loop-v-test.true) c.loop-v.invariant c.in_ok-pass_word.ensures

pub returns : goal.returns
returns c = words_go c.args.block.now c.loop-v.block c.args.words.now (drop c.loop-v.v-index c.args.words.now) (drop_all c.loop-v.v-index c.args.words.now c.loop-v-test.false) c.loop-v.invariant
