use Rattle.std.proofs.Common.{◌<◌, ◌+◌, ◌*◌, rules}
use Rattle.c_lexer.proofs.Numbers.{past_word}
use Rattle.c_lexer.proofs.number.number_in.Goals as goal

pub returns-then-value-most : goal.returns-then-value-most
returns-then-value-most c =
    let h : 4294967295 < c.args.base * c.loop-digit.value + c.digit_value.result = search rules in
    past_word c.args.base c.loop-digit.value c.digit_value.result c.args.digits.now c.loop-digit.digit-index c.requires.low c.loop-digit-test.true c.loop-digit.invariant.same c.digit_value.ensures h
