use Rattle.std.proofs.Common.{◌≡◌, arith}
use Rattle.std.proofs.lemmas.Bool.Decides.{nat_tests}
use Rattle.first_form.proofs.Cut.{begins_not}
use Rattle.first_form.proofs.lexing.next_token.Goals as goal

pub returns-then-len-eq0-clause-none : goal.returns-then-len-eq0-clause-none
returns-then-len-eq0-clause-none c =
    let k : c.token_len-len.result ≡ 0 = grind (arith, nat_tests) in
    begins_not c.args.bytes.now c.skip_blanks-behind.result.now c.skip_blanks-behind.ensures.skips c.skip_blanks-behind.ensures.stops (c.token_len-len.ensures.none k)
