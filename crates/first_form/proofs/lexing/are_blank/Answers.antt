use Rattle.std.proofs.Common.{◌≡◌, length, arith}
use Rattle.std.proofs.lemmas.Bool.Decides.{nat_tests}
use Rattle.first_form.proofs.Cut.{blank_behind}
use Rattle.first_form.proofs.lexing.are_blank.Goals as goal

pub returns-clause-no : goal.returns-clause-no
returns-clause-no c = λ e h.
    let k : length c.skip_blanks.result.now ≡ 0 = blank_behind c.args.bytes.now c.skip_blanks.result.now c.skip_blanks.ensures.skips c.skip_blanks.ensures.stops h in
    grind (arith, nat_tests)
