use Rattle.std.proofs.Common.{◌≤◌, ◌≡◌, true, length, arith, rules}
use Rattle.std.proofs.lemmas.Bool.Decides.{nat_tests}
use Rattle.c_lexer.specs.ControlLines.{spaces, starts_named}
use Rattle.c_lexer.proofs.LineNumbers.{is_named, is_low}
use Rattle.c_lexer.proofs.control.number_named.Goals as goal

pub returns-clause-is : goal.returns-clause-is
returns-clause-is c =
    let h : 1 ≤ length c.args.digits.now = grind (arith, nat_tests) in
    let s : starts_named (spaces c.args.after.now) ≡ true = search rules in
    is_named c.args.digits.now c.args.after.now c.number_in.result c.requires h (omega arith) s c.number_in.ensures

pub returns-clause-bound : goal.returns-clause-bound
returns-clause-bound c = is_low c.args.digits.now c.number_in.result c.requires (omega arith) c.number_in.ensures
