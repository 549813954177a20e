use Rattle.std.proofs.Common.{ap, subst, sym, length, arith}
use Rattle.std.proofs.lemmas.Bool.Decides.{nat_tests}
use Rattle.lcc_text.specs.Classes.{AllIn, in_class}
use Rattle.lcc_text.specs.declared.class.Class.TheVariants.{Digit}
use Rattle.command_words.proofs.ClassWords.{stops_at_end}
use Rattle.command_words.proofs.number_words.number_in.Goals as goal
use Rattle.command_words.proofs.number_words.number_in.Goals.{then-is_empty-via-then-is_empty, then-is_empty-via-else-is_empty+then-digits-gt10, then-is_empty-via-else-is_empty+else-digits-gt10+then-run_len-digits}

pub returns-then-is_empty : goal.returns-then-is_empty
returns-then-is_empty c n number =
    let digits = c.as_bytes-digits.ensures.value in
    let long = ap length digits in
    elim c.then-is_empty.branch [
      | then-is_empty-via-then-is_empty w ↦ grind (arith, nat_tests)
      | then-is_empty-via-else-is_empty+then-digits-gt10 w ↦ omega arith
      | then-is_empty-via-else-is_empty+else-digits-gt10+then-run_len-digits w ↦
          let whole = stops_at_end (in_class Digit) c.as_bytes-digits.result.now w.run_len.result (subst (AllIn (in_class Digit)) (sym digits) number.digits) w.run_len.ensures.behind in
          omega arith
    ]
