use Rattle.std.proofs.Common.{rules}
use Rattle.lburg_faults.proofs.declared.after_digits.Goals as goal

pub returns-in-Some-Digits-default-clause-some : goal.returns-in-Some-Digits-default-clause-some
returns-in-Some-Digits-default-clause-some c = (c.in-Some-Digits-default.field-0-0-0.now, search rules)
