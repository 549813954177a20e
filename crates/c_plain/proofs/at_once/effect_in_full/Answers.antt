use Rattle.std.proofs.Common.{sym}
use Rattle.c_plain.proofs.at_once.effect_in_full.Goals as goal

pub returns-then-is_plain-clause-comes : goal.returns-then-is_plain-clause-comes
returns-then-is_plain-clause-comes c = (c.plain_value.result, (sym c.no_value.ensures, λ calls. c.plain_value.ensures.comes calls))
