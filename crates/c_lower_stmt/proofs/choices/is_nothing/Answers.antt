use Rattle.c_lower_stmt.proofs.lemmas.Rows.{nothing_is, other_is}
use Rattle.c_lower_stmt.proofs.choices.is_nothing.Goals as goal

pub returns-in-Nothing : goal.returns-in-Nothing
returns-in-Nothing c = λ known. nothing_is known c.args.s.now c.in-Nothing.is

pub returns-in_default : goal.returns-in_default
returns-in_default c = λ known. other_is known c.args.s.now c.in_default.not-Nothing
