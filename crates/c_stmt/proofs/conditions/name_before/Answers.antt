use Rattle.std.proofs.Common.{refl, ◌∙◌}
use Rattle.c_readings.specs.Reading.{gives, one_sign}
use Rattle.c_expr.specs.State.{ahead}
use Rattle.c_decl.proofs.lemmas.GoingLaws.{if_err, passed, no_sign, some_sign}
use Rattle.c_stmt.proofs.conditions.name_before.Goals as goal

pub returns-in_err-name-clause-none : goal.returns-in_err-name-clause-none
returns-in_err-name-clause-none c = passed c.from_residual.result c.from_residual.ensures.1 (c.in_err-name.ensures.none (λ n t. one_sign c.args.number t (λ u. gives n u)))

pub returns-in_err-expect-clause-none : goal.returns-in_err-expect-clause-none
returns-in_err-expect-clause-none c = if_err c.from_residual-in_err-expect.result (c.in_ok-name.ensures.ok (λ n t. one_sign c.args.number t (λ u. gives n u)) ∙ no_sign c.args.number (ahead c.take_name.new.p) (ahead c.take_name.new.p) c.in_ok-name.name refl c.in_err-expect.ensures.none)

pub returns-clause-ok : goal.returns-clause-ok
returns-clause-ok c = c.in_ok-name.ensures.ok (λ n t. one_sign c.args.number t (λ u. gives n u)) ∙ some_sign c.args.number (ahead c.take_name.new.p) (ahead c.take_name.new.p) (ahead c.expect.new.p) c.in_ok-name.name refl c.in_ok-expect.ensures.next c.in_ok-expect.ensures.beyond
