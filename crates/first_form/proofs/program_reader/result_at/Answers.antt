use Rattle.first_form.specs.Expression.{expression_of}
use Rattle.first_form.proofs.Programs.{result_reads, no_result}
use Rattle.first_form.proofs.program_reader.result_at.Goals as goal

pub returns-then-are_blank-clause-ok : goal.returns-then-are_blank-clause-ok
returns-then-are_blank-clause-ok c = result_reads c.args.bytes.now c.in_ok-expression.rest.now (expression_of c.in_ok-expression.expression) c.in_ok-expression.ensures.ok (c.are_blank.ensures.yes c.if-are_blank.true)

pub returns-else-are_blank-clause-only : goal.returns-else-are_blank-clause-only
returns-else-are_blank-clause-only c = λ f p h. absurd (no_result c.args.bytes.now c.in_ok-expression.rest.now (expression_of c.in_ok-expression.expression) f c.in_ok-expression.ensures.ok (c.are_blank.ensures.no c.if-are_blank.false) p h)
