use Rattle.std.proofs.Common.{ap, sym, ◌∙◌, length, arith}
use Rattle.c_readings.specs.Readers.{readers}
use Rattle.c_expr.specs.Productions.{whole_expression}
use Rattle.c_ast.specs.Seen.{expr_seen}
use Rattle.c_expr.specs.State.{ahead}
use Rattle.c_expr.proofs.Taken.{took_by, refused_by, again, whole_exact}
use Rattle.c_expr.proofs.parser.Parser.expression_to.Goals as goal

pub returns-in-Some-clause-err : goal.returns-in-Some-clause-err
unfolding ahead
returns-in-Some-clause-err c = again (whole_expression c.args.limit) _ c.in-Some.fault c.self.inside.fault c.args.self.now (ap (λ p. p.fault) (sym c.self.view_is)) c.in-Some.is

pub returns-in-Ok-clause-ok : goal.returns-in-Ok-clause-ok
unfolding ahead
returns-in-Ok-clause-ok c =
    took_by (whole_expression c.args.limit) (whole_exact c.readers_are_exact.ensures.limit c.readers_are_exact.ensures.readers c.args.limit) c.pieces_are_fronts.ensures.expression (λ n. n) c.self.inside.source.now c.new-text.result c.self.inside.tokens.items c.deref.result.now c.self.inside.place c.len.result c.self.inside.names c.whole_at.new.names c.self.inside.fault c.args.self.now (expr_seen c.in-Ok.found.tree) c.in-Ok.found.rest.now c.new-text.ensures c.deref.ensures.value (c.len.ensures ∙ sym c.deref.ensures.len ∙ ap length c.deref.ensures.value) c.self.invariant.1 c.in_default.is c.self.view_is (omega (arith, c.in-Ok.ensures.shorter)) c.in-Ok.ensures.ok

pub returns-in-Err-clause-err : goal.returns-in-Err-clause-err
unfolding ahead
returns-in-Err-clause-err c =
    refused_by (whole_expression c.args.limit) (whole_exact c.readers_are_exact.ensures.limit c.readers_are_exact.ensures.readers c.args.limit) (λ n. n) c.self.inside.source.now c.new-text.result c.self.inside.tokens.items c.deref.result.now c.self.inside.place c.stopped.new.self.place c.self.inside.names c.whole_at.new.names c.self.inside.fault c.args.self.now c.stopped.new.self c.in-Err.stop c.stopped.result c.new-text.ensures c.deref.ensures.value c.in_default.is c.self.view_is c.stopped.ensures.further c.stopped.ensures.kept c.stopped.ensures.fault c.in-Err.ensures.none
