use Rattle.std.proofs.lemmas.Result.{IfOk-weaker, IfErr-weaker}
use Rattle.c_ast.specs.Seen.{expr_seen}
use Rattle.c_readings.specs.StatementReaders.{low_expression}
use Rattle.c_expr.specs.Productions.{whole_expression}
use Rattle.c_expr.specs.State.{ahead}
use Rattle.c_decl.proofs.lemmas.TakingLaws.{took_goes, refused_fails, refused_breaks}
use Rattle.c_decl.proofs.parts.low_expression.Goals as goal

pub returns-clause-ok : goal.returns-clause-ok
unfolding low_expression
returns-clause-ok c = IfOk-weaker c.expression_to.result _ _ (λ e t. t.reads) c.expression_to.ensures.ok

pub returns-clause-none : goal.returns-clause-none
unfolding low_expression
returns-clause-none c = IfErr-weaker c.expression_to.result _ _ (λ e r. refused_fails (whole_expression c.args.limit) (ahead c.args.p.now) c.args.p.now c.expression_to.new.self e c.requires.sound r) c.expression_to.ensures.err

pub returns-clause-going : goal.returns-clause-going
returns-clause-going c = IfOk-weaker c.expression_to.result _ _ (λ e t. took_goes (whole_expression c.args.limit) c.args.p.now c.expression_to.new.self (expr_seen e) t) c.expression_to.ensures.ok

pub returns-clause-broken : goal.returns-clause-broken
returns-clause-broken c = IfErr-weaker c.expression_to.result _ _ (λ e r. refused_breaks (whole_expression c.args.limit) (ahead c.args.p.now) c.args.p.now c.expression_to.new.self e c.requires.sound r) c.expression_to.ensures.err
