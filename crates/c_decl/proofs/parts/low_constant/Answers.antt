use Rattle.std.proofs.lemmas.Result.{IfOk-weaker, IfErr-weaker}
use Rattle.c_ast.specs.Seen.{expr_seen}
use Rattle.c_expr.specs.Productions.{expression}
use Rattle.c_expr.specs.State.{ahead}
use Rattle.c_decl.proofs.lemmas.TakingLaws.{took_goes, refused_fails, refused_breaks}
use Rattle.c_decl.proofs.parts.low_constant.Goals as goal

pub returns-clause-ok : goal.returns-clause-ok
returns-clause-ok c = IfOk-weaker c.constant_to.result _ _ (λ e t. t.reads) c.constant_to.ensures.ok

pub returns-clause-none : goal.returns-clause-none
returns-clause-none c = IfErr-weaker c.constant_to.result _ _ (λ e r. refused_fails (expression 2 c.args.limit) (ahead c.args.p.now) c.args.p.now c.constant_to.new.self e c.requires.sound r) c.constant_to.ensures.err

pub returns-clause-going : goal.returns-clause-going
returns-clause-going c = IfOk-weaker c.constant_to.result _ _ (λ e t. took_goes (expression 2 c.args.limit) c.args.p.now c.constant_to.new.self (expr_seen e) t) c.constant_to.ensures.ok

pub returns-clause-broken : goal.returns-clause-broken
returns-clause-broken c = IfErr-weaker c.constant_to.result _ _ (λ e r. refused_breaks (expression 2 c.args.limit) (ahead c.args.p.now) c.args.p.now c.constant_to.new.self e c.requires.sound r) c.constant_to.ensures.err
