use Rattle.std.proofs.lemmas.Result.{IfOk-weaker, IfErr-weaker}
use Rattle.c_ast.specs.Seen.{specifiers_seen}
use Rattle.c_readings.specs.DeclarationReaders.{low_specifiers}
use Rattle.c_expr.specs.Productions.{specifiers}
use Rattle.c_expr.specs.State.{ahead}
use Rattle.c_decl.proofs.lemmas.TakingLaws.{took_goes, refused_fails, refused_breaks}
use Rattle.c_decl.proofs.parts.low_specifiers.Goals as goal

pub returns-clause-ok : goal.returns-clause-ok
unfolding low_specifiers
returns-clause-ok c = IfOk-weaker c.specifiers_to.result _ _ (λ e t. t.reads) c.specifiers_to.ensures.ok

pub returns-clause-none : goal.returns-clause-none
unfolding low_specifiers
returns-clause-none c = IfErr-weaker c.specifiers_to.result _ _ (λ e r. refused_fails (specifiers c.args.limit) (ahead c.args.p.now) c.args.p.now c.specifiers_to.new.self e c.requires.sound r) c.specifiers_to.ensures.err

pub returns-clause-going : goal.returns-clause-going
returns-clause-going c = IfOk-weaker c.specifiers_to.result _ _ (λ e t. took_goes (specifiers c.args.limit) c.args.p.now c.specifiers_to.new.self (specifiers_seen e) t) c.specifiers_to.ensures.ok

pub returns-clause-broken : goal.returns-clause-broken
returns-clause-broken c = IfErr-weaker c.specifiers_to.result _ _ (λ e r. refused_breaks (specifiers c.args.limit) (ahead c.args.p.now) c.args.p.now c.specifiers_to.new.self e c.requires.sound r) c.specifiers_to.ensures.err
