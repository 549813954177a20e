use Rattle.std.proofs.Common.{sym, ap, ◌∙◌}
use Rattle.c_ast.specs.UnitViews.{option_of}
use Rattle.c_ast.specs.Seen.{declarator_seen, specifiers_seen}
use Rattle.c_expr.specs.State.{ahead}
use Rattle.c_decl.specs.OldParameters.{old_parameters}
use Rattle.c_decl.proofs.lemmas.GoingLaws.{err, passed}
use Rattle.c_stmt.proofs.OldFunctions.{no_function}
use Rattle.c_stmt.proofs.externals.function_at.Goals as goal

pub returns-in_err-parameters-clause-none : goal.returns-in_err-parameters-clause-none
returns-in_err-parameters-clause-none c =
    passed c.from_residual-in_err-parameters.result c.from_residual-in_err-parameters.ensures.1 (err c.in_err-parameters.ensures.none (λ z.
    no_function c.args.limit c.args.line (option_of specifiers_seen c.args.specifiers) (declarator_seen c.args.declarator) (ahead c.args.p.now) (ap (old_parameters c.args.limit) (sym c.in_ok-reopen_scope.ensures.open) ∙ z)))
