use Rattle.std.proofs.Common.{List, length, sym, ap, subst, ◌∙◌}
use Rattle.c_ast.specs.declared.specifier.Storage.{Storage}
use Rattle.c_types.specs.Table.{type_at}
use Rattle.c_check_expr.specs.PartsSeen.{AreStepsIn, declared_seen, specified_seen}
use Rattle.c_check_expr.specs.Kept.{below_later}
use Rattle.c_units.specs.Functions.{old_parameter}
use Rattle.c_check_function.specs.OldParameters.{old_seen}
use Rattle.c_check_function.proofs.OldWalks.{old_goes, old_stops}
use Rattle.c_check_function.proofs.old_parameters.old_parameter.Goals as goal

pub returns-in_err-d : goal.returns-in_err-d
returns-in_err-d c =
    old_stops c.args.scopes.now c.args.types.now c.args.line c.args.listed.0.now (specified_seen c.args.types.now c.args.listed.1.now) c.args.i.now
    c.declarator.new.scopes c.declarator.new.types c.in_err-d.field-0.0 c.from_residual.result c.from_residual.ensures.1 c.in_err-d.ensures

pub declared-requires-clause-parameter : goal.declared-requires-clause-parameter
declared-requires-clause-parameter c =
    let b = c.declarator.new.types in
    record {
      base = rw c.over-parameter.ensures.base (below_later c.args.types.now b c.in_ok-d.ensures.keeps.extends c.args.listed.1.now.of c.requires.base);
      steps = subst (AreStepsIn (length b.forms)) (sym c.over-parameter.ensures.steps) c.in_ok-d.ensures.within;
    }

pub returns : goal.returns
returns c =
    let a = c.args.types.now in
    let b = c.declarator.new.types in
    let names = c.args.listed.0.now in
    let base = c.args.listed.1.now in
    let d = c.in_ok-d.d in
    old_goes c.args.scopes.now c.declarator.new.scopes c.declared.new.scopes a b c.declared.new.types c.args.line names base c.args.i.now d (old_seen b c.as_slice.result.now c.over-parameter.result) c.declared.result c.requires.base c.in_ok-d.ensures
    (c.over-parameter.ensures.is b c.as_slice.result.now
    ∙ ap (λ (cs : List Storage). old_parameter names (record { classes = cs; of = type_at b base.of }) (declared_seen b d) c.is_some.result) c.as_slice.ensures
    ∙ ap (old_parameter names (specified_seen b base) (declared_seen b d)) c.is_some.ensures)
    c.declared.ensures
