use Rattle.std.proofs.Common.{◌≡◌, sym, ap, ◌∙◌}
use Rattle.c_meaning.specs.TypeRows.{formed_by}
use Rattle.c_check_expr.specs.PartsSeen.{step_seen}
use Rattle.c_check_decl.specs.Fitting.{function_step}
use Rattle.c_check_decl.proofs.FittingTypes.{none_under, some_under}
use Rattle.c_check_decl.proofs.fitting.inside.Goals as goal

pub returns-in-Function-clause-some : goal.returns-in-Function-clause-some
returns-in-Function-clause-some c =
    let t = c.args.types.now in
    let step = formed_by (step_seen t c.args.step.now) in
    let made = function_step t c.as_slice.result.now c.in-Function.more in
    let s : step ≡ made = ap (λ p. formed_by (step_seen t p)) c.in-Function.is ∙ ap (λ ps. function_step t ps c.in-Function.more) (sym c.as_slice.ensures) in
    some_under t step made c.args.of c.under-base.result c.under-base.ensures.means s c.listed_result.result c.listed_result.ensures.some

pub returns-in-Function-clause-none : goal.returns-in-Function-clause-none
returns-in-Function-clause-none c =
    let t = c.args.types.now in
    let step = formed_by (step_seen t c.args.step.now) in
    let made = function_step t c.as_slice.result.now c.in-Function.more in
    let s : step ≡ made = ap (λ p. formed_by (step_seen t p)) c.in-Function.is ∙ ap (λ ps. function_step t ps c.in-Function.more) (sym c.as_slice.ensures) in
    none_under t step made c.args.of c.under-base.result c.under-base.ensures.means s c.listed_result.result c.listed_result.ensures.none
