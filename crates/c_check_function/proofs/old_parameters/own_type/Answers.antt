use Rattle.std.proofs.Common.{sym, ap, ◌∙◌, subst, nat_lt}
use Rattle.c_types.specs.CType.{depth}
use Rattle.c_types.specs.Layout.{extent}
use Rattle.c_types.specs.Table.{is_above, tags, type_at}
use Rattle.c_meaning.specs.Constraints.{passed_fault}
use Rattle.c_meaning.specs.TypeRows.{adjusted, formed}
use Rattle.c_values.specs.Stays.{grows_on}
use Rattle.c_values.specs.TooDeep.{IsTooDeep}
use Rattle.c_check_expr.specs.PartsSeen.{steps_seen}
use Rattle.c_check_expr.specs.StepFaults.{IsFault}
use Rattle.c_check_function.specs.OldParameters.{old_passed}
use Rattle.c_check_function.proofs.OldSteps.{adjusted_told, formed_told, handed_on, large_told, many_told, moved, none_told}
use Rattle.c_check_function.proofs.old_parameters.own_type.Goals as goal

pub returns-then-is_large-clause-err : goal.returns-then-is_large-clause-err
returns-then-is_large-clause-err c =
    let a = c.args.types.now in
    ap (passed_fault c.args.line) (large_told (tags a) (type_at a c.args.base) (steps_seen a c.args.steps.now) (sym c.is_large.ensures ∙ c.if-is_large.true))

pub returns-in_err-whole-clause-err : goal.returns-in_err-whole-clause-err
returns-in_err-whole-clause-err c =
    let a = c.args.types.now in
    let b = type_at a c.args.base in
    let ps = steps_seen a c.args.steps.now in
    handed_on c.from_residual.result c.in_err-whole.field-0.0 (λ e. IsFault e (passed_fault c.args.line (old_passed (tags a) b ps))) c.from_residual.ensures.1
    (formed_told (tags a) b ps c.in_err-whole.field-0.0 c.args.line (sym c.is_large.ensures ∙ c.if-is_large.false) c.in_err-whole.ensures.deep)

pub returns-in_err-of-clause-err : goal.returns-in_err-of-clause-err
returns-in_err-of-clause-err c =
    let a = c.args.types.now in
    let m = c.formed.new.types in
    let b = type_at a c.args.base in
    let ps = steps_seen a c.args.steps.now in
    let whole = type_at m c.in_ok-whole.whole in
    let still = c.in_ok-whole.ensures.grows.tags_same in
    let means = c.in_ok-whole.ensures.means in
    handed_on c.from_residual-in_err-of.result c.in_err-of.field-0.0 (λ e. IsFault e (passed_fault c.args.line (old_passed (tags a) b ps))) c.from_residual-in_err-of.ensures.1
    (adjusted_told (tags a) b ps c.in_err-of.field-0.0 c.args.line (sym c.is_large.ensures ∙ c.if-is_large.false)
    (moved (λ g t. is_above (extent g (adjusted t)).size) _ (tags a) (tags m) (formed b ps) whole still means c.adjusted.ensures.size)
    c.in_ok-whole.ensures.shallow
    (moved (λ g t. nat_lt 500 (extent g (adjusted t)).nesting) _ (tags a) (tags m) (formed b ps) whole still means c.adjusted.ensures.nesting)
    (subst (λ t. IsTooDeep c.in_err-of.field-0.0 c.args.line (adjusted t)) means c.in_err-of.ensures.deep))

pub returns-in_err-of-clause-grows : goal.returns-in_err-of-clause-grows
returns-in_err-of-clause-grows c = grows_on c.args.types.now c.formed.new.types c.adjusted.new.types c.in_ok-whole.ensures.grows c.in_err-of.ensures.grows

pub returns-then-has_many_parameters-clause-err : goal.returns-then-has_many_parameters-clause-err
returns-then-has_many_parameters-clause-err c =
    let a = c.args.types.now in
    let m = c.formed.new.types in
    let b = type_at a c.args.base in
    let ps = steps_seen a c.args.steps.now in
    let whole = type_at m c.in_ok-whole.whole in
    let still = c.in_ok-whole.ensures.grows.tags_same in
    let means = c.in_ok-whole.ensures.means in
    ap (passed_fault c.args.line) (many_told (tags a) b ps (sym c.is_large.ensures ∙ c.if-is_large.false)
    (moved (λ g t. is_above (extent g (adjusted t)).size) _ (tags a) (tags m) (formed b ps) whole still means c.in_ok-of.ensures.size)
    c.in_ok-whole.ensures.shallow
    (moved (λ g t. nat_lt 500 (extent g (adjusted t)).nesting) _ (tags a) (tags m) (formed b ps) whole still means c.in_ok-of.ensures.nesting)
    (sym (ap (λ t. nat_lt 500 (depth (adjusted t))) means) ∙ c.in_ok-of.ensures.shallow)
    (sym (c.has_many_parameters.ensures a b) ∙ c.if-has_many_parameters.true))

pub returns-then-has_many_parameters-clause-grows :
    goal.returns-then-has_many_parameters-clause-grows
returns-then-has_many_parameters-clause-grows c = grows_on c.args.types.now c.formed.new.types c.adjusted.new.types c.in_ok-whole.ensures.grows c.in_ok-of.ensures.grows

pub returns-clause-ok : goal.returns-clause-ok
returns-clause-ok c =
    let a = c.args.types.now in
    let m = c.formed.new.types in
    let b = type_at a c.args.base in
    let ps = steps_seen a c.args.steps.now in
    let whole = type_at m c.in_ok-whole.whole in
    let still = c.in_ok-whole.ensures.grows.tags_same in
    let means = c.in_ok-whole.ensures.means in
    none_told (tags a) b ps (sym c.is_large.ensures ∙ c.if-is_large.false)
    (moved (λ g t. is_above (extent g (adjusted t)).size) _ (tags a) (tags m) (formed b ps) whole still means c.in_ok-of.ensures.size)
    c.in_ok-whole.ensures.shallow
    (moved (λ g t. nat_lt 500 (extent g (adjusted t)).nesting) _ (tags a) (tags m) (formed b ps) whole still means c.in_ok-of.ensures.nesting)
    (sym (ap (λ t. nat_lt 500 (depth (adjusted t))) means) ∙ c.in_ok-of.ensures.shallow)
    (sym (c.has_many_parameters.ensures a b) ∙ c.if-has_many_parameters.false)

pub returns-clause-grows : goal.returns-clause-grows
returns-clause-grows c = grows_on c.args.types.now c.formed.new.types c.adjusted.new.types c.in_ok-whole.ensures.grows c.in_ok-of.ensures.grows
