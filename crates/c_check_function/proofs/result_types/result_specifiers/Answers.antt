use Rattle.std.proofs.Common.{◌<◌, length, sym, ap, subst, ◌∙◌}
use Rattle.c_types.specs.Table.{type_at}
use Rattle.c_meaning.specs.Declarations.{is_inner_class}
use Rattle.c_check_expr.proofs.lemmas.Walking.{walk_as}
use Rattle.c_check_function.specs.FunctionsSeen.{maybe_specifiers_seen, result_in}
use Rattle.c_check_function.proofs.ResultWalks.{result_breaks, result_goes, result_none, result_stops}
use Rattle.c_check_function.proofs.result_types.result_specifiers.Goals as goal

pub returns-in_default : goal.returns-in_default
returns-in_default c =
    let s = c.args.scopes.now in
    let a = c.args.types.now in
    walk_as _ _ (ap (λ l. result_in s a (maybe_specifiers_seen l)) c.in_default.is) (result_none s a (record { classes = c.new-classes.result; of = c.basic_type-of.result }) c.requires c.new-classes.ensures (ap (type_at a) c.basic_type-of.ensures.is ∙ c.basic_type-of.ensures.means) (subst (λ n. n < length a.forms) (sym c.basic_type-of.ensures.is) c.basic_type-of.ensures.within))

pub returns-in_err-base : goal.returns-in_err-base
returns-in_err-base c =
    let s = c.args.scopes.now in
    let a = c.args.types.now in
    walk_as _ _ (ap (λ l. result_in s a (maybe_specifiers_seen l)) c.in-Some.is)
    (result_stops s c.specifiers.new.scopes a c.specifiers.new.types c.in-Some.list c.in_err-base.field-0.0 c.from_residual.result c.from_residual.ensures.1 c.in_err-base.ensures)

pub returns-then-is_inner_class : goal.returns-then-is_inner_class
returns-then-is_inner_class c =
    let s = c.args.scopes.now in
    let a = c.args.types.now in
    walk_as _ _ (ap (λ l. result_in s a (maybe_specifiers_seen l)) c.in-Some.is)
    (result_breaks s c.specifiers.new.scopes a c.specifiers.new.types c.in-Some.list c.in_ok-base.base c.in_ok-base.ensures (sym (ap is_inner_class c.as_slice.ensures) ∙ sym c.is_inner_class.ensures ∙ c.if-is_inner_class.true))

pub returns : goal.returns
returns c =
    let s = c.args.scopes.now in
    let a = c.args.types.now in
    walk_as _ _ (ap (λ l. result_in s a (maybe_specifiers_seen l)) c.in-Some.is)
    (result_goes s c.specifiers.new.scopes a c.specifiers.new.types c.in-Some.list c.in_ok-base.base c.in_ok-base.ensures (sym (ap is_inner_class c.as_slice.ensures) ∙ sym c.is_inner_class.ensures ∙ c.if-is_inner_class.false))
