use Rattle.std.proofs.Common.{length, sym, ap, ◌∙◌}
use Rattle.std.specs.Prelude.{Some, nat_eq, nat_le}
use Rattle.c_types.specs.Table.{parameters_in, types}
use Rattle.c_meaning.specs.ExprConstraints.{are_as_many}
use Rattle.c_values.proofs.lemmas.ManyValues.{as_many_closed, as_many_open}
use Rattle.c_check_expr.proofs.callees.are_as_many.Goals as goal

pub returns-in-Some : goal.returns-in-Some
returns-in-Some c =
    λ t vs e.
    let ids = c.in-Some.ids in
    ap (λ n. nat_le n c.args.count) c.len.ensures ∙ ap (nat_le (length ids)) (sym e) ∙ as_many_open (types t) ids vs
    ∙ ap (λ b. are_as_many (parameters_in (types t) (Some ids) b) vs) (sym c.if-more.true)
    ∙ ap (λ o. are_as_many (parameters_in (types t) o c.args.more) vs) (sym c.in-Some.is)

pub returns-in-Some-2 : goal.returns-in-Some-2
returns-in-Some-2 c =
    λ t vs e.
    let ids = c.in-Some-2.ids in
    ap (λ n. nat_eq n c.args.count) c.len-in-Some-2.ensures ∙ ap (nat_eq (length ids)) (sym e) ∙ as_many_closed (types t) ids vs
    ∙ ap (λ b. are_as_many (parameters_in (types t) (Some ids) b) vs) (sym c.if-more.false)
    ∙ ap (λ o. are_as_many (parameters_in (types t) o c.args.more) vs) (sym c.in-Some-2.is)
