use Rattle.std.proofs.Common.{sym, ap, ◌∙◌}
use Rattle.c_types.specs.Table.{type_at}
use Rattle.c_meaning.specs.TypeRows.{length_of}
use Rattle.c_check_expr.specs.PartsSeen.{size_seen}
use Rattle.c_types.specs.Compatible.{lengths_fit}
use Rattle.c_check_decl.proofs.FittingTypes.{element_differs, element_fits}
use Rattle.c_check_decl.proofs.fitting.element.Goals as goal

pub returns-in-Some-clause-some : goal.returns-in-Some-clause-some
returns-in-Some-clause-some c base =
    let t = c.args.types.now in
    let n = length_of (size_seen t c.args.size.now) in
    element_fits n c.in-Some.length c.args.of.1.0 (type_at t c.args.of.0) (type_at t c.in-Some.element) base c.in-Some.ensures.some (ap (λ z. lengths_fit z c.in-Some.length) (sym c.array_length.ensures) ∙ sym c.lengths_fit.ensures ∙ c.if-lengths_fit.true)

pub returns-in_default-clause-none : goal.returns-in_default-clause-none
returns-in_default-clause-none c base =
    let t = c.args.types.now in
    let n = length_of (size_seen t c.args.size.now) in
    element_differs n c.in-Some.length c.args.of.1.0 (type_at t c.args.of.0) (type_at t c.in-Some.element) base c.in-Some.ensures.some (ap (λ z. lengths_fit z c.in-Some.length) (sym c.array_length.ensures) ∙ sym c.lengths_fit.ensures ∙ c.if-lengths_fit.false)
