use Rattle.std.proofs.Common.{◌+◌, drop, get_or, sym, ap, ◌∙◌}
use Rattle.std.specs.Prelude.{bit_or}
use Rattle.std.specs.Int.Bits.{or_zero_r}
use Rattle.std.proofs.lemmas.List.{at_drop_all, at_drop_more}
use Rattle.c_ast.specs.declared.specifier.Storage.TheVariants as class
use Rattle.c_check_expr.specs.declared.parts.Part.TheVariants as part
use Rattle.c_check_expr.specs.Counted.{qualifier_in, qualifiers_among}
use Rattle.c_types.proofs.lemmas.Qualifying.{or_assoc}
use Rattle.c_check_expr.proofs.specifiers.qualifiers.Goals as goal

pub loop-part-preserved : goal.loop-part-preserved
loop-part-preserved c =
    let ps = c.args.parts.now in
    let i = c.loop-part.part-index in
    let p = get_or ps i (part.Stored class.Typedef) in
    let rest = qualifiers_among (drop (i + 1) ps) in
    ap (λ q. bit_or q rest) (c.with-all.ensures ∙ ap (bit_or c.loop-part.all.0) c.qualifier.ensures)
    ∙ or_assoc c.loop-part.all.0 (qualifier_in p) rest
    ∙ sym (ap (bit_or c.loop-part.all.0) (at_drop_more qualifiers_among ps i (part.Stored class.Typedef) c.loop-part-test.true))
    ∙ c.loop-part.invariant

pub returns : goal.returns
returns c =
    let ps = c.args.parts.now in
    let e = at_drop_all qualifiers_among ps c.loop-part.part-index c.loop-part-test.false in
    sym (or_zero_r c.loop-part.all.0) ∙ sym (ap (bit_or c.loop-part.all.0) e) ∙ c.loop-part.invariant
