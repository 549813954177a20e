use Rattle.std.proofs.Common.{sym, ap, ◌∙◌}
use Rattle.c_types.specs.declared.extent.Extent.{Extent}
use Rattle.c_types.specs.Layout.{known, size_or_zero}
use Rattle.c_types.specs.Table.{tags, type_at}
use Rattle.c_values.proofs.Lower.{size_or}
use Rattle.c_values.proofs.lemmas.Qualified.{extent_qualify}
use Rattle.c_values.proofs.kinds.size_of.Goals as goal

pub returns : goal.returns
returns c =
    let t = c.args.types.now in
    c.unwrap_or.ensures ∙ size_or c.size.result ∙ ap size_or_zero (c.size.ensures ∙ ap (λ (e : Extent). e.size) (sym (extent_qualify (known (tags t)) c.args.of.qualifiers.0 (type_at t c.args.of.of))))
