use Rattle.std.proofs.Common.{sym, ap, ◌∙◌}
use Rattle.c_types.specs.Table.{tags}
use Rattle.c_meaning.specs.Types.{has_size}
use Rattle.c_values.specs.Valued.{valued}
use Rattle.c_values.specs.PlainTypes.{plain_type}
use Rattle.c_values.proofs.assigning.is_sized.Goals as goal

pub returns-in-Own : goal.returns-in-Own
returns-in-Own c =
    let t = c.args.types.now in
    c.has_size.ensures ∙ ap (has_size (tags t)) (plain_type t c.plain.result c.in-Own.id c.plain.ensures.of c.plain.ensures.qualifiers) ∙ ap (λ v. has_size (tags t) (valued t v)) (sym c.in-Own.is)
