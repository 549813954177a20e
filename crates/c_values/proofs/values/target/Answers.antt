use Rattle.std.proofs.Common.{sym, ap, ◌∙◌}
use Rattle.c_meaning.specs.Types.{target}
use Rattle.c_values.specs.Valued.{valued}
use Rattle.c_values.specs.PlainTypes.{plain_type}
use Rattle.c_values.proofs.values.target.Goals as goal

pub returns-in-Some-clause-to : goal.returns-in-Some-clause-to
returns-in-Some-clause-to c =
    let t = c.args.types.now in
    ap (λ v. target (valued t v)) c.in-Own.is ∙ c.in-Some.ensures.to ∙ sym (plain_type t c.plain.result c.in-Some.to c.plain.ensures.of c.plain.ensures.qualifiers)
