use Rattle.std.proofs.Common.{ap, sym, ◌∙◌}
use Rattle.c_types.specs.CType.{CType}
use Rattle.c_types.specs.Compatible.{compatible}
use Rattle.c_types.specs.Table.{type_at}
use Rattle.c_runs.specs.Calls.{expected}
use Rattle.c_runs.specs.Run.{argv}
use Rattle.c_entries.proofs.Fits.{no_pointer_expected, pointer_under}
use Rattle.c_entries.proofs.fitting.is_of_texts.Goals as goal

pub returns-in-Some : goal.returns-in-Some
returns-in-Some c old =
    let b = c.unqualified-base in
    let t = c.args.types.now in
    c.is_of_chars.ensures
    ∙ sym (pointer_under b.result.1.0 old (type_at t b.result.0) (type_at t c.in-Some.to) c.in-Some.ensures.some)
    ∙ ap (λ (u : CType). compatible (expected old u) argv) (sym b.ensures.means)

pub returns-in-None : goal.returns-in-None
returns-in-None c old =
    let b = c.unqualified-base in
    no_pointer_expected b.result.1.0 old (type_at c.args.types.now b.result.0) c.in-None.ensures.none
    ∙ ap (λ (u : CType). compatible (expected old u) argv) (sym b.ensures.means)
