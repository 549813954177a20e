use Rattle.std.proofs.Common.{ℕ, List, refl, sym, ap, subst}
use Rattle.std.specs.Prelude.{Err}
use Rattle.std.proofs.KnownBytes.{Keeps-refl}
use Rattle.outcomes.specs.declared.outcome.End.TheVariants as ends
use Rattle.outcomes.specs.declared.outcome.Refusal.TheVariants as refusal
use Rattle.outcomes.proofs.lemmas.Works.{did_write, worked}
use Rattle.rcc_tool.specs.Compilation.{IsCompilation, WritesRcc, RefusesRcc, rcc_behaviour}
use Rattle.rcc_tool.proofs.rcc.compile_input.Goals as goal

pub returns-in-Ok-clause-worked : goal.returns-in-Ok-clause-worked
returns-in-Ok-clause-worked g c =
    let Compiles : List ℕ → Type 0 = λ text. IsCompilation c.args.input.now text in
    worked rcc_behaviour c.args.input.now _ _ _ _ c.write_text.result c.rcc_laws.ensures.apart
    (did_write (WritesRcc c.args.input.now) (RefusesRcc c.args.input.now) ends.Finished c.as_slice.result.now _ _ _ _ c.write_text.result (subst Compiles (sym c.as_slice.ensures) c.in-Ok.ensures.found) c.write_text.ensures.written)

pub returns-in-Err-BadText-clause-worked : goal.returns-in-Err-BadText-clause-worked
returns-in-Err-BadText-clause-worked g c =
    let refuses = c.in-Err-BadText.ensures.bad (ap Err c.in-Err-BadText.field-0-is) in
    (record { refuses = refuses; nothing = λ end text writes. c.rcc_laws.ensures.apart c.args.input.now end text refusal.BadText writes refuses }, Keeps-refl _, refl)
