use Rattle.std.proofs.Common.{ap, sym, ◌∙◌}
use Rattle.std.specs.Prelude.{is_some}
use Rattle.c_symbols.specs.Scoping.{symbol_named}
use Rattle.c_check_expr.specs.Known.{state_of}
use Rattle.c_check_function.specs.OldParameters.{old_seen}
use Rattle.c_check_function.proofs.OldSteps.{rest_told}
use Rattle.c_check_function.proofs.old_parameters.broken.Goals as goal

pub returns-else-is_some : goal.returns-else-is_some
returns-else-is_some c =
    let a = c.args.types.now in
    c.steps_broken.ensures c.args.classes.now
    ∙ sym (rest_told (state_of c.args.scopes.now a) (old_seen a c.args.classes.now c.args.p.now) (sym c.is_other_class.ensures ∙ c.if-is_other_class.false)
    (ap (λ n. is_some (symbol_named c.args.scopes.now.inner n)) (sym c.as_slice.ensures) ∙ ap is_some (sym c.find_here.ensures.means) ∙ sym c.is_some.ensures ∙ c.if-is_some.false))
