use Rattle.std.proofs.Common.{ap, refl, sym, ◌∙◌}
use Rattle.c_meaning.specs.State.{place_here}
use Rattle.c_check_expr.specs.Known.{state_of}
use Rattle.c_units.specs.Functions.{is_other}
use Rattle.c_check_function.proofs.ListedNames.{no_other, other_behind, other_met}
use Rattle.c_check_function.proofs.listed_names.has_other.Goals as goal

pub loop-name-init : goal.loop-name-init
loop-name-init c t = refl

pub returns-then-is_other : goal.returns-then-is_other
returns-then-is_other c t =
    let s = state_of c.args.scopes.now t in
    sym (other_met s c.args.names.now c.loop-name.name-index c.name-item.result c.loop-name-test.true c.name-item.is
    (ap (λ n. is_other s (place_here s n)) (sym c.as_slice.ensures) ∙ sym (c.is_other.ensures t) ∙ c.if-is_other.true))
    ∙ c.loop-name.invariant t

pub loop-name-preserved : goal.loop-name-preserved
loop-name-preserved c t =
    let s = state_of c.args.scopes.now t in
    sym (other_behind s c.args.names.now c.loop-name.name-index c.name-item.result c.loop-name-test.true c.name-item.is
    (ap (λ n. is_other s (place_here s n)) (sym c.as_slice.ensures) ∙ sym (c.is_other.ensures t) ∙ c.if-is_other.false))
    ∙ c.loop-name.invariant t

pub returns : goal.returns
returns c t = sym (no_other (state_of c.args.scopes.now t) c.args.names.now c.loop-name.name-index c.loop-name-test.false) ∙ c.loop-name.invariant t
