use Rattle.std.proofs.Common.{◌+◌, refl, sym, ap, ◌∙◌, drop}
use Rattle.std.specs.Prelude.{◌||◌, not}
use Rattle.c_check_expr.specs.PartsSeen.{parameters_seen}
use Rattle.c_units.specs.Definitions.{is_nameless}
use Rattle.c_check_function.proofs.ParameterTests.{nameless, nameless_at, none_nameless}
use Rattle.c_check_function.proofs.own_step.is_nameless.Goals as goal

pub loop-p-init : goal.loop-p-init
loop-p-init c = λ t. refl

pub returns-then-is_none : goal.returns-then-is_none
returns-then-is_none c =
    λ t. sym (ap (λ b. b || is_nameless (parameters_seen t (drop (c.loop-p.p-index + 1) c.args.parameters.now))) (nameless c.p-item.result.name ∙ ap not c.if-is_none.ensures))
    ∙ sym (nameless_at c.args.parameters.now c.loop-p.p-index c.p-item.result c.loop-p-test.true c.p-item.is t) ∙ c.loop-p.invariant t

pub loop-p-preserved : goal.loop-p-preserved
loop-p-preserved c =
    λ t. sym (ap (λ b. b || is_nameless (parameters_seen t (drop (c.loop-p.p-index + 1) c.args.parameters.now))) (nameless c.p-item.result.name ∙ ap not c.if-is_none.ensures))
    ∙ sym (nameless_at c.args.parameters.now c.loop-p.p-index c.p-item.result c.loop-p-test.true c.p-item.is t) ∙ c.loop-p.invariant t

pub returns : goal.returns
returns c = λ t. sym (none_nameless t c.args.parameters.now c.loop-p.p-index c.loop-p-test.false) ∙ c.loop-p.invariant t
