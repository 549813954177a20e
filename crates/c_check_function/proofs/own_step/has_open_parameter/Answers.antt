use Rattle.std.proofs.Common.{◌+◌, refl, sym, ap, ◌∙◌, drop, length}
use Rattle.std.specs.Prelude.{◌||◌, not}
use Rattle.c_types.specs.Table.{tags}
use Rattle.c_meaning.specs.Types.{has_size}
use Rattle.c_check_expr.specs.PartsSeen.{parameters_seen}
use Rattle.c_units.specs.Definitions.{has_open_parameter}
use Rattle.c_check_function.proofs.ParameterTests.{none_open, open_at, others_in, parameter_in}
use Rattle.c_check_function.proofs.own_step.has_open_parameter.Goals as goal

pub loop-p-init : goal.loop-p-init
loop-p-init c = record { rest = c.requires; same = refl }

pub has_size-requires : goal.has_size-requires
has_size-requires c = rw c.plain.ensures.of (parameter_in c.args.parameters.now c.loop-p.p-index c.p-item.result c.loop-p-test.true c.p-item.is (length c.args.types.now.forms) c.loop-p.invariant.rest)

pub returns-then-not-has_size : goal.returns-then-not-has_size
returns-then-not-has_size c =
    let t = c.args.types.now in
    sym (ap (λ b. not b || has_open_parameter (tags t) (parameters_seen t (drop (c.loop-p.p-index + 1) c.args.parameters.now))) (sym (ap (has_size (tags t)) (c.plain.ensures.means t)) ∙ sym c.has_size.ensures ∙ c.if-not-has_size.true))
    ∙ sym (open_at c.args.parameters.now c.loop-p.p-index c.p-item.result c.loop-p-test.true c.p-item.is (tags t) t) ∙ c.loop-p.invariant.same

pub loop-p-preserved : goal.loop-p-preserved
loop-p-preserved c =
    let t = c.args.types.now in
    record {
      rest = others_in c.args.parameters.now c.loop-p.p-index c.p-item.result c.loop-p-test.true c.p-item.is (length t.forms) c.loop-p.invariant.rest;
      same =
          sym (ap (λ b. not b || has_open_parameter (tags t) (parameters_seen t (drop (c.loop-p.p-index + 1) c.args.parameters.now))) (sym (ap (has_size (tags t)) (c.plain.ensures.means t)) ∙ sym c.has_size.ensures ∙ c.if-not-has_size.false))
          ∙ sym (open_at c.args.parameters.now c.loop-p.p-index c.p-item.result c.loop-p-test.true c.p-item.is (tags t) t) ∙ c.loop-p.invariant.same;
    }

pub returns : goal.returns
returns c = sym (none_open (tags c.args.types.now) c.args.types.now c.args.parameters.now c.loop-p.p-index c.loop-p-test.false) ∙ c.loop-p.invariant.same
