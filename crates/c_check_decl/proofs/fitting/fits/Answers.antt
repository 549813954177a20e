use Rattle.std.proofs.Common.{length, sym, ap, ◌∙◌}
use Rattle.c_types.specs.CType.{CType, qualify}
use Rattle.c_types.specs.Compatible.{compatible}
use Rattle.c_types.proofs.lemmas.Qualifying.{qualify_none}
use Rattle.c_types.specs.Table.{type_at}
use Rattle.c_meaning.specs.TypeRows.{formed}
use Rattle.c_check_expr.specs.PartsSeen.{steps_seen}
use Rattle.c_check_decl.specs.Fitting.{under}
use Rattle.c_check_decl.proofs.LastSteps.{formed_split, split_in}
use Rattle.c_check_decl.proofs.fitting.fits.Goals as goal

pub loop-step-init : goal.loop-step-init
loop-step-init c =
    let t = c.args.types.now in
    let made = formed (type_at t c.args.base) (steps_seen t c.args.steps.now) in
    let o = type_at t c.args.other in
    record {
      within = c.requires.other;
      rest = c.requires.steps;
      same = ap (compatible made) (ap (λ q. qualify q o) c.none.ensures ∙ qualify_none o);
    }

pub inside-requires-clause-step : goal.inside-requires-clause-step
inside-requires-clause-step c = (split_in (length c.args.types.now.forms) c.loop-step.left.now c.in-Some.before.now c.in-Some.step.now c.in-Some.ensures.cases.0 c.loop-step.invariant.rest).0

pub loop-step-preserved : goal.loop-step-preserved
loop-step-preserved c =
    let t = c.args.types.now in
    let base = type_at t c.args.base in
    let left = c.loop-step.left.now in
    let before = c.in-Some.before.now in
    let split = c.in-Some.ensures.cases.0 in
    let e = ap (λ (u : CType). compatible u (under t c.loop-step.of)) (formed_split base t left before c.in-Some.step.now split) in
    record {
      within = c.in-Some-inside.ensures.within;
      rest = (split_in (length t.forms) left before c.in-Some.step.now split c.loop-step.invariant.rest).1;
      same = sym (c.in-Some-inside.ensures.some (formed base (steps_seen t before))) ∙ sym e ∙ c.loop-step.invariant.same;
    }

pub returns-in-None : goal.returns-in-None
returns-in-None c =
    let t = c.args.types.now in
    let base = type_at t c.args.base in
    let before = c.in-Some.before.now in
    let e = ap (λ (u : CType). compatible u (under t c.loop-step.of)) (formed_split base t c.loop-step.left.now before c.in-Some.step.now c.in-Some.ensures.cases.0) in
    sym (c.in-None.ensures.none (formed base (steps_seen t before))) ∙ sym e ∙ c.loop-step.invariant.same
