use Rattle.std.specs.Prelude.{◌∷◌, ◌++◌, []}
use Rattle.std.proofs.Common.{ap, sym, ◌∙◌, arith}
use Rattle.lcc_base.specs.Traces.{Opened}
use Rattle.c_types.specs.Table.{types}
use Rattle.c_meaning.specs.CoreTrees.{line_of, type_of}
use Rattle.c_meaning.specs.Units.{function_seen}
use Rattle.c_worlds.specs.Programs.{known}
use Rattle.c_worlds.specs.Shown.{shown}
use Rattle.c_entries.specs.Arguments.{arguments_seen}
use Rattle.c_entries.specs.Fitting.{fits_with}
use Rattle.c_eval.specs.Frames.{frames}
use Rattle.c_eval.specs.Steps.{state_of}
use Rattle.c_eval.proofs.Calling.{opened_silently}
use Rattle.c_eval.proofs.Invoking.{both_hold, function_entered, function_misfits, function_waits, seen_is_passed}
use Rattle.c_eval.proofs.machine.Machine.call_function.Goals as goal

pub returns-then-not-function_fits-clause-reaches : goal.returns-then-not-function_fits-clause-reaches
returns-then-not-function_fits-clause-reaches c t e =
    let p = c.args.program.now in
    let m = c.args.self.now in
    let call = c.args.asked.call.now in (
      t,
      e,
      (ap (λ x. state_of p m x t) c.mismatch.ensures
          ∙ function_misfits p (function_seen (types p.core.now.types) c.args.f.now) c.args.number (known p (type_of call)) (line_of call) c.args.asked.result (arguments_seen p c.args.arguments.now) m.turns (shown m.world t) m.world.locals.below (frames m.stack) (sym (ap (λ id. fits_with (function_seen (types p.core.now.types) c.args.f.now) (known p id) (arguments_seen p c.args.arguments.now)) (ap type_of c.call.view_is)) ∙ sym c.if-not-function_fits.ensures)),
    )

pub returns-then-self-eq0-clause-reaches : goal.returns-then-self-eq0-clause-reaches
returns-then-self-eq0-clause-reaches c t e =
    let p = c.args.program.now in
    let m = c.args.self.now in
    let call = c.args.asked.call.now in (
      t,
      e,
      function_waits p (function_seen (types p.core.now.types) c.args.f.now) c.args.number (known p (type_of call)) (line_of call) c.args.asked.result (arguments_seen p c.args.arguments.now) m.turns (shown m.world t) m.world.locals.below (frames m.stack) (sym (ap (λ id. fits_with (function_seen (types p.core.now.types) c.args.f.now) (known p id) (arguments_seen p c.args.arguments.now)) (ap type_of c.call.view_is)) ∙ sym c.if-not-function_fits.ensures) c.if-self-eq0.true,
    )

pub returns-clause-reaches : goal.returns-clause-reaches
returns-clause-reaches c =
    let p = c.args.program.now in
    let m = c.args.self.now in
    both_hold _ _ _ c.enter.result c.enter.ensures.enters c.enter.ensures.output (λ focus h o t e. (
      t ++ Opened c.args.number ∷ [],
      opened_silently t c.args.number ∙ e ∙ sym o,
      (h (arguments_seen p c.args.arguments.now) (seen_is_passed p c.args.arguments.now) t
          ∙ function_entered p c.turns_are_repetitions.ensures.calls (function_seen (types p.core.now.types) c.args.f.now) c.args.number c.args.asked.call c.args.asked.result (arguments_seen p c.args.arguments.now) m.turns (shown m.world t) m.world.locals.below c.count-objects.result c.base-base.result (frames c.push.new.self) (frames m.stack) c.requires (sym (ap (λ id. fits_with (function_seen (types p.core.now.types) c.args.f.now) (known p id) (arguments_seen p c.args.arguments.now)) (ap type_of c.call.view_is)) ∙ sym c.if-not-function_fits.ensures) (sym c.count-objects.ensures) c.base-base.ensures c.in_ok-push.ensures (omega (arith, c.if-self-eq0.false))),
    ))
