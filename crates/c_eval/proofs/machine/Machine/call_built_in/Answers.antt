use Rattle.std.proofs.Common.{ap, sym, ◌∙◌, arith}
use Rattle.c_meaning.specs.CoreTrees.{line_of, type_of}
use Rattle.c_runs.specs.Calls.{built_in_fits}
use Rattle.c_worlds.specs.Programs.{known}
use Rattle.c_worlds.specs.Shown.{shown}
use Rattle.c_entries.specs.Arguments.{arguments_seen}
use Rattle.std.proofs.lemmas.Result.{IfOk-weaker}
use Rattle.c_eval.specs.Frames.{frames}
use Rattle.c_eval.specs.Steps.{state_of}
use Rattle.c_eval.proofs.BuiltIns.{provided_exits, provided_gives, provided_stops}
use Rattle.c_eval.proofs.Invoking.{built_in_misfits, built_in_waits}
use Rattle.c_eval.proofs.machine.Machine.call_built_in.Goals as goal

pub returns-then-not-built_in_fits-clause-reaches : goal.returns-then-not-built_in_fits-clause-reaches
returns-then-not-built_in_fits-clause-reaches c number t e =
    let p = c.args.program.now in
    let m = c.args.self.now in
    let call = c.args.asked.call.now in (
      t,
      e,
      (ap (λ x. state_of p m x t) c.mismatch.ensures
          ∙ built_in_misfits p c.args.b number (known p (type_of call)) (line_of call) c.args.asked.result (arguments_seen p c.args.arguments.now) m.turns (shown m.world t) m.world.locals.below (frames m.stack) (sym (ap (λ id. built_in_fits c.args.b (known p id) (arguments_seen p c.args.arguments.now)) (ap type_of c.call.view_is)) ∙ sym c.if-not-built_in_fits.ensures)),
    )

pub returns-then-self-eq0-clause-reaches : goal.returns-then-self-eq0-clause-reaches
returns-then-self-eq0-clause-reaches c number t e =
    let p = c.args.program.now in
    let m = c.args.self.now in
    let call = c.args.asked.call.now in (
      t,
      e,
      built_in_waits p c.args.b number (known p (type_of call)) (line_of call) c.args.asked.result (arguments_seen p c.args.arguments.now) m.turns (shown m.world t) m.world.locals.below (frames m.stack) (sym (ap (λ id. built_in_fits c.args.b (known p id) (arguments_seen p c.args.arguments.now)) (ap type_of c.call.view_is)) ∙ sym c.if-not-built_in_fits.ensures) c.if-self-eq0.true,
    )

pub returns-in-Ok-Gave-clause-reaches : goal.returns-in-Ok-Gave-clause-reaches
returns-in-Ok-Gave-clause-reaches c number t e =
    let p = c.args.program.now in
    let m = c.args.self.now in
    let call = c.args.asked.call.now in
    provided_gives p c.args.b number (known p (type_of call)) (line_of call) c.call.inside.line c.args.asked.result c.args.arguments.now m.turns m.world c.provide.new.world (frames m.stack) c.in-Ok-Gave.value (ap line_of c.call.view_is) (sym (ap (λ id. built_in_fits c.args.b (known p id) (arguments_seen p c.args.arguments.now)) (ap type_of c.call.view_is)) ∙ sym c.if-not-built_in_fits.ensures) (omega (arith, c.if-self-eq0.false)) c.provide.ensures.locals (rw c.in-Ok-Gave.field-0-is at c.in-Ok-Gave.ensures.provides) t e

pub returns-in-Ok-Exits-clause-reaches : goal.returns-in-Ok-Exits-clause-reaches
returns-in-Ok-Exits-clause-reaches c number t e =
    let p = c.args.program.now in
    let m = c.args.self.now in
    let call = c.args.asked.call.now in
    provided_exits p c.args.b number (known p (type_of call)) (line_of call) c.call.inside.line c.args.asked.result c.args.arguments.now m.turns m.world c.provide.new.world (frames m.stack) c.in-Ok-Exits.status (ap line_of c.call.view_is) (sym (ap (λ id. built_in_fits c.args.b (known p id) (arguments_seen p c.args.arguments.now)) (ap type_of c.call.view_is)) ∙ sym c.if-not-built_in_fits.ensures) (omega (arith, c.if-self-eq0.false)) (rw c.in-Ok-Exits.field-0-is at c.in-Ok-Exits.ensures.provides) t e

pub returns-in-Err-clause-reaches : goal.returns-in-Err-clause-reaches
returns-in-Err-clause-reaches c =
    let p = c.args.program.now in
    let m = c.args.self.now in
    let call = c.args.asked.call.now in
    IfOk-weaker c.stopped.result _ _ (λ focus i number t e. provided_stops p c.args.b number (known p (type_of call)) (line_of call) c.call.inside.line c.args.asked.result c.args.arguments.now m.turns m.world c.provide.new.world (frames m.stack) c.in-Err.stop focus (ap line_of c.call.view_is) (sym (ap (λ id. built_in_fits c.args.b (known p id) (arguments_seen p c.args.arguments.now)) (ap type_of c.call.view_is)) ∙ sym c.if-not-built_in_fits.ensures) (omega (arith, c.if-self-eq0.false)) c.in-Err.ensures.provides i t e) c.stopped.ensures
