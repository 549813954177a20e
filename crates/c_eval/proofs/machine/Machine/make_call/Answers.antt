use Rattle.std.proofs.Common.{ap, sym, ◌∙◌}
use Rattle.std.proofs.lemmas.Result.{IfOk-weaker}
use Rattle.c_types.specs.Table.{types}
use Rattle.c_meaning.specs.CoreTrees.{line_of, type_of}
use Rattle.c_meaning.specs.Units.{function_seen}
use Rattle.lcc_base.specs.declared.cause.Cause.TheVariants.{CallMismatch}
use Rattle.c_runs.specs.Outcomes.{Undefined}
use Rattle.c_worlds.specs.Programs.{known}
use Rattle.c_worlds.specs.Shown.{shown}
use Rattle.c_entries.specs.Arguments.{arguments_seen}
use Rattle.c_eval.specs.Ends.{OfExpression}
use Rattle.c_eval.specs.Frames.{frames}
use Rattle.c_eval.specs.States.{ends}
use Rattle.c_eval.specs.Steps.{state_of}
use Rattle.c_eval.proofs.Invoking.{built_in_called, function_is_called, nothing_called, reaches_as}
use Rattle.c_eval.proofs.Passes.{end_of}
use Rattle.c_eval.proofs.machine.Machine.make_call.Goals as goal

pub call_function-requires : goal.call_function-requires
call_function-requires c = c.in-Function.ensures.1

pub returns-in-Nothing-clause-reaches : goal.returns-in-Nothing-clause-reaches
returns-in-Nothing-clause-reaches c t e =
    let p = c.args.program.now in
    let m = c.args.self.now in
    let call = c.args.asked.call.now in (
      t,
      e,
      (ap (λ x. state_of p m x t) c.mismatch.ensures
          ∙ sym (ap (λ r. ends p m.world.locals.below (frames m.stack) (OfExpression r)) (nothing_called p c.args.value (known p (type_of call)) (line_of call) c.args.asked.result (arguments_seen p c.args.arguments.now) m.turns (shown m.world t) c.in-Nothing.ensures)
          ∙ end_of p m.world.locals.below (frames m.stack) (Undefined CallMismatch (line_of call)) (shown m.world t))),
    )

pub returns-in-BuiltIn-clause-reaches : goal.returns-in-BuiltIn-clause-reaches
returns-in-BuiltIn-clause-reaches c =
    let p = c.args.program.now in
    let call = c.args.asked.call.now in
    let r = built_in_called p c.args.value c.in-BuiltIn.b (known p (type_of call)) (line_of call) c.args.asked.result (arguments_seen p c.args.arguments.now) c.in-BuiltIn.ensures in
    IfOk-weaker c.call_built_in.result _ _ (λ focus h. reaches_as p c.args.self.now c.call_built_in.new.self _ _ focus (λ k w. ap OfExpression (r.1 k w)) (h r.0)) c.call_built_in.ensures.reaches

pub returns-in-Function-clause-reaches : goal.returns-in-Function-clause-reaches
returns-in-Function-clause-reaches c =
    let p = c.args.program.now in
    let call = c.args.asked.call.now in
    IfOk-weaker c.call_function.result _ _ (λ focus h. reaches_as p c.args.self.now c.call_function.new.self _ _ focus (λ k w. ap OfExpression (function_is_called p c.args.value (function_seen (types p.core.now.types) c.in-Function.f.now) c.in-Function.number (known p (type_of call)) (line_of call) c.args.asked.result (arguments_seen p c.args.arguments.now) k w c.in-Function.ensures.0 c.in-Function.ensures.1)) h) c.call_function.ensures.reaches
