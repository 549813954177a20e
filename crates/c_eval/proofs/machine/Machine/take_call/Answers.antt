use Rattle.std.specs.Prelude.{◌≡◌, ◌∷◌, ◌++◌, reverse}
use Rattle.std.proofs.Common.{ap, sym, ◌∙◌}
use Rattle.c_entries.specs.Arguments.{argument_seen, arguments_seen}
use Rattle.c_eval.specs.declared.frame.Frame.TheVariants as on
use Rattle.c_eval.specs.Frames.{frames}
use Rattle.c_eval.specs.Stacks.{called, passed}
use Rattle.c_eval.specs.States.{ends}
use Rattle.c_eval.proofs.Calling.{reversed_alike}
use Rattle.c_eval.proofs.machine.Machine.take_call.Goals as goal

pub returns-in-Some-Called-clause-taken : goal.returns-in-Some-Called-clause-taken
returns-in-Some-Called-clause-taken c p =
    let top : frames c.passed.self.stack ≡ on.Called c.in-Some-Called.call c.in-Some-Called.value ∷ frames c.pop.new.self = rw c.in-Some-Called.field-0-is at c.in-Some-Called.ensures.some in (
      sym c.passed.invariant.called ∙ ap called top,
      (
        ap (arguments_seen p) c.reverse.ensures.items ∙ reversed_alike (argument_seen p) c.passed.arguments.items ∙ sym (c.passed.invariant.passed p ∙ ap (λ fs. passed p fs ++ reverse (arguments_seen p c.passed.arguments.items)) top),
        λ below came. sym (ap (λ fs. ends p below fs came) top) ∙ c.passed.invariant.rest p below came,
      ),
    )
