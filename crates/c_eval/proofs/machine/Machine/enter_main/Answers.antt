use Rattle.std.specs.Prelude.{[], refl}
use Rattle.std.proofs.Common.{ap, sym, ◌∙◌, arith}
use Rattle.objects.specs.declared.value.Value.TheVariants.{Pointer}
use Rattle.c_types.specs.Table.{types}
use Rattle.c_meaning.specs.Units.{function_seen}
use Rattle.c_runs.specs.Run.{body_run}
use Rattle.c_eval.specs.States.{own}
use Rattle.c_eval.proofs.Beginning.{entered_begins, main_is, null_begins, with_storage}
use Rattle.c_eval.proofs.machine.Machine.enter_main.Goals as goal

pub returns-then-f-eq0 : goal.returns-then-f-eq0
returns-then-f-eq0 c =
    let p = c.args.program.now in
    let f = function_seen (types p.core.now.types) c.args.f.now in
    entered_begins p f c.main.result [] [] c.args.self.now c.enter.new.self _ c.enter.result c.enter.ensures.enters c.enter.ensures.output c.requires tt
    (λ k w. main_is p f k w c.if-f-eq0.true ∙ ap (λ n. body_run (own p) f n [] k w) (sym c.main.ensures))

pub returns-in_ok-object : goal.returns-in_ok-object
returns-in_ok-object c =
    let p = c.args.program.now in
    let f = function_seen (types p.core.now.types) c.args.f.now in
    null_begins p f c.args.self.now (with_storage c.args.self.now c.make_zeroed.new.self) c.enter_main_with_arguments.new.self _ c.enter_main_with_arguments.result c.in_ok-object.ensures.ok (ap (λ n. Pointer n 0) c.in_ok-object.ensures.name) refl refl refl refl (omega (arith, c.if-f-eq0.false)) c.enter_main_with_arguments.ensures
