use Rattle.std.proofs.Common.{ap, sym, ◌∙◌}
use Rattle.c_types.specs.Table.{types}
use Rattle.c_meaning.specs.Units.{function_seen}
use Rattle.c_runs.specs.Run.{body_run, main_arguments}
use Rattle.c_eval.specs.States.{own}
use Rattle.c_eval.proofs.Beginning.{entered_begins, main_fits_call, main_passed, passed_to_main}
use Rattle.c_eval.proofs.machine.Machine.enter_main_with_arguments.Goals as goal

pub returns : goal.returns
returns c =
    let p = c.args.program.now in
    let f = function_seen (types p.core.now.types) c.args.f.now in
    entered_begins p f c.main.result (main_passed c.args.place) (main_arguments c.args.place) c.args.self.now c.enter.new.self _ c.enter.result c.enter.ensures.enters c.enter.ensures.output c.requires (passed_to_main c.args.place)
    (λ k w. main_fits_call p f c.args.place k w (sym (c.if-not-main_fits.ensures c.args.place)) ∙ ap (λ n. body_run (own p) f n (main_arguments c.args.place) k w) (sym c.main.ensures))
