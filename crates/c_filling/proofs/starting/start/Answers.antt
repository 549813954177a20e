use Rattle.std.proofs.Common.{[], map, ◌∙◌}
use Rattle.c_runs.specs.Run.{filled_from}
use Rattle.c_worlds.specs.declared.world.World.{World}
use Rattle.c_worlds.specs.Programs.{setting_of}
use Rattle.c_filling.proofs.Started.{sees, start_stops, started_is}
use Rattle.c_filling.proofs.starting.start.Goals as goal

pub returns-in_err-fill_objects-clause-starts : goal.returns-in_err-fill_objects-clause-starts
returns-in_err-fill_objects-clause-starts c =
    let old : World = record { storage = c.make_texts.new.storage; locals = c.new-2.result; input = c.args.input; output = c.new-3.result } in
    start_stops c.args.program.now c.args.input.now (λ calls k w. filled_from (setting_of c.args.program.now calls) 0 (map (sees c.args.program.now) c.objects-2.result.now) k w) old c.fill_objects.new.world c.from_residual-in_err-fill_objects.result c.in_err-fill_objects.field-0.0 c.from_residual-in_err-fill_objects.ensures.1
    (λ calls k. started_is calls c.args.program.now c.args.input.now c.types.result.now c.objects.result.now c.objects-2.result.now c.texts.result.now c.new.result c.make_objects.new.storage c.make_texts.new.storage c.new-2.result k c.new.ensures.objects c.new.ensures.made c.types.ensures c.objects.ensures.value c.objects-2.ensures.value c.texts.ensures.value c.new-2.ensures c.in_ok-make_objects.ensures c.in_ok-make_texts.ensures)
    c.in_err-fill_objects.ensures.goes

pub returns-clause-starts : goal.returns-clause-starts
returns-clause-starts c = λ calls k. started_is calls c.args.program.now c.args.input.now c.types.result.now c.objects.result.now c.objects-2.result.now c.texts.result.now c.new.result c.make_objects.new.storage c.make_texts.new.storage c.new-2.result k c.new.ensures.objects c.new.ensures.made c.types.ensures c.objects.ensures.value c.objects-2.ensures.value c.texts.ensures.value c.new-2.ensures c.in_ok-make_objects.ensures c.in_ok-make_texts.ensures ∙ c.in_ok-fill_objects.ensures.goes calls k []
