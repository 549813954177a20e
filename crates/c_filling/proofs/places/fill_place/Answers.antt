use Rattle.std.proofs.Common.{pos, ap, ◌∙◌}
use Rattle.objects.specs.Pointers.{place_after}
use Rattle.c_meaning.specs.declared.filled_place.FilledPlace.{FilledPlace}
use Rattle.c_meaning.specs.CoreTrees.{line_of}
use Rattle.c_worlds.specs.Programs.{setting_of}
use Rattle.c_filling.proofs.FilledPlaces.{place_comes}
use Rattle.c_filling.proofs.places.fill_place.Goals as goal

pub returns-clause-goes : goal.returns-clause-goes
returns-clause-goes c = λ calls.
    place_comes (setting_of c.args.program.now calls) c.args.program.now c.args.place.now c.args.base c.args.value c.in-Some.to _ c.args.world.now c.store_value.new.storage c.store_value.result
    (c.in-Some.ensures ∙ ap (λ (x : FilledPlace). place_after c.args.base (pos x.at.offset)) c.place.view_is)
    (ap (λ (x : FilledPlace). line_of x.value) c.place.view_is)
    (c.store_value.ensures calls)
