use Rattle.std.proofs.Common.{List, map, subst}
use Rattle.c_types.specs.Table.{type_in, types}
use Rattle.c_meaning.specs.declared.core_unit.CoreObject.{CoreObject}
use Rattle.c_meaning.specs.Each.{EachIs}
use Rattle.c_meaning.specs.Units.{object_seen}
use Rattle.c_wholes.specs.Numbering.{PlacesHaveWords}
use Rattle.c_units.specs.Wholes.{ObjectHasWords}
use Rattle.c_wholes.proofs.NumberTrees.{onward, places_words}
use Rattle.c_wholes.proofs.numbers.read_objects.Goals as goal

pub loop-o-preserved : goal.loop-o-preserved
loop-o-preserved c =
    let l = c.loop-o in
    λ t h. l.invariant t
    (onward c.args.objects.now l.o-index c.o-item.result c.loop-o-test.true c.o-item.is (λ (os : List CoreObject). EachIs ObjectHasWords (map (object_seen (types t)) os))
    (places_words (type_in (types t)) c.o-item.result.places (subst PlacesHaveWords c.as_slice.ensures c.read_places.ensures), h))
