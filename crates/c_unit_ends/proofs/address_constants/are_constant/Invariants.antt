use Rattle.std.proofs.Common.{◌≡◌, drop, map}
use Rattle.c_types.specs.Table.{tags}
use Rattle.c_check_decl.specs.Declares.{defined_in}
use Rattle.c_initialisers.specs.FilledPlaces.{filled_place_in}
use Rattle.c_units.specs.Ends.{past_fault}
use Rattle.c_unit_ends.specs.Over.{with_tags}
use Rattle.c_unit_ends.proofs.address_constants.are_constant.Given as goal

abbrev pub invariant-loop-place : goal.invariant-loop-place
invariant-loop-place l =
    past_fault (with_tags (tags l.types)) (map (defined_in l.types) l.objects) (map (filled_place_in l.types) (drop l.place-index l.list))
    ≡ past_fault (with_tags (tags l.types)) (map (defined_in l.types) l.objects) (map (filled_place_in l.types) l.list)
