use Rattle.std.proofs.Common.{◌≡◌, drop, map}
use Rattle.c_types.specs.Table.{tags}
use Rattle.c_check_decl.specs.Declares.{defined_in}
use Rattle.c_units.specs.Ends.{constants_fault}
use Rattle.c_unit_ends.specs.Over.{with_tags}
use Rattle.c_unit_ends.proofs.address_constants.objects_are_constant.Given as goal

abbrev pub invariant-loop-object : goal.invariant-loop-object
invariant-loop-object l =
    constants_fault (with_tags (tags l.types)) (map (defined_in l.types) l.objects) (map (defined_in l.types) (drop l.object-index l.objects))
    ≡ constants_fault (with_tags (tags l.types)) (map (defined_in l.types) l.objects) (map (defined_in l.types) l.objects)
