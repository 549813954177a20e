use Rattle.std.proofs.Common.{length, sym, subst}
use Rattle.c_types.specs.Table.{tags}
use Rattle.c_meaning.specs.CoreTrees.{IsIn}
use Rattle.c_unit_ends.proofs.OverTypes.{over_within}
use Rattle.c_unit_ends.proofs.PastPlaces.{value_past}
use Rattle.c_unit_ends.proofs.address_constants.is_past.Goals as goal

pub is_constant-requires : goal.is_constant-requires
is_constant-requires c =
    let n = length c.args.types.now.forms in
    subst (IsIn n) (sym c.in_ok-value-in-None.ensures) (over_within n c.args.objects.now c.args.place.now.value c.requires.objects c.requires.value)

pub returns-in_ok-value-in-None : goal.returns-in_ok-value-in-None
returns-in_ok-value-in-None c =
    value_past (tags c.args.types.now) c.args.types.now c.args.objects.now c.args.place.now c.in_ok-value-in-None.value c.is_constant.result c.in_ok-value-in-None.ensures c.is_constant.ensures c.in-None.ensures.none
