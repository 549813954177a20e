use Rattle.std.proofs.Common.{drop, length, map, sym, subst}
use Rattle.c_types.specs.Table.{tags}
use Rattle.c_check_decl.specs.Declares.{defined_in}
use Rattle.c_check_expr.specs.StepFaults.{IsFault}
use Rattle.c_initialisers.specs.FilledPlaces.{ArePlacesIn, filled_place_in}
use Rattle.c_units.specs.Ends.{constants_fault, past_fault}
use Rattle.c_unit_ends.specs.Over.{with_tags}
use Rattle.c_unit_ends.proofs.AtPlaces.{object_at}
use Rattle.c_unit_ends.proofs.FaultsTold.{told_on, told_same}
use Rattle.c_unit_ends.proofs.PastPlaces.{object_told}
use Rattle.c_unit_ends.proofs.address_constants.objects_are_constant.Goals as goal

pub are_constant-requires-clause-list : goal.are_constant-requires-clause-list
are_constant-requires-clause-list c =
    let n = length c.args.types.now.forms in
    subst (ArePlacesIn n) (sym c.as_slice-list.ensures) (object_at n c.args.objects.now c.loop-object.object-index c.object-item.result c.object-item.result c.requires.objects c.loop-object-test.true c.object-item.is).1

pub returns-in_err-are_constant-clause-told : goal.returns-in_err-are_constant-clause-told
returns-in_err-are_constant-clause-told c =
    let t = c.args.types.now in
    let os = c.args.objects.now in
    let s = with_tags (tags t) in
    let all = map (defined_in t) os in
    let i = c.loop-object.object-index in
    let f = c.in_err-are_constant.field-0.0 in
    told_on c.from_residual.result f (constants_fault s all all) c.from_residual.ensures.1
    (told_same f (constants_fault s all (map (defined_in t) (drop i os))) (constants_fault s all all) (sym c.loop-object.invariant)
    (object_told s all t os i c.object-item.result c.loop-object-test.true c.object-item.is f
    (subst (λ ps. IsFault f (past_fault s all (map (filled_place_in t) ps))) c.as_slice-list.ensures c.in_err-are_constant.ensures.told)))
