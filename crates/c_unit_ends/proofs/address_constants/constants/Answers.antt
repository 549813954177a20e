use Rattle.std.proofs.Common.{map, ◌∙◌}
use Rattle.std.proofs.lemmas.Result.{IfErr-weaker, on_ok_weaker}
use Rattle.c_types.specs.Table.{tags}
use Rattle.c_check_decl.specs.Declares.{defined_in}
use Rattle.c_unit_ends.proofs.FaultsTold.{told_same}
use Rattle.c_unit_ends.proofs.PastPlaces.{constants_same}
use Rattle.c_unit_ends.proofs.address_constants.constants.Goals as goal

pub returns-clause-sound : goal.returns-clause-sound
returns-clause-sound c = λ s e.
    let all = map (defined_in c.args.types.now) c.args.parts.now.objects in
    on_ok_weaker c.objects_are_constant.result (λ h. constants_same s (tags c.args.types.now) e all all ∙ h) (rw c.as_slice-objects.ensures at c.objects_are_constant.ensures.sound)

pub returns-clause-told : goal.returns-clause-told
returns-clause-told c = λ s e.
    let all = map (defined_in c.args.types.now) c.args.parts.now.objects in
    IfErr-weaker c.objects_are_constant.result _ _ (λ f h. told_same f _ _ (constants_same s (tags c.args.types.now) e all all) h) (rw c.as_slice-objects.ensures at c.objects_are_constant.ensures.told)
