use Rattle.std.proofs.Common.{◌∙◌}
use Rattle.c_meaning.specs.Units.{unit_seen}
use Rattle.c_types.specs.Table.{types}
use Rattle.lowered_data.proofs.lemmas.Filling.{just_made, objects_still, stands_alone}
use Rattle.lowered_data.proofs.laws.start_stands_alone.Goals as goal

pub returns : goal.returns
returns c = λ u order w h e.
    let still = objects_still (types u.types) u.objects ∙ h in
    (stands_alone (unit_seen u) order w still e, just_made (unit_seen u) order w still e)
