use Rattle.std.proofs.Common.{◌∙◌}
use Rattle.c_meaning.specs.Units.{unit_seen}
use Rattle.c_runs.specs.Run.{call}
use Rattle.c_types.specs.Table.{types}
use Rattle.lowered_data.proofs.lemmas.Filling.{objects_still}
use Rattle.lowered_data.proofs.lemmas.Sound.{start_sound}
use Rattle.lowered_data.proofs.laws.start_is_sound.Goals as goal

pub returns : goal.returns
returns c = λ u order w whole h e.
    let laws = c.runs_stay_sound.ensures in
    start_sound laws.runs laws.statements (unit_seen u) order (laws.units (unit_seen u) whole.unit) w (objects_still (types u.types) u.objects ∙ h) (e (λ k a. call (unit_seen u) order k a) 0)
