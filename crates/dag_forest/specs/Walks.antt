-- How often the nodes are used, by one walk over the acts from the last one on.
use Rattle.std.specs.Prelude.{ℕ, ◌+◌, nat_lt, ◌&&◌, Bool, true, false, List, [], ◌∷◌, ◌++◌, get_or, set, if◌then◌else◌}
use Rattle.dag_forest.specs.declared.kids.Kids.{Kids}
use Rattle.dag_forest.specs.declared.kids.Kids.TheVariants.{Zero, One, Two}
use Rattle.dag_forest.specs.declared.uses.Step.{Step}
use Rattle.dag_forest.specs.declared.uses.Times.{Times}
use Rattle.dag_forest.specs.declared.uses.Times.TheVariants.{Never, Once, More}
use Rattle.dag_forest.specs.declared.uses.Use.{Use}
use Rattle.dag_forest.specs.Schedules.{Act, Made, Acts, kids_of}
use Rattle.dag_forest.specs.Choice.{counts, times_of, late, ends_stretch, root_kids, is_last, is_once, is_handed}

-- the step of an act before these
abbrev pub step_before : Act → List Act → Step
step_before (Made n x) as' = record { act = Made n x; times = times_of (counts as' n); late = late as' n; handed = is_handed as' n }
step_before (Acts x) as' = record { act = Acts x; times = Once; late = false; handed = false }

abbrev pub steps_of : List Act → List Step
steps_of [] = []
steps_of (a ∷ as') = step_before a as' ∷ steps_of as'

abbrev pub no_use : Use
no_use = record { times = Never; ends = 0 }

-- in front of a root of these operands, or of anything else
abbrev pub step_of : List Use → ℕ → Kids → Act → Step
step_of uses ends next (Made n x) = record {
  act = Made n x;
  times = (get_or uses n no_use).times;
  late = nat_lt (get_or uses n no_use).ends ends;
  handed = is_last n next && is_once (get_or uses n no_use).times;
}
step_of uses ends next (Acts x) = record { act = Acts x; times = Once; late = false; handed = false }

abbrev pub is_never : Times → Bool
is_never Never = true
is_never Once = false
is_never More = false

abbrev pub unused : Step → Bool
unused s = is_never s.times

abbrev pub used_more : ℕ → Times → ℕ → Use
used_more ends Never e = record { times = Once; ends = ends }
used_more ends Once e = record { times = More; ends = e }
used_more ends More e = record { times = More; ends = e }

abbrev pub noted : ℕ → ℕ → List Use → List Use
noted ends node uses = set uses node (used_more ends (get_or uses node no_use).times (get_or uses node no_use).ends)

abbrev pub noted_kids : ℕ → Kids → List Use → List Use
noted_kids ends Zero uses = uses
noted_kids ends (One a) uses = noted ends a uses
noted_kids ends (Two a c) uses = noted ends c (noted ends a uses)

abbrev pub ends_before : Act → ℕ → ℕ
ends_before a ends = if ends_stretch a then ends + 1 else ends

-- from the last act on, behind the steps that are known
abbrev pub walk : List Act → List Use → ℕ → Kids → List Step → List Step
walk [] uses ends next done = done
walk (a ∷ as') uses ends next done =
    if unused (step_of uses ends next a) then walk as' uses ends next done
    else walk as' (noted_kids (ends_before a ends) (kids_of a) uses) (ends_before a ends) (root_kids a) (done ++ step_of uses ends next a ∷ [])
