use Rattle.std.proofs.Common.{false}
use Rattle.dag_forest.specs.Schedules.{acts_of}
use Rattle.dag_forest.proofs.lemmas.Chosen.{apart, between}
use Rattle.dag_seam.proofs.lemmas.Rooms.{few_rooms}
use Rattle.dag_seam.proofs.lemmas.RoomCauses.{call_has_room, room_has_cause, handed_has_none, once_has_none, room_has_kind, kept_is_made}
use Rattle.dag_seam.proofs.laws.rooms_are_needed.Goals as goal

pub returns-clause-calls : goal.returns-clause-calls
returns-clause-calls c = call_has_room

pub returns-clause-causes : goal.returns-clause-causes
returns-clause-causes c = room_has_cause

pub returns-clause-handed : goal.returns-clause-handed
returns-clause-handed c = handed_has_none

pub returns-clause-once : goal.returns-clause-once
returns-clause-once c = once_has_none

pub returns-clause-kinds : goal.returns-clause-kinds
returns-clause-kinds c = room_has_kind

pub returns-clause-made : goal.returns-clause-made
returns-clause-made c = kept_is_made

pub returns-clause-below : goal.returns-clause-below
returns-clause-below c es n r e = (between (acts_of es) (λ m. false) 0 n r e).1

pub returns-clause-apart : goal.returns-clause-apart
returns-clause-apart c es = apart (acts_of es) (λ m. false) 0

pub returns-clause-few : goal.returns-clause-few
returns-clause-few c = few_rooms
