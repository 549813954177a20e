use Rattle.c_match_objects.proofs.lemmas.Lifetimes.{held_by_same_homes, homes_begin, leaving_goes_on, object_begins, private_is_apart, slot_holds, flags_stay, objects_end}
use Rattle.c_match_objects.proofs.laws.lifetimes_go.Goals as goal

pub returns-clause-homes : goal.returns-clause-homes
returns-clause-homes c = held_by_same_homes

pub returns-clause-further : goal.returns-clause-further
returns-clause-further c = homes_begin

pub returns-clause-left : goal.returns-clause-left
returns-clause-left c = leaving_goes_on

pub returns-clause-begun : goal.returns-clause-begun
returns-clause-begun c = λ map old objects x range h none in_home far. object_begins map old objects x range h none in_home far

pub returns-clause-private : goal.returns-clause-private
returns-clause-private c = private_is_apart

pub returns-clause-slots : goal.returns-clause-slots
returns-clause-slots c = slot_holds

pub returns-clause-flags : goal.returns-clause-flags
returns-clause-flags c = flags_stay

pub returns-clause-ended : goal.returns-clause-ended
returns-clause-ended c = objects_end
