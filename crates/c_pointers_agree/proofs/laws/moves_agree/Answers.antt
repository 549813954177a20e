use Rattle.c_pointers_agree.proofs.lemmas.Moves.{elements_move, either_side_moves, member_agrees}
use Rattle.c_pointers_agree.proofs.lemmas.Names.{name_stands, live_stays, name_moves_on}
use Rattle.c_pointers_agree.proofs.lemmas.Slots.{slot_stands, slot_moves, argument_stands}
use Rattle.c_pointers_agree.proofs.laws.moves_agree.Goals as goal

pub returns-clause-elements : goal.returns-clause-elements
returns-clause-elements c = elements_move

pub returns-clause-sides : goal.returns-clause-sides
returns-clause-sides c = either_side_moves

pub returns-clause-members : goal.returns-clause-members
returns-clause-members c = member_agrees

pub returns-clause-names : goal.returns-clause-names
returns-clause-names c = name_stands

pub returns-clause-live : goal.returns-clause-live
returns-clause-live c = live_stays

pub returns-clause-behind : goal.returns-clause-behind
returns-clause-behind c = name_moves_on

pub returns-clause-slots : goal.returns-clause-slots
returns-clause-slots c = slot_stands

pub returns-clause-further : goal.returns-clause-further
returns-clause-further c = slot_moves

pub returns-clause-arguments : goal.returns-clause-arguments
returns-clause-arguments c = argument_stands
