use Rattle.c_agreement.proofs.lemmas.Ahead.{coming_is_ahead, ends_are_alike, coming_suffices}
use Rattle.c_agreement.proofs.lemmas.Turns.{turns_suffice}
use Rattle.c_agreement.proofs.laws.coming_is_ahead.Goals as goal

pub returns-clause-behind : goal.returns-clause-behind
returns-clause-behind c = coming_is_ahead

pub returns-clause-ends : goal.returns-clause-ends
returns-clause-ends c = ends_are_alike

pub returns-clause-suffices : goal.returns-clause-suffices
returns-clause-suffices c = coming_suffices

pub returns-clause-turns : goal.returns-clause-turns
returns-clause-turns c = turns_suffice
