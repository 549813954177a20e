use Rattle.c_meaning.proofs.Copies.{copies_are_locals, copies_are_apart}
use Rattle.c_meaning.proofs.laws.copies_have_locals.Goals as goal

pub returns-clause-types : goal.returns-clause-types
returns-clause-types c = copies_are_locals

pub returns-clause-places : goal.returns-clause-places
returns-clause-places c = copies_are_apart
