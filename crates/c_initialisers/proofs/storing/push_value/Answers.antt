use Rattle.std.proofs.Common.{length, subst, sym}
use Rattle.c_values.specs.Stays.{in_later}
use Rattle.c_initialisers.specs.StoresStay.{stores_later, stores_pushed}
use Rattle.c_initialisers.specs.Storing.{AreStoredIn}
use Rattle.c_initialisers.proofs.Stores.{one_stored, value_stored}
use Rattle.c_initialisers.proofs.storing.push_value.Goals as goal

pub passed_to-requires-clause-v : goal.passed_to-requires-clause-v
passed_to-requires-clause-v c = in_later c.args.types.now c.qualified.new.self c.qualified.ensures.grows.extends c.args.v c.requires.within

pub returns-clause-stored : goal.returns-clause-stored
returns-clause-stored c =
    let a = c.args.types.now in
    let d = c.qualified.new.self in
    let h = c.qualified.ensures.grows.extends in
    one_stored a d h c.args.places.now.items c.push.new.self.items _ _ c.requires.places c.in_ok-push.ensures.items (value_stored a d h c.args.at c.args.v c.in_ok-value.value c.in_ok-of.of c.requires.within c.in_ok-of.ensures.means c.in_ok-value.ensures.means)

pub returns-clause-within : goal.returns-clause-within
returns-clause-within c =
    let a = c.args.types.now in
    let d = c.qualified.new.self in
    let ps = c.args.places.now.items in
    subst (AreStoredIn (length d.forms)) (sym c.in_ok-push.ensures.items) (stores_pushed (length d.forms) ps _ (stores_later a d c.qualified.ensures.grows.extends ps c.requires.places) (c.in_ok-of.ensures.within, c.in_ok-value.ensures.within))
