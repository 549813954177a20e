use Rattle.std.proofs.Common.{length, subst, sym}
use Rattle.c_initialisers.specs.StoresStay.{stores_later, stores_pushed}
use Rattle.c_initialisers.specs.Storing.{AreStoredIn}
use Rattle.c_values.specs.Stays.{in_later}
use Rattle.c_initialisers.proofs.Stores.{one_stored, text_stored}
use Rattle.c_initialisers.proofs.storing.store_text.Goals as goal

pub returns-clause-stored : goal.returns-clause-stored
returns-clause-stored c =
    let a = c.args.types.now in
    let d = c.text_array.new.types in
    let h = c.text_array.ensures.grows.extends in
    one_stored a d h c.args.places.now.items c.push.new.self.items _ _ c.requires.places c.in_ok-push.ensures.items (text_stored a d h c.args.at c.args.c c.in_ok-of.of _ c.requires.within c.requires.text c.bytes.ensures c.in_ok-of.ensures.means)

pub returns-clause-within : goal.returns-clause-within
returns-clause-within c =
    let a = c.args.types.now in
    let d = c.text_array.new.types in
    let h = c.text_array.ensures.grows.extends in
    let ps = c.args.places.now.items in
    subst (AreStoredIn (length d.forms)) (sym c.in_ok-push.ensures.items) (stores_pushed (length d.forms) ps _ (stores_later a d h ps c.requires.places) (c.in_ok-of.ensures.within, in_later a d h c.args.c c.requires.within))
