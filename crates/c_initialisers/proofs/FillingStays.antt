-- What a list has stored, and what waits behind it, stays when a table is extended.
use Rattle.std.proofs.Common.{◌≡◌, length, refl}
use Rattle.c_types.specs.Definitions.{AreComplete}
use Rattle.c_types.specs.Table.{Table, Extends, tags}
use Rattle.c_initialisers.specs.declared.stored.Filling.{Filling}
use Rattle.c_initialisers.specs.Storing.{IsFillingIn, filling_in}
use Rattle.c_initialisers.specs.StoresStay.{stores_later, stores_stay}
use Rattle.c_initialisers.specs.Waiting.{AreEntriesIn}
use Rattle.c_initialisers.proofs.WaitsStay.{waiting_stays}

pub filling_stays : (a b : Table) → Extends a b → AreComplete (tags b) → (f : Filling) → IsFillingIn (length a.forms) f → AreEntriesIn a f.waits.items → filling_in b f ≡ filling_in a f
filling_stays a b h k f i e = rw (stores_stay a b h f.places.items i.places, waiting_stays a b h k f.waits.items e) refl

pub filling_later : (a b : Table) → Extends a b → (f : Filling) → IsFillingIn (length a.forms) f → IsFillingIn (length b.forms) f
filling_later a b h f i = record { places = stores_later a b h f.places.items i.places }
