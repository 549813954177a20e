-- What stays when a table grows: what was stored before.
use Rattle.std.proofs.Common.{◌≡◌, ℕ, ◌≤◌, List, [], ◌∷◌, ◌++◌, map, length, refl, arith}
use Rattle.c_types.specs.Table.{Table, Extends}
use Rattle.c_values.specs.Stays.{in_more, longer, seen_stays}
use Rattle.c_initialisers.specs.declared.stored.Stored.{Stored}
use Rattle.c_initialisers.specs.Storing.{AreStoredIn, IsStoredIn, stored_in}

pub stored_stays : (a b : Table) → Extends a b → (p : Stored) → IsStoredIn (length a.forms) p → stored_in b p ≡ stored_in a p
stored_stays a b h p i = rw (h.types_stay p.of i.0, seen_stays a b h p.value i.1) refl

-- what is stored is seen the same over the later table
pub stores_stay : (a b : Table) → Extends a b → (ps : List Stored) → AreStoredIn (length a.forms) ps → map (stored_in b) ps ≡ map (stored_in a) ps
stores_stay a b h [] i = refl
stores_stay a b h (p ∷ ps) i = rw (stored_stays a b h p i.0, stores_stay a b h ps i.1) refl

pub stored_in_more : (n m : ℕ) → n ≤ m → (p : Stored) → IsStoredIn n p → IsStoredIn m p
stored_in_more n m l p i = (let b = i.0 in omega arith, in_more n m l p.value i.1)

pub stores_in_more : (n m : ℕ) → n ≤ m → (ps : List Stored) → AreStoredIn n ps → AreStoredIn m ps
stores_in_more n m l [] i = tt
stores_in_more n m l (p ∷ ps) i = (stored_in_more n m l p i.0, stores_in_more n m l ps i.1)

pub stores_later : (a b : Table) → Extends a b → (ps : List Stored) → AreStoredIn (length a.forms) ps → AreStoredIn (length b.forms) ps
stores_later a b h ps i = stores_in_more (length a.forms) (length b.forms) (longer a b h) ps i

-- one more at the end
pub stores_pushed : (n : ℕ) (ps : List Stored) (p : Stored) → AreStoredIn n ps → IsStoredIn n p → AreStoredIn n (ps ++ p ∷ [])
stores_pushed n [] p i j = (j, tt)
stores_pushed n (q ∷ ps) p i j = (i.0, stores_pushed n ps p i.1 j)
