-- The places of names' symbols stay below a greater number.
use Rattle.std.proofs.Common.{◌≤◌, ℕ, List, [], ◌∷◌, arith}
use Rattle.c_symbols.specs.Scoping.{AreAllBelow, AreBelow}

pub below_more : (n m : ℕ) → n ≤ m → (ns : List (List ℕ × ℕ)) → AreBelow n ns → AreBelow m ns
below_more n m l [] h = tt
below_more n m l (x ∷ ns) h = ((let k = h.0 in omega (arith, k, l)), below_more n m l ns h.1)

pub all_below_more : (n m : ℕ) → n ≤ m → (ss : List (List (List ℕ × ℕ))) → AreAllBelow n ss → AreAllBelow m ss
all_below_more n m l [] h = tt
all_below_more n m l (s ∷ ss) h = (below_more n m l s h.0, all_below_more n m l ss h.1)
