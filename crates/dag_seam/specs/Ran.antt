-- How runs of blocks end.
use Rattle.std.specs.Prelude.{◌≡◌, ℕ}
use Rattle.forests.specs.Words.{Word}
use Rattle.dag_forest.specs.Meaning.{Ran, Through, Jumps, Ends, Exited, Out}

-- nothing behind it is done
abbrev pub IsOver : Ran → Type 0
IsOver (Through values p) = ⊥
IsOver (Jumps l p) = Unit {0}
IsOver (Ends v p) = Unit {0}
IsOver (Exited status w) = Unit {0}
IsOver (Out w) = Unit {0}

-- the second is the first one, but for the values of nodes outside of these
abbrev pub IsOn : (ℕ → Type 0) → Ran → Ran → Type 0
IsOn P (Through values p) r = (others : ℕ → Word) × (r ≡ Through others p) × ((m : ℕ) → P m → others m ≡ values m)
IsOn P (Jumps l p) r = r ≡ Jumps l p
IsOn P (Ends v p) r = r ≡ Ends v p
IsOn P (Exited status w) r = r ≡ Exited status w
IsOn P (Out w) r = r ≡ Out w
