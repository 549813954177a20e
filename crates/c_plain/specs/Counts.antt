-- How many parts there are.
use Rattle.std.specs.Prelude.{ℕ, suc}
use Rattle.c_meaning.specs.CoreTrees.{CoresOf, NoCore, Cores}

abbrev pub count : {T : Type 0} → CoresOf T → ℕ
count NoCore = 0
count (Cores c cs) = suc (count cs)
