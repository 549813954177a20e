-- A search that finds the one thing of a kind, or tells that there is none.
use Rattle.std.specs.Prelude.{Option, Some, None}

abbrev pub IsFound : {X : Type 0} → (X → Type 0) → Option X → Type 0
IsFound P (Some x) = P x
IsFound {X} P None = (x : X) → P x → ⊥
