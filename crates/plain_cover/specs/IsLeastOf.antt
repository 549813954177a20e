-- The least of a set, or that the set is empty.
use Rattle.std.specs.Prelude.{◌≡◌, Option, Some, None}
use Rattle.plain_cover.specs.declared.plain.Found.{Found}
use Rattle.plain_cover.specs.Less.{Upto}

abbrev pub IsLeastOf : {X : Type 0} → (X → Found) → (X → Type 0) → Option Found → Type 0
IsLeastOf {X} told P None = (x : X) → P x → ⊥
IsLeastOf {X} told P (Some f) = (x : X) × P x × (f ≡ told x) × ((y : X) → P y → Upto f (told y))
