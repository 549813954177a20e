-- The order of derivations by what is told of them.
use Rattle.std.specs.Prelude.{◌≡◌, ◌<◌, ◌⊎◌, Option, Some, None}
use Rattle.lburg_model.specs.Best.{Earlier}
use Rattle.plain_cover.specs.declared.plain.Found.{Found}

-- smaller by cost, at equal cost by count, and at equal count by the first difference of the numbers
pub data Less (f g : Found) : Type 0 where
  ByCost : f.cost < g.cost → Less f g
  ByCount : f.cost ≡ g.cost → f.count < g.count → Less f g
  ByNumbers : f.cost ≡ g.cost → f.count ≡ g.count → Earlier f.numbers g.numbers → Less f g

abbrev pub Upto : Found → Found → Type 0
Upto f g = (f ≡ g) ⊎ Less f g

-- the second only where it is smaller
abbrev pub IsLesser : Option Found → Option Found → Option Found → Type 0
IsLesser None other chosen = chosen ≡ other
IsLesser (Some f) None chosen = chosen ≡ Some f
IsLesser (Some f) (Some g) chosen = (Less g f × (chosen ≡ Some g)) ⊎ ((Less g f → ⊥) × (chosen ≡ Some f))
