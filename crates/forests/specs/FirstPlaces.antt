-- The place of the first root that is a label, and what a root's labels are by such places.
use Rattle.std.specs.Prelude.{◌≡◌, ℕ, suc, ◌==◌, Option, Some, None, IsSome, List, [], ◌∷◌, if◌then◌else◌}
use Rattle.op_forest.specs.Nodes.{Node}
use Rattle.op_forest.specs.Labels.{label_of}
use Rattle.forests.specs.WellFormed.{target_of}

abbrev pub first_by : Option ℕ → ℕ → ℕ → Option ℕ → Option ℕ
first_by None l from later = later
first_by (Some k) l from later = if k == l then Some from else later

-- the place of the first of these roots that is the label, where their places count from one on
abbrev pub first_place : ℕ → List Node → ℕ → Option ℕ
first_place from [] l = None
first_place from (t ∷ ts) l = first_by (label_of t) l from (first_place (suc from) ts l)

-- these are the places of labels
abbrev pub AreFirst : ℕ → List Node → (ℕ → Option ℕ) → Type 0
AreFirst from roots places = (l : ℕ) → places l ≡ first_place from roots l

-- a root jumps to a label that has a place
abbrev pub HasTarget : (ℕ → Option ℕ) → Node → Type 0
HasTarget places t = (l : ℕ) → target_of t ≡ Some l → IsSome (places l)

-- the root at a place is no label that has another place
abbrev pub StandsFirst : (ℕ → Option ℕ) → ℕ → Node → Type 0
StandsFirst places place t = (l : ℕ) → label_of t ≡ Some l → places l ≡ Some place

pub record HasPlaces (places : ℕ → Option ℕ) (place : ℕ) (t : Node) : Type 0 where
  pub target : HasTarget places t
  pub once : StandsFirst places place t
