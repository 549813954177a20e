-- The faults of forests: which root is the first bad one, and what is wrong there. A root that is bad in one way isn't
-- told of those behind it in the order arities, kinds, labels, slots.
use Rattle.std.specs.Prelude.{◌≡◌, ℕ, suc, Option, Some, None, List, take, drop, slice_get}
use Rattle.op_forest.specs.declared.forest.Forest.{Forest}
use Rattle.op_forest.specs.declared.frame.Slot.{Slot as Slots}
use Rattle.op_forest.specs.Nodes.{Node}
use Rattle.forests.specs.declared.forest_fault.ForestFault.{ForestFault}
use Rattle.forests.specs.declared.forest_fault.ForestFault.TheVariants.{Arity, Kind, Label, Slot, Memory}
use Rattle.forests.specs.FirstPlaces.{HasPlaces}
use Rattle.forests.specs.WellFormed.{HasArities, IsTaken, IsFit, HasLabels, HasSlots, AreGood}

-- an operator has another number of operands
abbrev pub LacksArity : Forest → ℕ → Node → Type 0
LacksArity f place t = ¬ HasArities t

-- the operators have their operands, and one of these, a symbol, a constant or the call of an argument is wrong
pub record LacksKind (f : Forest) (place : ℕ) (t : Node) : Type 0 where
  pub arities : HasArities t
  pub unfit : ¬ IsFit t (IsTaken (drop (suc place) f.roots))

-- all is as it should be, but the label that it jumps to, or that it is
pub record LacksLabel (f : Forest) (place : ℕ) (t : Node) : Type 0 where
  pub arities : HasArities t
  pub fit : IsFit t (IsTaken (drop (suc place) f.roots))
  pub astray : ¬ HasLabels f.roots (take place f.roots) t

-- all is as it should be, but a local
pub record LacksSlot (f : Forest) (place : ℕ) (t : Node) : Type 0 where
  pub arities : HasArities t
  pub fit : IsFit t (IsTaken (drop (suc place) f.roots))
  pub labels : HasLabels f.roots (take place f.roots) t
  pub outside : ¬ HasSlots f.frame t

-- the root at this place is bad in this way, and those before it are good
pub record IsFirst (f : Forest) (Bad : Forest → ℕ → Node → Type 0) (place : ℕ) : Type 0 where
  pub root : Node
  pub there : slice_get f.roots place ≡ Some root
  pub bad : Bad f place root
  pub before : AreGood f 0 place

-- what is told is so; memory may be refused to any forest
abbrev pub IsFaultOf : Forest → ForestFault → Type 0
IsFaultOf f (Arity root) = IsFirst f LacksArity root
IsFaultOf f (Kind root) = IsFirst f LacksKind root
IsFaultOf f (Label root) = IsFirst f LacksLabel root
IsFaultOf f (Slot root) = IsFirst f LacksSlot root
IsFaultOf f Memory = Unit {0}

-- What is told of one root alone, at its place, where `taken` says that its arguments are taken, by the frame's slots and
-- the places of labels. Without a fault it is good.
abbrev pub IsRootAnswer : List Slots → (ℕ → Option ℕ) → ℕ → Node → Type 0 → Option ForestFault → Type 0
IsRootAnswer slots places place t taken None = HasArities t × IsFit t taken × HasPlaces places place t × HasSlots slots t
IsRootAnswer slots places place t taken (Some (Arity root)) = (root ≡ place) × (¬ HasArities t)
IsRootAnswer slots places place t taken (Some (Kind root)) = (root ≡ place) × HasArities t × (¬ IsFit t taken)
IsRootAnswer slots places place t taken (Some (Label root)) = (root ≡ place) × HasArities t × IsFit t taken × (¬ HasPlaces places place t)
IsRootAnswer slots places place t taken (Some (Slot root)) = (root ≡ place) × HasArities t × IsFit t taken × HasPlaces places place t × (¬ HasSlots slots t)
IsRootAnswer slots places place t taken (Some Memory) = ⊥
