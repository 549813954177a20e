-- The limits of the lowering, and which of them is the first that a unit passes.
-- Source: the profile of this compiler (limits of frames, data and nodes).
use Rattle.std.specs.Prelude.{◌≡◌, ◌<◌, ◌≤◌, ◌⊎◌, ℕ, Some, List, map, take, slice_get}
use Rattle.c_meaning.specs.Each.{EachIs}
use Rattle.c_meaning.specs.Units.{UnitTree}
use Rattle.c_runs.specs.Counts.{node_count, frame_count, data_count}
use Rattle.lowering_limits.specs.declared.lower_fault.LowerFault.{LowerFault}
use Rattle.lowering_limits.specs.declared.lower_fault.LowerFault.TheVariants as fault

-- bytes of a frame, and nodes of a function
abbrev pub most : ℕ
most = 1048576

-- bytes of objects and texts
abbrev pub most_data : ℕ
most_data = 16777216

abbrev pub frame_counts : UnitTree → List ℕ
frame_counts u = map (frame_count u.tags) u.functions

abbrev pub node_counts : UnitTree → List ℕ
node_counts u = map node_count u.functions

-- ---- of numbers

-- none is above a limit
abbrev pub AreAtMost : ℕ → List ℕ → Type 0
AreAtMost limit ns = EachIs (λ n. n ≤ limit) ns

-- the first that is above it, by its place
pub record IsFirstAbove (limit : ℕ) (ns : List ℕ) (place n : ℕ) : Type 0 where
  pub is : slice_get ns place ≡ Some n
  pub above : limit < n
  pub before : AreAtMost limit (take place ns)

-- ---- of units

-- each limit is kept
pub record IsWithin (u : UnitTree) : Type 0 where
  pub frames : AreAtMost most (frame_counts u)
  pub bytes : data_count u ≤ most_data
  pub nodes : AreAtMost most (node_counts u)

-- what is told of frames, of data and of nodes; of memory nothing is said
abbrev pub PassesFrame : List ℕ → LowerFault → Type 0
PassesFrame frames (fault.FrameLimit function bytes) = IsFirstAbove most frames function bytes
PassesFrame frames (fault.DataLimit bytes) = ⊥
PassesFrame frames fault.Memory = Unit {0}
PassesFrame frames (fault.NodeLimit function nodes) = ⊥

abbrev pub PassesData : ℕ → LowerFault → Type 0
PassesData n (fault.FrameLimit function bytes) = ⊥
PassesData n (fault.DataLimit bytes) = (bytes ≡ n) × (most_data < n)
PassesData n fault.Memory = Unit {0}
PassesData n (fault.NodeLimit function nodes) = ⊥

abbrev pub PassesNodes : List ℕ → LowerFault → Type 0
PassesNodes nodes (fault.FrameLimit function bytes) = ⊥
PassesNodes nodes (fault.DataLimit bytes) = ⊥
PassesNodes nodes fault.Memory = Unit {0}
PassesNodes nodes (fault.NodeLimit function n) = IsFirstAbove most nodes function n

-- the first limit that is passed: that of the first frame, that of data where no frame passes its own, that of the first function's nodes
-- where neither is so
abbrev pub Passes : UnitTree → LowerFault → Type 0
Passes u (fault.FrameLimit function bytes) = PassesFrame (frame_counts u) (fault.FrameLimit function bytes)
Passes u (fault.DataLimit bytes) = AreAtMost most (frame_counts u) × PassesData (data_count u) (fault.DataLimit bytes)
Passes u fault.Memory = Unit {0}
Passes u (fault.NodeLimit function n) = AreAtMost most (frame_counts u) × (data_count u ≤ most_data) × PassesNodes (node_counts u) (fault.NodeLimit function n)

-- ---- laws

-- one limit at most is told of a unit, and none of a unit that keeps them, besides memory
abbrev pub OneLimit : Type 0
OneLimit = (u : UnitTree) (a b : LowerFault) → Passes u a → Passes u b → (a ≡ fault.Memory) ⊎ (b ≡ fault.Memory) ⊎ (a ≡ b)

abbrev pub NoneWithin : Type 0
NoneWithin = (u : UnitTree) (a : LowerFault) → IsWithin u → Passes u a → a ≡ fault.Memory
