-- What is told of a unit by what is told of its frames, data and nodes.
use Rattle.std.proofs.Common.{◌≡◌, ◌≤◌, ℕ, List, sym, ap, subst, ◌∙◌}
use Rattle.std.specs.Prelude.{IfErr, IsErrAnd, Result as Checked, Ok, Err}
use Rattle.c_types.specs.Table.{Table}
use Rattle.c_meaning.specs.declared.core_unit.CoreFunction.{CoreFunction}
use Rattle.c_meaning.specs.Units.{CoreUnit, UnitTree, unit_seen}
use Rattle.c_runs.specs.Counts.{data_count}
use Rattle.lowering_limits.specs.declared.lower_fault.LowerFault.{LowerFault}
use Rattle.lowering_limits.specs.declared.lower_fault.LowerFault.TheVariants as fault
use Rattle.lowering_limits.specs.Sizes.{frame_counts_in, node_counts_in}
use Rattle.lowering_limits.specs.Limits.{AreAtMost, Passes, PassesData, PassesFrame, PassesNodes, frame_counts, most, most_data, node_counts}

frame_passed : (u : UnitTree) (e : LowerFault) → PassesFrame (frame_counts u) e → Passes u e
frame_passed u (fault.FrameLimit f b) h = h
frame_passed u (fault.DataLimit b) h = absurd h
frame_passed u fault.Memory h = tt
frame_passed u (fault.NodeLimit f n) h = absurd h

data_passed : (u : UnitTree) (e : LowerFault) → AreAtMost most (frame_counts u) → PassesData (data_count u) e → Passes u e
data_passed u (fault.FrameLimit f b) a h = absurd h
data_passed u (fault.DataLimit b) a h = (a, h)
data_passed u fault.Memory a h = tt
data_passed u (fault.NodeLimit f n) a h = absurd h

nodes_passed : (u : UnitTree) (e : LowerFault) → AreAtMost most (frame_counts u) → data_count u ≤ most_data → PassesNodes (node_counts u) e → Passes u e
nodes_passed u (fault.FrameLimit f b) a d h = absurd h
nodes_passed u (fault.DataLimit b) a d h = absurd h
nodes_passed u fault.Memory a d h = tt
nodes_passed u (fault.NodeLimit f n) a d h = (a, d, h)

module _ {A : Type 0} (u : UnitTree) (frames : List ℕ) (same : frames ≡ frame_counts u) where
  pub frames_told : (d : LowerFault) (r : Checked A LowerFault) → IsErrAnd r (λ e. e ≡ d) → PassesFrame frames d → IfErr r (Passes u)
  frames_told d (Ok x) h p = absurd h
  frames_told d (Err e) h p = subst (Passes u) (sym h) (frame_passed u d (subst (λ ns. PassesFrame ns d) same p))

  pub data_told : (d : LowerFault) (r : Checked A LowerFault) → IsErrAnd r (λ e. e ≡ d) → AreAtMost most frames → PassesData (data_count u) d → IfErr r (Passes u)
  data_told d (Ok x) h a p = absurd h
  data_told d (Err e) h a p = subst (Passes u) (sym h) (data_passed u d (subst (AreAtMost most) same a) p)

  pub nodes_told : (t : Table) (fs : List CoreFunction) (r : Checked A LowerFault) → node_counts_in t fs ≡ node_counts u → AreAtMost most frames → data_count u ≤ most_data → IfErr r (λ e. (k : Table) → PassesNodes (node_counts_in k fs) e) → IfErr r (Passes u)
  nodes_told t fs (Ok x) all a d h = h
  nodes_told t fs (Err e) all a d h = nodes_passed u e (subst (AreAtMost most) same a) d (subst (λ ns. PassesNodes ns e) all (h t))

pub frames_same : (u : CoreUnit) (t : Table) (fs : List CoreFunction) → t ≡ u.types → fs ≡ u.functions → frame_counts_in t fs ≡ frame_counts (unit_seen u)
frames_same u t fs a b = ap (λ x. frame_counts_in x fs) a ∙ ap (frame_counts_in u.types) b

pub nodes_same : (u : CoreUnit) (fs : List CoreFunction) → fs ≡ u.functions → node_counts_in u.types fs ≡ node_counts (unit_seen u)
nodes_same u fs b = ap (node_counts_in u.types) b
