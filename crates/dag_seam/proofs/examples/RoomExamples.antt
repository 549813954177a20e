-- Why x has a room in y = x + x.
use Rattle.std.specs.Prelude.{refl, pos, List, [], ◌∷◌}
use Rattle.std.proofs.Common.{inl, inr, arith, true≢false, sym}
use Rattle.op_forest.specs.declared.op.Op.TheVariants as op
use Rattle.op_forest.specs.declared.suffix.Suffix.TheVariants.{I}
use Rattle.dag_forest.specs.declared.act.Act.{Act}
use Rattle.dag_forest.specs.declared.act.Act.TheVariants.{Made, Acts}
use Rattle.dag_forest.specs.declared.kids.Kids.TheVariants.{Two}
use Rattle.dag_forest.specs.declared.kind.Kind.TheVariants.{Signed}
use Rattle.dag_forest.specs.BlockExamples.{over, read, address, doubled}
use Rattle.dag_forest.specs.Schedules.{acts_of}
use Rattle.dag_seam.specs.Rooms.{IsMade, IsNeeded, HasCause}

-- what stands behind the read
abbrev later : List Act
later = Made 2 (address 1 (pos 0)) ∷ Made 3 (over op.Add I (Two 1 1)) ∷ Acts (over op.Asgn I (Two 2 3)) ∷ []

is_made : IsMade (acts_of (doubled (pos 0))) 1 (read 0) later
is_made = inr (inl (refl, refl, refl))

is_needed : IsNeeded (read 0) later 1
is_needed = record { computed = refl; cause = inr (inl (omega arith)) }

has_cause : HasCause (doubled (pos 0)) 1 (record { number = 0; kind = Signed })
has_cause = record { parts = read 0; later = later; made = is_made; needed = is_needed; kind = refl }

-- an address needs none
not_needed : IsNeeded (address 0 (pos 0)) later 0 → ⊥
not_needed h = true≢false (sym h.computed)
