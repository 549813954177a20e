-- Operators that neither read nor write act alike in objects of the same shapes, whatever bytes these have; and a read
-- is the same where the object that it reads is.
use Rattle.std.specs.Prelude.{◌≡◌, Bool, true, false, List}
use Rattle.op_forest.specs.declared.op.Op.{Op}
use Rattle.op_forest.specs.declared.op.Op.TheVariants as op
use Rattle.forests.specs.Objects.{Object, shapes}

abbrev pub AreAlike : List Object → List Object → Type 0
AreAlike a b = shapes a ≡ shapes b

-- ---- rows

abbrev pub touches_memory : Op → Bool
touches_memory op.Indir = true
touches_memory op.Asgn = true
touches_memory o = false
