-- A number of 32 bits fits, and no larger one; a bit-field fits that lies in its unit.
use Rattle.std.specs.Prelude.{ℕ, ◌<◌, ◌≤◌, ◌+◌, ◌^◌, negsuc, List, [], ◌∷◌}
use Rattle.std.proofs.Common.{arith}
use Rattle.lcc_base.specs.declared.order.Order.TheVariants.{Little}
use Rattle.op_forest.specs.declared.frame.Slot.{Slot}
use Rattle.c_types.specs.CType.{CType, Int, basic}
use Rattle.c_meaning.specs.declared.core_expr.CoreKind.TheVariants as kind
use Rattle.c_meaning.specs.CoreTrees.{Core, none, one}
use Rattle.c_meaning.specs.Values.{CoreTree}
use Rattle.lowered_forms.specs.Contexts.{Context}
use Rattle.lowered_fit.specs.States.{FitsCore}

abbrev context : Context
context = record { unit = record { functions = []; objects = []; texts = []; tags = []; main = 0 }; order = Little; parameters = 0; places = negsuc 3 ∷ [] }

abbrev slots : List Slot
slots = record { offset = negsuc 3; size = 4 } ∷ []

abbrev int : CType
int = basic Int

largest : FitsCore context slots (Core (kind.Number 4294967295) int 1 none)
largest = (omega arith, tt)

too_large : FitsCore context slots (Core (kind.Number 4294967296) int 1 none) → ⊥
too_large h = let e : 4294967296 < 2 ^ 32 = h.0 in omega (arith, e)

-- so many bits of an object's member behind so many others
abbrev bits : ℕ → ℕ → CoreTree
bits first width = Core (kind.Member 4 first width) int 1 (one (Core (kind.Object 0) int 1 none))

in_unit : FitsCore context slots (bits 24 8)
in_unit = ((omega arith, omega arith), ((tt, tt), tt))

outside : FitsCore context slots (bits 28 8) → ⊥
outside h = let e : 28 + 8 ≤ 32 = h.0.1 in omega (arith, e)
