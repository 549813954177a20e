-- Examples: pointers that move by elements of the size of an int, and by elements that are larger than objects; tables whose types
-- keep the limits, and one with a type that doesn't.
use Rattle.std.proofs.Common.{ℕ, zero, suc, false, [], ◌∷◌, arith}
use Rattle.std.specs.Prelude.{Some}
use Rattle.objects.specs.declared.operators.Binary.TheVariants as operator
use Rattle.c_types.specs.CType.{Int, basic}
use Rattle.c_types.specs.Table.{Table}
use Rattle.c_types.specs.declared.type_form.TypeForm.TheVariants as form
use Rattle.c_meaning.specs.declared.core_expr.Change.TheVariants as change
use Rattle.c_meaning.specs.declared.core_expr.CoreKind.TheVariants as kind
use Rattle.c_meaning.specs.CoreTrees.{Core, none, two}
use Rattle.c_meaning.specs.Types.{pointer_to}
use Rattle.c_meaning.specs.Values.{CoreTree}
use Rattle.c_checked_units.specs.Laws.{KeepsLimits}
use Rattle.c_checked_units.specs.Moves.{AllMoveByObjects, ChangesByObjects, IsObjectSize}

object : IsObjectSize 16777216
object = omega arith

too_large : IsObjectSize 16777217 → ⊥
too_large h = omega (arith, h)

-- p + 1, where p points to elements of this size
abbrev next : ℕ → CoreTree
next size = Core (kind.Move size false) (pointer_to (basic Int)) 1 (two (Core (kind.Local 0 false) (pointer_to (basic Int)) 1 none) (Core (kind.Number 1) (basic Int) 1 none))

moves : AllMoveByObjects (next 4)
moves = (omega arith, ((tt, tt), ((tt, tt), tt)))

moves_far : AllMoveByObjects (next 16777217) → ⊥
moves_far h = too_large h.0

changes : ChangesByObjects (change.Pointer 4 false)
changes = omega arith

-- a number changes by anything
adds : ChangesByObjects (change.Arithmetic operator.Add false)
adds = tt

changes_far : ChangesByObjects (change.Pointer 16777217 false) → ⊥
changes_far h = too_large h

-- ---- tables

abbrev small : Table
small = record { forms = form.Int ∷ []; completed = [] }

small_keeps : KeepsLimits small
small_keeps zero h = record { shallow = omega arith; bounded = record { size = omega arith; some = omega arith; align = omega arith; nesting = omega arith }; objects = tt }
small_keeps (suc n) h = absurd (let never : ⊥ = omega (arith, h) in never)

-- an array of one char more than an object has bytes
abbrev large : Table
large = record { forms = form.Char ∷ form.Array 0 (Some 16777217) ∷ []; completed = [] }

large_passes : KeepsLimits large → ⊥
large_passes h = let l = (h 1 (omega arith)).bounded.size in omega (arith, l)
