-- Examples: an int and a pointer may be parameters; a function and an array may not, nor may a structure that isn't complete.
use Rattle.std.specs.Prelude.{Some, [], ◌∷◌, refl}
use Rattle.c_types.specs.CType.{Int, Plain, Array, Pointer, Structure, basic}
use Rattle.c_meaning.specs.State.{int_function}
use Rattle.c_unit_fits.specs.Functions.{AreSized}

scalars_are_sized : AreSized [] (basic Int ∷ Plain 0 (Pointer (basic Int)) ∷ [])
scalars_are_sized = ((refl, (refl, tt)), (refl, (refl, tt)))

function_is_not : AreSized [] (int_function ∷ []) → ⊥
function_is_not h = absurd Prim.cc

array_is_not : AreSized [] (Array (basic Int) (Some 4) ∷ []) → ⊥
array_is_not h = absurd Prim.cc

open_structure_is_not : AreSized [] (Plain 0 (Structure 0) ∷ []) → ⊥
open_structure_is_not h = absurd Prim.cc
