-- Examples: what types absorb, and what is kept of names and symbols.
use Rattle.std.proofs.Common.{◌≡◌, [], ◌∷◌, refl, sym, ap, arith}
use Rattle.std.specs.Prelude.{pos, codes, Some, None}
use Rattle.c_symbols.specs.declared.symbol.Storage.TheVariants as storage
use Rattle.c_types.specs.CType.{Array, Int, Char, basic}
use Rattle.c_meaning.specs.State.{State, counted, external, int_function, replaced}
use Rattle.c_units.specs.Externals.{no_parts}
use Rattle.c_units.specs.Typing.{at_first}
use Rattle.c_fits.proofs.lemmas.Booleans.{never}
use Rattle.c_linked_names.proofs.lemmas.Absorbing.{Absorbs, sized_absorbs}
use Rattle.c_linked_names.proofs.lemmas.Externals.{nothing_regular}
use Rattle.c_linked_names.proofs.lemmas.Going.{Goes, Meant, goes_itself}
use Rattle.c_linked_names.proofs.lemmas.Keeping.{IsEntry, IsRegular, Keeps, Steady, keeps_itself}
use Rattle.c_linked_names.proofs.lemmas.Stepping.{counted_steady}

-- ---- types

-- int [3] absorbs int [], and not the other way
size_absorbed : Absorbs (Array (basic Int) (Some 3)) (Array (basic Int) None)
size_absorbed = sized_absorbs (Array (basic Int) None) 3

size_not_absorbed : Absorbs (Array (basic Int) None) (Array (basic Int) (Some 3)) → ⊥
size_not_absorbed h = never (sym (h (Array (basic Int) (Some 4)) refl))

-- ---- states

-- extern int f();
abbrev known : State
known = record { outer = []; inner = (codes "f", 1) ∷ []; links = (codes "f", 0) ∷ []; symbols = external 1 0 None ∷ external 1 0 (Some (pos 0)) ∷ []; tags = []; count = 0 }

f_entry : IsEntry known (codes "f", 1)
f_entry = record { below = omega arith; apart = refl; tag = refl; linked = λ l e. let q : 0 ≡ l = cc in ap Some q }

-- the symbol of all declarations stands in no scope
no_link_entry : IsEntry known (codes "f", 0) → ⊥
no_link_entry h = never h.apart

-- nothing is regular, and a name without a symbol isn't
nothing_is : IsRegular at_first
nothing_is = nothing_regular

no_symbol : IsRegular (record { outer = []; inner = (codes "f", 0) ∷ []; links = []; symbols = []; tags = []; count = 0 }) → ⊥
no_symbol h = let l = h.inner.0.below in omega (arith, l)

-- a state keeps its own symbols, and another class isn't kept
kept : Keeps known known
kept = keeps_itself known

abbrev other : State
other = replaced known 1 (record { class = storage.Auto; of = int_function; line = 1; level = 0; value = Some (pos 0) })

other_class : Keeps known other → ⊥
other_class h = let e = h.classes 1 (omega arith) in let none : ⊥ = cc in none

-- a symbol stands with a type that its own absorbs
f_meant : Meant known 0 int_function
f_meant = record { below = omega arith; class = refl; absorbed = λ t h. h }

f_not_meant : Meant known 0 (basic Char) → ⊥
f_not_meant h = never (sym (h.absorbed int_function refl))

-- nothing defines nothing, and no symbol is defined by that
nothing_goes : Goes at_first at_first no_parts
nothing_goes = goes_itself at_first nothing_regular

forgotten : Goes known at_first no_parts → ⊥
forgotten h = let l = h.keeps.symbols in omega (arith, l)

steady : Steady at_first (counted at_first)
steady = counted_steady at_first nothing_regular

not_steady : Steady known at_first → ⊥
not_steady h = let l = h.keeps.symbols in omega (arith, l)
