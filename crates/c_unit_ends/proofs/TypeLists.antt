-- Lists of types that have other lengths than the ones wanted.
use Rattle.std.proofs.Common.{◌≡◌, ℕ, ◌<◌, ◌≤◌, false, List, [], ◌∷◌, length, refl, arith}
use Rattle.c_types.specs.CType.{CType, NoType, And, Char, Int, Listed, basic, unqualified}
use Rattle.c_types.specs.Compatible.{all_compatible, compatible}
use Rattle.c_types.specs.Table.{type_in, types_in}
use Rattle.c_meaning.specs.Types.{pointer_to}
use Rattle.c_meaning.specs.Units.{are_of_main}
use Rattle.std.specs.Prelude.{◌&&◌, Bool, true}

and_none : (b : Bool) → false ≡ (b && false)
and_none true = refl
and_none false = refl

pub none_alone : (ts : List CType) → false ≡ all_compatible (types_in ts []) (And (basic Int) NoType)
none_alone ts = refl

pub more_alone : (ts : List CType) (ids : List ℕ) → 2 ≤ length ids → false ≡ all_compatible (types_in ts ids) (And (basic Int) NoType)
more_alone ts [] l = absurd (omega (arith, l))
more_alone ts (a ∷ []) l = absurd (omega (arith, l))
more_alone ts (a ∷ b ∷ ids) l = and_none _

pub one_of_main : (ts : List CType) (ids : List ℕ) → 1 ≤ length ids → length ids < 2 → false ≡ are_of_main (Listed (types_in ts ids) false)
one_of_main ts [] l m = absurd (omega (arith, l))
one_of_main ts (a ∷ []) l m = and_none _
one_of_main ts (a ∷ b ∷ ids) l m = absurd (omega (arith, m))

pub more_of_main : (ts : List CType) (ids : List ℕ) → 3 ≤ length ids → false ≡ are_of_main (Listed (types_in ts ids) false)
more_of_main ts [] l = absurd (omega (arith, l))
more_of_main ts (a ∷ []) l = absurd (omega (arith, l))
more_of_main ts (a ∷ b ∷ []) l = absurd (omega (arith, l))
more_of_main ts (a ∷ b ∷ c ∷ ids) l = two (compatible (unqualified (type_in ts a)) (basic Int)) (compatible (unqualified (type_in ts b)) (pointer_to (pointer_to (basic Char))))
  where
    two : (x y : Bool) → false ≡ (x && (y && false))
    two true y = and_none y
    two false y = refl

pub some_types : (ts : List CType) (ids : List ℕ) → 1 ≤ length ids → false ≡ all_compatible (types_in ts ids) NoType
some_types ts [] l = absurd (omega (arith, l))
some_types ts (a ∷ ids) l = refl
