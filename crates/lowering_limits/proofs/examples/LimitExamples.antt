-- Units that keep the limits, and one that passes that of data.
use Rattle.std.specs.Prelude.{refl, codes, [], ◌∷◌}
use Rattle.std.proofs.Common.{arith}
use Rattle.c_meaning.specs.Units.{UnitTree}
use Rattle.c_runs.specs.Samples.{array, char, main, static, unit}
use Rattle.lowering_limits.specs.declared.lower_fault.LowerFault.TheVariants as fault
use Rattle.lowering_limits.specs.Limits.{IsFirstAbove, IsWithin, Passes}

-- char a[9]; int main(void) { char b[3]; }
abbrev small : UnitTree
small = unit (main (array char 3 ∷ []) [] ∷ []) (static (codes "a") (array char 9) [] ∷ []) []

kept : IsWithin small
kept = record { frames = (omega arith, tt); bytes = omega arith; nodes = (omega arith, tt) }

-- char a[16777217]; 8 bytes more than a multiple of 8
abbrev large : UnitTree
large = unit (main [] [] ∷ []) (static (codes "a") (array char 16777217) [] ∷ []) []

told : Passes large (fault.DataLimit 16777224)
told = ((omega arith, tt), (refl, omega arith))

-- one byte less than that isn't told
other : Passes large (fault.DataLimit 16777217) → ⊥
other h = let e = h.1.0 in omega (arith, e)

-- the first of these above 5 is the second
first : IsFirstAbove 5 (3 ∷ 8 ∷ 9 ∷ []) 1 8
first = record { is = refl; above = omega arith; before = (omega arith, tt) }

not_the_third : IsFirstAbove 5 (3 ∷ 8 ∷ 9 ∷ []) 2 9 → ⊥
not_the_third h = let l = h.before.1.0 in omega (arith, l)
