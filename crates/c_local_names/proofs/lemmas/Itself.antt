-- A type is compatible with itself, and an array with one of unknown size.
use Rattle.std.proofs.Common.{◌≡◌, ℕ, Bool, true, false, refl, arith}
use Rattle.std.specs.Prelude.{Option, Some, None, nat_eq}
use Rattle.std.proofs.lemmas.Bool.Decides.{nat_tests}
use Rattle.c_types.specs.CType.{CType, Plain, Array, Kind, Simple, Pointer, Function, Structure, Union, Enumeration, Parameters, Open, Listed, CTypes, NoType, And}
use Rattle.c_types.specs.Compatible.{basic_place, compatible, kinds_compatible, parameters_compatible, all_compatible, lengths_fit, same_flag}
use Rattle.c_meaning.specs.Filling.{sized}
use Rattle.c_fits.proofs.lemmas.Booleans.{and_true}

same_place : (n : ℕ) → nat_eq n n ≡ true
same_place n = grind (arith, nat_tests)

lengths_itself : (n : Option ℕ) → lengths_fit n n ≡ true
lengths_itself None = refl
lengths_itself (Some n) = same_place n

flag_itself : (b : Bool) → same_flag b b ≡ true
flag_itself true = refl
flag_itself false = refl

mutual
  pub compatible_itself : (s : CType) → compatible s s ≡ true
  compatible_itself (Plain q k) = and_true (nat_eq q q) (kinds_compatible k k) (same_place q) (kinds_itself k)
  compatible_itself (Array of n) = and_true (compatible of of) (lengths_fit n n) (compatible_itself of) (lengths_itself n)

  kinds_itself : (k : Kind) → kinds_compatible k k ≡ true
  kinds_itself (Simple b) = same_place (basic_place b)
  kinds_itself (Pointer to) = compatible_itself to
  kinds_itself (Function r ps) = and_true (compatible r r) (parameters_compatible ps ps) (compatible_itself r) (parameters_itself ps)
  kinds_itself (Structure n) = same_place n
  kinds_itself (Union n) = same_place n
  kinds_itself (Enumeration n) = same_place n

  parameters_itself : (ps : Parameters) → parameters_compatible ps ps ≡ true
  parameters_itself Open = refl
  parameters_itself (Listed ps more) = and_true (same_flag more more) (all_compatible ps ps) (flag_itself more) (all_itself ps)

  all_itself : (ps : CTypes) → all_compatible ps ps ≡ true
  all_itself NoType = refl
  all_itself (And p ps) = and_true (compatible p p) (all_compatible ps ps) (compatible_itself p) (all_itself ps)

-- an array that its initialiser completes
pub compatible_sized : (t : CType) (n : ℕ) → compatible t (sized t n) ≡ true
compatible_sized (Array of None) n = and_true (compatible of of) (lengths_fit None (Some n)) (compatible_itself of) refl
compatible_sized (Array of (Some m)) n = compatible_itself (Array of (Some m))
compatible_sized (Plain q k) n = compatible_itself (Plain q k)
