-- Two types are compatible in either order.
use Rattle.std.proofs.Common.{◌≡◌, ℕ, Bool, true, false, refl, ap, ◌∙◌, arith}
use Rattle.std.specs.Prelude.{◌&&◌, nat_eq, Option, Some, None}
use Rattle.std.proofs.lemmas.Bool.Decides.{nat_tests}
use Rattle.c_types.specs.CType.{CType, Plain, Array, Kind, Simple, Pointer, Function, Structure, Union, Enumeration, Parameters, Open, Listed, CTypes, NoType, And}
use Rattle.c_types.specs.Compatible.{all_compatible, basic_place, compatible, kinds_compatible, lengths_fit, parameters_compatible, same_flag}

mutual_places : (a b : ℕ) → nat_eq a b ≡ nat_eq b a
mutual_places a b = by (nat_eq b a) refl
  where
    by : (z : Bool) → nat_eq b a ≡ z → nat_eq a b ≡ z
    by true p = grind (arith, nat_tests)
    by false p = grind (arith, nat_tests)

mutual_lengths : (n m : Option ℕ) → lengths_fit n m ≡ lengths_fit m n
mutual_lengths None None = refl
mutual_lengths None (Some m) = refl
mutual_lengths (Some n) None = refl
mutual_lengths (Some n) (Some m) = mutual_places n m

mutual_flags : (a b : Bool) → same_flag a b ≡ same_flag b a
mutual_flags true true = refl
mutual_flags true false = refl
mutual_flags false true = refl
mutual_flags false false = refl

abbrev both_same : (a b c d : Bool) → a ≡ c → b ≡ d → (a && b) ≡ (c && d)
both_same a b c d h k = ap (λ z. z && b) h ∙ ap (λ z. c && z) k

mutual
  pub mutual_types : (s u : CType) → compatible s u ≡ compatible u s
  mutual_types (Plain p a) (Plain q b) = both_same (nat_eq p q) (kinds_compatible a b) (nat_eq q p) (kinds_compatible b a) (mutual_places p q) (mutual_kinds a b)
  mutual_types (Plain p a) (Array b m) = refl
  mutual_types (Array a n) (Plain q b) = refl
  mutual_types (Array a n) (Array b m) = both_same (compatible a b) (lengths_fit n m) (compatible b a) (lengths_fit m n) (mutual_types a b) (mutual_lengths n m)

  mutual_kinds : (a b : Kind) → kinds_compatible a b ≡ kinds_compatible b a
  mutual_kinds (Simple a) (Simple b) = mutual_places (basic_place a) (basic_place b)
  mutual_kinds (Simple a) (Pointer b) = refl
  mutual_kinds (Simple a) (Function b bs) = refl
  mutual_kinds (Simple a) (Structure b) = refl
  mutual_kinds (Simple a) (Union b) = refl
  mutual_kinds (Simple a) (Enumeration b) = refl
  mutual_kinds (Pointer a) (Simple b) = refl
  mutual_kinds (Pointer a) (Pointer b) = mutual_types a b
  mutual_kinds (Pointer a) (Function b bs) = refl
  mutual_kinds (Pointer a) (Structure b) = refl
  mutual_kinds (Pointer a) (Union b) = refl
  mutual_kinds (Pointer a) (Enumeration b) = refl
  mutual_kinds (Function a as') (Simple b) = refl
  mutual_kinds (Function a as') (Pointer b) = refl
  mutual_kinds (Function a as') (Function b bs) = both_same (compatible a b) (parameters_compatible as' bs) (compatible b a) (parameters_compatible bs as') (mutual_types a b) (mutual_parameters as' bs)
  mutual_kinds (Function a as') (Structure b) = refl
  mutual_kinds (Function a as') (Union b) = refl
  mutual_kinds (Function a as') (Enumeration b) = refl
  mutual_kinds (Structure a) (Simple b) = refl
  mutual_kinds (Structure a) (Pointer b) = refl
  mutual_kinds (Structure a) (Function b bs) = refl
  mutual_kinds (Structure a) (Structure b) = mutual_places a b
  mutual_kinds (Structure a) (Union b) = refl
  mutual_kinds (Structure a) (Enumeration b) = refl
  mutual_kinds (Union a) (Simple b) = refl
  mutual_kinds (Union a) (Pointer b) = refl
  mutual_kinds (Union a) (Function b bs) = refl
  mutual_kinds (Union a) (Structure b) = refl
  mutual_kinds (Union a) (Union b) = mutual_places a b
  mutual_kinds (Union a) (Enumeration b) = refl
  mutual_kinds (Enumeration a) (Simple b) = refl
  mutual_kinds (Enumeration a) (Pointer b) = refl
  mutual_kinds (Enumeration a) (Function b bs) = refl
  mutual_kinds (Enumeration a) (Structure b) = refl
  mutual_kinds (Enumeration a) (Union b) = refl
  mutual_kinds (Enumeration a) (Enumeration b) = mutual_places a b

  mutual_parameters : (ps qs : Parameters) → parameters_compatible ps qs ≡ parameters_compatible qs ps
  mutual_parameters Open Open = refl
  mutual_parameters Open (Listed qs n) = refl
  mutual_parameters (Listed ps m) Open = refl
  mutual_parameters (Listed ps m) (Listed qs n) = both_same (same_flag m n) (all_compatible ps qs) (same_flag n m) (all_compatible qs ps) (mutual_flags m n) (mutual_lists ps qs)

  mutual_lists : (ps qs : CTypes) → all_compatible ps qs ≡ all_compatible qs ps
  mutual_lists NoType NoType = refl
  mutual_lists NoType (And q qs) = refl
  mutual_lists (And p ps) NoType = refl
  mutual_lists (And p ps) (And q qs) = both_same (compatible p q) (all_compatible ps qs) (compatible q p) (all_compatible qs ps) (mutual_types p q) (mutual_lists ps qs)
