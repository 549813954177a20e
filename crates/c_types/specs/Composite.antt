-- The composite type of two compatible types (C89 3.1.2.6): of int and an enumeration it is the enumeration, an array
-- takes the known size, a function the parameters that are listed, each the composite of both where both lists are
-- there; and so for the types that these are formed from.
use Rattle.std.specs.Prelude.{◌≡◌, ℕ, false, Option, Some, None, if◌then◌else◌}
use Rattle.std.proofs.Common.{refl}
use Rattle.c_types.specs.CType.{CType, Plain, Array, Kind, Simple, Pointer, Function, Enumeration, Int, Parameters, Open, Listed, CTypes, And, basic}
use Rattle.c_types.specs.Compatible.{compatible, is_int}

abbrev pub known_length : Option ℕ → Option ℕ → Option ℕ
known_length (Some n) m = Some n
known_length None m = m

abbrev mutual
  pub composite : CType → CType → CType
  composite (Plain p a) (Plain q b) = Plain p (kinds_composite a b)
  composite (Array a n) (Array b m) = Array (composite a b) (known_length n m)
  composite a b = a

  pub kinds_composite : Kind → Kind → Kind
  kinds_composite (Pointer a) (Pointer b) = Pointer (composite a b)
  kinds_composite (Function a ps) (Function b qs) = Function (composite a b) (parameters_composite ps qs)
  kinds_composite (Simple a) (Enumeration n) = if is_int (Simple a) then Enumeration n else Simple a
  kinds_composite a b = a

  pub parameters_composite : Parameters → Parameters → Parameters
  parameters_composite Open qs = qs
  parameters_composite (Listed ps more) Open = Listed ps more
  parameters_composite (Listed ps more) (Listed qs others) = Listed (all_composite ps qs) more

  pub all_composite : CTypes → CTypes → CTypes
  all_composite (And a as') (And b bs) = And (composite a b) (all_composite as' bs)
  all_composite as' bs = as'

-- ---- examples: int and an enumeration, in either order and behind a pointer, and what another enumeration meets

int_and_enumeration : composite (basic Int) (Plain 0 (Enumeration 0)) ≡ Plain 0 (Enumeration 0)
int_and_enumeration = refl

enumeration_and_int : composite (Plain 1 (Enumeration 0)) (Plain 1 (Simple Int)) ≡ Plain 1 (Enumeration 0)
enumeration_and_int = refl

behind_a_pointer : composite (Plain 0 (Pointer (basic Int))) (Plain 0 (Pointer (Plain 0 (Enumeration 0)))) ≡ Plain 0 (Pointer (Plain 0 (Enumeration 0)))
behind_a_pointer = refl

no_other_enumeration : compatible (composite (basic Int) (Plain 0 (Enumeration 0))) (Plain 0 (Enumeration 1)) ≡ false
no_other_enumeration = refl
