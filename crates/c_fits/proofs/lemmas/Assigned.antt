-- What is assignable to a type is a scalar for a scalar, or the structure or union itself.
use Rattle.std.proofs.Common.{◌≡◌, ◌⊎◌, true, false, ◌&&◌, ◌||◌, List, refl, sym, inl, inr, eqb-true}
use Rattle.c_types.specs.CType.{Void, CType, Plain, Array, Simple, Structure, Union, Enumeration, unqualified}
use Rattle.c_types.specs.Conversions.{is_integer}
use Rattle.c_types.specs.Layout.{Tag}
use Rattle.c_meaning.specs.CoreTrees.{type_of}
use Rattle.c_meaning.specs.Constants.{is_null}
use Rattle.c_meaning.specs.ExprConstraints.{is_assignable, points_alike}
use Rattle.c_meaning.specs.Types.{alike, is_pointer, is_record, is_scalar, target}
use Rattle.c_meaning.specs.Values.{CoreTree}
use Rattle.c_meaning.specs.Fits.{IsScalar}
use Rattle.c_fits.specs.Laws.{Fit}
use Rattle.c_fits.proofs.lemmas.Booleans.{never, and_left, and_right, or_cases}
use Rattle.c_fits.proofs.lemmas.Numbers.{integer_scalar, pointer_scalar}
use Rattle.c_fits.proofs.lemmas.Nulls.{null_scalar}

-- compatible structures are one, and so are unions
pub alike_records : (t u : CType) → is_record t ≡ true → alike t u ≡ true → unqualified u ≡ unqualified t
alike_records (Plain q (Structure n)) (Plain p (Structure m)) h k = rw (eqb-true n m k)
alike_records (Plain q (Union n)) (Plain p (Union m)) h k = rw (eqb-true n m k)
alike_records (Plain q (Structure n)) u h k = never (sym k)
alike_records (Plain q (Union n)) u h k = never (sym k)
alike_records t u h k = never (sym h)

-- what a value is that is assigned to a type
abbrev pub IsAssigned : CType → CType → Type 0
IsAssigned to of = (IsScalar to × IsScalar of) ⊎ ((is_record to ≡ true) × (unqualified of ≡ unqualified to))

pub assigned_as : (tags : List Tag) (to : CType) (v : CoreTree) → Fit tags v → is_assignable to v ≡ true → IsAssigned to (type_of v)
assigned_as tags to v f h = first (or_cases (is_integer to && is_integer (type_of v)) _ h)
  where
    pointed : (is_pointer to ≡ true) → ((is_pointer (type_of v) && points_alike (target to) (target (type_of v))) ≡ true) ⊎ (is_null v ≡ true) → IsAssigned to (type_of v)
    pointed p (inl k) = inl (pointer_scalar to p, pointer_scalar (type_of v) (and_left (is_pointer (type_of v)) (points_alike (target to) (target (type_of v))) k))
    pointed p (inr k) = inl (pointer_scalar to p, null_scalar tags v f k)

    second : ((is_record to && alike to (type_of v)) ≡ true) ⊎ ((is_pointer to && ((is_pointer (type_of v) && points_alike (target to) (target (type_of v))) || is_null v)) ≡ true) → IsAssigned to (type_of v)
    second (inl k) =
        let r = and_left (is_record to) (alike to (type_of v)) k in
        inr (r, alike_records to (type_of v) r (and_right (is_record to) (alike to (type_of v)) k))
    second (inr k) =
        pointed (and_left (is_pointer to) ((is_pointer (type_of v) && points_alike (target to) (target (type_of v))) || is_null v) k)
        (or_cases (is_pointer (type_of v) && points_alike (target to) (target (type_of v))) (is_null v)
        (and_right (is_pointer to) ((is_pointer (type_of v) && points_alike (target to) (target (type_of v))) || is_null v) k))

    first : ((is_integer to && is_integer (type_of v)) ≡ true) ⊎ (((is_record to && alike to (type_of v)) || (is_pointer to && ((is_pointer (type_of v) && points_alike (target to) (target (type_of v))) || is_null v))) ≡ true) → IsAssigned to (type_of v)
    first (inl k) = inl (integer_scalar to (and_left (is_integer to) (is_integer (type_of v)) k), integer_scalar (type_of v) (and_right (is_integer to) (is_integer (type_of v)) k))
    first (inr k) = second (or_cases (is_record to && alike to (type_of v)) (is_pointer to && ((is_pointer (type_of v) && points_alike (target to) (target (type_of v))) || is_null v)) k)

-- ---- types without their qualifiers

pub bare_again : (t : CType) → unqualified (unqualified t) ≡ unqualified t
bare_again (Plain q k) = refl
bare_again (Array of n) = refl

pub scalar_bare : (t : CType) → is_scalar t ≡ true → is_scalar (unqualified t) ≡ true
scalar_bare (Plain q (Simple Void)) h = h
scalar_bare (Plain q (Simple b)) h = refl
scalar_bare (Plain q (Enumeration n)) h = refl
scalar_bare (Plain q k) h = h
scalar_bare (Array of n) h = h

pub record_bare : (t : CType) → is_record (unqualified t) ≡ is_record t
record_bare (Plain q k) = refl
record_bare (Array of n) = refl

-- a scalar is no structure or union
pub scalar_no_record : (t : CType) → is_scalar t ≡ true → is_record t ≡ false
scalar_no_record (Plain q (Structure n)) h = never (sym h)
scalar_no_record (Plain q (Union n)) h = never (sym h)
scalar_no_record (Plain q k) h = refl
scalar_no_record (Array of n) h = refl
