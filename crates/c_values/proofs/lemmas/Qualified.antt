-- Types under qualifiers, and types by the places of the basic ones.
use Rattle.std.proofs.Common.{◌≡◌, ℕ, Bool, true, false, refl, sym, ap, ◌∙◌}
use Rattle.std.specs.Prelude.{Option, Some, None, ◌==◌, ◌&&◌, if◌then◌else◌}
use Rattle.c_types.specs.declared.extent.Extent.{Extent}
use Rattle.c_types.specs.CType.{CType, Plain, Array, Simple, qualify}
use Rattle.c_types.specs.Compatible.{basic_place}
use Rattle.c_types.specs.Layout.{extent_by}
use Rattle.c_types.proofs.lemmas.Qualifying.{qualify_none}
use Rattle.c_meaning.specs.Values.{same_simple}
use Rattle.c_values.specs.Valued.{plain_place}

pub plain_is : (q : ℕ) (t : CType) → q ≡ 0 → qualify q t ≡ t
plain_is q t e = ap (λ z. qualify z t) e ∙ qualify_none t

-- qualifiers don't change an extent
pub extent_qualify : (k : ℕ → Extent) (q : ℕ) (t : CType) → extent_by k (qualify q t) ≡ extent_by k t
extent_qualify k q (Plain p kind) = refl
extent_qualify k q (Array t n) = rw (extent_qualify k q t) refl

-- ---- basic types by their places

abbrev pub same_places : Option ℕ → Option ℕ → Bool
same_places (Some a) (Some b) = a == b
same_places a b = false

and_true : (b : Bool) → (b && true) ≡ b
and_true true = refl
and_true false = refl

and_false : (b : Bool) → (b && false) ≡ false
and_false true = refl
and_false false = refl

both : (y z : Bool) (a b : ℕ) → ((a == b) && (y && z)) ≡ same_places (if y then Some a else None) (if z then Some b else None)
both true true a b = and_true (a == b)
both true false a b = and_false (a == b)
both false z a b = and_false (a == b)

none_second : (o : Option ℕ) (z : Bool) → false ≡ same_places o (if z then None else None)
none_second None z = refl
none_second (Some a) true = refl
none_second (Some a) false = refl

none_there : (o : Option ℕ) → false ≡ same_places o None
none_there None = refl
none_there (Some a) = refl

none_first : (y : Bool) (o : Option ℕ) → false ≡ same_places (if y then None else None) o
none_first true o = refl
none_first false o = refl

same_by_place : (t u : CType) → same_simple t u ≡ same_places (plain_place t) (plain_place u)
same_by_place (Plain p (Simple a)) (Plain q (Simple b)) = both (p == 0) (q == 0) (basic_place a) (basic_place b)
same_by_place (Plain p (Simple a)) (Plain q k) = none_second (plain_place (Plain p (Simple a))) (q == 0)
same_by_place (Plain p (Simple a)) (Array of n) = none_there (plain_place (Plain p (Simple a)))
same_by_place (Plain p k) u = none_first (p == 0) (plain_place u)
same_by_place (Array of n) u = refl

pub same_of : (t u : CType) (o p : Option ℕ) → o ≡ plain_place t → p ≡ plain_place u → same_places o p ≡ same_simple t u
same_of t u o p e f = rw (e, f) (sym (same_by_place t u))
