-- Places below a bound, one by one.
use Rattle.std.proofs.Common.{◌≡◌, ℕ, zero, suc, ◌<◌, ◌≤◌, List, [], ◌∷◌, length, get_or, max, refl, arith}
use Rattle.c_types.specs.declared.type_form.Member.{Member}
use Rattle.std.proofs.Common.{Bool, false, true≢false}
use Rattle.std.specs.Prelude.{Option, Some, None}
use Rattle.c_types.specs.declared.type_form.TypeForm.{TypeForm}
use Rattle.c_types.specs.declared.type_form.TypeForm.TheVariants as form
use Rattle.c_types.specs.CType.{CType}
use Rattle.c_types.specs.Readings.{is_function}
use Rattle.c_types.specs.Table.{AreBelow, AreMembersBelow, AreSomeBelow, formed, is_qualified}

pub below_at : (n : ℕ) (ids : List ℕ) (i d : ℕ) → AreBelow n ids → i < length ids → get_or ids i d < n
below_at n [] i d h l = absurd (omega arith)
below_at n (id ∷ ids) zero d h l = h.0
below_at n (id ∷ ids) (suc i) d h l = below_at n ids i d h.1 (omega arith)

pub member_below : (n : ℕ) (ms : List Member) (i : ℕ) (d : Member) → AreMembersBelow n ms → i < length ms → (get_or ms i d).of < n
member_below n [] i d h l = absurd (omega arith)
member_below n (m ∷ ms) zero d h l = h.0
member_below n (m ∷ ms) (suc i) d h l = member_below n ms i d h.1 (omega arith)

pub max_step : (a b c : ℕ) → max (max a b) c ≡ max b (max a c)
max_step a b c = omega arith

pub below_more : (n m : ℕ) → n ≤ m → (ids : List ℕ) → AreBelow n ids → AreBelow m ids
below_more n m l [] h = tt
below_more n m l (id ∷ ids) h = (let f = h.0 in omega arith, below_more n m l ids h.1)

pub some_below_more : (n m : ℕ) → n ≤ m → (ids : Option (List ℕ)) → AreSomeBelow n ids → AreSomeBelow m ids
some_below_more n m l None h = tt
some_below_more n m l (Some ids) h = below_more n m l ids h

-- the form of a type that isn't a function's
pub not_function : (ts : List CType) (n : ℕ) (f : TypeForm) → is_qualified f ≡ false → ((r : ℕ) (ps : Option (List ℕ)) (m : Bool) → f ≡ form.Function r ps m → ⊥) → is_function (formed ts n f) ≡ false
not_function ts n form.Void q h = refl
not_function ts n form.Char q h = refl
not_function ts n form.SignedChar q h = refl
not_function ts n form.UnsignedChar q h = refl
not_function ts n form.Short q h = refl
not_function ts n form.UnsignedShort q h = refl
not_function ts n form.Int q h = refl
not_function ts n form.Unsigned q h = refl
not_function ts n form.Long q h = refl
not_function ts n form.UnsignedLong q h = refl
not_function ts n (form.Pointer to) q h = refl
not_function ts n (form.Array of m) q h = refl
not_function ts n (form.Function r ps m) q h = absurd (h r ps m refl)
not_function ts n form.Structure q h = refl
not_function ts n form.Union q h = refl
not_function ts n (form.Enumeration ms) q h = refl
not_function ts n (form.Qualified of p) q h = absurd (true≢false q)
