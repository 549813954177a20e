-- The types of a table keep the limit on sizes, and so does what a pointer among them points to, since it is one of them, too.
use Rattle.std.proofs.Common.{◌≡◌, ◌⊎◌, ℕ, zero, suc, ◌+◌, ◌<◌, List, [], ◌∷◌, ◌++◌, length, map, refl, ap, subst, ◌∙◌, inl, inr, arith}
use Rattle.std.specs.Prelude.{IfSome, Option, Some, None}
use Rattle.std.proofs.lemmas.List.{length-append, get_or_append_left}
use Rattle.c_types.specs.CType.{CType, Plain, Array, Simple, Pointer, Function, Structure, Union, Enumeration, Void, basic, qualify}
use Rattle.c_types.specs.declared.type_form.TypeForm.{TypeForm}
use Rattle.c_types.specs.declared.type_form.TypeForm.TheVariants as form
use Rattle.c_types.specs.Layout.{extent, size_or_zero}
use Rattle.c_types.specs.Table.{AreBelow, Table, counted, formed, tags, type_at, type_in, types, types_after}
use Rattle.c_meaning.specs.Each.{EachIs}
use Rattle.c_meaning.specs.Fits.{HasSize}
use Rattle.c_meaning.specs.Types.{target}
use Rattle.c_checked_units.specs.Laws.{KeepsLimits}
use Rattle.c_checked_units.specs.Moves.{IsObjectSize}

-- ---- among the types of a list

-- it stands there, or is void
abbrev pub IsAmong : List CType → CType → Type 0
IsAmong ts t = ((id : ℕ) × (id < length ts) × (type_in ts id ≡ t)) ⊎ (t ≡ basic Void)

abbrev pub PointsAmong : List CType → CType → Type 0
PointsAmong ts (Plain q (Pointer to)) = IsAmong ts to
PointsAmong ts t = Unit {0}

among_more : (ts more : List CType) (t : CType) → IsAmong ts t → IsAmong (ts ++ more) t
among_more ts more t (inl h) = inl (h.0, (let l = length-append ts more in let k = h.1 in omega (arith, l, k)), get_or_append_left ts more (basic Void) h.0 h.1 ∙ h.2)
among_more ts more t (inr h) = inr h

among_behind : (t u : CType) (ts : List CType) → IsAmong ts u → IsAmong (t ∷ ts) u
among_behind t u ts (inl h) = inl (suc h.0, (let k = h.1 in omega (arith, k)), h.2)
among_behind t u ts (inr h) = inr h

type_among : (ts : List CType) (id : ℕ) → IsAmong ts (type_in ts id)
type_among [] id = inr refl
type_among (t ∷ ts) zero = inl (0, omega arith, refl)
type_among (t ∷ ts) (suc id) = among_behind t (type_in ts id) ts (type_among ts id)

points_more : (ts more : List CType) (t : CType) → PointsAmong ts t → PointsAmong (ts ++ more) t
points_more ts more (Plain q (Pointer to)) h = among_more ts more to h
points_more ts more (Plain q (Simple b)) h = tt
points_more ts more (Plain q (Function result parameters)) h = tt
points_more ts more (Plain q (Structure n)) h = tt
points_more ts more (Plain q (Union n)) h = tt
points_more ts more (Plain q (Enumeration n)) h = tt
points_more ts more (Array of n) h = tt

all_point_more : (ts more us : List CType) → EachIs (PointsAmong ts) us → EachIs (PointsAmong (ts ++ more)) us
all_point_more ts more [] h = tt
all_point_more ts more (u ∷ us) h = (points_more ts more u h.0, all_point_more ts more us h.1)

points_qualified : (ts : List CType) (q : ℕ) (t : CType) → PointsAmong ts t → PointsAmong ts (qualify q t)
points_qualified ts q (Plain p (Pointer to)) h = h
points_qualified ts q (Plain p (Simple b)) h = tt
points_qualified ts q (Plain p (Function result parameters)) h = tt
points_qualified ts q (Plain p (Structure n)) h = tt
points_qualified ts q (Plain p (Union n)) h = tt
points_qualified ts q (Plain p (Enumeration n)) h = tt
points_qualified ts q (Array of n) h = tt

point_at : (ts us : List CType) (id : ℕ) → EachIs (PointsAmong ts) us → PointsAmong ts (type_in us id)
point_at ts [] id h = tt
point_at ts (u ∷ us) zero h = h.0
point_at ts (u ∷ us) (suc id) h = point_at ts us id h.1

-- ---- of a list of forms

form_points : (ts : List CType) (n : ℕ) (f : TypeForm) → EachIs (PointsAmong ts) ts → PointsAmong ts (formed ts n f)
form_points ts n form.Void h = tt
form_points ts n form.Char h = tt
form_points ts n form.SignedChar h = tt
form_points ts n form.UnsignedChar h = tt
form_points ts n form.Short h = tt
form_points ts n form.UnsignedShort h = tt
form_points ts n form.Int h = tt
form_points ts n form.Unsigned h = tt
form_points ts n form.Long h = tt
form_points ts n form.UnsignedLong h = tt
form_points ts n (form.Pointer to) h = type_among ts to
form_points ts n (form.Array of count) h = tt
form_points ts n (form.Function result parameters more) h = tt
form_points ts n form.Structure h = tt
form_points ts n form.Union h = tt
form_points ts n (form.Enumeration members) h = tt
form_points ts n (form.Qualified of q) h = points_qualified ts q.0 (type_in ts of) (point_at ts ts of h)

all_join : (ts us vs : List CType) → EachIs (PointsAmong ts) us → EachIs (PointsAmong ts) vs → EachIs (PointsAmong ts) (us ++ vs)
all_join ts [] vs h k = k
all_join ts (u ∷ us) vs h k = (h.0, all_join ts us vs h.1 k)

all_point : (known : List CType) (n : ℕ) (fs : List TypeForm) → EachIs (PointsAmong known) known → EachIs (PointsAmong (types_after known n fs)) (types_after known n fs)
all_point known n [] h = h
all_point known n (f ∷ fs) h =
    let x = formed known n f in
    all_point (known ++ x ∷ []) (n + counted f) fs (all_join (known ++ x ∷ []) known (x ∷ []) (all_point_more known (x ∷ []) known h) (points_more known (x ∷ []) x (form_points known n f h), tt))

types_count : (known : List CType) (n : ℕ) (fs : List TypeForm) → length (types_after known n fs) ≡ length known + length fs
types_count known n [] = omega arith
types_count known n (f ∷ fs) = types_count (known ++ formed known n f ∷ []) (n + counted f) fs ∙ (let l = length-append known (formed known n f ∷ []) in omega (arith, l))

-- ---- sizes

no_size : (t : Table) (size : ℕ) → HasSize (tags t) (basic Void) size → IsObjectSize size
no_size t size h = absurd (let never : ⊥ = cc in never)

size_kept : (o : Option ℕ) (size : ℕ) → IfSome o IsObjectSize → o ≡ Some size → IsObjectSize size
size_kept (Some n) size h e = let k : n ≡ size = cc in subst IsObjectSize k h
size_kept None size h e = absurd (let never : ⊥ = cc in never)

module _ (t : Table) (limits : KeepsLimits t) where
  among_small : (of : CType) (size : ℕ) → IsAmong (types t) of → HasSize (tags t) of size → IsObjectSize size
  among_small of size (inl h) s =
      let l = types_count [] 0 t.forms in
      let k = h.1 in
      size_kept (extent (tags t) (type_at t h.0)).size size (limits h.0 (omega (arith, l, k))).bounded.size (ap (λ u. (extent (tags t) u).size) h.2 ∙ s)
  among_small of size (inr h) s = no_size t size (subst (λ u. HasSize (tags t) u size) h s)

  target_small : (of : CType) (size : ℕ) → PointsAmong (types t) of → HasSize (tags t) (target of) size → IsObjectSize size
  target_small (Plain q (Pointer to)) size h s = among_small to size h s
  target_small (Plain q (Simple b)) size h s = no_size t size s
  target_small (Plain q (Function result parameters)) size h s = no_size t size s
  target_small (Plain q (Structure n)) size h s = no_size t size s
  target_small (Plain q (Union n)) size h s = no_size t size s
  target_small (Plain q (Enumeration n)) size h s = no_size t size s
  target_small (Array of n) size h s = no_size t size s

  -- what the type at a place points to is no larger than an object
  pub pointed_small : (id size : ℕ) → HasSize (tags t) (target (type_at t id)) size → IsObjectSize size
  pointed_small id size s = target_small (type_at t id) size (point_at (types t) (types t) id (all_point [] 0 t.forms tt)) s

  size_or_small : (o : Option ℕ) → IfSome o IsObjectSize → IsObjectSize (size_or_zero o)
  size_or_small (Some n) h = h
  size_or_small None h = omega arith

  pub type_small : (id : ℕ) → id < length t.forms → IsObjectSize (size_or_zero (extent (tags t) (type_at t id)).size)
  type_small id h = size_or_small (extent (tags t) (type_at t id)).size (limits id h).bounded.size

  pub types_small : (ids : List ℕ) → AreBelow (length t.forms) ids → EachIs (λ u. IsObjectSize (size_or_zero (extent (tags t) u).size)) (map (type_in (types t)) ids)
  types_small [] h = tt
  types_small (id ∷ ids) h = (type_small id h.0, types_small ids h.1)
