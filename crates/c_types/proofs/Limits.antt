-- A composite passes no limit that its two types keep.
use Rattle.std.proofs.Common.{◌≡◌, ℕ, zero, suc, ◌+◌, ◌-◌, ◌<◌, ◌≤◌, Bool, true, false, List, [], ◌∷◌, drop, get_or, length, max, refl, sym, ap, ◌∙◌, subst, true≢false, arith}
use Rattle.std.specs.Prelude.{IfSome, None, Option, Some, is_some, nat_eq, nat_le, nat_lt, if◌then◌else◌}
use Rattle.std.specs.Option.{option_map}
use Rattle.std.specs.Map.{lookup}
use Rattle.std.proofs.lemmas.Bool.Decides.{nat_tests}
use Rattle.std.proofs.lemmas.List.{drop_more}
use Rattle.std.proofs.lemmas.Option.{slice_get-get_or}
use Rattle.c_types.specs.declared.definition.Definition.{Definition}
use Rattle.c_types.specs.declared.extent.Extent.{Extent}
use Rattle.c_types.specs.declared.form_key.FormKey.{FormKey}
use Rattle.c_types.specs.declared.qualifiers.Qualifiers.{Qualifiers}
use Rattle.c_types.specs.declared.type_form.TypeForm.{TypeForm}
use Rattle.c_types.specs.declared.type_form.TypeForm.TheVariants as form
use Rattle.c_types.specs.declared.type_table.Formed.{Formed}
use Rattle.c_types.specs.Bounds.{IsBounded}
use Rattle.c_types.specs.CType.{Basic, Void, Char, SignedChar, UnsignedChar, Short, UnsignedShort, Int, Unsigned, Long, UnsignedLong, CType, Plain, Array, Kind, Simple, Pointer, Function, Structure, Union, Enumeration, Parameters, Open, Listed, CTypes, NoType, And, basic, depth, greatest_depth, kind_depth, kind_of, parameters_depth, qualify, unqualified}
use Rattle.c_types.specs.Compatible.{all_compatible, basic_place, compatible, is_int, kind_compatible, kinds_compatible, lengths_fit, parameters_compatible, same_flag}
use Rattle.c_types.specs.Composite.{all_composite, composite, kinds_composite, known_length, parameters_composite}
use Rattle.c_types.specs.Facts.{AreListsCompatible, IsOfObjects, IsWithin, first_compatible}
use Rattle.c_types.specs.Keeps.{IsFact, IsSettled, Keeps}
use Rattle.c_types.specs.Layout.{Tag, array_extent, basic_extent, extent, extent_by, kind_extent, known, no_object, scalar}
use Rattle.c_types.specs.Readings.{is_array}
use Rattle.c_types.specs.Table.{AreSomeBelow, Grows, Table, excess, extent_at, form_at, form_refusal, formed, is_above, is_open_form, is_qualified, members_among, parameters_in, tagged, tags, type_at, type_in, types, types_in}
use Rattle.c_types.proofs.Bare.{basic_at}
use Rattle.c_types.proofs.lemmas.Qualifying.{depth_qualify, qualify_none}
use Rattle.c_types.proofs.Composed.{same_types}
use Rattle.c_types.proofs.Defined.{AreOpen, defined_extent, eq_of, found, members_found, open_all, own_extent}
use Rattle.c_types.proofs.Insides.{basic_type_at, length-forms, table_of, type_by_form}
use Rattle.c_types.proofs.Known.{and_left, and_right, element_some, extent_qualify}
use Rattle.c_types.proofs.Named.{all_over}
use Rattle.c_types.proofs.Placed.{some_entry}

-- ---- depth

int_depth : (b : Bool) (x : Basic) (n : ℕ) → kind_depth (if b then Enumeration n else Simple x) ≡ 1
int_depth true x n = refl
int_depth false x n = refl

mutual
  pub depth_composite : (s u : CType) → depth (composite s u) ≤ max (depth s) (depth u)
  depth_composite (Plain p a) (Plain q b) = kinds_depth a b
  depth_composite (Plain p a) (Array b m) = omega arith
  depth_composite (Array a n) (Plain q b) = omega arith
  depth_composite (Array a n) (Array b m) = let h = depth_composite a b in omega (arith, h)

  kinds_depth : (a b : Kind) → kind_depth (kinds_composite a b) ≤ max (kind_depth a) (kind_depth b)
  kinds_depth (Simple x) (Enumeration n) = let e = int_depth (is_int (Simple x)) x n in omega (arith, e)
  kinds_depth (Simple x) (Simple y) = omega arith
  kinds_depth (Simple x) (Pointer b) = omega arith
  kinds_depth (Simple x) (Function r ps) = omega arith
  kinds_depth (Simple x) (Structure n) = omega arith
  kinds_depth (Simple x) (Union n) = omega arith
  kinds_depth (Structure n) b = omega arith
  kinds_depth (Union n) b = omega arith
  kinds_depth (Enumeration n) b = omega arith
  kinds_depth (Pointer a) (Pointer b) = let h = depth_composite a b in omega (arith, h)
  kinds_depth (Pointer a) (Simple x) = omega arith
  kinds_depth (Pointer a) (Function r ps) = omega arith
  kinds_depth (Pointer a) (Structure n) = omega arith
  kinds_depth (Pointer a) (Union n) = omega arith
  kinds_depth (Pointer a) (Enumeration n) = omega arith
  kinds_depth (Function a ps) (Function b qs) =
      let h = depth_composite a b in
      let g = parameters_deep ps qs in
      omega (arith, h, g)
  kinds_depth (Function a ps) (Simple x) = omega arith
  kinds_depth (Function a ps) (Pointer b) = omega arith
  kinds_depth (Function a ps) (Structure n) = omega arith
  kinds_depth (Function a ps) (Union n) = omega arith
  kinds_depth (Function a ps) (Enumeration n) = omega arith

  pub parameters_deep : (ps qs : Parameters) → parameters_depth (parameters_composite ps qs) ≤ max (parameters_depth ps) (parameters_depth qs)
  parameters_deep Open qs = omega arith
  parameters_deep (Listed ps m) Open = omega arith
  parameters_deep (Listed ps m) (Listed qs n) = all_deep ps qs

  all_deep : (ps qs : CTypes) → greatest_depth (all_composite ps qs) ≤ max (greatest_depth ps) (greatest_depth qs)
  all_deep NoType NoType = omega arith
  all_deep NoType (And b bs) = omega arith
  all_deep (And a ss) NoType = omega arith
  all_deep (And a ss) (And b bs) =
      let h = depth_composite a b in
      let g = all_deep ss bs in
      omega (arith, h, g)

-- ---- extents

abbrev place_extent : ℕ → Extent
place_extent n = if nat_eq n 0 then no_object else if nat_le n 3 then scalar 1 else if nat_le n 5 then scalar 2 else scalar 4

by_place : (b : Basic) → basic_extent b ≡ place_extent (basic_place b)
by_place Void = refl
by_place Char = refl
by_place SignedChar = refl
by_place UnsignedChar = refl
by_place Short = refl
by_place UnsignedShort = refl
by_place Int = refl
by_place Unsigned = refl
by_place Long = refl
by_place UnsignedLong = refl

int_extent : (k : ℕ → Extent) (x : Basic) (n : ℕ) → kind_extent k (kinds_composite (Simple x) (Enumeration n)) ≡ basic_extent x
int_extent k Void n = refl
int_extent k Char n = refl
int_extent k SignedChar n = refl
int_extent k UnsignedChar n = refl
int_extent k Short n = refl
int_extent k UnsignedShort n = refl
int_extent k Int n = refl
int_extent k Unsigned n = refl
int_extent k Long n = refl
int_extent k UnsignedLong n = refl

kinds_extent : (k : ℕ → Extent) (a b : Kind) → kind_extent k (kinds_composite a b) ≡ kind_extent k a
kinds_extent k (Simple x) (Simple y) = refl
kinds_extent k (Simple x) (Pointer b) = refl
kinds_extent k (Simple x) (Function r ps) = refl
kinds_extent k (Simple x) (Structure n) = refl
kinds_extent k (Simple x) (Union n) = refl
kinds_extent k (Simple x) (Enumeration n) = int_extent k x n
kinds_extent k (Structure n) b = refl
kinds_extent k (Union n) b = refl
kinds_extent k (Enumeration n) b = refl
kinds_extent k (Pointer a) (Simple x) = refl
kinds_extent k (Pointer a) (Pointer b) = refl
kinds_extent k (Pointer a) (Function r ps) = refl
kinds_extent k (Pointer a) (Structure n) = refl
kinds_extent k (Pointer a) (Union n) = refl
kinds_extent k (Pointer a) (Enumeration n) = refl
kinds_extent k (Function a ps) (Simple x) = refl
kinds_extent k (Function a ps) (Pointer b) = refl
kinds_extent k (Function a ps) (Function b qs) = refl
kinds_extent k (Function a ps) (Structure n) = refl
kinds_extent k (Function a ps) (Union n) = refl
kinds_extent k (Function a ps) (Enumeration n) = refl

-- compatible kinds take the same room
alike_extent : (k : ℕ → Extent) (a b : Kind) → kinds_compatible a b ≡ true → kind_extent k b ≡ kind_extent k a
alike_extent k (Simple a) (Simple b) h = by_place b ∙ ap place_extent (sym (eq_of (basic_place a) (basic_place b) h)) ∙ sym (by_place a)
alike_extent k (Simple a) (Pointer b) h = absurd (true≢false (sym h))
alike_extent k (Simple a) (Function b qs) h = absurd (true≢false (sym h))
alike_extent k (Simple a) (Structure m) h = absurd (true≢false (sym h))
alike_extent k (Simple a) (Union m) h = absurd (true≢false (sym h))
alike_extent k (Simple a) (Enumeration m) h = sym (by_place a ∙ ap place_extent (eq_of (basic_place a) 6 h))
alike_extent k (Pointer a) (Simple b) h = absurd (true≢false (sym h))
alike_extent k (Pointer a) (Pointer b) h = refl
alike_extent k (Pointer a) (Function b qs) h = absurd (true≢false (sym h))
alike_extent k (Pointer a) (Structure m) h = absurd (true≢false (sym h))
alike_extent k (Pointer a) (Union m) h = absurd (true≢false (sym h))
alike_extent k (Pointer a) (Enumeration m) h = absurd (true≢false (sym h))
alike_extent k (Function a ps) (Simple b) h = absurd (true≢false (sym h))
alike_extent k (Function a ps) (Pointer b) h = absurd (true≢false (sym h))
alike_extent k (Function a ps) (Function b qs) h = refl
alike_extent k (Function a ps) (Structure m) h = absurd (true≢false (sym h))
alike_extent k (Function a ps) (Union m) h = absurd (true≢false (sym h))
alike_extent k (Function a ps) (Enumeration m) h = absurd (true≢false (sym h))
alike_extent k (Structure n) (Simple b) h = absurd (true≢false (sym h))
alike_extent k (Structure n) (Pointer b) h = absurd (true≢false (sym h))
alike_extent k (Structure n) (Function b qs) h = absurd (true≢false (sym h))
alike_extent k (Structure n) (Structure m) h = ap k (sym (eq_of n m h))
alike_extent k (Structure n) (Union m) h = absurd (true≢false (sym h))
alike_extent k (Structure n) (Enumeration m) h = absurd (true≢false (sym h))
alike_extent k (Union n) (Simple b) h = absurd (true≢false (sym h))
alike_extent k (Union n) (Pointer b) h = absurd (true≢false (sym h))
alike_extent k (Union n) (Function b qs) h = absurd (true≢false (sym h))
alike_extent k (Union n) (Structure m) h = absurd (true≢false (sym h))
alike_extent k (Union n) (Union m) h = ap k (sym (eq_of n m h))
alike_extent k (Union n) (Enumeration m) h = absurd (true≢false (sym h))
alike_extent k (Enumeration n) (Simple b) h = by_place b ∙ ap place_extent (eq_of (basic_place b) 6 h)
alike_extent k (Enumeration n) (Pointer b) h = absurd (true≢false (sym h))
alike_extent k (Enumeration n) (Function b qs) h = absurd (true≢false (sym h))
alike_extent k (Enumeration n) (Structure m) h = absurd (true≢false (sym h))
alike_extent k (Enumeration n) (Union m) h = absurd (true≢false (sym h))
alike_extent k (Enumeration n) (Enumeration m) h = refl

-- and so do compatible objects, and their composite
objects_extent : (k : ℕ → Extent) (s u : CType) → compatible s u ≡ true → is_some (extent_by k s).size ≡ true → is_some (extent_by k u).size ≡ true →
    (extent_by k (composite s u) ≡ extent_by k s) × (extent_by k u ≡ extent_by k s)
objects_extent k (Plain p a) (Plain q b) h i j = (kinds_extent k a b, alike_extent k a b (and_right (nat_eq p q) (kinds_compatible a b) h))
objects_extent k (Plain p a) (Array b m) h i j = absurd (true≢false (sym h))
objects_extent k (Array a n) (Plain q b) h i j = absurd (true≢false (sym h))
objects_extent k (Array a None) (Array b m) h i j = absurd (true≢false (sym i))
objects_extent k (Array a (Some n)) (Array b None) h i j = absurd (true≢false (sym j))
objects_extent k (Array a (Some n)) (Array b (Some m)) h i j =
    let r = objects_extent k a b (and_left (compatible a b) (nat_eq n m) h) (element_some (Some n) (extent_by k a).size i) (element_some (Some m) (extent_by k b).size j) in
    let e : n ≡ m = eq_of n m (and_right (compatible a b) (nat_eq n m) h) in
    (ap (array_extent (Some n)) r.0, ap (array_extent (Some m)) r.1 ∙ ap (λ (z : ℕ). array_extent (Some z) (extent_by k a)) (sym e))

-- ---- limits

composite_bounded : (k : ℕ → Extent) (s u : CType) → compatible s u ≡ true → IsWithin k s → IsWithin k u → IsBounded (extent_by k (composite s u))
composite_bounded k (Plain p a) (Plain q b) h x y = subst IsBounded (sym (kinds_extent k a b)) x.bounded
composite_bounded k (Plain p a) (Array b m) h x y = x.bounded
composite_bounded k (Array a n) (Plain q b) h x y = x.bounded
composite_bounded k (Array a None) (Array b m) h x y =
    let r = objects_extent k a b (and_left (compatible a b) true h) x.objects y.objects in
    subst IsBounded (sym (ap (array_extent m) (r.0 ∙ sym r.1))) y.bounded
composite_bounded k (Array a (Some n)) (Array b m) h x y =
    let r = objects_extent k a b (and_left (compatible a b) _ h) x.objects y.objects in
    subst IsBounded (sym (ap (array_extent (Some n)) r.0)) x.bounded

composite_objects : (k : ℕ → Extent) (s u : CType) → compatible s u ≡ true → IsWithin k s → IsWithin k u → IsOfObjects k (composite s u)
composite_objects k (Plain p a) (Plain q b) h x y = tt
composite_objects k (Plain p a) (Array b m) h x y = tt
composite_objects k (Array a n) (Plain q b) h x y = x.objects
composite_objects k (Array a n) (Array b m) h x y =
    let r = objects_extent k a b (and_left (compatible a b) _ h) x.objects y.objects in
    ap (λ (e : Extent). is_some e.size) r.0 ∙ x.objects

pub composite_within : (k : ℕ → Extent) (s u : CType) → compatible s u ≡ true → IsWithin k s → IsWithin k u → IsWithin k (composite s u)
composite_within k s u h x y =
    let d = depth_composite s u in
    let a = x.shallow in
    let b = y.shallow in
    record { shallow = omega (arith, d, a, b); bounded = composite_bounded k s u h x y; objects = composite_objects k s u h x y }

objects_qualify : (k : ℕ → Extent) (q : ℕ) (s : CType) → IsOfObjects k s → IsOfObjects k (qualify q s)
objects_qualify k q (Plain p kind) h = tt
objects_qualify k q (Array of n) h = ap (λ (e : Extent). is_some e.size) (extent_qualify k q of) ∙ h

pub within_qualify : (k : ℕ → Extent) (q : ℕ) (s : CType) → IsWithin k s → IsWithin k (qualify q s)
within_qualify k q s x =
    let d = depth_qualify q s in
    let a = x.shallow in
    record { shallow = omega (arith, d, a); bounded = subst IsBounded (sym (extent_qualify k q s)) x.bounded; objects = objects_qualify k q s x.objects }

-- ---- forms that pass no limit

not_above : (o : Option ℕ) → IfSome o (λ n. n ≤ 16777216) → is_above o ≡ false
not_above None h = refl
not_above (Some n) h = grind (arith, nat_tests)

not_excessive : (d : ℕ) (e : Extent) → d ≤ 500 → IsBounded e → excess d e ≡ None
not_excessive d e l b =
    let m = b.nesting in
    let x : is_above e.size ≡ false = not_above e.size b.size in
    let y : nat_lt 500 d ≡ false = grind (arith, nat_tests) in
    let z : nat_lt 500 e.nesting ≡ false = grind (arith, nat_tests) in
    rw (x, y, z) refl

pub within_accepted : (tags : List Tag) (s : CType) → IsWithin (known tags) s → excess (depth s) (extent tags s) ≡ None
within_accepted tags s x = not_excessive (depth s) (extent tags s) x.shallow x.bounded

pub array_accepted : (t : Table) (of : ℕ) (n : Option ℕ) → IsWithin (known (tags t)) (Array (type_at t of) n) → form_refusal t (form.Array of n) ≡ None
array_accepted t of n x = rw (x.objects) (within_accepted (tags t) (Array (type_at t of) n) x)

pub qualified_accepted : (t : Table) (of : ℕ) (q : Qualifiers) → IsWithin (known (tags t)) (type_at t of) → form_refusal t (form.Qualified of q) ≡ None
qualified_accepted t of q x = within_accepted (tags t) (qualify q.0 (type_at t of)) (within_qualify (known (tags t)) q.0 (type_at t of) x)

pub pointer_accepted : (t : Table) (to : ℕ) → 1 + depth (type_at t to) ≤ 500 → form_refusal t (form.Pointer to) ≡ None
pointer_accepted t to l = not_excessive (1 + depth (type_at t to)) (scalar 4) l (record { size = omega arith; some = omega arith; align = omega arith; nesting = omega arith })

pub function_accepted : (t : Table) (r : ℕ) (ps : Option (List ℕ)) (m : Bool) → depth (formed (types t) (tagged t.forms) (form.Function r ps m)) ≤ 500 → form_refusal t (form.Function r ps m) ≡ None
function_accepted t r ps m l = not_excessive (depth (formed (types t) (tagged t.forms) (form.Function r ps m))) no_object l (record { size = tt; some = omega arith; align = omega arith; nesting = omega arith })

-- ---- the types of a table keep the limits

basic_bounded : (b : Basic) → IsBounded (basic_extent b)
basic_bounded Void = record { size = tt; some = omega arith; align = omega arith; nesting = omega arith }
basic_bounded Char = record { size = omega arith; some = omega arith; align = omega arith; nesting = omega arith }
basic_bounded SignedChar = record { size = omega arith; some = omega arith; align = omega arith; nesting = omega arith }
basic_bounded UnsignedChar = record { size = omega arith; some = omega arith; align = omega arith; nesting = omega arith }
basic_bounded Short = record { size = omega arith; some = omega arith; align = omega arith; nesting = omega arith }
basic_bounded UnsignedShort = record { size = omega arith; some = omega arith; align = omega arith; nesting = omega arith }
basic_bounded Int = record { size = omega arith; some = omega arith; align = omega arith; nesting = omega arith }
basic_bounded Unsigned = record { size = omega arith; some = omega arith; align = omega arith; nesting = omega arith }
basic_bounded Long = record { size = omega arith; some = omega arith; align = omega arith; nesting = omega arith }
basic_bounded UnsignedLong = record { size = omega arith; some = omega arith; align = omega arith; nesting = omega arith }

settled_objects : (k : ℕ → Extent) (s : CType) → IsSettled k s → IsOfObjects k s
settled_objects k (Plain q kind) h = tt
settled_objects k (Array of n) h = h

open_objects : (k : ℕ → Extent) (ts : List CType) (n : ℕ) (f : TypeForm) → is_open_form f ≡ true → IsOfObjects k (formed ts n f)
open_objects k ts n form.Void h = tt
open_objects k ts n form.Char h = tt
open_objects k ts n form.SignedChar h = tt
open_objects k ts n form.UnsignedChar h = tt
open_objects k ts n form.Short h = tt
open_objects k ts n form.UnsignedShort h = tt
open_objects k ts n form.Int h = tt
open_objects k ts n form.Unsigned h = tt
open_objects k ts n form.Long h = tt
open_objects k ts n form.UnsignedLong h = tt
open_objects k ts n (form.Pointer to) h = tt
open_objects k ts n (form.Array of m) h = absurd (true≢false (sym h))
open_objects k ts n (form.Function r ps m) h = tt
open_objects k ts n form.Structure h = tt
open_objects k ts n form.Union h = tt
open_objects k ts n (form.Enumeration ms) h = tt
open_objects k ts n (form.Qualified of q) h = absurd (true≢false (sym h))

module _ (basics : List TypeForm) (es : List (FormKey × Formed)) (ds : List (ℕ × Definition)) (k : Keeps basics es ds (table_of basics es ds)) where
  abbrev whole : Table
  whole = table_of basics es ds

  entry_at : (id : ℕ) → id < length whole.forms → 10 ≤ id → (e : FormKey × Formed) × IsFact whole id e.1.facts
  entry_at id l b =
      let r = some_entry es (id - 10) (omega (arith, l, length-forms basics es k.basic)) in
      let p : 10 + (id - 10) ≡ id = omega arith in
      (r.0, subst (λ (j : ℕ). IsFact whole j r.0.1.facts) p (k.facts (id - 10) r.0 r.1))

  bounded_at : (id : ℕ) (e : FormKey × Formed) → id < length whole.forms → is_qualified (form_at whole id) ≡ false → IsFact whole id e.1.facts → IsBounded (extent_at whole id)
  bounded_at id e l q f = by (lookup (nat_eq id) ds) refl
    where
      by : (o : Option Definition) → lookup (nat_eq id) ds ≡ o → IsBounded (extent_at whole id)
      by (Some d) p =
          let r = found ds id d p in
          let x = k.defined r.0 (id, d) r.1 in
          subst IsBounded (sym (defined_extent whole id d x)) x.bounded
      by None p =
          let o : AreOpen whole whole.completed = open_all whole ds k.defined in
          let m : members_among whole.completed id ≡ None = members_found ds id ∙ ap (option_map (λ (d : Definition). d.members)) p in
          subst IsBounded (sym (own_extent whole id e.1.facts o l q m f)) f.bounded

  objects_at : (id : ℕ) (e : FormKey × Formed) → id < length whole.forms → is_qualified (form_at whole id) ≡ false → IsFact whole id e.1.facts → IsOfObjects (known (tags whole)) (type_at whole id)
  objects_at id e l q f = by (is_open_form (form_at whole id)) refl
    where
      by : (b : Bool) → is_open_form (form_at whole id) ≡ b → IsOfObjects (known (tags whole)) (type_at whole id)
      by true p =
          let g = slice_get-get_or whole.forms id form.Void l in
          let m = type_by_form whole id (form_at whole id) g (all_over basics es ds whole k id (form_at whole id) l g) in
          subst (IsOfObjects (known (tags whole))) (sym m) (open_objects (known (tags whole)) (types whole) _ (form_at whole id) p)
      by false p = settled_objects (known (tags whole)) (type_at whole id) (f.settled q p)

  within_basic : (id : ℕ) → id < 10 → IsWithin (known (tags whole)) (type_at whole id)
  within_basic id l =
      let b = basic_at id l in
      let w : IsWithin (known (tags whole)) (basic b.0) = record { shallow = omega arith; bounded = basic_bounded b.0; objects = tt } in
      subst (IsWithin (known (tags whole))) (sym (basic_type_at basics es ds id k.basic l ∙ b.1)) w

  within_plain : (id : ℕ) → id < length whole.forms → is_qualified (form_at whole id) ≡ false → IsWithin (known (tags whole)) (type_at whole id)
  within_plain id l q = by (nat_lt id 10) refl
    where
      by : (b : Bool) → nat_lt id 10 ≡ b → IsWithin (known (tags whole)) (type_at whole id)
      by true p = within_basic id (let a : id < 10 = grind (arith, nat_tests) in a)
      by false p =
          let a : 10 ≤ id = grind (arith, nat_tests) in
          let r = entry_at id l a in
          let f = r.1 in
          let d = f.depth in
          let e = f.deep in
          record { shallow = omega (arith, d, e); bounded = bounded_at id r.0 l q f; objects = objects_at id r.0 l q f }

  within_place : (id : ℕ) → id < length whole.forms → IsWithin (known (tags whole)) (type_at whole id)
  within_place id l = by (nat_lt id 10) refl
    where
      by : (b : Bool) → nat_lt id 10 ≡ b → IsWithin (known (tags whole)) (type_at whole id)
      by true p = within_basic id (let a : id < 10 = grind (arith, nat_tests) in a)
      by false p =
          let a : 10 ≤ id = grind (arith, nat_tests) in
          let r = entry_at id l a in
          let f = r.1 in
          let x = r.0.1.facts in
          let g = f.base in
          let w = within_plain x.base (omega (arith, g, l)) f.plain in
          subst (IsWithin (known (tags whole))) (sym f.means) (within_qualify (known (tags whole)) x.qualifiers.0 (type_at whole x.base) w)

  pub within_at : (t : Table) → whole ≡ t → (id : ℕ) → id < length t.forms → IsWithin (known (tags t)) (type_at t id)
  within_at t v id l =
      subst (λ (s : Table). IsWithin (known (tags s)) (type_at s id)) v (within_place id (subst (λ (s : Table). id < length s.forms) (sym v) l))

-- ---- the forms of a composite

pub array_fits : (t m : Table) → Grows t m → (p q : ℕ) (s u of other : CType) (n k : Option ℕ) (id : ℕ) → s ≡ Array of n → u ≡ Array other k → IsWithin (known (tags t)) s → IsWithin (known (tags t)) u → compatible (qualify p s) (qualify q u) ≡ true → type_at m id ≡ composite (qualify p of) (qualify q other) →
    form_refusal m (form.Array id (known_length n k)) ≡ None
array_fits t m g p q s u of other n k id e f x y h v =
    let K = known (tags t) in
    let c = composite (qualify p of) (qualify q other) in
    let w = composite_within K (qualify p s) (qualify q u) h (within_qualify K p s x) (within_qualify K q u y) in
    let r : composite (qualify p s) (qualify q u) ≡ Array c (known_length n k) = ap (λ (z : CType). composite (qualify p z) (qualify q u)) e ∙ ap (λ (z : CType). composite (qualify p (Array of n)) (qualify q z)) f in
    let a : IsWithin K (Array (type_at m id) (known_length n k)) = subst (λ (z : CType). IsWithin K (Array z (known_length n k))) (sym v) (subst (IsWithin K) r w) in
    array_accepted m id (known_length n k) (subst (λ (ts : List Tag). IsWithin (known ts) (Array (type_at m id) (known_length n k))) (sym g.tags_same) a)

pub pointer_fits : (m : Table) (s u a b : CType) (id : ℕ) → s ≡ Plain 0 (Pointer a) → u ≡ Plain 0 (Pointer b) → depth s ≤ 500 → depth u ≤ 500 → type_at m id ≡ composite a b → form_refusal m (form.Pointer id) ≡ None
pointer_fits m s u a b id e f x y v =
    let d = depth_composite a b in
    let i : depth s ≡ 1 + depth a = ap depth e in
    let j : depth u ≡ 1 + depth b = ap depth f in
    let k : depth (type_at m id) ≡ depth (composite a b) = ap depth v in
    pointer_accepted m id (omega (arith, d, i, j, k, x, y))

pub function_fits : (m : Table) (s u : CType) (r : ℕ) (ps : Option (List ℕ)) (more : Bool) → depth s ≤ 500 → depth u ≤ 500 → Plain 0 (Function (type_at m r) (parameters_in (types m) ps more)) ≡ composite s u → form_refusal m (form.Function r ps more) ≡ None
function_fits m s u r ps more x y v =
    let d = depth_composite s u in
    let k : depth (formed (types m) (tagged m.forms) (form.Function r ps more)) ≡ depth (composite s u) = ap depth v in
    function_accepted m r ps more (omega (arith, d, k, x, y))

-- ---- the parts of compatible types

pub kinds_alike : (p q : ℕ) (s u : CType) → is_array s ≡ false → compatible (qualify p s) (qualify q u) ≡ true → kind_compatible (kind_of s) u ≡ true
kinds_alike p q (Plain a k) (Plain b l) n h = and_right _ (kinds_compatible k l) h
kinds_alike p q (Plain a k) (Array b m) n h = h
kinds_alike p q (Array a m) u n h = absurd (true≢false n)

pub elements_alike : (p q : ℕ) (s u of other : CType) (n m : Option ℕ) → s ≡ Array of n → u ≡ Array other m → compatible (qualify p s) (qualify q u) ≡ true → compatible (qualify p of) (qualify q other) ≡ true
elements_alike p q s u of other n m e f h =
    and_left (compatible (qualify p of) (qualify q other)) (lengths_fit n m) (sym (ap (λ (z : CType). compatible (qualify p z) (qualify q u)) e ∙ ap (λ (z : CType). compatible (qualify p (Array of n)) (qualify q z)) f) ∙ h)

pub under_alike : (p0 q0 p q : ℕ) (s0 u0 s u : CType) → qualify p0 s0 ≡ qualify p s → qualify q0 u0 ≡ qualify q u → compatible (qualify p0 s0) (qualify q0 u0) ≡ true → compatible (qualify p s) (qualify q u) ≡ true
under_alike p0 q0 p q s0 u0 s u e g h = sym (ap (λ z. compatible z (qualify q0 u0)) e ∙ ap (compatible (qualify p s)) g) ∙ h

pub none_alike : (p q : ℕ) (s u : CType) → p ≡ 0 → q ≡ 0 → compatible s u ≡ true → compatible (qualify p s) (qualify q u) ≡ true
none_alike p q s u z y h =
    ap (λ x. compatible (qualify x s) (qualify q u)) z ∙ ap (λ x. compatible (qualify 0 s) (qualify x u)) y ∙ ap (λ x. compatible x (qualify 0 u)) (qualify_none s) ∙ ap (compatible s) (qualify_none u) ∙ h

pub pointers_alike : (s u a b : CType) → s ≡ Plain 0 (Pointer a) → u ≡ Plain 0 (Pointer b) → kind_compatible (kind_of s) u ≡ true → compatible a b ≡ true
pointers_alike s u a b e f h = sym (ap (λ (z : CType). kind_compatible (kind_of z) u) e ∙ ap (kind_compatible (Pointer a)) f) ∙ h

pub results_alike : (a b : CType) (ps qs : Parameters) → kinds_compatible (Function a ps) (Function b qs) ≡ true → compatible a b ≡ true
results_alike a b ps qs h = and_left (compatible a b) (parameters_compatible ps qs) h

pub lists_alike : (t : Table) (a b : CType) (ps qs : Option (List ℕ)) (m n : Bool) → kinds_compatible (Function a (parameters_in (types t) ps m)) (Function b (parameters_in (types t) qs n)) ≡ true → AreListsCompatible t ps qs
lists_alike t a b None qs m n h = tt
lists_alike t a b (Some ps) None m n h = tt
lists_alike t a b (Some ps) (Some qs) m n h = and_right (same_flag m n) _ (and_right (compatible a b) _ h)

pub lists_stay : (t m : Table) → Grows t m → (a b : Option (List ℕ)) → AreSomeBelow (length t.forms) a → AreSomeBelow (length t.forms) b → AreListsCompatible t a b → AreListsCompatible m a b
lists_stay t m g None b k l h = tt
lists_stay t m g (Some a) None k l h = tt
lists_stay t m g (Some a) (Some b) k l h = ap (λ z. all_compatible z (types_in (types m) b)) (same_types t m g a k) ∙ ap (all_compatible (types_in (types t) a)) (same_types t m g b l) ∙ h

pub one_alike : (ts : List CType) (a b : List ℕ) (i d : ℕ) → i < length a → all_compatible (types_in ts a) (types_in ts b) ≡ true → first_compatible (unqualified (type_in ts (get_or a i d))) (types_in ts (drop i b)) ≡ true
one_alike ts [] b i d l h = absurd (omega arith)
one_alike ts (x ∷ a) [] i d l h = absurd (true≢false (sym h))
one_alike ts (x ∷ a) (y ∷ b) zero d l h = and_left _ (all_compatible (types_in ts a) (types_in ts b)) h
one_alike ts (x ∷ a) (y ∷ b) (suc i) d l h = one_alike ts a b i d (omega arith) (and_right (compatible (unqualified (type_in ts x)) (unqualified (type_in ts y))) _ h)

pub first_alike : (ts : List CType) (s : CType) (b : List ℕ) (i d : ℕ) → i < length b → first_compatible s (types_in ts (drop i b)) ≡ true → compatible s (unqualified (type_in ts (get_or b i d))) ≡ true
first_alike ts s b i d l h = sym (ap (λ (xs : List ℕ). first_compatible s (types_in ts xs)) (drop_more b i d l)) ∙ h
