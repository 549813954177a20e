-- Looking up what completed a structure or union.
use Rattle.std.proofs.Common.{◌≡◌, ℕ, suc, ◌<◌, Bool, true, false, cond, List, [], ◌∷◌, ◌++◌, length, refl, sym, ap, ◌∙◌, true≢false, arith}
use Rattle.std.specs.Prelude.{slice_get, Some, None, nat_eq, ◌||◌, is_some}
use Rattle.std.specs.Option.{option_map}
use Rattle.std.proofs.lemmas.Option.{slice_get-get_or}
use Rattle.std.proofs.lemmas.Bool.Decides.{nat_tests}
use Rattle.std.specs.Map.{lookup}
use Rattle.c_types.specs.declared.type_form.TypeForm.{TypeForm}
use Rattle.c_types.specs.declared.type_form.TypeForm.TheVariants as form
use Rattle.c_types.specs.declared.definition.Definition.{Definition}
use Rattle.c_types.specs.Layout.{Tag, known, extent_by}
use Rattle.c_types.specs.Members.{is_defined}
use Rattle.c_types.specs.Table.{Table, Completed, tags, tags_of, tag_of, is_tagged, is_open_form, is_qualified, form_at, number_at, extent_at, members_among}
use Rattle.c_types.specs.declared.type_table.Facts.{Facts}
use Rattle.c_types.specs.Keeps.{IsDefinition, IsFact, completed_in}
use Rattle.c_types.proofs.Insides.{type_by_form}
use Rattle.c_types.proofs.Known.{IsApart, apart_push, known_apart, same_place}

pub eq_of : (a b : ℕ) → nat_eq a b ≡ true → a ≡ b
eq_of a b h = grind (arith, nat_tests)

pub found : (ds : List (ℕ × Definition)) (id : ℕ) (d : Definition) → lookup (nat_eq id) ds ≡ Some d → (k : ℕ) × (slice_get ds k ≡ Some (id, d))
found [] id d h = absurd (cc)
found (e ∷ ds) id d h = by (nat_eq id e.0) refl (found ds id d)
  where
    by : (b : Bool) → nat_eq id e.0 ≡ b → (lookup (nat_eq id) ds ≡ Some d → (k : ℕ) × (slice_get ds k ≡ Some (id, d))) → (k : ℕ) × (slice_get (e ∷ ds) k ≡ Some (id, d))
    by true p rest =
        let i : id ≡ e.0 = eq_of id e.0 p in
        let v : Some e.1 ≡ Some d = sym (ap (λ b. cond b (Some e.1) (lookup (nat_eq id) ds)) p) ∙ h in
        let w : e.1 ≡ d = cc in
        (0, rw (i, sym w) refl)
    by false p rest =
        let r = rest (sym (ap (λ b. cond b (Some e.1) (lookup (nat_eq id) ds)) p) ∙ h) in
        (suc r.0, r.1)

pub members_found : (ds : List (ℕ × Definition)) (id : ℕ) → members_among (completed_in ds) id ≡ option_map (λ (d : Definition). d.members) (lookup (nat_eq id) ds)
members_found [] id = refl
members_found (e ∷ ds) id = by (nat_eq id e.0) refl (members_found ds id)
  where
    by : (b : Bool) → nat_eq id e.0 ≡ b → members_among (completed_in ds) id ≡ option_map (λ (d : Definition). d.members) (lookup (nat_eq id) ds) → members_among (completed_in (e ∷ ds)) id ≡ option_map (λ (d : Definition). d.members) (lookup (nat_eq id) (e ∷ ds))
    by true p rest = rw p refl
    by false p rest = rw p rest

abbrev pub AreOpen : Table → List Completed → Type 0
AreOpen t [] = Unit {0}
AreOpen t (c ∷ cs) = (c.place < length t.forms) × (is_open_form (form_at t c.place) ≡ true) × AreOpen t cs

pub open_all : (t : Table) (ds : List (ℕ × Definition)) → ((i : ℕ) (e : ℕ × Definition) → slice_get ds i ≡ Some e → IsDefinition t e.0 e.1) → AreOpen t (completed_in ds)
open_all t [] h = tt
open_all t (e ∷ ds) h = let x = h 0 e refl in (x.within, x.form, open_all t ds (λ i d g. h (suc i) d g))

pub open_tagged : (f : TypeForm) → is_open_form f ≡ true → is_tagged f ≡ true
open_tagged form.Structure h = refl
open_tagged form.Union h = refl
open_tagged (form.Enumeration ms) h = refl
open_tagged form.Void h = h
open_tagged form.Char h = h
open_tagged form.SignedChar h = h
open_tagged form.UnsignedChar h = h
open_tagged form.Short h = h
open_tagged form.UnsignedShort h = h
open_tagged form.Int h = h
open_tagged form.Unsigned h = h
open_tagged form.Long h = h
open_tagged form.UnsignedLong h = h
open_tagged (form.Pointer to) h = h
open_tagged (form.Array of n) h = h
open_tagged (form.Function r ps m) h = h
open_tagged (form.Qualified of q) h = h

-- places of types by themselves have different numbers
pub same_number : (t : Table) (i j : ℕ) → i < length t.forms → is_tagged (form_at t i) ≡ true → j < length t.forms → is_tagged (form_at t j) ≡ true → number_at t i ≡ number_at t j → i ≡ j
same_number t i j a b d e n = same_place t.forms i j (form_at t i) (form_at t j) (slice_get-get_or t.forms i form.Void a) b (slice_get-get_or t.forms j form.Void d) e n

pub number_test : (t : Table) (i j : ℕ) → i < length t.forms → is_tagged (form_at t i) ≡ true → j < length t.forms → is_tagged (form_at t j) ≡ true → nat_eq (number_at t i) (number_at t j) ≡ nat_eq i j
number_test t i j a b d e =
    let s : number_at t i ≡ number_at t j → i ≡ j = same_number t i j a b d e in
    let r : i ≡ j → number_at t i ≡ number_at t j = λ u. ap (number_at t) u in
    grind (arith, nat_tests)

-- what isn't completed has a number that no definition has
pub apart : (t : Table) (cs : List Completed) (id : ℕ) → AreOpen t cs → id < length t.forms → is_tagged (form_at t id) ≡ true → members_among cs id ≡ None → IsApart (number_at t id) (tags_of t cs)
apart t [] id o l g h = tt
apart t (c ∷ cs) id o l g h = by (nat_eq id c.place) refl (apart t cs id o.2 l g)
  where
    by : (b : Bool) → nat_eq id c.place ≡ b → (members_among cs id ≡ None → IsApart (number_at t id) (tags_of t cs)) → IsApart (number_at t id) (tags_of t (c ∷ cs))
    by true p rest = absurd (let e : Some c.members ≡ None = sym (ap (λ b. cond b (Some c.members) (members_among cs id)) p) ∙ h in cc)
    by false p rest =
        let e : members_among cs id ≡ None = sym (ap (λ b. cond b (Some c.members) (members_among cs id)) p) ∙ h in
        apart_push (tags_of t cs) (tag_of t c) (number_at t id) (rest e) (number_test t id c.place l g o.0 (open_tagged _ o.1) ∙ p)

or_none : (b : Bool) → (b || false) ≡ b
or_none true = refl
or_none false = refl

or_true : (b : Bool) → (b || true) ≡ true
or_true true = refl
or_true false = refl

or_last : (a b c : Bool) → (a || (b || c)) ≡ ((a || b) || c)
or_last true b c = refl
or_last false b c = refl

defined_push : (tags : List Tag) (tag : Tag) (n : ℕ) → is_defined (tags ++ tag ∷ []) n ≡ (is_defined tags n || nat_eq n tag.number)
defined_push [] tag n = or_none (nat_eq n tag.number)
defined_push (t ∷ ts) tag n = ap (λ b. nat_eq n t.number || b) (defined_push ts tag n) ∙ or_last (nat_eq n t.number) (is_defined ts n) (nat_eq n tag.number)

-- the number of a place is defined where the place was completed
pub defined_at : (t : Table) (cs : List Completed) (id : ℕ) → AreOpen t cs → id < length t.forms → is_tagged (form_at t id) ≡ true → is_defined (tags_of t cs) (number_at t id) ≡ is_some (members_among cs id)
defined_at t [] id o l g = refl
defined_at t (c ∷ cs) id o l g =
    let n = number_at t id in
    let e : nat_eq n (number_at t c.place) ≡ nat_eq id c.place = number_test t id c.place l g o.0 (open_tagged _ o.1) in
    defined_push (tags_of t cs) (tag_of t c) n ∙ ap (λ b. is_defined (tags_of t cs) n || b) e ∙ by (nat_eq id c.place) (defined_at t cs id o.2 l g)
  where
    by : (b : Bool) → is_defined (tags_of t cs) (number_at t id) ≡ is_some (members_among cs id) → (is_defined (tags_of t cs) (number_at t id) || b) ≡ is_some (cond b (Some c.members) (members_among cs id))
    by true rest = or_true (is_defined (tags_of t cs) (number_at t id))
    by false rest = or_none (is_defined (tags_of t cs) (number_at t id)) ∙ rest

-- the extent of a structure or union is what is known of its number
pub open_extent : (t : Table) (id : ℕ) (f : TypeForm) → slice_get t.forms id ≡ Some f → is_open_form f ≡ true → extent_at t id ≡ known (tags t) (number_at t id)
open_extent t id form.Structure g h = ap (extent_by (known (tags t))) (type_by_form t id form.Structure g tt)
open_extent t id form.Union g h = ap (extent_by (known (tags t))) (type_by_form t id form.Union g tt)
open_extent t id (form.Enumeration ms) g h = absurd (true≢false (sym h))
open_extent t id form.Void g h = absurd (true≢false (sym h))
open_extent t id form.Char g h = absurd (true≢false (sym h))
open_extent t id form.SignedChar g h = absurd (true≢false (sym h))
open_extent t id form.UnsignedChar g h = absurd (true≢false (sym h))
open_extent t id form.Short g h = absurd (true≢false (sym h))
open_extent t id form.UnsignedShort g h = absurd (true≢false (sym h))
open_extent t id form.Int g h = absurd (true≢false (sym h))
open_extent t id form.Unsigned g h = absurd (true≢false (sym h))
open_extent t id form.Long g h = absurd (true≢false (sym h))
open_extent t id form.UnsignedLong g h = absurd (true≢false (sym h))
open_extent t id (form.Pointer to) g h = absurd (true≢false (sym h))
open_extent t id (form.Array of n) g h = absurd (true≢false (sym h))
open_extent t id (form.Function r ps m) g h = absurd (true≢false (sym h))
open_extent t id (form.Qualified of q) g h = absurd (true≢false (sym h))

-- the extent of what was completed
pub defined_extent : (t : Table) (id : ℕ) (d : Definition) → IsDefinition t id d → extent_at t id ≡ d.extent
defined_extent t id d h = open_extent t id (form_at t id) (slice_get-get_or t.forms id form.Void h.within) h.form ∙ h.extent

-- the extent of what isn't completed
pub own_extent : (t : Table) (id : ℕ) (x : Facts) → AreOpen t t.completed → id < length t.forms → is_qualified (form_at t id) ≡ false → members_among t.completed id ≡ None → IsFact t id x → extent_at t id ≡ x.extent
own_extent t id x o l q m f = by (is_open_form (form_at t id)) refl
  where
    by : (b : Bool) → is_open_form (form_at t id) ≡ b → extent_at t id ≡ x.extent
    by true p =
        open_extent t id (form_at t id) (slice_get-get_or t.forms id form.Void l) p
        ∙ known_apart (tags t) (number_at t id) (apart t t.completed id o l (open_tagged (form_at t id) p) m) ∙ sym (f.open_form p)
    by false p = f.extent q p
