-- What is const of a type: under qualifiers, of an array, and of a structure or union.
use Rattle.std.proofs.Common.{◌≡◌, ℕ, zero, suc, ◌/◌, ◌<◌, Bool, true, false, List, [], ◌∷◌, length, max, refl, sym, ap, ◌∙◌, true≢false, arith}
use Rattle.std.specs.Prelude.{None, bit_and, bit_or, ◌==◌, ◌||◌, if◌then◌else◌}
use Rattle.std.specs.Int.{bit_at}
use Rattle.std.proofs.lemmas.Nat.Bits.{bit_at_or, shr_and_one}
use Rattle.std.proofs.lemmas.Option.{slice_get-get_or}
use Rattle.c_types.specs.declared.type_form.TypeForm.{TypeForm}
use Rattle.c_types.specs.declared.type_form.TypeForm.TheVariants as form
use Rattle.c_types.specs.CType.{CType, Plain, Array, qualify}
use Rattle.c_types.specs.Constness.{const_known, has_const, has_const_by, is_const, kind_has_const}
use Rattle.c_types.specs.Layout.{Tag}
use Rattle.c_types.specs.Readings.{is_array}
use Rattle.c_types.specs.Table.{Table, IsOver, form_at, formed, is_open_form, is_qualified, members_among, number_at, tags, type_at, types}
use Rattle.c_types.specs.Keeps.{IsDefinition}
use Rattle.c_types.specs.declared.definition.Definition.{Definition}
use Rattle.c_types.proofs.Bare.{IsBare}
use Rattle.c_types.proofs.Defined.{AreOpen, apart, open_tagged}
use Rattle.c_types.proofs.Insides.{type_by_form}
use Rattle.c_types.proofs.Known.{IsApart}

first_bit : (n : ℕ) → bit_and n 1 ≡ bit_at n 0
first_bit n = let e : n / 1 ≡ n = omega arith in ap (λ m. bit_and m 1) (sym e) ∙ shr_and_one n 0

first_or : (a b : ℕ) → bit_and (bit_or a b) 1 ≡ max (bit_and a 1) (bit_and b 1)
first_or a b = first_bit (bit_or a b) ∙ bit_at_or a b 0 ∙ ap (λ x. max x (bit_at b 0)) (sym (first_bit a)) ∙ ap (λ x. max (bit_and a 1) x) (sym (first_bit b))

first_low : (n : ℕ) → bit_and n 1 < 2
first_low n = let e = first_bit n in omega (arith, e)

const_or : (a b : ℕ) → (bit_and (bit_or a b) 1 == 1) ≡ ((bit_and a 1 == 1) || (bit_and b 1 == 1))
const_or a b = ap (λ x. x == 1) (first_or a b) ∙ by (bit_and a 1) (bit_and b 1) (first_low a) (first_low b)
  where
    by : (x y : ℕ) → x < 2 → y < 2 → (max x y == 1) ≡ ((x == 1) || (y == 1))
    by zero zero l m = refl
    by zero (suc zero) l m = refl
    by (suc zero) zero l m = refl
    by (suc zero) (suc zero) l m = refl
    by (suc (suc x)) y l m = absurd (omega arith)
    by x (suc (suc y)) l m = absurd (omega arith)

or_true : (a c : Bool) → ((a || true) || c) ≡ true
or_true true c = refl
or_true false c = refl

or_false : (a c : Bool) → ((a || false) || c) ≡ (a || c)
or_false true c = refl
or_false false c = refl

or_right : (a : Bool) → (a || true) ≡ true
or_right true = refl
or_right false = refl

or_none : (a : Bool) → (a || false) ≡ a
or_none true = refl
or_none false = refl

pub const_qualified : (k : ℕ → Bool) (q : ℕ) (t : CType) → (bit_and q 1 == 1) ≡ true → has_const_by k (qualify q t) ≡ true
const_qualified k q (Plain p kind) h = ap (λ b. b || kind_has_const k kind) (const_or p q ∙ ap (λ b. (bit_and p 1 == 1) || b) h) ∙ or_true (bit_and p 1 == 1) (kind_has_const k kind)
const_qualified k q (Array of n) h = const_qualified k q of h

pub const_unqualified : (k : ℕ → Bool) (q : ℕ) (t : CType) → (bit_and q 1 == 1) ≡ false → has_const_by k (qualify q t) ≡ has_const_by k t
const_unqualified k q (Plain p kind) h = ap (λ b. b || kind_has_const k kind) (const_or p q ∙ ap (λ b. (bit_and p 1 == 1) || b) h) ∙ or_false (bit_and p 1 == 1) (kind_has_const k kind)
const_unqualified k q (Array of n) h = const_unqualified k q of h

-- the type's own const, or its element's
pub own_const : (q : ℕ) (t : CType) → (bit_and q 1 == 1) ≡ true → is_const (qualify q t) ≡ true
own_const q (Plain p kind) h = const_or p q ∙ ap (λ b. (bit_and p 1 == 1) || b) h ∙ or_right (bit_and p 1 == 1)
own_const q (Array of n) h = own_const q of h

pub own_unqualified : (q : ℕ) (t : CType) → (bit_and q 1 == 1) ≡ false → is_const (qualify q t) ≡ is_const t
own_unqualified q (Plain p kind) h = const_or p q ∙ ap (λ b. (bit_and p 1 == 1) || b) h ∙ or_none (bit_and p 1 == 1)
own_unqualified q (Array of n) h = own_unqualified q of h

pub none_const : (t : CType) → IsBare t → is_array t ≡ false → is_const t ≡ false
none_const (Plain p kind) e a = ap (λ q. bit_and q 1 == 1) e
none_const (Array of n) e a = absurd (true≢false a)

-- no definition has the number
pub const_apart : (tags : List Tag) (n : ℕ) → IsApart n tags → const_known tags n ≡ false
const_apart [] n h = refl
const_apart (tag ∷ tags) n h = rw (h.0) (const_apart tags n h.1)

-- but arrays, only structures and unions have something const in them that isn't qualified
pub const_formed : (k : ℕ → Bool) (ts : List CType) (n : ℕ) (f : TypeForm) → is_qualified f ≡ false → is_array (formed ts n f) ≡ false → has_const_by k (formed ts n f) ≡ (if is_open_form f then k n else false)
const_formed k ts n form.Void h a = refl
const_formed k ts n form.Char h a = refl
const_formed k ts n form.SignedChar h a = refl
const_formed k ts n form.UnsignedChar h a = refl
const_formed k ts n form.Short h a = refl
const_formed k ts n form.UnsignedShort h a = refl
const_formed k ts n form.Int h a = refl
const_formed k ts n form.Unsigned h a = refl
const_formed k ts n form.Long h a = refl
const_formed k ts n form.UnsignedLong h a = refl
const_formed k ts n (form.Pointer to) h a = refl
const_formed k ts n (form.Array of m) h a = absurd (true≢false a)
const_formed k ts n (form.Function r ps m) h a = refl
const_formed k ts n form.Structure h a = refl
const_formed k ts n form.Union h a = refl
const_formed k ts n (form.Enumeration ms) h a = refl
const_formed k ts n (form.Qualified of p) h a = absurd (true≢false h)

-- what is kept in the definition; where there is no definition nothing is const
pub const_found : (t : Table) (id : ℕ) (d : Definition) → IsDefinition t id d → IsOver id (form_at t id) → is_qualified (form_at t id) ≡ false → is_array (type_at t id) ≡ false → d.constant ≡ has_const (tags t) (type_at t id)
const_found t id d x v p a =
    let k = const_known (tags t) in
    let e = type_by_form t id (form_at t id) (slice_get-get_or t.forms id form.Void x.within) v in
    sym (ap (has_const_by k) e ∙ const_formed k (types t) (number_at t id) (form_at t id) p (ap is_array (sym e) ∙ a) ∙ ap (λ b. if b then k (number_at t id) else false) x.form ∙ x.constant)

pub const_missing : (t : Table) (id : ℕ) → AreOpen t t.completed → id < length t.forms → members_among t.completed id ≡ None → IsOver id (form_at t id) → is_qualified (form_at t id) ≡ false → is_array (type_at t id) ≡ false → false ≡ has_const (tags t) (type_at t id)
const_missing t id o w m v p a =
    let k = const_known (tags t) in
    let e = type_by_form t id (form_at t id) (slice_get-get_or t.forms id form.Void w) v in
    sym (ap (has_const_by k) e ∙ const_formed k (types t) (number_at t id) (form_at t id) p (ap is_array (sym e) ∙ a) ∙ by (is_open_form (form_at t id)) refl)
  where
    by : (b : Bool) → is_open_form (form_at t id) ≡ b → (if b then const_known (tags t) (number_at t id) else false) ≡ false
    by true h = const_apart (tags t) (number_at t id) (apart t t.completed id o w (open_tagged (form_at t id) h) m)
    by false h = refl
