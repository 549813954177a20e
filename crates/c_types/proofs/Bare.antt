-- Types without qualifiers of their own, and which of them are compatible at different places.
use Rattle.std.proofs.Common.{◌≡◌, ℕ, zero, suc, ◌+◌, ◌-◌, ◌<◌, ◌≤◌, Bool, true, false, List, length, refl, sym, ap, ◌∙◌, subst, true≢false, arith}
use Rattle.std.specs.Prelude.{◌≢◌, slice_get, Some, None, Option, nat_eq, nat_lt, if◌then◌else◌}
use Rattle.std.proofs.lemmas.Bool.Decides.{nat_tests}
use Rattle.std.proofs.lemmas.Option.{get_or_from_slice_get, slice_get-get_or}
use Rattle.c_types.specs.declared.type_form.TypeForm.{TypeForm}
use Rattle.c_types.specs.declared.type_form.TypeForm.TheVariants as form
use Rattle.c_types.specs.declared.type_form.Enumerator.{Enumerator}
use Rattle.c_types.specs.declared.form_key.FormKey.{FormKey}
use Rattle.c_types.specs.declared.type_table.Formed.{Formed}
use Rattle.c_types.specs.declared.definition.Definition.{Definition}
use Rattle.c_types.specs.CType.{Basic, Void, Char, SignedChar, UnsignedChar, Short, UnsignedShort, Int, Unsigned, Long, UnsignedLong, CType, Plain, Array, Simple, Pointer, Function, Structure, Union, Enumeration, basic, kind_of, qualify, unqualified}
use Rattle.c_types.specs.Compatible.{basic_place, is_int, kind_compatible}
use Rattle.c_types.specs.Readings.{is_array}
use Rattle.c_types.specs.Table.{Table, basic_forms, form_at, formed, is_qualified, is_tagged, number_at, type_at, type_in, types, types_of}
use Rattle.c_types.specs.Keeps.{Keeps, is_formed}
use Rattle.c_types.proofs.Insides.{basic_type_at, form_of_entry, length-forms, table_of, type_by_form}
use Rattle.c_types.proofs.Defined.{number_test}
use Rattle.c_types.proofs.Named.{all_over}
use Rattle.c_types.proofs.Placed.{some_entry}

abbrev pub IsBare : CType → Type 0
IsBare (Plain q k) = q ≡ 0
IsBare (Array of n) = Unit {0}

pub bare_formed : (ts : List CType) (n : ℕ) (f : TypeForm) → is_qualified f ≡ false → IsBare (formed ts n f)
bare_formed ts n form.Void q = refl
bare_formed ts n form.Char q = refl
bare_formed ts n form.SignedChar q = refl
bare_formed ts n form.UnsignedChar q = refl
bare_formed ts n form.Short q = refl
bare_formed ts n form.UnsignedShort q = refl
bare_formed ts n form.Int q = refl
bare_formed ts n form.Unsigned q = refl
bare_formed ts n form.Long q = refl
bare_formed ts n form.UnsignedLong q = refl
bare_formed ts n (form.Pointer to) q = refl
bare_formed ts n (form.Array of m) q = tt
bare_formed ts n (form.Function r ps m) q = refl
bare_formed ts n form.Structure q = refl
bare_formed ts n form.Union q = refl
bare_formed ts n (form.Enumeration ms) q = refl
bare_formed ts n (form.Qualified of p) q = absurd (true≢false q)

-- the type at a place is its form's
pub means_at : (basics : List TypeForm) (es : List (FormKey × Formed)) (ds : List (ℕ × Definition)) (t : Table) → Keeps basics es ds (table_of basics es ds) → table_of basics es ds ≡ t → (id : ℕ) → id < length t.forms → type_at t id ≡ formed (types t) (number_at t id) (form_at t id)
means_at basics es ds t k v id l =
    let T = table_of basics es ds in
    let u : id < length T.forms = subst (λ (s : Table). id < length s.forms) (sym v) l in
    let g = slice_get-get_or T.forms id form.Void u in
    subst (λ (s : Table). type_at s id ≡ formed (types s) (number_at s id) (form_at s id)) v (type_by_form T id (form_at T id) g (all_over basics es ds T k id (form_at T id) u g))

pub bare_at : (basics : List TypeForm) (es : List (FormKey × Formed)) (ds : List (ℕ × Definition)) (t : Table) → Keeps basics es ds (table_of basics es ds) → table_of basics es ds ≡ t → (id : ℕ) → id < length t.forms → is_qualified (form_at t id) ≡ false → IsBare (type_at t id)
bare_at basics es ds t k v id l q = subst IsBare (sym (means_at basics es ds t k v id l)) (bare_formed (types t) (number_at t id) (form_at t id) q)

-- behind the basic types no form is one's
pub formed_beyond : (basics : List TypeForm) (es : List (FormKey × Formed)) (ds : List (ℕ × Definition)) (t : Table) → Keeps basics es ds (table_of basics es ds) → table_of basics es ds ≡ t → (id : ℕ) → id < length t.forms → 10 ≤ id → is_formed (form_at t id) ≡ true
formed_beyond basics es ds t k v id l b =
    let T = table_of basics es ds in
    let u : id < length T.forms = subst (λ (s : Table). id < length s.forms) (sym v) l in
    let w : id - 10 < length es = omega (arith, u, length-forms basics es k.basic) in
    let r = some_entry es (id - 10) w in
    let i : id ≡ 10 + (id - 10) = omega arith in
    let g : slice_get T.forms id ≡ Some r.0.1.form = form_of_entry basics es (id - 10) id r.0 k.basic i r.1 in
    subst (λ (s : Table). is_formed (form_at s id) ≡ true) v (ap is_formed (get_or_from_slice_get T.forms id r.0.1.form form.Void g) ∙ k.formed (id - 10) r.0 r.1)

-- ---- basic types

pub basic_at : (id : ℕ) → id < 10 → (b : Basic) × (type_in (types_of basic_forms) id ≡ basic b) × (basic_place b ≡ id)
basic_at zero l = (Void, refl, refl)
basic_at (suc zero) l = (Char, refl, refl)
basic_at (suc (suc zero)) l = (SignedChar, refl, refl)
basic_at (suc (suc (suc zero))) l = (UnsignedChar, refl, refl)
basic_at (suc (suc (suc (suc zero)))) l = (Short, refl, refl)
basic_at (suc (suc (suc (suc (suc zero))))) l = (UnsignedShort, refl, refl)
basic_at (suc (suc (suc (suc (suc (suc zero)))))) l = (Int, refl, refl)
basic_at (suc (suc (suc (suc (suc (suc (suc zero))))))) l = (Unsigned, refl, refl)
basic_at (suc (suc (suc (suc (suc (suc (suc (suc zero)))))))) l = (Long, refl, refl)
basic_at (suc (suc (suc (suc (suc (suc (suc (suc (suc zero))))))))) l = (UnsignedLong, refl, refl)
basic_at (suc (suc (suc (suc (suc (suc (suc (suc (suc (suc n)))))))))) l = absurd (omega arith)

basic_below : (basics : List TypeForm) (es : List (FormKey × Formed)) (ds : List (ℕ × Definition)) (t : Table) → Keeps basics es ds (table_of basics es ds) → table_of basics es ds ≡ t → (id : ℕ) → id < 10 → type_at t id ≡ type_in (types_of basic_forms) id
basic_below basics es ds t k v id l = subst (λ (s : Table). type_at s id ≡ type_in (types_of basic_forms) id) v (basic_type_at basics es ds id k.basic l)

places_apart : (a b : ℕ) → a ≢ b → nat_eq a b ≡ false
places_apart a b n = grind (arith, nat_tests)

basics_apart : (a b : ℕ) → a < 10 → b < 10 → a ≢ b → kind_compatible (kind_of (type_in (types_of basic_forms) a)) (type_in (types_of basic_forms) b) ≡ false
basics_apart a b l m n =
    let x = basic_at a l in
    let y = basic_at b m in
    ap (λ (s : CType). kind_compatible (kind_of s) (type_in (types_of basic_forms) b)) x.1 ∙ ap (kind_compatible (Simple x.0)) y.1
    ∙ ap (λ z. nat_eq z (basic_place y.0)) x.2 ∙ ap (nat_eq a) y.2 ∙ places_apart a b n

formed_apart : (x : Basic) (ts : List CType) (n : ℕ) (f : TypeForm) → is_formed f ≡ true → is_qualified f ≡ false → ((ms : List Enumerator) → f ≡ form.Enumeration ms → ⊥) → kind_compatible (Simple x) (formed ts n f) ≡ false
formed_apart x ts n form.Void u q h = absurd (true≢false (sym u))
formed_apart x ts n form.Char u q h = absurd (true≢false (sym u))
formed_apart x ts n form.SignedChar u q h = absurd (true≢false (sym u))
formed_apart x ts n form.UnsignedChar u q h = absurd (true≢false (sym u))
formed_apart x ts n form.Short u q h = absurd (true≢false (sym u))
formed_apart x ts n form.UnsignedShort u q h = absurd (true≢false (sym u))
formed_apart x ts n form.Int u q h = absurd (true≢false (sym u))
formed_apart x ts n form.Unsigned u q h = absurd (true≢false (sym u))
formed_apart x ts n form.Long u q h = absurd (true≢false (sym u))
formed_apart x ts n form.UnsignedLong u q h = absurd (true≢false (sym u))
formed_apart x ts n (form.Pointer to) u q h = refl
formed_apart x ts n (form.Array of m) u q h = refl
formed_apart x ts n (form.Function r ps m) u q h = refl
formed_apart x ts n form.Structure u q h = refl
formed_apart x ts n form.Union u q h = refl
formed_apart x ts n (form.Enumeration ms) u q h = absurd (h ms refl)
formed_apart x ts n (form.Qualified of p) u q h = absurd (true≢false q)

-- int and an enumeration
pub basic_enumeration : (a : ℕ) → a < 10 → (s u : CType) (n : ℕ) → s ≡ type_in (types_of basic_forms) a → u ≡ Plain 0 (Enumeration n) → nat_eq a 6 ≡ kind_compatible (kind_of s) u
basic_enumeration a l s u n e g =
    let x = basic_at a l in
    sym (ap (λ (z : CType). kind_compatible (kind_of z) u) (e ∙ x.1) ∙ ap (kind_compatible (Simple x.0)) g ∙ ap (λ z. nat_eq z 6) x.2)

-- a basic type and no enumeration
pub basic_apart : (basics : List TypeForm) (es : List (FormKey × Formed)) (ds : List (ℕ × Definition)) (t : Table) → Keeps basics es ds (table_of basics es ds) → table_of basics es ds ≡ t → (a b : ℕ) → a < 10 → b < length t.forms → a ≢ b → is_qualified (form_at t b) ≡ false →
    ((ms : List Enumerator) → form_at t b ≡ form.Enumeration ms → ⊥) → kind_compatible (kind_of (type_at t a)) (type_at t b) ≡ false
basic_apart basics es ds t k v a b l m n q h = by (nat_lt b 10) refl
  where
    by : (z : Bool) → nat_lt b 10 ≡ z → kind_compatible (kind_of (type_at t a)) (type_at t b) ≡ false
    by true p =
        let w : b < 10 = grind (arith, nat_tests) in
        ap (λ (s : CType). kind_compatible (kind_of s) (type_at t b)) (basic_below basics es ds t k v a l) ∙ ap (kind_compatible (kind_of (type_in (types_of basic_forms) a))) (basic_below basics es ds t k v b w)
        ∙ basics_apart a b l w n
    by false p =
        let w : 10 ≤ b = grind (arith, nat_tests) in
        let x = basic_at a l in
        ap (λ (s : CType). kind_compatible (kind_of s) (type_at t b)) (basic_below basics es ds t k v a l ∙ x.1)
        ∙ ap (kind_compatible (Simple x.0)) (means_at basics es ds t k v b m)
        ∙ formed_apart x.0 (types t) (number_at t b) (form_at t b) (formed_beyond basics es ds t k v b m w) q h

-- ---- structures, unions and enumerations

abbrev tag_number : CType → Option ℕ
tag_number (Plain q (Structure n)) = Some n
tag_number (Plain q (Union n)) = Some n
tag_number (Plain q (Enumeration n)) = Some n
tag_number t = None

tag_formed : (ts : List CType) (n : ℕ) (f : TypeForm) → is_qualified f ≡ false → tag_number (formed ts n f) ≡ (if is_tagged f then Some n else None)
tag_formed ts n form.Void q = refl
tag_formed ts n form.Char q = refl
tag_formed ts n form.SignedChar q = refl
tag_formed ts n form.UnsignedChar q = refl
tag_formed ts n form.Short q = refl
tag_formed ts n form.UnsignedShort q = refl
tag_formed ts n form.Int q = refl
tag_formed ts n form.Unsigned q = refl
tag_formed ts n form.Long q = refl
tag_formed ts n form.UnsignedLong q = refl
tag_formed ts n (form.Pointer to) q = refl
tag_formed ts n (form.Array of m) q = refl
tag_formed ts n (form.Function r ps m) q = refl
tag_formed ts n form.Structure q = refl
tag_formed ts n form.Union q = refl
tag_formed ts n (form.Enumeration ms) q = refl
tag_formed ts n (form.Qualified of p) q = absurd (true≢false q)

numbers_apart : (t : Table) (a b : ℕ) → a < length t.forms → is_tagged (form_at t a) ≡ true → b < length t.forms → is_qualified (form_at t b) ≡ false → type_at t b ≡ formed (types t) (number_at t b) (form_at t b) → a ≢ b → (m : ℕ) → tag_number (type_at t b) ≡ Some m → nat_eq (number_at t a) m ≡ false
numbers_apart t a b l g m q e n k h = by (is_tagged (form_at t b)) refl
  where
    given : (if is_tagged (form_at t b) then Some (number_at t b) else None) ≡ Some k
    given = sym (ap tag_number e ∙ tag_formed (types t) (number_at t b) (form_at t b) q) ∙ h

    by : (z : Bool) → is_tagged (form_at t b) ≡ z → nat_eq (number_at t a) k ≡ false
    by true p =
        let c : Some (number_at t b) ≡ Some k = sym (ap (λ (z : Bool). if z then Some (number_at t b) else None) p) ∙ given in
        let d : number_at t b ≡ k = cc in
        ap (nat_eq (number_at t a)) (sym d) ∙ number_test t a b l g m p ∙ places_apart a b n
    by false p = absurd (let c : None ≡ Some k = sym (ap (λ (z : Bool). if z then Some (number_at t b) else None) p) ∙ given in cc)

abbrev pub is_int_type : CType → Bool
is_int_type (Plain q k) = is_int k
is_int_type (Array of n) = false

structure_against : (n : ℕ) (s : CType) → ((m : ℕ) → tag_number s ≡ Some m → nat_eq n m ≡ false) → kind_compatible (Structure n) s ≡ false
structure_against n (Plain q (Simple b)) h = refl
structure_against n (Plain q (Pointer to)) h = refl
structure_against n (Plain q (Function r ps)) h = refl
structure_against n (Plain q (Structure m)) h = h m refl
structure_against n (Plain q (Union m)) h = refl
structure_against n (Plain q (Enumeration m)) h = refl
structure_against n (Array of m) h = refl

union_against : (n : ℕ) (s : CType) → ((m : ℕ) → tag_number s ≡ Some m → nat_eq n m ≡ false) → kind_compatible (Union n) s ≡ false
union_against n (Plain q (Simple b)) h = refl
union_against n (Plain q (Pointer to)) h = refl
union_against n (Plain q (Function r ps)) h = refl
union_against n (Plain q (Structure m)) h = refl
union_against n (Plain q (Union m)) h = h m refl
union_against n (Plain q (Enumeration m)) h = refl
union_against n (Array of m) h = refl

enumeration_against : (n : ℕ) (s : CType) → ((m : ℕ) → tag_number s ≡ Some m → nat_eq n m ≡ false) → kind_compatible (Enumeration n) s ≡ is_int_type s
enumeration_against n (Plain q (Simple b)) h = refl
enumeration_against n (Plain q (Pointer to)) h = refl
enumeration_against n (Plain q (Function r ps)) h = refl
enumeration_against n (Plain q (Structure m)) h = refl
enumeration_against n (Plain q (Union m)) h = refl
enumeration_against n (Plain q (Enumeration m)) h = h m refl
enumeration_against n (Array of m) h = refl

int_basic : (id : ℕ) → id < 10 → is_int_type (type_in (types_of basic_forms) id) ≡ nat_eq id 6
int_basic zero l = refl
int_basic (suc zero) l = refl
int_basic (suc (suc zero)) l = refl
int_basic (suc (suc (suc zero))) l = refl
int_basic (suc (suc (suc (suc zero)))) l = refl
int_basic (suc (suc (suc (suc (suc zero))))) l = refl
int_basic (suc (suc (suc (suc (suc (suc zero)))))) l = refl
int_basic (suc (suc (suc (suc (suc (suc (suc zero))))))) l = refl
int_basic (suc (suc (suc (suc (suc (suc (suc (suc zero)))))))) l = refl
int_basic (suc (suc (suc (suc (suc (suc (suc (suc (suc zero))))))))) l = refl
int_basic (suc (suc (suc (suc (suc (suc (suc (suc (suc (suc n)))))))))) l = absurd (omega arith)

int_formed : (ts : List CType) (n : ℕ) (f : TypeForm) → is_formed f ≡ true → is_qualified f ≡ false → is_int_type (formed ts n f) ≡ false
int_formed ts n form.Void u q = absurd (true≢false (sym u))
int_formed ts n form.Char u q = absurd (true≢false (sym u))
int_formed ts n form.SignedChar u q = absurd (true≢false (sym u))
int_formed ts n form.UnsignedChar u q = absurd (true≢false (sym u))
int_formed ts n form.Short u q = absurd (true≢false (sym u))
int_formed ts n form.UnsignedShort u q = absurd (true≢false (sym u))
int_formed ts n form.Int u q = absurd (true≢false (sym u))
int_formed ts n form.Unsigned u q = absurd (true≢false (sym u))
int_formed ts n form.Long u q = absurd (true≢false (sym u))
int_formed ts n form.UnsignedLong u q = absurd (true≢false (sym u))
int_formed ts n (form.Pointer to) u q = refl
int_formed ts n (form.Array of m) u q = refl
int_formed ts n (form.Function r ps m) u q = refl
int_formed ts n form.Structure u q = refl
int_formed ts n form.Union u q = refl
int_formed ts n (form.Enumeration ms) u q = refl
int_formed ts n (form.Qualified of p) u q = absurd (true≢false q)

-- int has its place
pub int_place : (basics : List TypeForm) (es : List (FormKey × Formed)) (ds : List (ℕ × Definition)) (t : Table) → Keeps basics es ds (table_of basics es ds) → table_of basics es ds ≡ t → (b : ℕ) → b < length t.forms → is_qualified (form_at t b) ≡ false → is_int_type (type_at t b) ≡ nat_eq b 6
int_place basics es ds t k v b m q = by (nat_lt b 10) refl
  where
    by : (z : Bool) → nat_lt b 10 ≡ z → is_int_type (type_at t b) ≡ nat_eq b 6
    by true p = let w : b < 10 = grind (arith, nat_tests) in ap is_int_type (basic_below basics es ds t k v b w) ∙ int_basic b w
    by false p =
        let w : 10 ≤ b = grind (arith, nat_tests) in
        let n : nat_eq b 6 ≡ false = grind (arith, nat_tests) in
        ap is_int_type (means_at basics es ds t k v b m) ∙ int_formed (types t) (number_at t b) (form_at t b) (formed_beyond basics es ds t k v b m w) q ∙ sym n

-- an enumeration and a type at another place
pub enumeration_apart : (basics : List TypeForm) (es : List (FormKey × Formed)) (ds : List (ℕ × Definition)) (t : Table) → Keeps basics es ds (table_of basics es ds) → table_of basics es ds ≡ t → (a b : ℕ) → a < length t.forms → is_tagged (form_at t a) ≡ true → b < length t.forms → a ≢ b → is_qualified (form_at t b) ≡ false →
    type_at t a ≡ Plain 0 (Enumeration (number_at t a)) → nat_eq b 6 ≡ kind_compatible (kind_of (type_at t a)) (type_at t b)
enumeration_apart basics es ds t k v a b l g m n q e =
    sym (ap (λ (s : CType). kind_compatible (kind_of s) (type_at t b)) e
    ∙ enumeration_against (number_at t a) (type_at t b) (numbers_apart t a b l g m q (means_at basics es ds t k v b m) n) ∙ int_place basics es ds t k v b m q)

tag_against : (ts : List CType) (n : ℕ) (f : TypeForm) (s : CType) → is_tagged f ≡ true → ((ms : List Enumerator) → f ≡ form.Enumeration ms → ⊥) → ((m : ℕ) → tag_number s ≡ Some m → nat_eq n m ≡ false) → kind_compatible (kind_of (formed ts n f)) s ≡ false
tag_against ts n form.Structure s g h d = structure_against n s d
tag_against ts n form.Union s g h d = union_against n s d
tag_against ts n (form.Enumeration ms) s g h d = absurd (h ms refl)
tag_against ts n f s g h d = absurd (true≢false (sym g))

-- a structure or union and a type at another place
pub tag_apart : (basics : List TypeForm) (es : List (FormKey × Formed)) (ds : List (ℕ × Definition)) (t : Table) → Keeps basics es ds (table_of basics es ds) → table_of basics es ds ≡ t → (a b : ℕ) → a < length t.forms → is_tagged (form_at t a) ≡ true → b < length t.forms → a ≢ b → is_qualified (form_at t b) ≡ false →
    ((ms : List Enumerator) → form_at t a ≡ form.Enumeration ms → ⊥) → kind_compatible (kind_of (type_at t a)) (type_at t b) ≡ false
tag_apart basics es ds t k v a b l g m n q h =
    ap (λ (s : CType). kind_compatible (kind_of s) (type_at t b)) (means_at basics es ds t k v a l)
    ∙ tag_against (types t) (number_at t a) (form_at t a) (type_at t b) g h (numbers_apart t a b l g m q (means_at basics es ds t k v b m) n)

-- ---- types under qualifiers

-- a parameter's type without its own qualifiers
pub parameter_bare : (q : ℕ) (s : CType) → IsBare s → is_array s ≡ false → s ≡ unqualified (qualify q s)
parameter_bare q (Plain p k) h n = ap (λ z. Plain z k) h
parameter_bare q (Array of m) h n = absurd (true≢false n)

pub parameter_array : (q : ℕ) (s : CType) → is_array s ≡ true → qualify q s ≡ unqualified (qualify q s)
parameter_array q (Array of m) n = refl
parameter_array q (Plain p k) n = absurd (true≢false (sym n))
