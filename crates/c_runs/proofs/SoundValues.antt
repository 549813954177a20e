-- Values, bytes and objects stay sound: what is read, computed and written.
use Rattle.std.specs.Prelude.{◌≡◌, ◌≤◌, ◌<◌, ℕ, ℤ, pos, negsuc, ◌+ℤ◌, ◌/◌, ◌^◌, zero, suc, Bool, true, false, ◌&&◌, int_le, Option, Some, None, IfSome, List, [], ◌∷◌, drop, replicate, slice_get, Result as Checked, Ok, Err, refl, if◌then◌else◌}
use Rattle.std.proofs.Common.{ap, arith}
use Rattle.std.proofs.lemmas.Nat.{mod_below}
use Rattle.std.proofs.lemmas.Bool.{leb-true}
use Rattle.std.specs.Int.{int_wrap, int_rem_euclid, w32, cast_unsigned}
use Rattle.std.specs.Int.RustNames.{unsigned_abs}
use Rattle.lcc_base.specs.declared.cause.Cause.{Cause}
use Rattle.lcc_base.specs.declared.order.Order.{Order}
use Rattle.lcc_base.specs.declared.order.Order.TheVariants.{Big, Little}
use Rattle.objects.specs.declared.byte.Byte.{Byte}
use Rattle.objects.specs.declared.byte.Byte.TheVariants.{Bits, Part}
use Rattle.objects.specs.declared.field.Field.{Field}
use Rattle.objects.specs.declared.operators.Unary.{Unary}
use Rattle.objects.specs.declared.operators.Binary.{Binary}
use Rattle.objects.specs.declared.purpose.Purpose.{Purpose}
use Rattle.objects.specs.declared.value.ObjectName.{ObjectName}
use Rattle.objects.specs.declared.value.Value.{Value}
use Rattle.objects.specs.declared.value.Value.TheVariants.{Number, Pointer, Function}
use Rattle.objects.specs.declared.width.Scalar.{Scalar}
use Rattle.objects.specs.declared.width.Width.{Width}
use Rattle.objects.specs.declared.width.Width.TheVariants.{One, Two, Four}
use Rattle.objects.specs.Bytes.{low_bytes, number_bytes, known_bytes, part_bytes, by_weight, whole_of, are_rest_of, number_of_bytes}
use Rattle.objects.specs.Values.{bytes_in, same_whole}
use Rattle.objects.specs.Objects.{Object, is_named, if_named, object_of, contents, with_bytes, stored}
use Rattle.objects.proofs.lemmas.ByteLaws.{length-overwritten}
use Rattle.lcc_base.specs.declared.cause.Cause.TheVariants.{PointerNumber}
use Rattle.objects.specs.Causes.{first_cause, unless, is_dead, is_narrowed, is_no_number, bits_from}
use Rattle.objects.specs.Conversions.{as_scalar, as_type, converted, extended}
use Rattle.objects.specs.Scalars.{scalar_bytes, whole_or, scalar_value, scalar_of}
use Rattle.objects.specs.Fields.{shift_of, field_cause, bits_of, with_field, field_in}
use Rattle.objects.specs.Accesses.{bytes_through, stored_through, if_none, read_cause, write_cause, read, written, field_read, field_written, number_or_zero, zeroed}
use Rattle.objects.specs.Arithmetic.{unary_value, binary_value}
use Rattle.objects.specs.Copies.{copied}
use Rattle.objects.specs.Pointers.{moved_if, moved, subtracted}
use Rattle.c_meaning.specs.Each.{EachIs}
use Rattle.c_runs.specs.Outcomes.{mapped, truth}
use Rattle.c_meaning.specs.Numbers.{IsByte}
use Rattle.c_runs.specs.Soundness.{IsSoundValue, IsSoundByte, IsSoundObject, outlines, outline}
use Rattle.c_runs.proofs.Each.{each_get, each_of, each_take, each_drop, each_replicate, each_map, each_reverse, each_overwritten}
use Rattle.c_runs.proofs.Words.{unary_below, binary_below, extended_below, word_below, signed_small}

-- where there is no cause
abbrev pub IfOk : {A : Type 0} → (A → Type 0) → Checked A Cause → Type 0
IfOk P (Ok a) = P a
IfOk P (Err cause) = Unit {0}

pub unless_ok : {A : Type 0} (P : A → Type 0) (c : Option Cause) (a : A) → P a → IfOk P (unless c a)
unless_ok P None a h = h
unless_ok P (Some c) a h = tt

pub if_none_ok : {A : Type 0} (P : A → Type 0) (c : Option Cause) (r : Checked A Cause) → IfOk P r → IfOk P (if_none c r)
if_none_ok P None r h = h
if_none_ok P (Some c) r h = tt

pub mapped_ok : {A B : Type 0} (P : A → Type 0) (Q : B → Type 0) (f : A → B) (c : Checked A Cause) → ((a : A) → P a → Q (f a)) → IfOk P c → IfOk Q (mapped f c)
mapped_ok P Q f (Ok a) g h = g a h
mapped_ok P Q f (Err c) g h = tt

pub if_ok : {A : Type 0} (P : A → Type 0) (b : Bool) (c d : Checked A Cause) → IfOk P c → IfOk P d → IfOk P (if b then c else d)
if_ok P true c d h g = h
if_ok P false c d h g = g

-- ---- values

pub value_more : (m n : ℕ) (v : Value) → m ≤ n → IsSoundValue m v → IsSoundValue n v
value_more m n (Number x) l h = h
value_more m n (Pointer o x) l h = let a = h.0 in (omega (arith, l, a), h.1)
value_more m n (Function f) l h = tt

byte_more : (m n : ℕ) (b : Byte Value) → m ≤ n → IsSoundByte m b → IsSoundByte n b
byte_more m n (Bits k x) l h = h
byte_more m n (Part v p) l h = (h.0, value_more m n v l h.1)

pub object_more : (m n : ℕ) (x : Object) → m ≤ n → IsSoundObject m x → IsSoundObject n x
object_more m n x l h = let a = h.0 in (omega (arith, l, a), each_of (IsSoundByte m) (IsSoundByte n) x.bytes (λ b. byte_more m n b l) h.1)

pub truth_sound : (m : ℕ) (b : Bool) → IsSoundValue m (truth b)
truth_sound m true = omega arith
truth_sound m false = omega arith

number_small : (m : ℕ) (v : Value) → IsSoundValue m v → number_or_zero v < 2 ^ 32
number_small m (Number n) h = h
number_small m (Pointer o x) h = omega arith
number_small m (Function f) h = omega arith

scalar_below : (s : Scalar) (n : ℕ) → as_scalar s n < 2 ^ 32
scalar_below s n = elim (s.width) as (λ w. as_scalar (record { width = w; signed = s.signed }) n < 2 ^ 32) [ One ↦ extended_below s.signed 8 n (omega arith) | Two ↦ extended_below s.signed 16 n (omega arith) | Four ↦ extended_below s.signed 32 n (omega arith) ]

-- sound, or any number
abbrev IsSoundBut : ℕ → Value → Type 0
IsSoundBut m (Number n) = Unit {0}
IsSoundBut m (Pointer o x) = IsSoundValue m (Pointer o x)
IsSoundBut m (Function f) = Unit {0}

as_type_sound : (m : ℕ) (s : Scalar) (v : Value) → IsSoundBut m v → IsSoundValue m (as_type s v)
as_type_sound m s (Number n) h = scalar_below s n
as_type_sound m s (Pointer o x) h = h
as_type_sound m s (Function f) h = tt

but_sound : (m : ℕ) (v : Value) → IsSoundValue m v → IsSoundBut m v
but_sound m (Number n) h = tt
but_sound m (Pointer o x) h = h
but_sound m (Function f) h = tt

pub typed_sound : (m : ℕ) (s : Scalar) (v : Value) → IsSoundValue m v → IsSoundValue m (as_type s v)
typed_sound m s v h = as_type_sound m s v (but_sound m v h)

pub converted_sound : (m : ℕ) (s : Scalar) (v : Value) → IsSoundValue m v → IfOk (IsSoundValue m) (converted s v)
converted_sound m s v h = unless_ok (IsSoundValue m) _ (as_type s v) (typed_sound m s v h)

pub unary_sound : (m : ℕ) (op : Unary) (v : Value) → IsSoundValue m v → IfOk (IsSoundValue m) (unary_value op v)
unary_sound m op v h = unless_ok (IsSoundValue m) _ _ (unary_below op (number_or_zero v) (number_small m v h))

pub binary_sound : (m : ℕ) (signed : Bool) (op : Binary) (v u : Value) → IsSoundValue m v → IsSoundValue m u → IfOk (IsSoundValue m) (binary_value signed op v u)
binary_sound m signed op v u h g = unless_ok (IsSoundValue m) _ _ (binary_below signed op (number_or_zero v) (number_or_zero u) (number_small m v h) (number_small m u g))

-- ---- pointers

right_true : (a b : Bool) → (a && b) ≡ true → b ≡ true
right_true true b h = h
right_true false b h = absurd (let never : ⊥ = cc in never)

within : (z : ℤ) (size : ℕ) → (int_le (pos 0) z && int_le z (pos size)) ≡ true → unsigned_abs z ≤ size
within (pos n) size h = leb-true n size (right_true (int_le (pos 0) (pos n)) (int_le (pos n) (pos size)) h)
within (negsuc n) size h = absurd (let never : ⊥ = cc in never)

moved_pointer : (m : ℕ) (name : ObjectName) (offset : ℕ) (by : ℤ) (b : Bool) → (int_le (pos 0) (pos offset +ℤ by) && int_le (pos offset +ℤ by) (pos name.size)) ≡ b → (dead : Bool) → name.made < m → IfOk (IsSoundValue m) (moved_if dead (Pointer name offset) by)
moved_pointer m name offset by true e true h = tt
moved_pointer m name offset by true e false h = rw e (h, within (pos offset +ℤ by) name.size e)
moved_pointer m name offset by false e true h = tt
moved_pointer m name offset by false e false h = rw e tt

pub moved_sound : (m : ℕ) (os : List Object) (p : Value) (by : ℤ) → IsSoundValue m p → IfOk (IsSoundValue m) (moved os p by)
moved_sound m os (Number n) by h = unless_ok (IsSoundValue m) _ (Number n) h
moved_sound m os (Pointer name offset) by h = moved_pointer m name offset by _ refl (is_dead os (Pointer name offset)) h.0
moved_sound m os (Function f) by h = unless_ok (IsSoundValue m) _ (Function f) tt

wrapped_below : (z : ℤ) → cast_unsigned w32 (int_wrap w32 z) < 2 ^ 32
unfolding int_wrap
wrapped_below z = word_below (int_wrap w32 z) (let a = signed_small (unsigned_abs (int_rem_euclid z (pos (2 ^ 32)))) in omega (arith, a))

pub subtracted_sound : (m : ℕ) (os : List Object) (size : ℕ) (p q : Value) → IfOk (IsSoundValue m) (subtracted os size p q)
subtracted_sound m os size p q = unless_ok (IsSoundValue m) _ _ (wrapped_below _)

-- ---- what is read

contents_sound : (m : ℕ) (name : ObjectName) (x : Option Object) → IfSome x (IsSoundObject m) → EachIs (IsSoundByte m) (contents (if_named name x))
contents_sound m name None h = tt
contents_sound m name (Some x) h = elim (is_named name x) as (λ b. EachIs (IsSoundByte m) (contents (if b then Some x else None))) [ true ↦ h.1 | false ↦ tt ]

pub through_sound : (m : ℕ) (os : List Object) (p : Value) (size : ℕ) → EachIs (IsSoundObject m) os → EachIs (IsSoundByte m) (bytes_through os p size)
through_sound m os (Number n) size h = tt
through_sound m os (Pointer name offset) size h =
    each_take (IsSoundByte m) size (drop offset (contents (object_of os name))) (each_drop (IsSoundByte m) offset (contents (object_of os name)) (contents_sound m name (slice_get os name.place) (each_get (IsSoundObject m) os name.place h)))
through_sound m os (Function f) size h = tt

weight_sound : (m : ℕ) (order : Order) (bs : List (Byte Value)) → EachIs (IsSoundByte m) bs → EachIs (IsSoundByte m) (by_weight order bs)
weight_sound m Big bs h = h
weight_sound m Little bs h = each_reverse (IsSoundByte m) bs h

whole_sound : (m : ℕ) (bs : List (Byte Value)) (n : ℕ) → EachIs (IsSoundByte m) bs → IsSoundBut m (whole_or (whole_of same_whole bs) n)
whole_sound m [] n h = tt
whole_sound m (Bits k x ∷ bs) n h = tt
whole_sound m (Part v k ∷ bs) n h = elim (are_rest_of same_whole v 0 (Part v k ∷ bs)) as (λ b. IsSoundBut m (whole_or (if b then Some v else None) n)) [ true ↦ but_sound m v h.0.1 | false ↦ tt ]

scalar_sound : (m : ℕ) (order : Order) (s : Scalar) (bs : List (Byte Value)) → EachIs (IsSoundByte m) bs → IfOk (IsSoundValue m) (scalar_of order s bs)
scalar_sound m order s bs h = unless_ok (IsSoundValue m) _ _ (as_type_sound m s (scalar_value order bs) (whole_sound m (by_weight order bs) _ (weight_sound m order bs h)))

pub read_sound : (m : ℕ) (order : Order) (s : Scalar) (os : List Object) (p : Value) → EachIs (IsSoundObject m) os → IfOk (IsSoundValue m) (read order s os p)
read_sound m order s os p h = if_none_ok (IsSoundValue m) _ _ (scalar_sound m order s (bytes_through os p (bytes_in s.width)) (through_sound m os p (bytes_in s.width) h))

pub field_sound : (m : ℕ) (order : Order) (f : Field) (os : List Object) (p : Value) → f.width ≤ 32 → IfOk (IsSoundValue m) (field_read order f os p)
field_sound m order f os p b =
    if_none_ok (IsSoundValue m) (read_cause os p 4 4) (field_in order f (bytes_through os p 4))
    (unless_ok (IsSoundValue m) (field_cause order f (bytes_through os p 4)) (Number (extended f.signed f.width (bits_from (shift_of order f) f.width (number_of_bytes order (bytes_through os p 4)))))
    (extended_below f.signed f.width (bits_from (shift_of order f) f.width (number_of_bytes order (bytes_through os p 4))) b))

-- ---- what is written

low_sound : (w n : ℕ) → EachIs IsByte (low_bytes w n)
low_sound zero n = tt
low_sound (suc w) n = (mod_below n 256 (omega arith), low_sound w (n / 256))

number_sound : (order : Order) (w n : ℕ) → EachIs IsByte (number_bytes order w n)
number_sound Big w n = each_reverse IsByte (low_bytes w n) (low_sound w n)
number_sound Little w n = low_sound w n

pub known_sound : (m : ℕ) (ns : List ℕ) → EachIs IsByte ns → EachIs (IsSoundByte m) (known_bytes ns)
known_sound m ns h = each_map IsByte (IsSoundByte m) (λ n. Bits 255 n) ns (λ n l. (omega arith, l)) h

parts_sound : (m : ℕ) (order : Order) (v : Value) → IsSoundValue m v → EachIs (IsSoundByte m) (part_bytes order v)
parts_sound m Big v h = ((omega arith, h), ((omega arith, h), ((omega arith, h), ((omega arith, h), tt))))
parts_sound m Little v h = ((omega arith, h), ((omega arith, h), ((omega arith, h), ((omega arith, h), tt))))

pub scalar_bytes_sound : (m : ℕ) (order : Order) (width : Width) (v : Value) → IsSoundValue m v → EachIs (IsSoundByte m) (scalar_bytes order width v)
scalar_bytes_sound m order width (Number n) h = known_sound m (number_bytes order (bytes_in width) n) (number_sound order (bytes_in width) n)
scalar_bytes_sound m order width (Pointer o x) h = parts_sound m order (Pointer o x) h
scalar_bytes_sound m order width (Function f) h = parts_sound m order (Function f) tt

bits_sound : (m : ℕ) (ks vs : List ℕ) → EachIs IsByte ks → EachIs IsByte vs → EachIs (IsSoundByte m) (bits_of ks vs)
bits_sound m [] vs h g = tt
bits_sound m (k ∷ ks) [] h g = tt
bits_sound m (k ∷ ks) (v ∷ vs) h g = ((h.0, g.0), bits_sound m ks vs h.1 g.1)

field_bytes_sound : (m : ℕ) (order : Order) (f : Field) (n : ℕ) (unit : List (Byte Value)) → EachIs (IsSoundByte m) (with_field order f n unit)
field_bytes_sound m order f n unit = bits_sound m _ _ (number_sound order 4 _) (number_sound order 4 _)

-- other objects: sound, and each lives on with its size
abbrev pub Changed : ℕ → List Object → List Object → Type 0
Changed m old os = EachIs (IsSoundObject m) os × (outlines os ≡ outlines old)

same_outline : (x : Object) (place : ℕ) (new : List (Byte Value)) → outline (with_bytes x place new) ≡ outline x
same_outline x place new = ap (λ n. record { made = x.made; size = n }) (length-overwritten place new x.bytes)

stored_sound : (m : ℕ) (os : List Object) (o place : ℕ) (new : List (Byte Value)) → EachIs (IsSoundObject m) os → EachIs (IsSoundByte m) new → Changed m os (stored os o place new)
stored_sound m [] o place new h g = (tt, refl)
stored_sound m (x ∷ xs) zero place new h g = (((h.0.0, each_overwritten (IsSoundByte m) place new x.bytes g h.0.1), h.1), ap (λ y. y ∷ outlines xs) (same_outline x place new))
stored_sound m (x ∷ xs) (suc o) place new h g = let r = stored_sound m xs o place new h.1 g in ((h.0, r.0), ap (λ ys. outline x ∷ ys) r.1)

pub through_stored : (m : ℕ) (os : List Object) (p : Value) (new : List (Byte Value)) → EachIs (IsSoundObject m) os → EachIs (IsSoundByte m) new → Changed m os (stored_through os p new)
through_stored m os (Number n) new h g = (h, refl)
through_stored m os (Pointer name offset) new h g = stored_sound m os name.place offset new h g
through_stored m os (Function f) new h g = (h, refl)

pub written_sound : (m : ℕ) (purpose : Purpose) (order : Order) (width : Width) (v : Value) (os : List Object) (p : Value) → EachIs (IsSoundObject m) os → IsSoundValue m v → IfOk (Changed m os) (written purpose order width v os p)
written_sound m purpose order width v os p h g =
    if_none_ok (Changed m os) (first_cause ((is_narrowed width v, PointerNumber) ∷ [])) (unless (write_cause purpose os p (bytes_in width) (bytes_in width)) (stored_through os p (scalar_bytes order width v)))
    (unless_ok (Changed m os) (write_cause purpose os p (bytes_in width) (bytes_in width)) (stored_through os p (scalar_bytes order width v)) (through_stored m os p (scalar_bytes order width v) h (scalar_bytes_sound m order width v g)))

pub field_written_sound : (m : ℕ) (purpose : Purpose) (order : Order) (f : Field) (v : Value) (os : List Object) (p : Value) → EachIs (IsSoundObject m) os → IfOk (Changed m os) (field_written purpose order f v os p)
field_written_sound m purpose order f v os p h =
    if_none_ok (Changed m os) (first_cause ((is_no_number v, PointerNumber) ∷ [])) (unless (write_cause purpose os p 4 4) (stored_through os p (with_field order f (number_or_zero v) (bytes_through os p 4))))
    (unless_ok (Changed m os) (write_cause purpose os p 4 4) (stored_through os p (with_field order f (number_or_zero v) (bytes_through os p 4))) (through_stored m os p (with_field order f (number_or_zero v) (bytes_through os p 4)) h (field_bytes_sound m order f (number_or_zero v) (bytes_through os p 4))))

pub copied_sound : (m : ℕ) (purpose : Purpose) (os : List Object) (from to : Value) (size alignment : ℕ) → EachIs (IsSoundObject m) os → IfOk (Changed m os) (copied purpose os from to size alignment)
copied_sound m purpose os from to size alignment h = unless_ok (Changed m os) _ _ (through_stored m os to (bytes_through os from size) h (through_sound m os from size h))

pub zeroed_sound : (m : ℕ) (os : List Object) (name : ObjectName) → EachIs (IsSoundObject m) os → IfOk (Changed m os) (zeroed os name)
zeroed_sound m os name h = unless_ok (Changed m os) _ _ (stored_sound m os name.place 0 (replicate name.size (Bits 255 0)) h (each_replicate (IsSoundByte m) name.size (Bits 255 0) (omega arith, omega arith)))
