-- What was written through a pointer is read back through it, as the value converted to its type.
use Rattle.std.specs.Prelude.{◌≡◌, ◌≤◌, ℕ, zero, suc, ◌+◌, ◌%◌, ◌==◌, ◌&&◌, not, nat_lt, Bool, true, false, List, [], ◌∷◌, length, take, drop, Option, Some, None, is_none, slice_get, Result, Ok, if◌then◌else◌}
use Rattle.std.proofs.Common.{refl, sym, ap, subst, ◌∙◌, arith}
use Rattle.std.proofs.lemmas.Bool.{eqb-true}
use Rattle.lcc_base.specs.declared.order.Order.{Order}
use Rattle.lcc_base.specs.declared.order.Order.TheVariants.{Big, Little}
use Rattle.lcc_base.specs.declared.cause.Cause.{Cause}
use Rattle.lcc_base.specs.declared.cause.Cause.TheVariants.{Outside, Misaligned, Dead, ReadOnly, PointerNumber}
use Rattle.objects.specs.declared.byte.Byte.{Byte}
use Rattle.objects.specs.declared.purpose.Purpose.{Purpose}
use Rattle.objects.specs.declared.value.ObjectName.{ObjectName}
use Rattle.objects.specs.declared.value.Value.{Value}
use Rattle.objects.specs.declared.value.Value.TheVariants.{Number, Pointer, Function}
use Rattle.objects.specs.declared.width.Width.{Width}
use Rattle.objects.specs.declared.width.Width.TheVariants.{One, Two, Four}
use Rattle.objects.specs.declared.width.Scalar.{Scalar}
use Rattle.objects.specs.Values.{bytes_in}
use Rattle.objects.specs.Objects.{Object, is_named, if_named, object_of, contents, bytes_at, overwritten, with_bytes, stored}
use Rattle.objects.specs.Causes.{first_cause, unless, is_outside, is_misaligned, is_dead, is_refused, is_narrowed}
use Rattle.objects.specs.Conversions.{converted}
use Rattle.objects.specs.Scalars.{scalar_bytes, scalar_of}
use Rattle.objects.specs.Accesses.{read_cause, write_cause, if_none, read, written}
use Rattle.objects.proofs.lemmas.ByteLaws.{length-overwritten, reads_written}
use Rattle.objects.proofs.lemmas.ScalarLaws.{read_back}

-- an object that bytes are written to stands where it stood
pub stored_at : (objects : List Object) (o place : ℕ) (new : List (Byte Value)) (x : Object) → slice_get objects o ≡ Some x → slice_get (stored objects o place new) o ≡ Some (with_bytes x place new)
stored_at [] o place new x e = absurd (let never : ⊥ = cc in never)
stored_at (y ∷ ys) zero place new x e = let same : y ≡ x = cc in ap (λ (z : Object). Some (with_bytes z place new)) same
stored_at (y ∷ ys) (suc o) place new x e = stored_at ys o place new x e

-- each other object is as before
pub stored_elsewhere : (objects : List Object) (o place : ℕ) (new : List (Byte Value)) (u : ℕ) → (u ≡ o → ⊥) → slice_get (stored objects o place new) u ≡ slice_get objects u
stored_elsewhere [] o place new u h = refl
stored_elsewhere (y ∷ ys) zero place new zero h = absurd (h refl)
stored_elsewhere (y ∷ ys) zero place new (suc u) h = refl
stored_elsewhere (y ∷ ys) (suc o) place new zero h = refl
stored_elsewhere (y ∷ ys) (suc o) place new (suc u) h = stored_elsewhere ys o place new u (λ e. h (ap suc e))

pub unless_none : {A : Type 0} → (c : Option Cause) (a b : A) → unless c a ≡ Ok b → c ≡ None
unless_none None a b e = refl
unless_none (Some c) a b e = absurd (let never : ⊥ = cc in never)

pub unless_same : {A : Type 0} → (c : Option Cause) (a b : A) → unless c a ≡ Ok b → a ≡ b
unless_same None a b e = cc
unless_same (Some c) a b e = absurd (let never : ⊥ = cc in never)

if_none_none : {A : Type 0} → (c : Option Cause) (r : Result A Cause) (b : A) → if_none c r ≡ Ok b → c ≡ None
if_none_none None r b e = refl
if_none_none (Some c) r b e = absurd (let never : ⊥ = cc in never)

if_none_same : {A : Type 0} → (c : Option Cause) (r : Result A Cause) (b : A) → if_none c r ≡ Ok b → r ≡ Ok b
if_none_same None r b e = e
if_none_same (Some c) r b e = absurd (let never : ⊥ = cc in never)

pub first_not : (b : Bool) (c : Cause) (cs : List (Bool × Cause)) → first_cause ((b, c) ∷ cs) ≡ None → b ≡ false
first_not true c cs e = absurd (let never : ⊥ = cc in never)
first_not false c cs e = refl

pub first_rest : (b : Bool) (c : Cause) (cs : List (Bool × Cause)) → first_cause ((b, c) ∷ cs) ≡ None → first_cause cs ≡ None
first_rest true c cs e = absurd (let never : ⊥ = cc in never)
first_rest false c cs e = e

not_true : (b : Bool) → b ≡ false → (b ≡ true → ⊥)
not_true b f t = cc

-- a pointer that isn't dead has its object
chosen : (b : Bool) (x : Object) → is_none (if b then Some x else None) ≡ false → b ≡ true
chosen true x e = refl
chosen false x e = absurd (let never : ⊥ = cc in never)

pub its_object : (name : ObjectName) (o : Option Object) → is_none (if_named name o) ≡ false → (x : Object) × (o ≡ Some x) × (is_named name x ≡ true)
its_object name None e = absurd (let never : ⊥ = cc in never)
its_object name (Some x) e = (x, refl, chosen (is_named name x) x e)

still_named : (name : ObjectName) (x : Object) (place : ℕ) (new : List (Byte Value)) → is_named name x ≡ true → is_named name (with_bytes x place new) ≡ true
still_named name x place new e = ap (λ (n : ℕ). (x.made == name.made) && (n == name.size)) (length-overwritten place new x.bytes) ∙ e

-- the object of a name once bytes are written to it
pub object_after : (objects : List Object) (name : ObjectName) (place : ℕ) (new : List (Byte Value)) (x : Object) → slice_get objects name.place ≡ Some x → is_named name x ≡ true → object_of (stored objects name.place place new) name ≡ Some (with_bytes x place new)
object_after objects name place new x e h =
    ap (λ o. if_named name o) (stored_at objects name.place place new x e)
    ∙ ap (λ (b : Bool). if b then Some (with_bytes x place new) else None) (still_named name x place new h)

and_right : (a b : Bool) → (a && b) ≡ true → b ≡ true
and_right true b e = e
and_right false b e = absurd (let never : ⊥ = cc in never)

pub size_of : (name : ObjectName) (x : Object) → is_named name x ≡ true → length x.bytes ≡ name.size
size_of name x e = eqb-true (length x.bytes) name.size (and_right (x.made == name.made) (length x.bytes == name.size) e)

-- as many bytes as the type has
pub bytes_count : (order : Order) (w : Width) (v : Value) → is_narrowed w v ≡ false → length (scalar_bytes order w v) ≡ bytes_in w
bytes_count Big One (Number n) e = refl
bytes_count Big Two (Number n) e = refl
bytes_count Big Four (Number n) e = refl
bytes_count Little One (Number n) e = refl
bytes_count Little Two (Number n) e = refl
bytes_count Little Four (Number n) e = refl
bytes_count order One (Pointer object offset) e = absurd (let never : ⊥ = cc in never)
bytes_count order Two (Pointer object offset) e = absurd (let never : ⊥ = cc in never)
bytes_count Big Four (Pointer object offset) e = refl
bytes_count Little Four (Pointer object offset) e = refl
bytes_count order One (Function f) e = absurd (let never : ⊥ = cc in never)
bytes_count order Two (Function f) e = absurd (let never : ⊥ = cc in never)
bytes_count Big Four (Function f) e = refl
bytes_count Little Four (Function f) e = refl

pub not_less : (a b : ℕ) → nat_lt a b ≡ false → b ≤ a
not_less a b e = grind (arith, e)

-- what stands at a place of an object once it was written there
pub stands : (objects : List Object) (name : ObjectName) (place size : ℕ) (new : List (Byte Value)) (x : Object) → slice_get objects name.place ≡ Some x → is_named name x ≡ true → length new ≡ size → place + size ≤ length x.bytes → bytes_at (stored objects name.place place new) name place size ≡ new
stands objects name place size new x e h l inside =
    ap (λ o. take size (drop place (contents o))) (object_after objects name place new x e h)
    ∙ ap (λ (n : ℕ). take n (drop place (overwritten place new x.bytes))) (sym l)
    ∙ reads_written place new x.bytes (omega (arith, l, inside))

pub no_read_cause : (objects : List Object) (name : ObjectName) (offset size : ℕ) → nat_lt name.size (offset + size) ≡ false → not (offset % size == 0) ≡ false → is_none (object_of objects name) ≡ false → read_cause objects (Pointer name offset) size size ≡ None
no_read_cause objects name offset size outside misaligned dead =
    ap (λ (b : Bool). first_cause ((b, Outside) ∷ (not (offset % size == 0), Misaligned) ∷ (is_none (object_of objects name), Dead) ∷ [])) outside
    ∙ ap (λ (b : Bool). first_cause ((b, Misaligned) ∷ (is_none (object_of objects name), Dead) ∷ [])) misaligned
    ∙ ap (λ (b : Bool). first_cause ((b, Dead) ∷ [])) dead

-- a number or function is no place
nowhere : (purpose : Purpose) (order : Order) (w : Width) (v : Value) (objects new : List Object) (p : Value) → is_outside (bytes_in w) p ≡ true → written purpose order w v objects p ≡ Ok new → ⊥
nowhere purpose order w v objects new p out e =
    let r = if_none_same (first_cause ((is_narrowed w v, PointerNumber) ∷ [])) _ new e in
    let c = unless_none (write_cause purpose objects p (bytes_in w) (bytes_in w)) _ new r in
    let f = first_not (is_outside (bytes_in w) p) Outside ((is_misaligned (bytes_in w) p, Misaligned) ∷ (is_dead objects p, Dead) ∷ (is_refused purpose objects p, ReadOnly) ∷ []) c in
    not_true (is_outside (bytes_in w) p) f out

pub written_is_read : (purpose : Purpose) (order : Order) (s : Scalar) (v w : Value) (objects new : List Object) (p : Value) → written purpose order s.width v objects p ≡ Ok new → converted s v ≡ Ok w → read order s new p ≡ Ok w
written_is_read purpose order s v w objects new (Number n) e f = absurd (nowhere purpose order s.width v objects new (Number n) refl e)
written_is_read purpose order s v w objects new (Function g) e f = absurd (nowhere purpose order s.width v objects new (Function g) refl e)
written_is_read purpose order s v w objects new (Pointer name offset) e f =
    let size = bytes_in s.width in
    let bytes = scalar_bytes order s.width v in
    let narrow = first_not (is_narrowed s.width v) PointerNumber [] (if_none_none (first_cause ((is_narrowed s.width v, PointerNumber) ∷ [])) (unless (write_cause purpose objects (Pointer name offset) size size) (stored objects name.place offset bytes)) new e) in
    let rest = if_none_same (first_cause ((is_narrowed s.width v, PointerNumber) ∷ [])) (unless (write_cause purpose objects (Pointer name offset) size size) (stored objects name.place offset bytes)) new e in
    let none = unless_none (write_cause purpose objects (Pointer name offset) size size) (stored objects name.place offset bytes) new rest in
    let is_new = unless_same (write_cause purpose objects (Pointer name offset) size size) (stored objects name.place offset bytes) new rest in
    let last = (is_refused purpose objects (Pointer name offset), ReadOnly) ∷ [] in
    let third = (is_dead objects (Pointer name offset), Dead) ∷ last in
    let second = (is_misaligned size (Pointer name offset), Misaligned) ∷ third in
    let outside = first_not (is_outside size (Pointer name offset)) Outside second none in
    let none2 = first_rest (is_outside size (Pointer name offset)) Outside second none in
    let misaligned = first_not (is_misaligned size (Pointer name offset)) Misaligned third none2 in
    let none3 = first_rest (is_misaligned size (Pointer name offset)) Misaligned third none2 in
    let dead = first_not (is_dead objects (Pointer name offset)) Dead last none3 in
    let object = its_object name (slice_get objects name.place) dead in
    let after = object_after objects name offset bytes object.0 object.1 object.2 in
    let alive : is_none (object_of (stored objects name.place offset bytes) name) ≡ false = ap (λ o. is_none o) after in
    let there = stands objects name offset size bytes object.0 object.1 object.2 (bytes_count order s.width v narrow) (omega (arith, not_less name.size (offset + size) outside, size_of name object.0 object.2)) in
    let reads = ap (λ c. if_none c (scalar_of order s (bytes_at (stored objects name.place offset bytes) name offset size))) (no_read_cause (stored objects name.place offset bytes) name offset size outside misaligned alive) in
    subst (λ (os : List Object). read order s os (Pointer name offset) ≡ Ok w) is_new
    (reads ∙ ap (λ bs. scalar_of order s bs) there ∙ read_back order s v w f)
