-- A structure that was assigned has the bytes that its source had, unknown ones and those of pointers too.
use Rattle.std.specs.Prelude.{◌≡◌, ℕ, ◌+◌, Bool, true, false, List, [], ◌∷◌, length, drop, Option, Some, None, slice_get, Ok}
use Rattle.std.proofs.Common.{refl, sym, ap, subst, ◌∙◌, arith}
use Rattle.std.proofs.lemmas.List.{length-take-le, length-drop}
use Rattle.lcc_base.specs.declared.cause.Cause.{Cause}
use Rattle.lcc_base.specs.declared.cause.Cause.TheVariants.{Outside, Misaligned, Dead, ReadOnly, Overlap}
use Rattle.objects.specs.declared.byte.Byte.{Byte}
use Rattle.objects.specs.declared.purpose.Purpose.{Purpose}
use Rattle.objects.specs.declared.value.Value.{Value}
use Rattle.objects.specs.declared.value.Value.TheVariants.{Number, Pointer, Function}
use Rattle.objects.proofs.lemmas.AccessLaws.{first_not, first_rest, unless_none, unless_same, its_object, size_of, not_less, stands}
use Rattle.objects.specs.Accesses.{read_cause, write_cause, bytes_through, stored_through}
use Rattle.objects.specs.Causes.{first_cause, is_outside, is_misaligned, is_dead, is_refused, overlaps_in_part}
use Rattle.objects.specs.Copies.{or_cause, copy_cause, copied}
use Rattle.objects.specs.Objects.{Object, contents}
use Rattle.objects.specs.Places.{GoesTo}
use Rattle.objects.proofs.lemmas.PlaceLaws.{inside, reads}

or_first : (c d : Option Cause) → or_cause c d ≡ None → c ≡ None
or_first None d e = refl
or_first (Some c) d e = absurd (let never : ⊥ = cc in never)

or_rest : (c d : Option Cause) → or_cause c d ≡ None → d ≡ None
or_rest None d e = e
or_rest (Some c) d e = absurd (let never : ⊥ = cc in never)

never_so : (b : Bool) → b ≡ true → b ≡ false → ⊥
never_so b e f = cc

-- what may be read goes to an object
pub goes : (objects : List Object) (p : Value) (size alignment : ℕ) → read_cause objects p size alignment ≡ None → (place : ℕ) × ((offset : ℕ) × GoesTo objects p size place offset)
goes objects (Number n) size alignment e = absurd (never_so true refl (first_not true Outside ((false, Misaligned) ∷ (false, Dead) ∷ []) e))
goes objects (Function f) size alignment e = absurd (never_so true refl (first_not true Outside ((false, Misaligned) ∷ (false, Dead) ∷ []) e))
goes objects (Pointer name offset) size alignment e =
    let last = (is_dead objects (Pointer name offset), Dead) ∷ [] in
    let second = (is_misaligned alignment (Pointer name offset), Misaligned) ∷ last in
    let outside = first_not (is_outside size (Pointer name offset)) Outside second e in
    let none2 = first_rest (is_outside size (Pointer name offset)) Outside second e in
    let none3 = first_rest (is_misaligned alignment (Pointer name offset)) Misaligned last none2 in
    let dead = first_not (is_dead objects (Pointer name offset)) Dead [] none3 in
    let object = its_object name (slice_get objects name.place) dead in
    (name.place, (offset, record { name = name; it = object.0; points = refl; stands = refl; lives = object.1; named = object.2; inside = not_less name.size (offset + size) outside }))

fewer : (a b c d : Bool) (e f g h : Cause) → first_cause ((a, e) ∷ (b, f) ∷ (c, g) ∷ (d, h) ∷ []) ≡ None → first_cause ((a, e) ∷ (b, f) ∷ (c, g) ∷ []) ≡ None
fewer true b c d e f g h n = absurd (let never : ⊥ = cc in never)
fewer false true c d e f g h n = absurd (let never : ⊥ = cc in never)
fewer false false true d e f g h n = absurd (let never : ⊥ = cc in never)
fewer false false false d e f g h n = refl

-- what may be written may be read
pub readable : (purpose : Purpose) (objects : List Object) (p : Value) (size alignment : ℕ) → write_cause purpose objects p size alignment ≡ None → read_cause objects p size alignment ≡ None
readable purpose objects p size alignment e = fewer (is_outside size p) (is_misaligned alignment p) (is_dead objects p) (is_refused purpose objects p) Outside Misaligned Dead ReadOnly e

-- so many bytes are read
pub as_many : (objects : List Object) (p : Value) (size place offset : ℕ) → GoesTo objects p size place offset → length (bytes_through objects p size) ≡ size
as_many objects p size place offset g =
    let fits = inside objects p size place offset g in
    let long = length-drop offset (contents (slice_get objects place)) in
    ap length (reads objects p size place offset g) ∙ length-take-le size (drop offset (contents (slice_get objects place))) (omega (arith, fits, long))

-- what was stored where an access goes is there
pub stored_there : (objects : List Object) (p : Value) (size place offset : ℕ) (new : List (Byte Value)) → GoesTo objects p size place offset → length new ≡ size → bytes_through (stored_through objects p new) p size ≡ new
stored_there objects p size place offset new g long =
    let lives : slice_get objects g.name.place ≡ Some g.it = ap (λ (k : ℕ). slice_get objects k) g.stands ∙ g.lives in
    let all = size_of g.name g.it g.named in
    subst (λ (q : Value). bytes_through (stored_through objects q new) q size ≡ new) (sym g.points)
    (stands objects g.name offset size new g.it lives g.named long (omega (arith, all, g.inside)))

pub copied_is_there : (purpose : Purpose) (objects new : List Object) (from to : Value) (size alignment : ℕ) → copied purpose objects from to size alignment ≡ Ok new → bytes_through new to size ≡ bytes_through objects from size
copied_is_there purpose objects new from to size alignment e =
    let bytes = bytes_through objects from size in
    let overlap = first_cause ((overlaps_in_part size from to, Overlap) ∷ []) in
    let none = unless_none (copy_cause purpose objects from to size alignment) (stored_through objects to bytes) new e in
    let same = unless_same (copy_cause purpose objects from to size alignment) (stored_through objects to bytes) new e in
    let source = or_first (read_cause objects from size alignment) (or_cause (write_cause purpose objects to size alignment) overlap) none in
    let rest = or_rest (read_cause objects from size alignment) (or_cause (write_cause purpose objects to size alignment) overlap) none in
    let target = or_first (write_cause purpose objects to size alignment) overlap rest in
    let f = goes objects from size alignment source in
    let t = goes objects to size alignment (readable purpose objects to size alignment target) in
    let long = as_many objects from size f.0 f.1.0 f.1.1 in
    subst (λ (os : List Object). bytes_through os to size ≡ bytes) same (stored_there objects to size t.0 t.1.0 bytes t.1.1 long)
