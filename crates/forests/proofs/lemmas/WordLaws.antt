-- Lemmas: a word is read back from its bytes, and through the pointer that it was written through; so is a narrower number.
use Rattle.std.specs.Prelude.{◌≡◌, ◌<◌, ℕ, zero, suc, ◌+◌, ◌-◌, ◌%◌, ◌^◌, ◌==◌, ◌&&◌, Bool, true, false, List, [], ◌∷◌, length, take, drop, Option, Some, None, slice_get, if◌then◌else◌}
use Rattle.std.proofs.Common.{refl, sym, ap, subst, ◌∙◌, arith}
use Rattle.std.proofs.lemmas.Bool.{eq-eqb, eqb-true, true≢false}
use Rattle.std.proofs.lemmas.List.{length-map}
use Rattle.std.proofs.Math.Nat.{mod-eq_of_lt}
use Rattle.std.proofs.lemmas.Nat.{and_le_r}
use Rattle.lcc_base.specs.declared.order.Order.{Order}
use Rattle.lcc_base.specs.declared.order.Order.TheVariants.{Big, Little}
use Rattle.lcc_base.specs.declared.cause.Cause.{Cause}
use Rattle.lcc_base.specs.declared.cause.Cause.TheVariants.{Outside, Misaligned, Dead, ReadOnly}
use Rattle.objects.specs.declared.byte.Byte.{Byte}
use Rattle.objects.specs.declared.purpose.Purpose.TheVariants.{Assignment}
use Rattle.objects.specs.declared.value.ObjectName.{ObjectName}
use Rattle.objects.specs.declared.value.Value.{Value}
use Rattle.objects.specs.declared.value.Value.TheVariants.{Number, Pointer, Function}
use Rattle.objects.specs.declared.width.Width.{Width}
use Rattle.objects.specs.declared.width.Width.TheVariants as width
use Rattle.objects.specs.Values.{bytes_in, bits_in, same_object}
use Rattle.objects.specs.Bytes.{known_bytes, number_bytes, number_of_bytes, part_bytes, unknown_byte}
use Rattle.objects.specs.Causes.{unless, is_outside, is_misaligned, is_dead, is_refused}
use Rattle.objects.specs.Objects.{overwritten}
use Rattle.objects.specs.Objects.{Object as Shape}
use Rattle.objects.specs.Accesses.{read_cause, write_cause}
use Rattle.objects.specs.Copies.{or_cause}
use Rattle.objects.proofs.lemmas.NumberLaws.{number_of_four, number_of_two, number_of_one}
use Rattle.objects.proofs.lemmas.BitLaws.{low_below}
use Rattle.objects.proofs.lemmas.ByteLaws.{reads_written}
use Rattle.objects.proofs.lemmas.AccessLaws.{first_not, first_rest, not_less, its_object, size_of, no_read_cause}
use Rattle.forests.specs.Words.{Word, Plain, Label, Partly, IsWord, known_word, same_word, narrow, low_number}
use Rattle.forests.specs.WordBytes.{word_bytes, word_in}
use Rattle.forests.specs.Objects.{Object, shape_of, shapes, contents, with_bytes, stored, bytes_through, stored_through}
use Rattle.forests.specs.Accesses.{defined, word_read, number_cause, number_read, bytes_written, word_written, number_written_by, number_written}
use Rattle.forests.proofs.lemmas.Kept.{shapes-stored_through}
use Rattle.forests.specs.WordLaws.{IsWritten}

-- ---- words and their bytes

both_true : (a b : Bool) → a ≡ true → b ≡ true → (a && b) ≡ true
both_true a b p q = cc

same_name : (name : ObjectName) → same_object name name ≡ true
same_name name =
    both_true (name.place == name.place) _ (eq-eqb name.place name.place refl)
    (both_true (name.made == name.made) _ (eq-eqb name.made name.made refl) (eq-eqb name.size name.size refl))

-- the four bytes of a word that is the same as itself are it
whole_back : (order : Order) (w : Word) → same_word w w ≡ true → word_in order (part_bytes order w) ≡ w
whole_back Big w e = rw e refl
whole_back Little w e = rw e refl

not_full : (mask : ℕ) → mask < 2 ^ 32 - 1 → (mask == 2 ^ 32 - 1) ≡ false
not_full mask h = elim (mask == 2 ^ 32 - 1) as (λ b. (mask == 2 ^ 32 - 1) ≡ b → b ≡ false) [ true ↦ (λ e. absurd (let m : mask ≡ 2 ^ 32 - 1 = eqb-true mask (2 ^ 32 - 1) e in let never : ⊥ = omega (arith, m, h) in never)) | false ↦ (λ e. refl) ] refl

partly_known : (mask bits : ℕ) → mask < 2 ^ 32 - 1 → known_word mask bits ≡ Partly mask bits
partly_known mask bits h = ap (λ (b : Bool). if b then Plain (Number bits) else Partly mask bits) (not_full mask h)

number_back : (order : Order) (n : ℕ) → n < 2 ^ 32 → word_in order (word_bytes order (Plain (Number n))) ≡ Plain (Number n)
number_back Big n h = ap (λ (m : ℕ). Plain (Number m)) (number_of_four Big n ∙ mod-eq_of_lt h)
number_back Little n h = ap (λ (m : ℕ). Plain (Number m)) (number_of_four Little n ∙ mod-eq_of_lt h)

two_numbers : (order : Order) (a b c d : ℕ) → a ≡ c → b ≡ d → known_word a b ≡ known_word c d
two_numbers order a b c d e f = ap (λ (m : ℕ). known_word m b) e ∙ ap (λ (m : ℕ). known_word c m) f

partly_back : (order : Order) (mask bits : ℕ) → mask < 2 ^ 32 - 1 → bits < 2 ^ 32 → word_in order (word_bytes order (Partly mask bits)) ≡ Partly mask bits
partly_back Big mask bits h g =
    two_numbers Big _ _ mask bits (number_of_four Big mask ∙ mod-eq_of_lt (omega (arith, h))) (number_of_four Big bits ∙ mod-eq_of_lt g) ∙ partly_known mask bits h
partly_back Little mask bits h g =
    two_numbers Little _ _ mask bits (number_of_four Little mask ∙ mod-eq_of_lt (omega (arith, h))) (number_of_four Little bits ∙ mod-eq_of_lt g) ∙ partly_known mask bits h

-- a word is the one that its bytes are
pub word_back : (order : Order) (w : Word) → IsWord w → word_in order (word_bytes order w) ≡ w
word_back order (Plain (Number n)) h = number_back order n h
word_back order (Plain (Pointer object offset)) h = whole_back order (Plain (Pointer object offset)) (both_true _ _ (same_name object) (eq-eqb offset offset refl))
word_back order (Plain (Function f)) h = whole_back order (Plain (Function f)) (eq-eqb f f refl)
word_back order (Label f l) h = whole_back order (Label f l) (both_true _ _ (eq-eqb f f refl) (eq-eqb l l refl))
word_back order (Partly mask bits) h = partly_back order mask bits h.0 (let m = and_le_r bits mask in omega (arith, m, h.0, h.1))

word_count : (order : Order) (w : Word) → length (word_bytes order w) ≡ 4
word_count Big (Plain (Number n)) = refl
word_count Little (Plain (Number n)) = refl
word_count Big (Plain (Pointer object offset)) = refl
word_count Little (Plain (Pointer object offset)) = refl
word_count Big (Plain (Function f)) = refl
word_count Little (Plain (Function f)) = refl
word_count Big (Label f l) = refl
word_count Little (Label f l) = refl
word_count Big (Partly mask bits) = refl
word_count Little (Partly mask bits) = refl

-- ---- bytes that were written

-- the object of a shape
under_shape : (objects : List Object) (i : ℕ) (x : Shape) → slice_get (shapes objects) i ≡ Some x → (y : Object) × (slice_get objects i ≡ Some y) × (shape_of y ≡ x)
under_shape [] i x e = absurd (let never : ⊥ = cc in never)
under_shape (y ∷ ys) zero x e = (y, refl, cc)
under_shape (y ∷ ys) (suc i) x e = under_shape ys i x e

-- an object that bytes are written to stands where it stood, and each other one is as before
pub stored_at : (objects : List Object) (o place : ℕ) (new : List (Byte Word)) (x : Object) → slice_get objects o ≡ Some x → slice_get (stored objects o place new) o ≡ Some (with_bytes x place new)
stored_at [] o place new x e = absurd (let never : ⊥ = cc in never)
stored_at (y ∷ ys) zero place new x e = let same : y ≡ x = cc in ap (λ (z : Object). Some (with_bytes z place new)) same
stored_at (y ∷ ys) (suc o) place new x e = stored_at ys o place new x e

pub stored_elsewhere : (objects : List Object) (o place : ℕ) (new : List (Byte Word)) (u : ℕ) → (u ≡ o → ⊥) → slice_get (stored objects o place new) u ≡ slice_get objects u
stored_elsewhere [] o place new u h = refl
stored_elsewhere (y ∷ ys) zero place new zero h = absurd (h refl)
stored_elsewhere (y ∷ ys) zero place new (suc u) h = refl
stored_elsewhere (y ∷ ys) (suc o) place new zero h = refl
stored_elsewhere (y ∷ ys) (suc o) place new (suc u) h = stored_elsewhere ys o place new u (λ e. h (ap suc e))

written_at : (objects : List Object) (name : ObjectName) (offset size : ℕ) (bytes : List (Byte Word)) → length bytes ≡ size → write_cause Assignment (shapes objects) (Pointer name offset) size size ≡ None → IsWritten (stored_through objects (Pointer name offset) bytes) (Pointer name offset) size bytes
written_at objects name offset size bytes l none =
    let p = Pointer name offset in
    let last = (is_refused Assignment (shapes objects) p, ReadOnly) ∷ [] in
    let third = (is_dead (shapes objects) p, Dead) ∷ last in
    let second = (is_misaligned size p, Misaligned) ∷ third in
    let outside = first_not (is_outside size p) Outside second none in
    let none2 = first_rest (is_outside size p) Outside second none in
    let misaligned = first_not (is_misaligned size p) Misaligned third none2 in
    let none3 = first_rest (is_misaligned size p) Misaligned third none2 in
    let dead = first_not (is_dead (shapes objects) p) Dead last none3 in
    let shape = its_object name (slice_get (shapes objects) name.place) dead in
    let object = under_shape objects name.place shape.0 shape.1 in
    let long : length object.0.bytes ≡ name.size =
    sym (length-map object.0.bytes (λ b. unknown_byte {V = Value})) ∙ ap (λ (x : Shape). length x.bytes) object.2 ∙ size_of name shape.0 shape.2 in
    record {
      readable = ap (λ os. read_cause os p size size) (shapes-stored_through objects p bytes) ∙ no_read_cause (shapes objects) name offset size outside misaligned dead;
      stands =
          ap (λ o. take size (drop offset (contents o))) (stored_at objects name.place offset bytes object.0 object.1)
          ∙ ap (λ (n : ℕ). take n (drop offset (overwritten offset bytes object.0.bytes))) (sym l)
          ∙ reads_written offset bytes object.0.bytes (omega (arith, l, long, not_less name.size (offset + size) outside));
    }

defined_none : {A : Type 0} → (c : Option Cause) (a b : A) → defined (unless c a) ≡ Some b → c ≡ None
defined_none None a b e = refl
defined_none (Some c) a b e = absurd (let never : ⊥ = cc in never)

defined_same : {A : Type 0} → (c : Option Cause) (a b : A) → defined (unless c a) ≡ Some b → a ≡ b
defined_same None a b e = cc
defined_same (Some c) a b e = absurd (let never : ⊥ = cc in never)

-- nothing is written through what is no pointer
no_place : (size : ℕ) (p : Value) (objects new other : List Object) → is_outside size p ≡ true → defined (unless (write_cause Assignment (shapes objects) p size size) other) ≡ Some new → ⊥
no_place size p objects new other out e =
    let none = defined_none (write_cause Assignment (shapes objects) p size size) other new e in
    let inside = first_not (is_outside size p) Outside ((is_misaligned size p, Misaligned) ∷ (is_dead (shapes objects) p, Dead) ∷ (is_refused Assignment (shapes objects) p, ReadOnly) ∷ []) none in
    true≢false (sym out ∙ inside)

-- what is written is written through a value of pointer type
pub bytes_are_written : (size : ℕ) (bytes : List (Byte Word)) (objects new : List Object) (a : Word) → length bytes ≡ size → bytes_written size bytes objects a ≡ Some new → (p : Value) × (a ≡ Plain p) × (new ≡ stored_through objects p bytes) × IsWritten new p size bytes
bytes_are_written size bytes objects new (Plain (Pointer name offset)) l e =
    let p = Pointer name offset in
    let none = defined_none (write_cause Assignment (shapes objects) p size size) (stored_through objects p bytes) new e in
    let same = defined_same (write_cause Assignment (shapes objects) p size size) (stored_through objects p bytes) new e in
    (p, refl, sym same, subst (λ os. IsWritten os p size bytes) same (written_at objects name offset size bytes l none))
bytes_are_written size bytes objects new (Plain (Number n)) l e = absurd (no_place size (Number n) objects new objects refl e)
bytes_are_written size bytes objects new (Plain (Function f)) l e = absurd (no_place size (Function f) objects new objects refl e)
bytes_are_written size bytes objects new (Label f m) l e = absurd (let never : ⊥ = cc in never)
bytes_are_written size bytes objects new (Partly mask bits) l e = absurd (let never : ⊥ = cc in never)

-- ---- words and narrower numbers

-- a word that was written is read
pub word_is_read : (order : Order) (w : Word) (objects new : List Object) (a : Word) → IsWord w → word_written order w objects a ≡ Some new → word_read order new a ≡ Some w
word_is_read order w objects new a h e =
    let x = bytes_are_written 4 (word_bytes order w) objects new a (word_count order w) e in
    let it = x.3 in
    ap (λ (b : Word). word_read order new b) x.1
    ∙ ap (λ (c : Option Cause). defined (unless c (word_in order (bytes_through new x.0 4)))) it.readable
    ∙ ap (λ bytes. Some (word_in order bytes)) it.stands
    ∙ ap (λ (v : Word). Some v) (word_back order w h)

low_of_low : (bits n : ℕ) → n % 2 ^ bits % 2 ^ bits ≡ n % 2 ^ bits
low_of_low bits n = mod-eq_of_lt (low_below n bits)

-- bytes of a number have no cause to be none
known_cause : (order : Order) (w : Width) (n : ℕ) → number_cause (known_bytes (number_bytes order (bytes_in w) n)) ≡ None
known_cause Big width.One n = refl
known_cause Little width.One n = refl
known_cause Big width.Two n = refl
known_cause Little width.Two n = refl
known_cause Big width.Four n = refl
known_cause Little width.Four n = refl

number_count : (order : Order) (w : Width) (n : ℕ) → length (known_bytes {V = Word} (number_bytes order (bytes_in w) n)) ≡ bytes_in w
number_count Big width.One n = refl
number_count Little width.One n = refl
number_count Big width.Two n = refl
number_count Little width.Two n = refl
number_count Big width.Four n = refl
number_count Little width.Four n = refl

narrow_low : (bits m n : ℕ) → m ≡ n % 2 ^ bits → narrow bits m ≡ narrow bits n
narrow_low bits m n e = ap (λ (x : ℕ). Partly (2 ^ bits - 1) x) (ap (λ (x : ℕ). x % 2 ^ bits) e ∙ low_of_low bits n)

narrow_back : (order : Order) (w : Width) (n : ℕ) → narrow (bits_in w) (number_of_bytes order (known_bytes {V = Word} (number_bytes order (bytes_in w) n))) ≡ narrow (bits_in w) n
narrow_back Big width.One n = narrow_low 8 _ n (number_of_one Big n)
narrow_back Little width.One n = narrow_low 8 _ n (number_of_one Little n)
narrow_back Big width.Two n = narrow_low 16 _ n (number_of_two Big n)
narrow_back Little width.Two n = narrow_low 16 _ n (number_of_two Little n)
narrow_back Big width.Four n = narrow_low 32 _ n (number_of_four Big n)
narrow_back Little width.Four n = narrow_low 32 _ n (number_of_four Little n)

number_is_read_by : (order : Order) (w : Width) (m : Option ℕ) (n : ℕ) (objects new : List Object) (a : Word) → m ≡ Some n → number_written_by m order w objects a ≡ Some new → number_read order w new a ≡ Some (narrow (bits_in w) n)
number_is_read_by order w None n objects new a some e = absurd (let never : ⊥ = cc in never)
number_is_read_by order w (Some m) n objects new a some e =
    let size = bytes_in w in
    let bytes = known_bytes {V = Word} (number_bytes order size m) in
    let x = bytes_are_written size bytes objects new a (number_count order w m) e in
    let it = x.3 in
    let m_is : m ≡ n = cc in
    ap (λ (b : Word). number_read order w new b) x.1
    ∙ ap (λ (c : Option Cause). defined (unless (or_cause c (number_cause (bytes_through new x.0 size))) (narrow (bits_in w) (number_of_bytes order (bytes_through new x.0 size))))) it.readable
    ∙ ap (λ bs. defined (unless (or_cause None (number_cause bs)) (narrow (bits_in w) (number_of_bytes order bs)))) it.stands
    ∙ ap (λ (c : Option Cause). defined (unless (or_cause None c) (narrow (bits_in w) (number_of_bytes order bytes)))) (known_cause order w m)
    ∙ ap (λ (v : Word). Some v) (narrow_back order w m)
    ∙ ap (λ (k : ℕ). Some (narrow (bits_in w) k)) m_is

-- a narrower number that was written is read
pub number_is_read : (order : Order) (w : Width) (v : Word) (n : ℕ) (objects new : List Object) (a : Word) → low_number (bits_in w) v ≡ Some n → number_written order w v objects a ≡ Some new → number_read order w new a ≡ Some (narrow (bits_in w) n)
number_is_read order w v n objects new a some e = number_is_read_by order w (low_number (bits_in w) v) n objects new a some e
