-- Bytes stored one by one, and objects changed in their list.
use Rattle.std.proofs.Common.{◌≡◌, ◌≤◌, ◌<◌, ◌⊎◌, inl, inr, ℕ, zero, suc, ◌+◌, Bool, List, [], ◌∷◌, ◌++◌, length, take, drop, get_or, set, slice_get, Some, refl, sym, ap, ◌∙◌, arith}
use Rattle.std.proofs.lemmas.List.{length-take-le, length-drop, take_all}
use Rattle.std.proofs.lemmas.Option.{slice_get-get_or, get_or_from_slice_get}
use Rattle.std.proofs.Math.Seq.{take-suc}
use Rattle.objects.specs.declared.byte.Byte.{Byte}
use Rattle.objects.specs.declared.value.Value.{Value}
use Rattle.objects.proofs.lemmas.ByteLaws.{written_twice, others_stay, length-overwritten}
use Rattle.objects.specs.Objects.{Object, contents, overwritten, with_bytes, stored, flagged}
use Rattle.objects.proofs.Holding.{seen_as}

-- nothing written is no change
nothing_over : {A : Type 0} → (k : ℕ) (old : List A) → overwritten k [] old ≡ old
nothing_over zero old = refl
nothing_over (suc k) [] = refl
nothing_over (suc k) (y ∷ ys) = ap (λ zs. y ∷ zs) (nothing_over k ys)

pub with_nothing : (o : Object) (place : ℕ) → with_bytes o place [] ≡ o
with_nothing o place = ap (λ bs. seen_as o.made o.constant bs) (nothing_over place o.bytes)

pub all_taken : {A : Type 0} → (k : ℕ) (xs : List A) → k ≡ length xs → take k xs ≡ xs
all_taken k xs e = take_all k xs (omega arith)

one_more : {A : Type 0} → (k : ℕ) (xs : List A) (b : A) → k < length xs → slice_get xs k ≡ Some b → take k xs ++ b ∷ [] ≡ take (suc k) xs
one_more k xs b h e = ap (λ c. take k xs ++ c ∷ []) (sym (get_or_from_slice_get xs k b b e)) ∙ sym (take-suc xs k b h)

-- one byte more
over_step : {A : Type 0} → (place m k n : ℕ) (bytes old : List A) (b : A) → place + length bytes ≤ length old → k < length bytes → m ≡ place + k → n ≡ suc k → slice_get bytes k ≡ Some b → overwritten m (b ∷ []) (overwritten place (take k bytes) old) ≡ overwritten place (take n bytes) old
over_step place m k n bytes old b inside h em en e =
    let long = length-take-le k bytes (omega arith) in
    written_twice place m (take k bytes) (b ∷ []) old (omega (arith, long)) (omega (arith, long))
    ∙ ap (λ xs. overwritten place xs old) (one_more k bytes b h e)
    ∙ ap (λ j. overwritten place (take j bytes) old) (sym en)

object_step : (o : Object) (place m k n : ℕ) (bytes : List (Byte Value)) (b : Byte Value) → place + length bytes ≤ length o.bytes → k < length bytes → m ≡ place + k → n ≡ suc k → slice_get bytes k ≡ Some b → with_bytes (with_bytes o place (take k bytes)) m (b ∷ []) ≡ with_bytes o place (take n bytes)
object_step o place m k n bytes b inside h em en e = ap (λ bs. seen_as o.made o.constant bs) (over_step place m k n bytes o.bytes b inside h em en e)

pub put_step : (o now next : Object) (place m k n : ℕ) (bytes : List (Byte Value)) (b : Byte Value) → now ≡ with_bytes o place (take k bytes) → next ≡ with_bytes now m (b ∷ []) → place + length bytes ≤ length o.bytes → k < length bytes → m ≡ place + k → n ≡ suc k → slice_get bytes k ≡ Some b → next ≡ with_bytes o place (take n bytes)
put_step o now next place m k n bytes b was is inside h em en e = is ∙ ap (λ (x : Object). with_bytes x m (b ∷ [])) was ∙ object_step o place m k n bytes b inside h em en e

pub still_inside : (o now : Object) (place : ℕ) (new : List (Byte Value)) → now ≡ with_bytes o place new → length now.bytes ≡ length o.bytes
still_inside o now place new e = ap (λ (x : Object). length x.bytes) e ∙ length-overwritten place new o.bytes

-- an object in its list
pub there : (objects : List Object) (at : ℕ) (x : Object) → at < length objects → x ≡ get_or objects at x → slice_get objects at ≡ Some x
there objects at x h e = slice_get-get_or objects at x h ∙ ap Some (sym e)

pub contents_there : (objects : List Object) (at : ℕ) (x : Object) → at < length objects → x ≡ get_or objects at x → contents (slice_get objects at) ≡ x.bytes
contents_there objects at x h e = ap (λ o. contents o) (there objects at x h e)

-- so many bytes from a place on
pub taken_length : (size place : ℕ) (bytes : List (Byte Value)) → place + size ≤ length bytes → length (take size (drop place bytes)) ≡ size
taken_length size place bytes h = let long = length-drop place bytes in length-take-le size (drop place bytes) (omega (arith, long))

set_is : (objects : List Object) (at place : ℕ) (new : List (Byte Value)) (x : Object) → slice_get objects at ≡ Some x → set objects at (with_bytes x place new) ≡ stored objects at place new
set_is [] at place new x e = absurd (let never : ⊥ = cc in never)
set_is (y ∷ ys) zero place new x e = let same : x ≡ y = cc in ap (λ z. with_bytes z place new ∷ ys) same
set_is (y ∷ ys) (suc at) place new x e = ap (λ zs. y ∷ zs) (set_is ys at place new x e)

pub object_stored : (objects : List Object) (at place : ℕ) (new : List (Byte Value)) (x z : Object) → at < length objects → x ≡ get_or objects at x → z ≡ with_bytes x place new → set objects at z ≡ stored objects at place new
object_stored objects at place new x z h e f = ap (λ y. set objects at y) f ∙ set_is objects at place new x (there objects at x h e)

-- its flag set
flag_set : (objects : List Object) (at : ℕ) (constant : Bool) (x : Object) → slice_get objects at ≡ Some x → set objects at (seen_as x.made constant x.bytes) ≡ flagged objects at constant
flag_set [] at constant x e = absurd (let never : ⊥ = cc in never)
flag_set (y ∷ ys) zero constant x e = let same : x ≡ y = cc in ap (λ (z : Object). seen_as z.made constant z.bytes ∷ ys) same
flag_set (y ∷ ys) (suc at) constant x e = ap (λ zs. y ∷ zs) (flag_set ys at constant x e)

pub object_flagged : (objects : List Object) (at : ℕ) (constant : Bool) (x z : Object) → at < length objects → x ≡ get_or objects at x → z ≡ seen_as x.made constant x.bytes → set objects at z ≡ flagged objects at constant
object_flagged objects at constant x z h e f = ap (λ y. set objects at y) f ∙ flag_set objects at constant x (there objects at x h e)

pub none_flagged : (objects : List Object) (at : ℕ) (constant : Bool) → length objects ≤ at → objects ≡ flagged objects at constant
none_flagged [] at constant h = refl
none_flagged (x ∷ xs) zero constant h = absurd (let never : ⊥ = omega arith in never)
none_flagged (x ∷ xs) (suc at) constant h = ap (λ zs. x ∷ zs) (none_flagged xs at constant (omega arith))

pub length-stored : (objects : List Object) (at place : ℕ) (new : List (Byte Value)) → length (stored objects at place new) ≡ length objects
length-stored [] at place new = refl
length-stored (x ∷ xs) zero place new = refl
length-stored (x ∷ xs) (suc at) place new = ap suc (length-stored xs at place new)

pub stored_nothing : (objects : List Object) (at place : ℕ) → stored objects at place [] ≡ objects
stored_nothing [] at place = refl
stored_nothing (x ∷ xs) zero place = ap (λ z. z ∷ xs) (with_nothing x place)
stored_nothing (x ∷ xs) (suc at) place = ap (λ zs. x ∷ zs) (stored_nothing xs at place)

list_step : (objects : List Object) (at place m k n : ℕ) (bytes : List (Byte Value)) (b : Byte Value) → place + length bytes ≤ length (contents (slice_get objects at)) → k < length bytes → m ≡ place + k → n ≡ suc k → slice_get bytes k ≡ Some b → stored (stored objects at place (take k bytes)) at m (b ∷ []) ≡ stored objects at place (take n bytes)
list_step [] at place m k n bytes b inside h em en e = refl
list_step (x ∷ xs) zero place m k n bytes b inside h em en e = ap (λ z. z ∷ xs) (object_step x place m k n bytes b inside h em en e)
list_step (x ∷ xs) (suc at) place m k n bytes b inside h em en e = ap (λ zs. x ∷ zs) (list_step xs at place m k n bytes b inside h em en e)

pub stored_step : (objects now next : List Object) (at place m k n : ℕ) (bytes : List (Byte Value)) (b : Byte Value) → now ≡ stored objects at place (take k bytes) → next ≡ stored now at m (b ∷ []) → place + length bytes ≤ length (contents (slice_get objects at)) → k < length bytes → m ≡ place + k → n ≡ suc k → slice_get bytes k ≡ Some b → next ≡ stored objects at place (take n bytes)
stored_step objects now next at place m k n bytes b was is inside h em en e = is ∙ ap (λ os. stored os at m (b ∷ [])) was ∙ list_step objects at place m k n bytes b inside h em en e

-- an object that bytes were stored in has as many as before
pub length-contents : (objects : List Object) (at place : ℕ) (new : List (Byte Value)) (k : ℕ) → length (contents (slice_get (stored objects at place new) k)) ≡ length (contents (slice_get objects k))
length-contents [] at place new k = refl
length-contents (x ∷ xs) zero place new zero = length-overwritten place new x.bytes
length-contents (x ∷ xs) zero place new (suc k) = refl
length-contents (x ∷ xs) (suc at) place new zero = refl
length-contents (x ∷ xs) (suc at) place new (suc k) = length-contents xs at place new k

-- bytes that weren't stored over are as before
untouched : (objects : List Object) (at place : ℕ) (new : List (Byte Value)) (k j : ℕ) → (k ≡ at → (j < place) ⊎ (place + length new ≤ j)) → slice_get (contents (slice_get (stored objects at place new) k)) j ≡ slice_get (contents (slice_get objects k)) j
untouched [] at place new k j h = refl
untouched (x ∷ xs) zero place new zero j h = others_stay place new x.bytes j (h refl)
untouched (x ∷ xs) zero place new (suc k) j h = refl
untouched (x ∷ xs) (suc at) place new zero j h = refl
untouched (x ∷ xs) (suc at) place new (suc k) j h = untouched xs at place new k j (λ e. h (ap suc e))

-- a byte among so many from a place on
taken : {A : Type 0} → (size k : ℕ) (xs : List A) → k < size → slice_get (take size xs) k ≡ slice_get xs k
taken zero k xs h = absurd (let never : ⊥ = omega arith in never)
taken (suc size) k [] h = refl
taken (suc size) zero (x ∷ xs) h = refl
taken (suc size) (suc k) (x ∷ xs) h = taken size k xs (omega arith)

dropped : {A : Type 0} → (place k j : ℕ) (xs : List A) → j ≡ place + k → slice_get (drop place xs) k ≡ slice_get xs j
dropped zero k j xs e = let same : k ≡ j = omega arith in ap (λ (i : ℕ). slice_get xs i) same
dropped (suc place) k j [] e = refl
dropped (suc place) k zero (x ∷ xs) e = absurd (let never : ⊥ = omega arith in never)
dropped (suc place) k (suc j) (x ∷ xs) e = dropped place k j xs (omega arith)

next_apart : (x y size k j n : ℕ) → k < size → n ≡ k → j ≡ x + k → (x ≡ y) ⊎ ((x + size ≤ y) ⊎ (y + size ≤ x)) → (j < y) ⊎ (y + n ≤ j)
next_apart x y size k j n h e f (inl same) = inr (omega arith)
next_apart x y size k j n h e f (inr (inl before)) = inl (omega arith)
next_apart x y size k j n h e f (inr (inr behind)) = inr (omega arith)

-- the next byte of a structure that is copied is as it was
pub next_byte : (objects now : List Object) (a x b y size k j : ℕ) (o : Object) (byte : Byte Value) → now ≡ stored objects b y (take k (take size (drop x (contents (slice_get objects a))))) → x + size ≤ length (contents (slice_get objects a)) → (a ≡ b → (x ≡ y) ⊎ ((x + size ≤ y) ⊎ (y + size ≤ x))) → k < size → j ≡ x + k → a < length now → o ≡ get_or now a o → slice_get o.bytes j ≡ Some byte → slice_get (take size (drop x (contents (slice_get objects a)))) k ≡ Some byte
next_byte objects now a x b y size k j o byte was inside apart h ej within r found =
    let all = contents (slice_get objects a) in
    let bytes = take size (drop x all) in
    let long = taken_length size x all inside in
    let part = length-take-le k bytes (omega (arith, long)) in
    taken size k (drop x all) h
    ∙ dropped x k j all ej
    ∙ sym (untouched objects b y (take k bytes) a j (λ same. next_apart x y size k j (length (take k bytes)) h part ej (apart same)))
    ∙ ap (λ os. slice_get (contents (slice_get os a)) j) (sym was)
    ∙ ap (λ bs. slice_get bs j) (contents_there now a o within r)
    ∙ found

pub as_long : (objects now : List Object) (at place : ℕ) (new : List (Byte Value)) → now ≡ stored objects at place new → length now ≡ length objects
as_long objects now at place new e = ap length e ∙ length-stored objects at place new

pub as_large : (objects now : List Object) (at place : ℕ) (new : List (Byte Value)) (a : ℕ) (o : Object) → now ≡ stored objects at place new → a < length now → o ≡ get_or now a o → length o.bytes ≡ length (contents (slice_get objects a))
as_large objects now at place new a o e h r =
    ap length (sym (contents_there now a o h r))
    ∙ ap (λ os. length (contents (slice_get os a))) e
    ∙ length-contents objects at place new a
