-- Laws of the objects that live: what a store, the making of an object and the end of others leave of each object.
use Rattle.std.specs.Prelude.{◌≡◌, ◌≤◌, ◌<◌, ℕ, zero, suc, ◌==◌, ◌&&◌, not, Bool, true, false, List, [], ◌∷◌, ◌++◌, length, take, Some, None, is_none, slice_get, if◌then◌else◌}
use Rattle.std.proofs.Common.{refl, sym, ap, ◌∙◌, arith}
use Rattle.std.proofs.lemmas.Bool.{eqb-true, eqb-false, eq-eqb}
use Rattle.std.proofs.lemmas.Option.{slice_get_past}
use Rattle.objects.specs.declared.byte.Byte.{Byte}
use Rattle.objects.specs.declared.value.ObjectName.{ObjectName}
use Rattle.objects.specs.declared.value.Value.{Value}
use Rattle.objects.proofs.lemmas.ByteLaws.{length-overwritten}
use Rattle.objects.proofs.lemmas.AccessLaws.{stored_elsewhere}
use Rattle.objects.specs.Objects.{Object, Storage, is_named, if_named, object_of, with_bytes, stored, next_name, with_object, ended}

-- a store leaves each object at another place as it is
pub others_stay : (objects : List Object) (o place : ℕ) (new : List (Byte Value)) (name : ObjectName) → (name.place ≡ o → ⊥) → object_of (stored objects o place new) name ≡ object_of objects name
others_stay objects o place new name h = ap (λ x. if_named name x) (stored_elsewhere objects o place new name.place h)

none_if : (b : Bool) (x : Object) → is_none (if b then Some x else None) ≡ not b
none_if true x = refl
none_if false x = refl

still_named : (name : ObjectName) (x : Object) (place : ℕ) (new : List (Byte Value)) → is_named name (with_bytes x place new) ≡ is_named name x
still_named name x place new = ap (λ (n : ℕ). (x.made == name.made) && (n == name.size)) (length-overwritten place new x.bytes)

lives_at : (objects : List Object) (o place : ℕ) (new : List (Byte Value)) (k : ℕ) (name : ObjectName) → is_none (if_named name (slice_get (stored objects o place new) k)) ≡ is_none (if_named name (slice_get objects k))
lives_at [] o place new k name = refl
lives_at (x ∷ xs) zero place new zero name = none_if (is_named name (with_bytes x place new)) (with_bytes x place new) ∙ ap (λ b. not b) (still_named name x place new) ∙ sym (none_if (is_named name x) x)
lives_at (x ∷ xs) zero place new (suc k) name = refl
lives_at (x ∷ xs) (suc o) place new zero name = refl
lives_at (x ∷ xs) (suc o) place new (suc k) name = lives_at xs o place new k name

-- and by it no object begins or ends to live
pub lives_stay : (objects : List Object) (o place : ℕ) (new : List (Byte Value)) (name : ObjectName) → is_none (object_of (stored objects o place new) name) ≡ is_none (object_of objects name)
lives_stay objects o place new name = lives_at objects o place new name.place name

-- ---- an object made

last_at : (objects : List Object) (x : Object) → slice_get (objects ++ x ∷ []) (length objects) ≡ Some x
last_at [] x = refl
last_at (y ∷ ys) x = last_at ys x

elsewhere : (objects : List Object) (x : Object) (k : ℕ) → (k ≡ length objects → ⊥) → slice_get (objects ++ x ∷ []) k ≡ slice_get objects k
elsewhere [] x zero h = absurd (h refl)
elsewhere [] x (suc k) h = refl
elsewhere (y ∷ ys) x zero h = refl
elsewhere (y ∷ ys) x (suc k) h = elsewhere ys x k (λ e. h (ap suc e))

both_true : (a b : Bool) → a ≡ true → b ≡ true → (a && b) ≡ true
both_true a b p q = cc

left_false : (a b : Bool) → a ≡ false → (a && b) ≡ false
left_false a b e = cc

-- it is found by its name
pub new_object : (s : Storage) (constant : Bool) (bytes : List (Byte Value)) → object_of (with_object s constant bytes).objects (next_name s (length bytes)) ≡ Some (record { made = s.made; constant = constant; bytes = bytes })
new_object s constant bytes =
    let x : Object = record { made = s.made; constant = constant; bytes = bytes } in
    ap (λ o. if_named (next_name s (length bytes)) o) (last_at s.objects x)
    ∙ ap (λ (b : Bool). if b then Some x else None) (both_true (s.made == s.made) (length bytes == length bytes) (eq-eqb s.made s.made refl) (eq-eqb (length bytes) (length bytes) refl))

other_made : (m n : ℕ) → m < n → (n == m) ≡ false
other_made m n h = elim (n == m) as (λ b. (n == m) ≡ b → b ≡ false) [ true ↦ (λ e. let same = eqb-true n m e in absurd (let never : ⊥ = omega (arith, same, h) in never)) | false ↦ (λ e. refl) ] refl

-- each name that was given before means what it meant, a dead one nothing
pub names_stay : (s : Storage) (constant : Bool) (bytes : List (Byte Value)) (name : ObjectName) → name.made < s.made → object_of (with_object s constant bytes).objects name ≡ object_of s.objects name
names_stay s constant bytes name h =
    let x : Object = record { made = s.made; constant = constant; bytes = bytes } in
    elim (name.place == length s.objects) as (λ b. (name.place == length s.objects) ≡ b → object_of (with_object s constant bytes).objects name ≡ object_of s.objects name) [
      | true ↦ (λ e.
          let at = eqb-true name.place (length s.objects) e in
          ap (λ (k : ℕ). if_named name (slice_get (s.objects ++ x ∷ []) k)) at
          ∙ ap (λ o. if_named name o) (last_at s.objects x)
          ∙ ap (λ (b : Bool). if b then Some x else None) (left_false (s.made == name.made) (length bytes == name.size) (other_made name.made s.made h))
          ∙ sym (ap (λ o. if_named name o) (slice_get_past s.objects name.place (omega (arith, at)))))
      | false ↦ (λ e. ap (λ o. if_named name o) (elsewhere s.objects x name.place (eqb-false name.place (length s.objects) e)))
    ] refl

-- ---- objects ended

kept : (n : ℕ) (objects : List Object) (k : ℕ) → k < n → slice_get (take n objects) k ≡ slice_get objects k
kept zero objects k h = absurd (let never : ⊥ = omega arith in never)
kept (suc n) [] k h = refl
kept (suc n) (x ∷ xs) zero h = refl
kept (suc n) (x ∷ xs) (suc k) h = kept n xs k (omega arith)

gone : (n : ℕ) (objects : List Object) (k : ℕ) → n ≤ k → slice_get (take n objects) k ≡ None
gone zero objects k h = refl
gone (suc n) [] k h = refl
gone (suc n) (x ∷ xs) zero h = absurd (let never : ⊥ = omega arith in never)
gone (suc n) (x ∷ xs) (suc k) h = gone n xs k (omega arith)

-- those at the first places live on
pub first_live : (s : Storage) (count : ℕ) (name : ObjectName) → name.place < count → object_of (ended s count).objects name ≡ object_of s.objects name
first_live s count name h = ap (λ o. if_named name o) (kept count s.objects name.place h)

-- and the others are dead
pub others_die : (s : Storage) (count : ℕ) (name : ObjectName) → count ≤ name.place → object_of (ended s count).objects name ≡ None
others_die s count name h = ap (λ o. if_named name o) (gone count s.objects name.place h)
