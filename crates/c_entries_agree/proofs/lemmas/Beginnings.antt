-- The objects with which a body of C begins, made one behind the other; and that one may be filled once the others are made.
use Rattle.std.specs.Prelude.{◌≡◌, ◌≤◌, ◌<◌, ℕ, zero, suc, ◌+◌, ◌%◌, ◌==◌, ◌&&◌, nat_lt, not, is_none, Bool, true, false, Option, Some, None, List, [], ◌∷◌, ◌++◌, length, map as mapped, slice_get, if◌then◌else◌}
use Rattle.std.proofs.Common.{refl, sym, ap, subst, ◌∙◌, arith, append_assoc, append-nil, length-append, mod-eq_of_lt}
use Rattle.std.proofs.lemmas.Bool.{eq-eqb}
use Rattle.lcc_base.specs.declared.cause.Cause.TheVariants.{Outside, Misaligned, Dead, ReadOnly}
use Rattle.objects.specs.declared.byte.Byte.{Byte}
use Rattle.objects.specs.declared.purpose.Purpose.{Purpose}
use Rattle.objects.specs.declared.purpose.Purpose.TheVariants.{Assignment, Initialisation}
use Rattle.objects.specs.declared.value.ObjectName.{ObjectName}
use Rattle.objects.specs.declared.value.Value.{Value}
use Rattle.objects.specs.declared.value.Value.TheVariants.{Number, Pointer, Function}
use Rattle.objects.specs.Accesses.{write_cause}
use Rattle.objects.specs.Causes.{first_cause}
use Rattle.objects.specs.Objects.{Object, Storage, if_named, is_named, is_constant, overwritten, with_bytes, stored, flagged, flagged_through}
use Rattle.c_runs.specs.Soundness.{Outline, outline, outlines}
use Rattle.c_runs.specs.Worlds.{World, objects, with_objects, with_local, with_passed, next_place}
use Rattle.c_pointers_agree.proofs.lemmas.Short.{object_at}
use Rattle.dag_seam.proofs.lemmas.Acts.{get_left, get_last}

-- ---- objects are made, or passed

pub data Beginning : Type 0 where
  Made : (constant : Bool) (bytes : List (Byte Value)) → Beginning
  Passed : (constant : Bool) (copy : Value) → Beginning

abbrev pub begin : Beginning → World → World
begin (Made constant bytes) w = with_local constant bytes w
begin (Passed constant copy) w = with_passed constant copy w

abbrev pub begin_all : List Beginning → World → World
begin_all [] w = w
begin_all (b ∷ bs) w = begin_all bs (begin b w)

pub begin_append : (xs ys : List Beginning) (w : World) → begin_all (xs ++ ys) w ≡ begin_all ys (begin_all xs w)
begin_append [] ys w = refl
begin_append (x ∷ xs) ys w = begin_append xs ys (begin x w)

-- ---- what is where

pub outlines_end : (os : List Object) (x : Object) → outlines (os ++ x ∷ []) ≡ outlines os ++ outline x ∷ []
outlines_end [] x = refl
outlines_end (y ∷ ys) x = ap (λ (zs : List Outline). outline y ∷ zs) (outlines_end ys x)

flagged_outlines : (os : List Object) (place : ℕ) (constant : Bool) → outlines (flagged os place constant) ≡ outlines os
flagged_outlines [] place constant = refl
flagged_outlines (x ∷ xs) zero constant = refl
flagged_outlines (x ∷ xs) (suc n) constant = ap (λ (zs : List Outline). outline x ∷ zs) (flagged_outlines xs n constant)

pub passed_outlines : (os : List Object) (copy : Value) (constant : Bool) → outlines (flagged_through os copy constant) ≡ outlines os
passed_outlines os (Pointer name offset) constant = flagged_outlines os name.place constant
passed_outlines os (Number n) constant = refl
passed_outlines os (Function f) constant = refl

-- further objects are made, and others live on
pub record LivesOn (old new : List Object) : Type 0 where
  pub more : List Outline
  pub is : outlines new ≡ outlines old ++ more

pub lives_itself : (os : List Object) → LivesOn os os
lives_itself os = record { more = []; is = sym (append-nil (outlines os)) }

pub lives_then : (a b d : List Object) → LivesOn a b → LivesOn b d → LivesOn a d
lives_then a b d x y = record { more = x.more ++ y.more; is = y.is ∙ ap (λ (zs : List Outline). zs ++ y.more) x.is ∙ append_assoc (outlines a) x.more y.more }

pub one_lives : (b : Beginning) (w : World) → LivesOn (objects w) (objects (begin b w))
one_lives (Made constant bytes) w = record { more = outline (record { made = w.storage.made; constant = constant; bytes = bytes }) ∷ []; is = outlines_end (objects w) (record { made = w.storage.made; constant = constant; bytes = bytes }) }
one_lives (Passed constant copy) w = record { more = []; is = passed_outlines (objects w) copy constant ∙ sym (append-nil (outlines (objects w))) }

pub all_live : (bs : List Beginning) (w : World) → LivesOn (objects w) (objects (begin_all bs w))
all_live [] w = lives_itself (objects w)
all_live (b ∷ bs) w = lives_then (objects w) (objects (begin b w)) (objects (begin_all bs (begin b w))) (one_lives b w) (all_live bs (begin b w))

pub outline_stays : (old new : List Object) → LivesOn old new → (n : ℕ) (o : Outline) → slice_get (outlines old) n ≡ Some o → slice_get (outlines new) n ≡ Some o
outline_stays old new h n o e = ap (λ (zs : List Outline). slice_get zs n) h.is ∙ get_left (outlines old) h.more n o e

-- locals are added
one_local : (b : Beginning) (w : World) (n : ℕ) (v : Value) → slice_get w.locals n ≡ Some v → slice_get (begin b w).locals n ≡ Some v
one_local (Made constant bytes) w n v e = get_left w.locals (next_place w (length bytes) ∷ []) n v e
one_local (Passed constant copy) w n v e = get_left w.locals (copy ∷ []) n v e

locals_stay : (bs : List Beginning) (w : World) (n : ℕ) (v : Value) → slice_get w.locals n ≡ Some v → slice_get (begin_all bs w).locals n ≡ Some v
locals_stay [] w n v e = e
locals_stay (b ∷ bs) w n v e = locals_stay bs (begin b w) n v (one_local b w n v e)

one_count : (b : Beginning) (w : World) → length (begin b w).locals ≡ length w.locals + 1
one_count (Made constant bytes) w = length-append w.locals (next_place w (length bytes) ∷ [])
one_count (Passed constant copy) w = length-append w.locals (copy ∷ [])

locals_count : (bs : List Beginning) (w : World) → length (begin_all bs w).locals ≡ length w.locals + length bs
locals_count [] w = let e : length w.locals ≡ length w.locals + 0 = omega arith in e
locals_count (b ∷ bs) w = let one = one_count b w in let rest = locals_count bs (begin b w) in omega (arith, one, rest)

-- ---- bytes are filled in

overwritten_all : {A : Type 0} (new old : List A) → length new ≡ length old → overwritten zero new old ≡ new
overwritten_all [] [] e = refl
overwritten_all [] (y ∷ ys) e = absurd (let never : ⊥ = omega (arith, e) in never)
overwritten_all (x ∷ xs) [] e = absurd (let never : ⊥ = omega (arith, e) in never)
overwritten_all (x ∷ xs) (y ∷ ys) e = ap (λ (zs : List _). x ∷ zs) (overwritten_all xs ys (omega (arith, e)))

stored_left : (os more : List Object) (q : ℕ) (bytes : List (Byte Value)) → q < length os → stored (os ++ more) q 0 bytes ≡ stored os q 0 bytes ++ more
stored_left [] more q bytes lt = absurd (let never : ⊥ = omega (arith, lt) in never)
stored_left (x ∷ xs) more zero bytes lt = refl
stored_left (x ∷ xs) more (suc q) bytes lt = ap (λ (zs : List Object). x ∷ zs) (stored_left xs more q bytes (omega (arith, lt)))

stored_last : (os : List Object) (x : Object) (bytes : List (Byte Value)) → stored (os ++ x ∷ []) (length os) 0 bytes ≡ os ++ with_bytes x 0 bytes ∷ []
stored_last [] x bytes = refl
stored_last (y ∷ ys) x bytes = ap (λ (zs : List Object). y ∷ zs) (stored_last ys x bytes)

stored_count : (os : List Object) (q : ℕ) (bytes : List (Byte Value)) → length (stored os q 0 bytes) ≡ length os
stored_count [] q bytes = refl
stored_count (x ∷ xs) zero bytes = refl
stored_count (x ∷ xs) (suc q) bytes = ap suc (stored_count xs q bytes)

stored_flagged : (os : List Object) (n q : ℕ) (constant : Bool) (bytes : List (Byte Value)) → flagged (stored os q 0 bytes) n constant ≡ stored (flagged os n constant) q 0 bytes
stored_flagged [] n q constant bytes = refl
stored_flagged (x ∷ xs) zero zero constant bytes = refl
stored_flagged (x ∷ xs) zero (suc q) constant bytes = refl
stored_flagged (x ∷ xs) (suc n) zero constant bytes = refl
stored_flagged (x ∷ xs) (suc n) (suc q) constant bytes = ap (λ (zs : List Object). x ∷ zs) (stored_flagged xs n q constant bytes)

stored_passed : (os : List Object) (copy : Value) (q : ℕ) (constant : Bool) (bytes : List (Byte Value)) → flagged_through (stored os q 0 bytes) copy constant ≡ stored (flagged_through os copy constant) q 0 bytes
stored_passed os (Pointer name offset) q constant bytes = stored_flagged os name.place q constant bytes
stored_passed os (Number n) q constant bytes = refl
stored_passed os (Function f) q constant bytes = refl

abbrev pub filled : ℕ → List (Byte Value) → World → World
filled q bytes w = with_objects w (stored (objects w) q 0 bytes)

-- a world of these objects, made so many, and these locals
abbrev world_of : List Object → ℕ → List Value → World → World
world_of os made locals w = record { storage = record { objects = os; made = made }; locals = locals; input = w.input; trace = w.trace }

one_filled : (b : Beginning) (q : ℕ) (bytes : List (Byte Value)) (w : World) → q < length (objects w) → begin b (filled q bytes w) ≡ filled q bytes (begin b w)
one_filled (Made constant new) q bytes w lt =
    let x : Object = record { made = w.storage.made; constant = constant; bytes = new } in
    ap (λ (n : ℕ). world_of (stored (objects w) q 0 bytes ++ x ∷ []) (w.storage.made + 1) (w.locals ++ Pointer (record { place = n; made = w.storage.made; size = length new }) 0 ∷ []) w) (stored_count (objects w) q bytes)
    ∙ ap (λ (os : List Object). world_of os (w.storage.made + 1) (w.locals ++ next_place w (length new) ∷ []) w) (sym (stored_left (objects w) (x ∷ []) q bytes lt))
one_filled (Passed constant copy) q bytes w lt = ap (λ (os : List Object). world_of os w.storage.made (w.locals ++ copy ∷ []) w) (stored_passed (objects w) copy q constant bytes)

one_longer : (b : Beginning) (q : ℕ) (w : World) → q < length (objects w) → q < length (objects (begin b w))
one_longer (Made constant bytes) q w lt = let e = length-append (objects w) (record { made = w.storage.made; constant = constant; bytes = bytes } ∷ []) in omega (arith, e, lt)
one_longer (Passed constant copy) q w lt = let e = flagged_count (objects w) copy constant in omega (arith, e, lt)
  where
    flag_count : (os : List Object) (n : ℕ) (constant : Bool) → length (flagged os n constant) ≡ length os
    flag_count [] n constant = refl
    flag_count (x ∷ xs) zero constant = refl
    flag_count (x ∷ xs) (suc n) constant = ap suc (flag_count xs n constant)

    flagged_count : (os : List Object) (v : Value) (constant : Bool) → length (flagged_through os v constant) ≡ length os
    flagged_count os (Pointer name offset) constant = flag_count os name.place constant
    flagged_count os (Number n) constant = refl
    flagged_count os (Function f) constant = refl

all_filled : (bs : List Beginning) (q : ℕ) (bytes : List (Byte Value)) (w : World) → q < length (objects w) → begin_all bs (filled q bytes w) ≡ filled q bytes (begin_all bs w)
all_filled [] q bytes w lt = refl
all_filled (b ∷ bs) q bytes w lt = ap (begin_all bs) (one_filled b q bytes w lt) ∙ all_filled bs q bytes (begin b w) (one_longer b q w lt)

last_filled : (constant : Bool) (bytes old : List (Byte Value)) (w : World) → length bytes ≡ length old → begin (Made constant bytes) w ≡ filled (length (objects w)) bytes (begin (Made constant old) w)
last_filled constant bytes old w same =
    let x : Object = record { made = w.storage.made; constant = constant; bytes = old } in
    ap (λ (n : ℕ). world_of (objects w ++ record { made = w.storage.made; constant = constant; bytes = bytes } ∷ []) (w.storage.made + 1) (w.locals ++ Pointer (record { place = length (objects w); made = w.storage.made; size = n }) 0 ∷ []) w) same
    ∙ ap (λ (os : List Object). world_of os (w.storage.made + 1) (w.locals ++ next_place w (length old) ∷ []) w)
    (ap (λ (zs : List (Byte Value)). objects w ++ record { made = w.storage.made; constant = constant; bytes = zs } ∷ []) (sym (overwritten_all bytes old same)) ∙ sym (stored_last (objects w) x bytes))

-- an object that was made with other bytes, and filled in the end
module _ (xs ys : List Beginning) (constant : Bool) (bytes old : List (Byte Value)) (w : World) (same : length bytes ≡ length old) where
  abbrev pub before : World
  before = begin_all xs w

  abbrev pub after : World
  after = begin_all (xs ++ Made constant old ∷ ys) w

  abbrev pub its_name : ObjectName
  its_name = record { place = length (objects before); made = before.storage.made; size = length old }

  last_there : length (objects before) < length (objects (begin (Made constant old) before))
  last_there = let e = length-append (objects before) (record { made = before.storage.made; constant = constant; bytes = old } ∷ []) in omega (arith, e)

  pub fills : begin_all (xs ++ Made constant bytes ∷ ys) w ≡ filled (length (objects before)) bytes after
  fills =
      begin_append xs (Made constant bytes ∷ ys) w
      ∙ ap (begin_all ys) (last_filled constant bytes old before same)
      ∙ all_filled ys (length (objects before)) bytes (begin (Made constant old) before) last_there
      ∙ ap (filled (length (objects before)) bytes) (sym (begin_append xs (Made constant old ∷ ys) w))

  pub its_local : slice_get after.locals (length w.locals + length xs) ≡ Some (Pointer its_name 0)
  its_local =
      ap (λ (v : World). slice_get v.locals (length w.locals + length xs)) (begin_append xs (Made constant old ∷ ys) w)
      ∙ locals_stay ys (begin (Made constant old) before) (length w.locals + length xs) (Pointer its_name 0)
      (subst (λ (n : ℕ). slice_get (before.locals ++ Pointer its_name 0 ∷ []) n ≡ Some (Pointer its_name 0)) (locals_count xs w) (get_last before.locals (Pointer its_name 0)))

  pub its_outline : slice_get (outlines (objects after)) (length (objects before)) ≡ Some (record { made = before.storage.made; size = length old })
  its_outline =
      let x : Object = record { made = before.storage.made; constant = constant; bytes = old } in
      let count : length (outlines (objects before)) ≡ length (objects before) = mapped_count (objects before) in
      let here : slice_get (outlines (objects before ++ x ∷ [])) (length (objects before)) ≡ Some (outline x) =
      ap (λ (zs : List Outline). slice_get zs (length (objects before))) (outlines_end (objects before) x)
      ∙ subst (λ (n : ℕ). slice_get (outlines (objects before) ++ outline x ∷ []) n ≡ Some (outline x)) count (get_last (outlines (objects before)) (outline x)) in
      ap (λ (v : World). slice_get (outlines (objects v)) (length (objects before))) (begin_append xs (Made constant old ∷ ys) w)
      ∙ outline_stays (objects (begin (Made constant old) before)) (objects (begin_all ys (begin (Made constant old) before))) (all_live ys (begin (Made constant old) before)) (length (objects before)) (outline x) here
    where
      mapped_count : (os : List Object) → length (outlines os) ≡ length os
      mapped_count [] = refl
      mapped_count (y ∷ zs) = ap suc (mapped_count zs)

-- ---- an object that lives may be written from its start on, for this purpose if it may

named_so : (name : ObjectName) (x : Object) → outline x ≡ record { made = name.made; size = name.size } → is_named name x ≡ true
named_so name x e =
    let made : x.made ≡ name.made = ap (λ (o : Outline). o.made) e in
    let size : length x.bytes ≡ name.size = ap (λ (o : Outline). o.size) e in
    ap (λ (b : Bool). b && (length x.bytes == name.size)) (eq-eqb x.made name.made made) ∙ eq-eqb (length x.bytes) name.size size

lives_so : (os : List Object) (name : ObjectName) → slice_get (outlines os) name.place ≡ Some (record { made = name.made; size = name.size }) → is_none (if_named name (slice_get os name.place)) ≡ false
lives_so os name e =
    let y = object_at os name.place (record { made = name.made; size = name.size }) e in
    ap (λ (o : Option Object). is_none (if_named name o)) y.1
    ∙ ap (λ (b : Bool). is_none (if b then Some y.0 else None)) (named_so name y.0 y.2)

fits_in : (n size : ℕ) → n ≤ size → nat_lt size (0 + n) ≡ false
fits_in n size le = grind (arith, le)

starts_aligned : (n : ℕ) → 1 ≤ n → (0 % n == 0) ≡ true
starts_aligned n some = ap (λ (m : ℕ). m == 0) (mod-eq_of_lt (let lt : 0 < n = omega (arith, some) in lt))

pub may_be_filled : (os : List Object) (name : ObjectName) (n : ℕ) → slice_get (outlines os) name.place ≡ Some (record { made = name.made; size = name.size }) → 1 ≤ n → n ≤ name.size → write_cause Initialisation os (Pointer name 0) n n ≡ None
may_be_filled os name n e some le = none_of (nat_lt name.size (0 + n)) (0 % n == 0) (is_none (if_named name (slice_get os name.place))) (fits_in n name.size le) (starts_aligned n some) (lives_so os name e)
  where
    none_of : (a b d : Bool) → a ≡ false → b ≡ true → d ≡ false → first_cause ((a, Outside) ∷ (not b, Misaligned) ∷ (d, Dead) ∷ (false, ReadOnly) ∷ []) ≡ None
    none_of true b d e f g = absurd (let never : ⊥ = cc in never)
    none_of false false d e f g = absurd (let never : ⊥ = cc in never)
    none_of false true true e f g = absurd (let never : ⊥ = cc in never)
    none_of false true false e f g = refl
