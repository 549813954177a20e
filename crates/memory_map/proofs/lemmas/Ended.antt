-- Objects that end: what lies in memory then, and that runs and calls make no object for their callers.
use Rattle.std.proofs.Common.{◌≡◌, ℕ, zero, suc, ◌<◌, ◌≤◌, List, [], ◌∷◌, length, map, take, Option, Some, refl, sym, ap, ◌∙◌, arith}
use Rattle.std.specs.Prelude.{slice_get}
use Rattle.std.proofs.lemmas.List.{length-map}
use Rattle.objects.specs.declared.byte.Byte.{Byte}
use Rattle.objects.specs.declared.value.Value.{Value}
use Rattle.objects.specs.Bytes.{unknown_byte}
use Rattle.objects.specs.Objects.{Object as Shape}
use Rattle.forests.specs.Words.{Word}
use Rattle.forests.specs.Objects.{Object, contents, shape_of, shapes}
use Rattle.memory_map.specs.Maps.{Map, start_of, start_at, HasByte}
use Rattle.memory_map.specs.Lies.{Fades}
use Rattle.memory_map.specs.Lifetimes.{ObjectsEnd, CallsEnd}
use Rattle.memory_map.specs.Privacy.{RunsFade, CallsFade}
use Rattle.memory_map.proofs.lemmas.Overwritten.{none_some, some_is}
use Rattle.memory_map.proofs.lemmas.Lying.{has_object, laid_on}
use Rattle.memory_map.proofs.lemmas.New.{get_front}

pub fades_same : (a : List Object) → Fades a a
fades_same a = record { before = λ o x e. (x, e, refl, omega arith) }

pub fades_more : (a b c : List Object) → Fades a b → Fades b c → Fades a c
fades_more a b c f g = record {
  before = λ o x e.
      let y = g.before o x e in
      let z = f.before o y.0 y.1 in
      (z.0, z.1, y.2 ∙ z.2, (let p = y.3 in let q = z.3 in omega (arith, p, q)));
}

some_byte : (bytes : List (Byte Word)) (i n : ℕ) → i < n → n ≤ length bytes → (c : Byte Word) × (slice_get bytes i ≡ Some c)
some_byte [] i n l m = absurd (let m2 : n ≤ 0 = m in let never : ⊥ = omega (arith, l, m2) in never)
some_byte (b ∷ bytes) zero n l m = (b, refl)
some_byte (b ∷ bytes) (suc i) (suc n) l m = some_byte bytes i n (omega (arith, l)) (omega (arith, m))
some_byte (b ∷ bytes) (suc i) zero l m = absurd (let never : ⊥ = omega (arith, l) in never)

within : (bytes : List (Byte Word)) (i : ℕ) (b : Byte Word) → slice_get bytes i ≡ Some b → i < length bytes
within [] i b e = absurd (none_some b e)
within (x ∷ xs) zero b e = omega arith
within (x ∷ xs) (suc i) b e = let l = within xs i b e in omega (arith, l)

-- each byte of an object that lives was one before
pub faded_byte : (old new : List Object) → Fades old new → (o i : ℕ) (b : Byte Word) → HasByte new o i b → (c : Byte Word) × HasByte old o i c
faded_byte old new f o i b has =
    let x = has_object new o i b has in
    let y = f.before o x.0 x.1 in
    let c = some_byte y.0.bytes i (length x.0.bytes) (within x.0.bytes i b x.2) y.3 in
    (c.0, ap (λ (z : Option Object). slice_get (contents z) i) y.1 ∙ c.1)

-- and has its address
pub faded_start : (map : Map) (old new : List Object) → Fades old new → (o i : ℕ) (b : Byte Word) → HasByte new o i b → start_at map new o ≡ start_at map old o
faded_start map old new f o i b has =
    let x = has_object new o i b has in
    let y = f.before o x.0 x.1 in
    ap (start_of map) x.1 ∙ ap map.object y.2 ∙ sym (ap (start_of map) y.1)

pub ended_lies : ObjectsEnd
ended_lies map floor made old new memory f was l = record {
  laid = laid_on map floor made old new l.laid f.before (λ o i b e. (b, was o i b e));
  bytes = λ o i a b x e. l.bytes o i a b (was o i b x) (sym (faded_start map old new f o i b x) ∙ e);
}

-- ---- the first objects alone

pub taken_get : {A : Type 0} (n : ℕ) (xs : List A) (o : ℕ) (x : A) → slice_get (take n xs) o ≡ Some x → (slice_get xs o ≡ Some x) × (o < n)
taken_get zero xs o x e = absurd (none_some x e)
taken_get (suc n) [] o x e = absurd (none_some x e)
taken_get (suc n) (y ∷ ys) zero x e = (e, omega arith)
taken_get (suc n) (y ∷ ys) (suc o) x e = let r = taken_get n ys o x e in (r.0, (let l = r.1 in omega (arith, l)))

pub taken_fades : (n : ℕ) (objects : List Object) → Fades objects (take n objects)
taken_fades n objects = record { before = λ o x e. (x, (taken_get n objects o x e).0, refl, omega arith) }

taken_byte : (n : ℕ) (objects : List Object) (o i : ℕ) (b : Byte Word) → HasByte (take n objects) o i b → HasByte objects o i b
taken_byte n objects o i b has =
    let x = has_object (take n objects) o i b has in
    ap (λ (z : Option Object). slice_get (contents z) i) (taken_get n objects o x.0 x.1).0 ∙ x.2

pub call_ends : CallsEnd
call_ends map floor before after memory l =
    ended_lies map floor after.made after.objects (take (length before.objects) after.objects) memory (taken_fades (length before.objects) after.objects) (taken_byte (length before.objects) after.objects) l

-- ---- runs and calls

-- objects of the same shapes are the same but for their bytes
same_shape : (old new : List Object) (o : ℕ) (x : Object) → shapes new ≡ shapes old → slice_get new o ≡ Some x → (y : Object) × (slice_get old o ≡ Some y) × (shape_of x ≡ shape_of y)
same_shape old [] o x e f = absurd (none_some x f)
same_shape [] (z ∷ zs) o x e f = absurd (let never : ⊥ = cc in never)
same_shape (y ∷ ys) (z ∷ zs) zero x e f = (y, refl, (let q : z ≡ x = some_is z x f in let r : shape_of z ≡ shape_of y = cc in ap shape_of (sym q) ∙ r))
same_shape (y ∷ ys) (z ∷ zs) (suc o) x e f = same_shape ys zs o x (let r : shapes zs ≡ shapes ys = cc in r) f

shape_long : (x y : Object) → shape_of x ≡ shape_of y → length x.bytes ≡ length y.bytes
shape_long x y e =
    sym (length-map x.bytes (λ b. unknown_byte {V = Value})) ∙ ap (λ (s : Shape). length s.bytes) e ∙ length-map y.bytes (λ b. unknown_byte {V = Value})

pub runs_fade : RunsFade
runs_fade old new k = record {
  before = λ o x e.
      let y = same_shape old.objects new.objects o x k.shapes e in
      (y.0, y.1, ap (λ (s : Shape). s.made) y.2, (let l = shape_long x y.0 y.2 in omega (arith, l)));
}

pub call_fades : CallsFade
call_fades before w own f = record {
  before = λ o x e.
      let n = length before.objects in
      let r = taken_get n w.objects o x e in
      let y = f.before o x r.0 in
      (y.0, sym (get_front before.objects own o r.1) ∙ y.1, y.2, y.3);
}
