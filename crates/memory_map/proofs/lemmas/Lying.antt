-- How a read and a write keep what lies in memory.
use Rattle.std.proofs.Common.{◌≡◌, ◌⊎◌, inl, inr, ⊎_elim, ℕ, zero, suc, ◌+◌, ◌-◌, ◌<◌, ◌≤◌, List, [], ◌∷◌, length, Option, Some, None, refl, sym, ap, ◌∙◌, subst, arith}
use Rattle.std.specs.Prelude.{slice_get}
use Rattle.std.specs.List.{AllZip}
use Rattle.std.proofs.lemmas.Bool.{cases_eq, cases_lt}
use Rattle.objects.specs.declared.byte.Byte.{Byte}
use Rattle.objects.specs.declared.byte.Byte.TheVariants.{Bits, Part}
use Rattle.objects.specs.declared.value.Value.TheVariants.{Number, Pointer, Function}
use Rattle.forests.specs.Words.{Word, Plain, Label, Partly}
use Rattle.forests.specs.Objects.{Object, stored}
use Rattle.memory_map.specs.Maps.{Map, IsWord, IsByte, Grown, start_at, HasByte}
use Rattle.memory_map.specs.Lies.{HasRoom, IsLaid, Lies}
use Rattle.memory_map.specs.Memory.{Changed, Stand, HasSome}
use Rattle.memory_map.specs.Reading.{BytesStand}
use Rattle.memory_map.specs.Writing.{BytesAreWritten, ClearStays}
use Rattle.memory_map.proofs.lemmas.Overwritten.{none_some, some_is, StoredAt, stored_cases, stored_old, stored_start, stored_fades}

-- words and bytes in a later map
pub grown_word : (a b : Map) (w : Word) (h : ℕ) → Grown a b → IsWord a w h → IsWord b w h
grown_word a b (Plain (Number n)) h gr is = is
grown_word a b (Plain (Pointer object offset)) h gr is = (is.0, gr.objects object.made is.0 is.1, is.2, is.3)
grown_word a b (Plain (Function name)) h gr is = is ∙ sym (gr.functions name)
grown_word a b (Label function label) h gr is = is ∙ sym (gr.labels function label)
grown_word a b (Partly mask bits) h gr is = is

pub grown_byte : (a b : Map) (x : Byte Word) (h : ℕ) → Grown a b → IsByte a x h → IsByte b x h
grown_byte a b (Bits mask bits) h gr is = is
grown_byte a b (Part w k) h gr is = (is.0, grown_word a b w is.0 gr is.1, is.2, is.3)

-- the object that a byte is of
pub has_object : (objects : List Object) (o i : ℕ) (b : Byte Word) → HasByte objects o i b → (x : Object) × (slice_get objects o ≡ Some x) × (slice_get x.bytes i ≡ Some b)
has_object [] o i b e = absurd (none_some b e)
has_object (x ∷ xs) zero i b e = (x, refl, e)
has_object (x ∷ xs) (suc o) i b e = has_object xs o i b e

-- a read: the bytes of an object stand in memory
pub bytes_stand : BytesStand
bytes_stand map floor made objects memory o place a [] l at have = ([], refl, λ k v e. absurd (none_some v e), tt)
bytes_stand map floor made objects memory o place a (b ∷ bs) l at have =
    let here = l.bytes o place a b (subst (λ (n : ℕ). HasByte objects o n b) (plus_zero place) (have zero b refl)) at in
    let rest = bytes_stand map floor made objects memory o (suc place) a bs l at (λ k c e. subst (λ (n : ℕ). HasByte objects o n c) (plus_suc place k) (have (suc k) c e)) in
    (here.0 ∷ rest.0, ap suc rest.1, λ k v e. stands here.0 rest.0 here.1 rest.2 k v e, (here.2, rest.3))
  where
    plus_zero : (n : ℕ) → n + zero ≡ n
    plus_zero n = omega arith

    plus_suc : (n k : ℕ) → n + suc k ≡ suc n + k
    plus_suc n k = omega arith

    stands : (v0 : ℕ) (vs : List ℕ) → memory (a + place) ≡ Some v0 → Stand memory (a + suc place) vs → Stand memory (a + place) (v0 ∷ vs)
    stands v0 vs m s zero v e = ap memory (plus_zero (a + place)) ∙ m ∙ e
    stands v0 vs m s (suc k) v e = let q : a + place + suc k ≡ a + suc place + k = omega arith in ap memory q ∙ s k v e

-- bytes are written where no live object has a byte
pub clear_lies : ClearStays
clear_lies map floor made objects old new at vs l clear c = record {
  laid = l.laid;
  bytes = λ o i a b has there. let x = l.bytes o i a b has there in (x.0, c.outside (a + i) (off (a + i) (λ q. clear o i a b has there q)) ∙ x.1, x.2);
}
  where
    off : (x : ℕ) → ((at ≤ x) × (x < at + length vs) → ⊥) → (x < at) ⊎ (at + length vs ≤ x)
    off x never = ⊎_elim (λ e. inl e) (λ e. inr (⊎_elim (λ f. absurd (never (e, f))) (λ f. f) (cases_lt x (at + length vs)))) (cases_lt x at)

-- the byte of the machine that stands for one of several
pub zipped : (map : Map) (bs : List (Byte Word)) (vs : List ℕ) (j : ℕ) (b : Byte Word) → AllZip (IsByte map) bs vs → slice_get bs j ≡ Some b → (v : ℕ) × (slice_get vs j ≡ Some v) × IsByte map b v
zipped map [] vs j b z e = absurd (none_some b e)
zipped map (x ∷ bs) [] j b z e = absurd z
zipped map (x ∷ bs) (v ∷ vs) zero b z e = (v, refl, subst (λ (y : Byte Word). IsByte map y v) (some_is x b e) z.0)
zipped map (x ∷ bs) (v ∷ vs) (suc j) b z e = zipped map bs vs j b z.1 e

pub zipped_long : (map : Map) (bs : List (Byte Word)) (vs : List ℕ) → AllZip (IsByte map) bs vs → length vs ≡ length bs
zipped_long map [] [] z = refl
zipped_long map [] (v ∷ vs) z = absurd z
zipped_long map (x ∷ bs) [] z = absurd z
zipped_long map (x ∷ bs) (v ∷ vs) z = ap suc (zipped_long map bs vs z.1)

-- what is laid is laid on, where no object has more bytes
pub laid_on : (map : Map) (floor made : ℕ) (old new : List Object) → IsLaid map floor made old → ((o : ℕ) (x : Object) → slice_get new o ≡ Some x → (y : Object) × (slice_get old o ≡ Some y) × (x.made ≡ y.made) × (length x.bytes ≤ length y.bytes)) → ((o i : ℕ) (b : Byte Word) → HasByte new o i b → (c : Byte Word) × HasByte old o i c) → IsLaid map floor made new
laid_on map floor made old new l before was = record {
  known = λ o x e. let y = before o x e in let k = l.known o y.0 y.1 in (k.0, ap map.object y.2 ∙ k.1);
  fresh = l.fresh;
  four = l.four;
  room = λ o a x e f. let y = before o x e in let r = l.room o a y.0 y.1 (ap map.object (sym y.2) ∙ f) in less a (length x.bytes) (length y.0.bytes) y.3 r;
  apart = λ o i p j a c b d x y e f g. let u = was o i b x in let v = was p j d y in l.apart o i p j a c u.0 v.0 u.1 v.1 (start o i a b x e) (start p j c d y f) g;
}
  where
    less : (a m n : ℕ) → m ≤ n → HasRoom floor a n → HasRoom floor a m
    less a m n h r = record {
      some = r.some;
      small = (let s = r.small in omega (arith, s, h));
      side = ⊎_elim (λ s. inl (omega (arith, s, h))) (λ s. inr s) r.side;
    }

    start : (o i a : ℕ) (b : Byte Word) → HasByte new o i b → start_at map new o ≡ Some a → start_at map old o ≡ Some a
    start o i a b has e =
        let x = has_object new o i b has in
        let y = before o x.0 x.1 in
        let new_is : start_at map new o ≡ map.object x.0.made = ap (λ (z : Option Object). start_is z) x.1 in
        let old_is : start_at map old o ≡ map.object y.0.made = ap (λ (z : Option Object). start_is z) y.1 in
        old_is ∙ ap map.object (sym y.2) ∙ sym new_is ∙ e
      where
        start_is : Option Object → Option ℕ
        start_is None = None
        start_is (Some x) = map.object x.made

-- a write: bytes of an object, all of which it has, are stored
module _ (map : Map) (floor made : ℕ) (objects : List Object) (old new : ℕ → Option ℕ) (o place a : ℕ) (bs : List (Byte Word)) (vs : List ℕ) (l : Lies map floor made objects old) (at : start_at map objects o ≡ Some a) (there : HasSome objects o place (length bs)) (alike : AllZip (IsByte map) bs vs) (c : Changed old new (a + place) vs) where
  many : length vs ≡ length bs
  many = zipped_long map bs vs alike

  same : (p i s : ℕ) (b : Byte Word) → start_at map objects p ≡ Some s → HasByte objects p i b → a + place ≤ s + i → s + i < a + place + length vs → p ≡ o
  same p i s b e has low high =
      let k = s + i - (a + place) in
      let n = many in
      let h : k < length bs = omega (arith, low, high, n) in
      let q = there k h in
      let meet : s + i ≡ a + (place + k) = omega (arith, low) in
      l.laid.apart p i o (place + k) s a b q.0 has q.1 e at meet

  elsewhere : (p i s : ℕ) (b : Byte Word) → start_at map objects p ≡ Some s → HasByte objects p i b → (p ≡ o → ⊥) → (s + i < a + place) ⊎ (a + place + length vs ≤ s + i)
  elsewhere p i s b e has ne = ⊎_elim
      (λ low. inl low)
      (λ low. inr (⊎_elim (λ high. absurd (ne (same p i s b e has low high))) (λ high. high) (cases_lt (s + i) (a + place + length vs))))
      (cases_lt (s + i) (a + place))

  start_same : (p s : ℕ) → start_at map objects p ≡ Some s → p ≡ o → s ≡ a
  start_same p s e q = some_is s a (sym e ∙ ap (λ (n : ℕ). start_at map objects n) q ∙ at)

  outside : (p i s : ℕ) (b : Byte Word) → start_at map objects p ≡ Some s → HasByte objects p i b → ((p ≡ o → ⊥) ⊎ (i < place) ⊎ (place + length bs ≤ i)) → (s + i < a + place) ⊎ (a + place + length vs ≤ s + i)
  outside p i s b e has (inr (inl low)) = ⊎_elim
      (λ same. inl (let q = start_same p s e same in omega (arith, q, low)))
      (λ ne. elsewhere p i s b e has ne)
      (cases_eq p o)
  outside p i s b e has (inr (inr high)) = ⊎_elim
      (λ same. inr (let q = start_same p s e same in let n = many in omega (arith, q, high, n)))
      (λ ne. elsewhere p i s b e has ne)
      (cases_eq p o)
  outside p i s b e has (inl ne) = elsewhere p i s b e has ne

  byte_there : (p i s : ℕ) (b : Byte Word) → start_at map objects p ≡ Some s → StoredAt o place bs objects p i b → (v : ℕ) × (new (s + i) ≡ Some v) × IsByte map b v
  byte_there p i s b e (inl w) =
      let z = zipped map bs vs w.0 b alike w.3 in
      let q = start_same p s e w.1 in
      let here : s + i ≡ a + place + w.0 = let r = w.2 in omega (arith, q, r) in
      (z.0, ap new here ∙ c.inside w.0 z.0 z.1, z.2)
  byte_there p i s b e (inr w) =
      let x = l.bytes p i s b w.1 e in
      (x.0, c.outside (s + i) (outside p i s b e w.1 w.0) ∙ x.1, x.2)

  pub written_there : Lies map floor made (stored objects o place bs) new
  written_there = record {
    laid = laid_on map floor made objects (stored objects o place bs) l.laid (stored_fades objects o place bs).before (λ p i b e. stored_old objects o place bs p i b e);
    bytes = λ p i s b x e. byte_there p i s b (sym (stored_start map objects o place bs p) ∙ e) (stored_cases objects o place bs p i b x);
  }

pub write_lies : BytesAreWritten
write_lies map floor made objects old new o offset a bs vs l at there alike c = written_there map floor made objects old new o offset a bs vs l at there alike c
