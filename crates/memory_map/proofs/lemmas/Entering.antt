-- The objects of a new call: slots below the top of its frame, and parameter words where its caller handed them.
use Rattle.std.proofs.Common.{◌≡◌, ◌⊎◌, inl, inr, ⊎_elim, ℕ, zero, suc, ◌+◌, ◌-◌, ◌*◌, ◌%◌, ◌<◌, ◌≤◌, List, [], ◌∷◌, ◌++◌, length, map, Option, Some, false, refl, sym, ap, ◌∙◌, subst, arith, length-append}
use Rattle.std.specs.Prelude.{slice_get, replicate, ℤ, pos, neg_ℤ, ◌≤ℤ◌, ◌+ℤ◌}
use Rattle.std.specs.Int.RustNames.{unsigned_abs}
use Rattle.std.specs.Int.Bits.{and_zero_r}
use Rattle.std.proofs.lemmas.Int.{ints}
use Rattle.std.proofs.lemmas.List.{length-map}
use Rattle.std.proofs.lemmas.Option.{slice_get_within}
use Rattle.lcc_base.specs.declared.order.Order.{Order}
use Rattle.lcc_base.specs.declared.order.Order.TheVariants.{Big, Little}
use Rattle.objects.specs.declared.byte.Byte.{Byte}
use Rattle.objects.specs.Bytes.{unknown_byte, number_bytes}
use Rattle.op_forest.specs.declared.frame.Slot.{Slot}
use Rattle.objects.specs.declared.value.Value.TheVariants.{Number, Pointer, Function}
use Rattle.forests.specs.Words.{Word, Plain, Label, Partly}
use Rattle.forests.specs.WordBytes.{word_bytes}
use Rattle.forests.specs.Objects.{Object, objects_from}
use Rattle.forests.specs.Functions.{slot_bytes, own_bytes, entered}
use Rattle.memory_map.specs.Maps.{Map, IsByte, HasByte}
use Rattle.memory_map.specs.Lies.{HasRoom, Lies, extended, AreNumbered, Spread, IsOf, StandAll}
use Rattle.memory_map.specs.Frames.{slot_places, word_places, own_places, IsHome, IsOwn, Passed}
use Rattle.memory_map.specs.Lifetimes.{CallsBegin, CallsAreHomed, HomesStay}
use Rattle.memory_map.proofs.lemmas.Overwritten.{none_some, some_is}
use Rattle.memory_map.proofs.lemmas.Values.{word_alike}
use Rattle.memory_map.proofs.lemmas.Lying.{has_object, zipped}
use Rattle.memory_map.proofs.lemmas.New.{Either, either, get_front, get_behind, behind_at, new_lies}

-- ---- objects of these bytes, made one behind the other

pub made_long : (made : ℕ) (bs : List (List (Byte Word))) → length (objects_from made bs) ≡ length bs
made_long made [] = refl
made_long made (b ∷ bs) = ap suc (made_long (suc made) bs)

-- the object at a place is the one of these bytes
pub made_at : (made : ℕ) (bs : List (List (Byte Word))) (k : ℕ) (x : Object) → slice_get (objects_from made bs) k ≡ Some x → (slice_get bs k ≡ Some x.bytes) × (x.made ≡ made + k)
made_at made [] k x e = absurd (none_some x e)
made_at made (b ∷ bs) zero x e =
    let same = some_is (record { made = made; constant = false; bytes = b }) x e in
    (ap (λ (y : Object). Some y.bytes) same, (let m = ap (λ (y : Object). y.made) same in omega (arith, m)))
made_at made (b ∷ bs) (suc k) x e = let r = made_at (suc made) bs k x e in (r.0, (let m = r.1 in omega (arith, m)))

pub made_numbered : (made : ℕ) (bs : List (List (Byte Word))) → AreNumbered made (objects_from made bs)
made_numbered made bs k x e = (made_at made bs k x e).1

some_object : (objects : List Object) (k : ℕ) → k < length objects → (x : Object) × (slice_get objects k ≡ Some x)
some_object [] k l = absurd (let never : ⊥ = omega (arith, l) in never)
some_object (x ∷ xs) zero l = (x, refl)
some_object (x ∷ xs) (suc k) l = some_object xs k (omega (arith, l))

-- ---- what the lists of bytes and of addresses have

mapped : {A B : Type 0} (f : A → B) (xs : List A) (k : ℕ) (y : B) → slice_get (map f xs) k ≡ Some y → (x : A) × (slice_get xs k ≡ Some x) × (f x ≡ y)
mapped f [] k y e = absurd (none_some y e)
mapped f (x ∷ xs) zero y e = (x, refl, some_is (f x) y e)
mapped f (x ∷ xs) (suc k) y e = mapped f xs k y e

replicated : (n : ℕ) (x : Byte Word) (i : ℕ) (b : Byte Word) → slice_get (replicate n x) i ≡ Some b → (i < n) × (b ≡ x)
replicated zero x i b e = absurd (none_some b e)
replicated (suc n) x zero b e = (omega arith, sym (some_is x b e))
replicated (suc n) x (suc i) b e = let r = replicated n x i b e in (let q = r.0 in omega (arith, q), r.1)

replicated_long : (n : ℕ) (x : Byte Word) → length (replicate n x) ≡ n
replicated_long zero x = refl
replicated_long (suc n) x = ap suc (replicated_long n x)

word_place_is : (at words k a : ℕ) → slice_get (word_places at words) k ≡ Some a → (a ≡ at + 4 * k) × (k < words)
word_place_is at zero k a e = absurd (none_some a e)
word_place_is at (suc n) zero a e = let q = some_is at a e in (omega (arith, q), omega arith)
word_place_is at (suc n) (suc k) a e = let r = word_place_is (at + 4) n k a e in let q = r.0 in let l = r.1 in (omega (arith, q), omega (arith, l))

word_places_long : (at words : ℕ) → length (word_places at words) ≡ words
word_places_long at zero = refl
word_places_long at (suc n) = ap suc (word_places_long (at + 4) n)

word_count : (order : Order) (w : Word) → length (word_bytes order w) ≡ 4
word_count Big (Plain (Number n)) = refl
word_count Little (Plain (Number n)) = refl
word_count Big (Plain (Pointer object offset)) = refl
word_count Little (Plain (Pointer object offset)) = refl
word_count Big (Plain (Function f)) = refl
word_count Little (Plain (Function f)) = refl
word_count Big (Label f l) = refl
word_count Little (Label f l) = refl
word_count Big (Partly mask bits) = refl
word_count Little (Partly mask bits) = refl

-- ---- slots

whole_size : (m : ℕ) → unsigned_abs (neg_ℤ (pos m)) ≡ m
whole_size zero = refl
whole_size (suc m) = refl

ends_low : (m size : ℕ) (z : ℤ) → z ≡ neg_ℤ (pos m) → (z +ℤ pos size) ≤ℤ pos 0 → size ≤ m
ends_low m size z is h = omega (arith, ints, is, h)

lies_before : (m n size : ℕ) (y z : ℤ) → y ≡ neg_ℤ (pos m) → z ≡ neg_ℤ (pos n) → (y +ℤ pos size) ≤ℤ z → n + size ≤ m
lies_before m n size y z is it h = omega (arith, ints, is, it, h)

-- so far below the top it begins
record Below (depth : ℕ) (s : Slot) : Type 0 where
  pub by : ℕ
  pub is : s.offset ≡ neg_ℤ (pos by)
  pub whole : unsigned_abs s.offset ≡ by
  pub four : by % 4 ≡ 0
  pub fits : s.size ≤ by
  pub deep : by ≤ depth

module _ (order : Order) (made floor top words_at depth : ℕ) (slots : List Slot) (ws : List Word) (home : IsHome floor top words_at depth (length ws) slots) where
  below : (k : ℕ) (s : Slot) → slice_get slots k ≡ Some s → Below depth s
  below k s e =
      let q = home.frame.four k s e in
      let whole = ap unsigned_abs q.1 ∙ whole_size (4 * q.0) in
      let deep = home.deep k s e in
      record {
        by = 4 * q.0;
        is = q.1;
        whole = whole;
        four = omega arith;
        fits = ends_low (4 * q.0) s.size s.offset q.1 (home.frame.ends k s e);
        deep = subst (λ (n : ℕ). n ≤ depth) whole deep;
      }

  abbrev blocks : List (List (Byte Word))
  blocks = map (λ s. slot_bytes s) slots ++ map (λ w. word_bytes order w) ws

  -- a slot, or a parameter word
  abbrev IsSlotAt : ℕ → ℕ → List (Byte Word) → Type 0
  IsSlotAt k a bytes = (s : Slot) × (slice_get slots k ≡ Some s) × (bytes ≡ slot_bytes s) × (a ≡ top - unsigned_abs s.offset) × (k < length slots)

  abbrev IsWordAt : ℕ → ℕ → List (Byte Word) → Type 0
  IsWordAt k a bytes = (j : ℕ) × (w : Word) × (k ≡ length slots + j) × (slice_get ws j ≡ Some w) × (bytes ≡ word_bytes order w) × (a ≡ words_at + 4 * j) × (j < length ws)

  slots_long : length (map (λ s. slot_bytes s) slots) ≡ length slots
  slots_long = length-map slots (λ s. slot_bytes s)

  places_long : length (slot_places top slots) ≡ length slots
  places_long = length-map slots (λ s. top - unsigned_abs s.offset)

  own_at : (k a : ℕ) (bytes : List (Byte Word)) → slice_get (map (λ s. slot_bytes s) slots ++ map (λ w. word_bytes order w) ws) k ≡ Some bytes → slice_get (slot_places top slots ++ word_places words_at (length ws)) k ≡ Some a → IsSlotAt k a bytes ⊎ IsWordAt k a bytes
  own_at k a bytes e f = own_by (either (map (λ s. slot_bytes s) slots) (map (λ w. word_bytes order w) ws) k bytes e) (either (slot_places top slots) (word_places words_at (length ws)) k a f)
    where
      own_by : Either (map (λ s. slot_bytes s) slots) (map (λ w. word_bytes order w) ws) k bytes → Either (slot_places top slots) (word_places words_at (length ws)) k a → IsSlotAt k a bytes ⊎ IsWordAt k a bytes
      own_by (inl x) (inl y) =
          let u = mapped (λ (s : Slot). slot_bytes s) slots k bytes x.1 in
          let v = mapped (λ (s : Slot). top - unsigned_abs s.offset) slots k a y.1 in
          let same : v.0 ≡ u.0 = some_is v.0 u.0 (sym v.1 ∙ u.1) in
          inl (u.0, u.1, sym u.2, sym v.2 ∙ ap (λ (s : Slot). top - unsigned_abs s.offset) same, (let l = x.0 in let n = slots_long in omega (arith, l, n)))
      own_by (inl x) (inr y) = absurd (let l = x.0 in let m = slots_long in let n = places_long in let q = y.1 in let never : ⊥ = omega (arith, l, m, n, q) in never)
      own_by (inr x) (inl y) = absurd (let l = y.0 in let m = slots_long in let n = places_long in let q = x.1 in let never : ⊥ = omega (arith, l, m, n, q) in never)
      own_by (inr x) (inr y) =
          let u = mapped (λ (w : Word). word_bytes order w) ws x.0 bytes x.2 in
          let m = slots_long in
          let n = places_long in
          let p = x.1 in
          let q = y.1 in
          let same : y.0 ≡ x.0 = omega (arith, m, n, p, q) in
          let v = word_place_is words_at (length ws) y.0 a y.2 in
          inr (x.0, u.0, omega (arith, m, p), u.1, sym u.2, v.0 ∙ ap (λ (i : ℕ). words_at + 4 * i) same, (let l = v.1 in omega (arith, l, same)))

  word_long : (w : Word) → length (word_bytes order w) ≡ 4
  word_long w = word_count order w

  slot_long : (s : Slot) → length (slot_bytes s) ≡ s.size
  slot_long s = replicated_long s.size unknown_byte

  places_many : length (own_places top words_at slots (length ws)) ≡ length (objects_from made blocks)
  places_many =
      let a : length (own_places top words_at slots (length ws)) ≡ length (slot_places top slots) + length (word_places words_at (length ws)) = length-append (slot_places top slots) (word_places words_at (length ws)) in
      let b : length blocks ≡ length (map (λ s. slot_bytes s) slots) + length (map (λ w. word_bytes order w) ws) = length-append (map (λ s. slot_bytes s) slots) (map (λ w. word_bytes order w) ws) in
      let m = slots_long in
      let n = places_long in
      let p = word_places_long words_at (length ws) in
      let q = length-map ws (λ w. word_bytes order w) in
      let r = made_long made blocks in
      omega (arith, a, b, m, n, p, q, r)

  -- the object at a place is a slot or a parameter word
  object_is : (k a : ℕ) (x : Object) → slice_get (objects_from made blocks) k ≡ Some x → slice_get (own_places top words_at slots (length ws)) k ≡ Some a → IsSlotAt k a x.bytes ⊎ IsWordAt k a x.bytes
  object_is k a x e f = own_at k a x.bytes (made_at made blocks k x e).0 f

  byte_is : (k i a : ℕ) (b : Byte Word) → HasByte (objects_from made blocks) k i b → slice_get (own_places top words_at slots (length ws)) k ≡ Some a → (bytes : List (Byte Word)) × (slice_get bytes i ≡ Some b) × (IsSlotAt k a bytes ⊎ IsWordAt k a bytes)
  byte_is k i a b has f = let x = has_object (objects_from made blocks) k i b has in (x.0.bytes, x.2, object_is k a x.0 x.1 f)

  four_by : (k a : ℕ) (bytes : List (Byte Word)) → IsSlotAt k a bytes ⊎ IsWordAt k a bytes → a % 4 ≡ 0
  four_by k a bytes (inl s) =
      let d = below k s.0 s.1 in
      let f = d.four in let w = d.whole in let q = s.3 in let t = home.top_four in let deep = d.deep in let above = home.above in
      omega (arith, f, w, q, t, deep, above)
  four_by k a bytes (inr w) = let q = w.5 in let t = home.words_four in omega (arith, q, t)

  room_by : (k a : ℕ) (bytes : List (Byte Word)) → IsSlotAt k a bytes ⊎ IsWordAt k a bytes → HasRoom floor a (length bytes)
  room_by k a bytes (inl s) =
      let d = below k s.0 s.1 in
      let w = d.whole in let q = s.3 in let deep = d.deep in let above = home.above in let some = home.some in
      let fits = d.fits in let long = ap (λ (bs : List (Byte Word)). length bs) s.2 ∙ slot_long s.0 in
      let low = home.below in let small = home.small in
      record {
        some = omega (arith, w, q, deep, above, some);
        small = omega (arith, w, q, deep, above, fits, long, low, small);
        side = inr (omega (arith, w, q, deep, above));
      }
  room_by k a bytes (inr w) =
      let q = w.5 in let l = w.6 in let above = home.above in let some = home.some in
      let long = ap (λ (bs : List (Byte Word)). length bs) w.4 ∙ word_long w.1 in
      let low = home.below in let small = home.small in
      record {
        some = omega (arith, q, above, some, low);
        small = omega (arith, q, l, long, small);
        side = inr (omega (arith, q, above, low));
      }

  -- the address of a byte in a slot, and in a parameter word
  slot_range : (k i a : ℕ) (b : Byte Word) (bytes : List (Byte Word)) → slice_get bytes i ≡ Some b → (s : IsSlotAt k a bytes) → (top - depth ≤ a + i) × (a + i < top) × (a + unsigned_abs s.0.offset ≡ top) × (i < s.0.size)
  slot_range k i a b bytes e s =
      let d = below k s.0 s.1 in
      let w = d.whole in let q = s.3 in let deep = d.deep in let above = home.above in let fits = d.fits in
      let long = ap (λ (bs : List (Byte Word)). length bs) s.2 ∙ slot_long s.0 in
      let l = slice_get_within bytes i b e in
      (omega (arith, w, q, deep, above), omega (arith, w, q, deep, above, fits, long, l), omega (arith, w, q, deep, above), omega (arith, long, l))

  word_range : (k i a : ℕ) (b : Byte Word) (bytes : List (Byte Word)) → slice_get bytes i ≡ Some b → (w : IsWordAt k a bytes) → (words_at ≤ a + i) × (a + i < words_at + 4 * length ws) × (i < 4)
  word_range k i a b bytes e w =
      let q = w.5 in let l = w.6 in
      let long = ap (λ (bs : List (Byte Word)). length bs) w.4 ∙ word_long w.1 in
      let j = slice_get_within bytes i b e in
      (omega (arith, q), omega (arith, q, l, long, j), omega (arith, long, j))

  meet : (k l i j a c : ℕ) (s t : Slot) → slice_get slots k ≡ Some s → slice_get slots l ≡ Some t → a + unsigned_abs s.offset ≡ top → c + unsigned_abs t.offset ≡ top → i < s.size → j < t.size → a + i ≡ c + j → k ≡ l
  meet k l i j a c s t e f p q u v g =
      let d = below k s e in
      let h = below l t f in
      let m = d.whole in
      let n = h.whole in
      ⊎_elim (λ same. same)
      (λ far. ⊎_elim
      (λ first. let r = lies_before d.by h.by s.size s.offset t.offset d.is h.is first in absurd (let never : ⊥ = omega (arith, p, q, u, v, g, m, n, r) in never))
      (λ second. let r = lies_before h.by d.by t.size t.offset s.offset h.is d.is second in absurd (let never : ⊥ = omega (arith, p, q, u, v, g, m, n, r) in never))
      far)
      (home.frame.apart k l s t e f)

  apart_by : (k i l j a c : ℕ) (b d : Byte Word) (xs ys : List (Byte Word)) → slice_get xs i ≡ Some b → slice_get ys j ≡ Some d → a + i ≡ c + j → IsSlotAt k a xs ⊎ IsWordAt k a xs → IsSlotAt l c ys ⊎ IsWordAt l c ys → k ≡ l
  apart_by k i l j a c b d xs ys e f g (inl s) (inl t) =
      let p = slot_range k i a b xs e s in
      let q = slot_range l j c d ys f t in
      meet k l i j a c s.0 t.0 s.1 t.1 p.2 q.2 p.3 q.3 g
  apart_by k i l j a c b d xs ys e f g (inl s) (inr w) =
      let p = (slot_range k i a b xs e s).1 in
      let q = (word_range l j c d ys f w).0 in
      let low = home.below in
      absurd (let never : ⊥ = omega (arith, p, q, low, g) in never)
  apart_by k i l j a c b d xs ys e f g (inr w) (inl t) =
      let p = (slot_range l j c d ys f t).1 in
      let q = (word_range k i a b xs e w).0 in
      let low = home.below in
      absurd (let never : ⊥ = omega (arith, p, q, low, g) in never)
  apart_by k i l j a c b d xs ys e f g (inr w) (inr v) =
      let p = w.5 in let q = v.5 in
      let m = (word_range k i a b xs e w).2 in
      let n = (word_range l j c d ys f v).2 in
      let y = w.2 in let z = v.2 in
      omega (arith, p, q, m, n, g, y, z)

  pub own_spread : Spread floor (own_places top words_at slots (length ws)) (objects_from made blocks)
  own_spread = record {
    many = places_many;
    four = λ k a e. four_at k a e;
    room = λ k a x e f. room_by k a x.bytes (object_is k a x e f);
    apart = λ k i l j a c b d x y e f g. let u = byte_is k i a b x e in let v = byte_is l j c d y f in apart_by k i l j a c b d u.0 v.0 u.1 v.1 g u.2 v.2;
  }
    where
      four_at : (k a : ℕ) → slice_get (own_places top words_at slots (length ws)) k ≡ Some a → a % 4 ≡ 0
      four_at k a e =
          let l = slice_get_within (own_places top words_at slots (length ws)) k a e in
          let m = places_many in
          let x = some_object (objects_from made blocks) k (omega (arith, l, m)) in
          four_by k a x.0.bytes (object_is k a x.0 x.1 e)

  own_range : (x : ℕ) → IsOf (own_places top words_at slots (length ws)) (objects_from made blocks) x → IsOwn top words_at depth (length ws) x
  own_range x o = range_by (byte_is o.object o.place o.start o.byte o.has o.there)
    where
      range_by : (bytes : List (Byte Word)) × (slice_get bytes o.place ≡ Some o.byte) × (IsSlotAt o.object o.start bytes ⊎ IsWordAt o.object o.start bytes) → IsOwn top words_at depth (length ws) x
      range_by (bytes, e, inl s) = let r = slot_range o.object o.place o.start o.byte bytes e s in let q = o.is in inl (subst (λ (n : ℕ). (top - depth ≤ n) × (n < top)) (sym q) (r.0, r.1))
      range_by (bytes, e, inr w) = let r = word_range o.object o.place o.start o.byte bytes e w in let q = o.is in inr (subst (λ (n : ℕ). (words_at ≤ n) × (n < words_at + 4 * length ws)) (sym q) (r.0, r.1))

  -- any byte stands for one of which nothing is known; a parameter word's bytes are the argument's
  own_stand : (map : Map) (memory : ℕ → Option ℕ) → ((x : ℕ) → top - depth ≤ x → x < top → (v : ℕ) × (memory x ≡ Some v) × (v < 256)) → ((k : ℕ) (a : Word) → slice_get ws k ≡ Some a → Passed map order memory (words_at + 4 * k) a) → StandAll map (own_places top words_at slots (length ws)) (objects_from made blocks) memory
  own_stand map memory there passed k i a b has e = stand_by (byte_is k i a b has e)
    where
      stand_by : (bytes : List (Byte Word)) × (slice_get bytes i ≡ Some b) × (IsSlotAt k a bytes ⊎ IsWordAt k a bytes) → (v : ℕ) × (memory (a + i) ≡ Some v) × IsByte map b v
      stand_by (bytes, f, inl s) =
          let r = slot_range k i a b bytes f s in
          let m = there (a + i) r.0 r.1 in
          let u = replicated s.0.size unknown_byte i b (ap (λ (bs : List (Byte Word)). slice_get bs i) (sym s.2) ∙ f) in
          (m.0, m.1, subst (λ (y : Byte Word). IsByte map y m.0) (sym u.1) (m.2, omega arith, and_zero_r m.0))
      stand_by (bytes, f, inr w) =
          let p = passed w.0 w.1 w.3 in
          let z = zipped map (word_bytes order w.1) (number_bytes order 4 p.word) i b (word_alike map order w.1 p.word p.small p.is) (ap (λ (bs : List (Byte Word)). slice_get bs i) (sym w.4) ∙ f) in
          (z.0, ap (λ (n : ℕ). memory (n + i)) w.5 ∙ p.stands i z.0 z.1, z.2)

-- a call is entered
pub enter_lies : CallsBegin
enter_lies map floor memory order name f w top words_at depth l home clear there passed =
    let own = own_bytes order f w.arguments in
    let places = own_places top words_at f.slots (length w.arguments) in
    let long = made_long w.made own in
    subst (λ (n : ℕ). Lies (extended map w.made places) floor n (entered order name f w).objects memory) (ap (λ (n : ℕ). w.made + n) long)
    (new_lies map floor w.made w.objects (objects_from w.made own) places memory l (made_numbered w.made own)
    (own_spread order w.made floor top words_at depth f.slots w.arguments home)
    (λ o i a b has e of. clear o i a b has e (own_range order w.made floor top words_at depth f.slots w.arguments home (a + i) of))
    (own_stand order w.made floor top words_at depth f.slots w.arguments home map memory there passed))

mapped_at : {A B : Type 0} (f : A → B) (xs : List A) (k : ℕ) (x : A) → slice_get xs k ≡ Some x → slice_get (map f xs) k ≡ Some (f x)
mapped_at f [] k x e = absurd (none_some x e)
mapped_at f (y ∷ xs) zero x e = ap (λ (z : _). Some (f z)) (some_is y x e)
mapped_at f (y ∷ xs) (suc k) x e = mapped_at f xs k x e

word_place_at : (at words k : ℕ) → k < words → slice_get (word_places at words) k ≡ Some (at + 4 * k)
word_place_at at zero k l = absurd (let never : ⊥ = omega (arith, l) in never)
word_place_at at (suc n) zero l = let e : at ≡ at + 4 * 0 = omega arith in ap (λ (x : ℕ). Some x) e
word_place_at at (suc n) (suc k) l = let e : at + 4 + 4 * k ≡ at + 4 * suc k = omega arith in word_place_at (at + 4) n k (omega (arith, l)) ∙ ap (λ (x : ℕ). Some x) e

-- and its objects are found there
pub call_homed : CallsAreHomed
call_homed map name f w top words_at same = record {
  slots = λ k s e.
      behind_at map w.made (own_places top words_at f.slots (length w.arguments)) (w.made + k) k refl
      ∙ get_front (slot_places top f.slots) (word_places words_at (length w.arguments)) k (let l = slice_get_within f.slots k s e in let n = slots_many in omega (arith, l, n))
      ∙ mapped_at (λ (t : Slot). top - unsigned_abs t.offset) f.slots k s e;
  words = λ k l.
      behind_at map w.made (own_places top words_at f.slots (length w.arguments)) (w.made + length f.slots + k) (length f.slots + k) (omega arith)
      ∙ get_behind (slot_places top f.slots) (word_places words_at (length w.arguments)) (length f.slots + k) k (let n = slots_many in omega (arith, n))
      ∙ word_place_at words_at (length w.arguments) k (omega (arith, l, same));
}
  where
    slots_many : length (slot_places top f.slots) ≡ length f.slots
    slots_many = length-map f.slots (λ s. top - unsigned_abs s.offset)

pub homes_stay : HomesStay
homes_stay a b home top words_at gr h = record {
  slots = λ k s e. gr.objects (home.made + k) (top - unsigned_abs s.offset) (h.slots k s e);
  words = λ k l. gr.objects (home.made + length home.slots + k) (words_at + 4 * k) (h.words k l);
}
