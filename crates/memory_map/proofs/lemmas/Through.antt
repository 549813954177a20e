-- Loads and stores through pointers, where those of forests are defined.
use Rattle.std.proofs.Common.{◌≡◌, inl, inr, ⊎_elim, ℕ, zero, suc, ◌+◌, ◌-◌, ◌/◌, ◌%◌, ◌^◌, ◌<◌, ◌≤◌, List, [], ◌∷◌, length, map, take, drop, Bool, true, false, Option, Some, None, refl, sym, ap, ◌∙◌, subst, arith}
use Rattle.std.specs.Prelude.{slice_get, ◌==◌, not, ◌&&◌, ◌||◌, bit_and, if◌then◌else◌}
use Rattle.std.specs.List.{AllZip}
use Rattle.std.proofs.lemmas.Bool.{eqb-true, true≢false}
use Rattle.std.proofs.lemmas.List.{length-map, length-take-le, length-drop}
use Rattle.std.proofs.lemmas.Nat.{and_mod, and_mask, mod_below, pow_pos}
use Rattle.std.proofs.Math.Nat.{mod-eq_of_lt}
use Rattle.lcc_base.specs.declared.order.Order.{Order}
use Rattle.lcc_base.specs.declared.order.Order.TheVariants.{Big, Little}
use Rattle.lcc_base.specs.declared.cause.Cause.{Cause}
use Rattle.lcc_base.specs.declared.cause.Cause.TheVariants.{Outside, Misaligned, Dead, Unknown, PointerBytes, Overlap}
use Rattle.lcc_base.specs.NumberIn.{number_in}
use Rattle.objects.specs.declared.byte.Byte.{Byte}
use Rattle.objects.specs.declared.byte.Byte.TheVariants.{Bits, Part}
use Rattle.objects.specs.declared.purpose.Purpose.TheVariants.{Assignment}
use Rattle.objects.specs.declared.value.ObjectName.{ObjectName}
use Rattle.objects.specs.declared.value.Value.{Value}
use Rattle.objects.specs.declared.value.Value.TheVariants.{Number, Pointer, Function}
use Rattle.objects.specs.declared.width.Width.{Width}
use Rattle.objects.specs.declared.width.Width.TheVariants as width
use Rattle.objects.specs.Accesses.{read_cause, write_cause}
use Rattle.objects.specs.Bytes.{unknown_byte, known_bytes, value_of, has_unknown_bits, has_parts, number_bytes, number_of_bytes}
use Rattle.objects.specs.Causes.{first_cause, unless, is_outside, is_misaligned, is_dead, is_unknown, overlaps_in_part}
use Rattle.objects.specs.Copies.{or_cause}
use Rattle.objects.specs.Objects.{is_named}
use Rattle.objects.specs.Objects.{Object as Shape}
use Rattle.objects.specs.Values.{bytes_in, bits_in}
use Rattle.objects.proofs.lemmas.AccessLaws.{first_not, first_rest, not_less, size_of, its_object}
use Rattle.objects.proofs.lemmas.CopyLaws.{readable}
use Rattle.forests.specs.Words.{Word, Plain, Label, Partly, low_number, narrow}
use Rattle.forests.specs.WordBytes.{word_bytes, word_in}
use Rattle.forests.specs.Objects.{Object, shape_of, shapes, contents, stored, bytes_through, stored_through}
use Rattle.forests.specs.Accesses.{defined, number_cause, bytes_written, number_written_by}
use Rattle.memory_map.specs.Maps.{Map, IsWord, IsByte, start_of, start_at, HasByte}
use Rattle.memory_map.specs.Lies.{HasRoom, IsLaid, Lies}
use Rattle.memory_map.specs.Memory.{Changed, Stand, HaveBytes, HasSome, IsAlignment, IsAccess}
use Rattle.memory_map.specs.Reading.{AccessesAre, WordsAreLoaded, NumbersAreLoaded}
use Rattle.memory_map.specs.Writing.{WordsAreStored, NumbersAreStored, BlocksAreCopied}
use Rattle.memory_map.proofs.lemmas.Overwritten.{none_some, some_is}
use Rattle.memory_map.proofs.lemmas.Values.{word_alike, word_is}
use Rattle.memory_map.proofs.lemmas.Lying.{bytes_stand, zipped_long, write_lies}

-- ---- where a pointer leads

under_shape : (objects : List Object) (i : ℕ) (x : Shape) → slice_get (shapes objects) i ≡ Some x → (y : Object) × (slice_get objects i ≡ Some y) × (shape_of y ≡ x)
under_shape [] i x e = absurd (none_some x e)
under_shape (y ∷ ys) zero x e = (y, refl, cc)
under_shape (y ∷ ys) (suc i) x e = under_shape ys i x e

not_false : (b : Bool) → not b ≡ false → b ≡ true
not_false true e = refl
not_false false e = absurd (let never : ⊥ = cc in never)

and_first : (a b : Bool) → (a && b) ≡ true → a ≡ true
and_first true b e = refl
and_first false b e = absurd (let never : ⊥ = cc in never)

made_of : (name : ObjectName) (x : Shape) → is_named name x ≡ true → x.made ≡ name.made
made_of name x e = eqb-true x.made name.made (and_first (x.made == name.made) (length x.bytes == name.size) e)

-- an access of forests that nothing forbids goes to an object that lives, and the machine's goes there
pub record Reached (map : Map) (floor : ℕ) (objects : List Object) (p : Value) (h size alignment : ℕ) : Type 0 where
  pub name : ObjectName
  pub offset : ℕ
  pub it : Object
  pub start : ℕ
  pub points : p ≡ Pointer name offset
  pub lives : slice_get objects name.place ≡ Some it
  pub at : map.object it.made ≡ Some start
  pub four : start % 4 ≡ 0
  pub room : HasRoom floor start (length it.bytes)
  pub address : h ≡ start + offset
  pub inside : offset + size ≤ length it.bytes
  pub aligned : offset % alignment ≡ 0

no_wrap : (n h : ℕ) → h ≡ n % 2 ^ 32 → n < 2 ^ 32 → h ≡ n
no_wrap n h e l = omega (arith, e, l)

-- a pointer into an object that lives: where it stands
pub record Live (map : Map) (floor : ℕ) (objects : List Object) (name : ObjectName) (offset h : ℕ) : Type 0 where
  pub it : Object
  pub start : ℕ
  pub lives : slice_get objects name.place ≡ Some it
  pub made_is : it.made ≡ name.made
  pub long : length it.bytes ≡ name.size
  pub at : map.object it.made ≡ Some start
  pub four : start % 4 ≡ 0
  pub room : HasRoom floor start (length it.bytes)
  pub address : h ≡ start + offset
  pub inside : offset ≤ name.size

pub live : (map : Map) (floor made : ℕ) (objects : List Object) (name : ObjectName) (offset h : ℕ) → IsLaid map floor made objects → IsWord map (Plain (Pointer name offset)) h → is_dead (shapes objects) (Pointer name offset) ≡ false → Live map floor objects name offset h
live map floor made objects name offset h l is dead =
    let shape = its_object name (slice_get (shapes objects) name.place) dead in
    let x = under_shape objects name.place shape.0 shape.1 in
    let long : length x.0.bytes ≡ name.size =
    sym (length-map x.0.bytes (λ b. unknown_byte {V = Value})) ∙ ap (λ (s : Shape). length s.bytes) x.2 ∙ size_of name shape.0 shape.2 in
    let made_is : x.0.made ≡ name.made = ap (λ (s : Shape). s.made) x.2 ∙ made_of name shape.0 shape.2 in
    let at : map.object x.0.made ≡ Some is.0 = ap map.object made_is ∙ is.1 in
    let room = l.room name.place is.0 x.0 x.1 at in
    let small = room.small in
    let inside = is.3 in
    record {
      it = x.0;
      start = is.0;
      lives = x.1;
      made_is = made_is;
      long = long;
      at = at;
      four = l.four x.0.made is.0 at;
      room = room;
      address = no_wrap (is.0 + offset) h is.2 (omega (arith, inside, small, long));
      inside = inside;
    }

some_byte : (bytes : List (Byte Word)) (i : ℕ) → i < length bytes → (c : Byte Word) × (slice_get bytes i ≡ Some c)
some_byte [] i l = absurd (let never : ⊥ = omega (arith, l) in never)
some_byte (b ∷ bytes) zero l = (b, refl)
some_byte (b ∷ bytes) (suc i) l = some_byte bytes i (omega (arith, l))

-- the byte there, unless it stands behind the last one
pub live_byte : (map : Map) (floor : ℕ) (objects : List Object) (name : ObjectName) (offset h : ℕ) → (l : Live map floor objects name offset h) → offset < name.size → (b : Byte Word) × HasByte objects name.place offset b
live_byte map floor objects name offset h l lt =
    let long = l.long in
    let c = some_byte l.it.bytes offset (omega (arith, long, lt)) in
    (c.0, ap (λ (x : Option Object). slice_get (contents x) offset) l.lives ∙ c.1)

pub live_start : (map : Map) (floor : ℕ) (objects : List Object) (name : ObjectName) (offset h : ℕ) → (l : Live map floor objects name offset h) → start_at map objects name.place ≡ Some l.start
live_start map floor objects name offset h l = ap (start_of map) l.lives ∙ l.at

pub reached : (map : Map) (floor made : ℕ) (objects : List Object) (p : Value) (h size alignment : ℕ) → IsLaid map floor made objects → IsWord map (Plain p) h → read_cause (shapes objects) p size alignment ≡ None → Reached map floor objects p h size alignment
reached map floor made objects (Number n) h size alignment l is e = absurd (let never : true ≡ false = first_not true Outside ((false, Misaligned) ∷ (false, Dead) ∷ []) e in true≢false never)
reached map floor made objects (Function f) h size alignment l is e = absurd (let never : true ≡ false = first_not true Outside ((false, Misaligned) ∷ (false, Dead) ∷ []) e in true≢false never)
reached map floor made objects (Pointer name offset) h size alignment l is e =
    let p = Pointer name offset in
    let last = (is_dead (shapes objects) p, Dead) ∷ [] in
    let second = (is_misaligned alignment p, Misaligned) ∷ last in
    let outside = first_not (is_outside size p) Outside second e in
    let none = first_rest (is_outside size p) Outside second e in
    let misaligned = first_not (is_misaligned alignment p) Misaligned last none in
    let dead = first_not (is_dead (shapes objects) p) Dead [] (first_rest (is_misaligned alignment p) Misaligned last none) in
    let x = live map floor made objects name offset h l is dead in
    let long = x.long in
    let within = not_less name.size (offset + size) outside in
    record {
      name = name;
      offset = offset;
      it = x.it;
      start = x.start;
      points = refl;
      lives = x.lives;
      at = x.at;
      four = x.four;
      room = x.room;
      address = x.address;
      inside = omega (arith, within, long);
      aligned = eqb-true (offset % alignment) 0 (not_false (offset % alignment == 0) misaligned);
    }

aligned_so : (alignment start offset : ℕ) → IsAlignment alignment → start % 4 ≡ 0 → offset % alignment ≡ 0 → (start + offset) % alignment ≡ 0
aligned_so alignment start offset (inl one) e h = subst (λ (n : ℕ). (start + offset) % n ≡ 0) (sym one) (omega arith)
aligned_so alignment start offset (inr (inl two)) e h =
    let o : offset % 2 ≡ 0 = subst (λ (n : ℕ). offset % n ≡ 0) two h in
    subst (λ (n : ℕ). (start + offset) % n ≡ 0) (sym two) (omega (arith, o, e))
aligned_so alignment start offset (inr (inr four)) e h =
    let o : offset % 4 ≡ 0 = subst (λ (n : ℕ). offset % n ≡ 0) four h in
    subst (λ (n : ℕ). (start + offset) % n ≡ 0) (sym four) (omega (arith, o, e))

module _ (map : Map) (floor made : ℕ) (objects : List Object) (p : Value) (h size alignment : ℕ) (r : Reached map floor objects p h size alignment) where
  -- the bytes are there
  pub has_some : HasSome objects r.name.place r.offset size
  has_some k l =
      let i = r.inside in
      let c = some_byte r.it.bytes (r.offset + k) (omega (arith, i, l)) in
      (c.0, ap (λ (x : Option Object). slice_get (contents x) (r.offset + k)) r.lives ∙ c.1)

  pub start_is : start_at map objects r.name.place ≡ Some r.start
  start_is = ap (start_of map) r.lives ∙ r.at

  pub access_by : (memory : ℕ → Option ℕ) → Lies map floor made objects memory → IsAlignment alignment → IsAccess floor memory h size alignment
  access_by memory l ok =
      let address = r.address in
      let inside = r.inside in
      let small = r.room.small in
      let some = r.room.some in
      record {
        aligned = subst (λ (n : ℕ). n % alignment ≡ 0) (sym address) (aligned_so alignment r.start r.offset ok r.four r.aligned);
        there = λ k lt.
            let b = has_some k lt in
            let v = l.bytes r.name.place (r.offset + k) r.start b.0 b.1 start_is in
            let same : h + k ≡ r.start + (r.offset + k) = omega (arith, address) in
            (v.0, ap memory same ∙ v.1);
        side = ⊎_elim (λ s. inl (omega (arith, s, address, inside))) (λ s. inr (omega (arith, s, address))) r.room.side;
        some = omega (arith, some, address);
        small = omega (arith, address, inside, small);
      }

pub access_is : AccessesAre
access_is map floor made objects memory p h size alignment l is ok e =
    access_by map floor made objects p h size alignment (reached map floor made objects p h size alignment l.laid is e) memory l ok

-- ---- loads

part_get : {A : Type 0} (xs : List A) (size place k : ℕ) (b : A) → slice_get (take size (drop place xs)) k ≡ Some b → slice_get xs (place + k) ≡ Some b
part_get xs zero place k b e = absurd (none_some b e)
part_get [] (suc size) zero k b e = absurd (none_some b e)
part_get [] (suc size) (suc place) k b e = absurd (none_some b e)
part_get (x ∷ xs) (suc size) (suc place) k b e = let q : suc place + k ≡ suc (place + k) = omega arith in ap (slice_get (x ∷ xs)) q ∙ part_get xs (suc size) place k b e
part_get (x ∷ xs) (suc size) zero zero b e = e
part_get (x ∷ xs) (suc size) zero (suc k) b e = let q : zero + suc k ≡ suc (zero + k) = omega arith in ap (slice_get (x ∷ xs)) q ∙ part_get xs size zero k b e

long_enough : {A : Type 0} (size place : ℕ) (xs : List A) → place + size ≤ length xs → length (take size (drop place xs)) ≡ size
long_enough size place xs h = let l = length-drop place xs in length-take-le size (drop place xs) (omega (arith, l, h))

-- the same bytes stand there
stand_once : (memory : ℕ → Option ℕ) (at : ℕ) (us vs : List ℕ) → length us ≡ length vs → Stand memory at us → Stand memory at vs → us ≡ vs
stand_once memory at [] [] e s t = refl
stand_once memory at [] (v ∷ vs) e s t = absurd (let never : ⊥ = omega (arith, e) in never)
stand_once memory at (u ∷ us) [] e s t = absurd (let never : ⊥ = omega (arith, e) in never)
stand_once memory at (u ∷ us) (v ∷ vs) e s t =
    let here : u ≡ v = some_is u v (sym (s zero u refl) ∙ t zero v refl) in
    ap (λ (n : ℕ). n ∷ us) here ∙ ap (λ (ns : List ℕ). v ∷ ns) (stand_once memory (suc at) us vs (omega (arith, e)) (λ k n f. ap memory (next k) ∙ s (suc k) n f) (λ k n f. ap memory (next k) ∙ t (suc k) n f))
  where
    next : (k : ℕ) → suc at + k ≡ at + suc k
    next k = omega arith

-- of a pointer's bytes
module _ (map : Map) (floor made : ℕ) (objects : List Object) (p : Value) (h size alignment : ℕ) (r : Reached map floor objects p h size alignment) where
  through_is : bytes_through objects p size ≡ take size (drop r.offset r.it.bytes)
  through_is = ap (λ q. bytes_through objects q size) r.points ∙ ap (λ o. take size (drop r.offset (contents o))) r.lives

  pub through_long : length (bytes_through objects p size) ≡ size
  through_long = ap (λ (bs : List (Byte Word)). length bs) through_is ∙ long_enough size r.offset r.it.bytes r.inside

  have : HaveBytes objects r.name.place r.offset (bytes_through objects p size)
  have k b e = ap (λ (x : Option Object). slice_get (contents x) (r.offset + k)) r.lives ∙ part_get r.it.bytes size r.offset k b (ap (λ (bs : List (Byte Word)). slice_get bs k) (sym through_is) ∙ e)

  -- what stands there is alike
  pub loaded_alike : (memory : ℕ → Option ℕ) (vs : List ℕ) → Lies map floor made objects memory → length vs ≡ size → Stand memory h vs → AllZip (IsByte map) (bytes_through objects p size) vs
  loaded_alike memory vs l long s =
      let x = bytes_stand map floor made objects memory r.name.place r.offset r.start (bytes_through objects p size) l (start_is map floor made objects p h size alignment r) have in
      let there : Stand memory h x.0 = subst (λ (n : ℕ). Stand memory n x.0) (sym r.address) x.2 in
      subst (λ (ns : List ℕ). AllZip (IsByte map) (bytes_through objects p size) ns) (stand_once memory h x.0 vs (x.1 ∙ through_long ∙ sym long) there s) x.3

  pub stored_is : (new : List (Byte Word)) → stored_through objects p new ≡ stored objects r.name.place r.offset new
  stored_is new = ap (λ q. stored_through objects q new) r.points

  -- and what is stored there lies there
  pub stored_lies : (old new : ℕ → Option ℕ) (bs : List (Byte Word)) (vs : List ℕ) → Lies map floor made objects old → length bs ≡ size → AllZip (IsByte map) bs vs → Changed old new h vs → Lies map floor made (stored_through objects p bs) new
  stored_lies old new bs vs l long alike c =
      subst (λ (xs : List Object). Lies map floor made xs new) (sym (stored_is bs))
      (write_lies map floor made objects old new r.name.place r.offset r.start bs vs l (start_is map floor made objects p h size alignment r)
      (subst (λ (n : ℕ). HasSome objects r.name.place r.offset n) (sym long) (has_some map floor made objects p h size alignment r)) alike
      (subst (λ (n : ℕ). Changed old new n vs) r.address c))

defined_none : {A : Type 0} → (c : Option Cause) (a b : A) → defined (unless c a) ≡ Some b → c ≡ None
defined_none None a b e = refl
defined_none (Some c) a b e = absurd (let never : ⊥ = cc in never)

defined_same : {A : Type 0} → (c : Option Cause) (a b : A) → defined (unless c a) ≡ Some b → a ≡ b
defined_same None a b e = cc
defined_same (Some c) a b e = absurd (let never : ⊥ = cc in never)

or_first : (a b : Option Cause) → or_cause a b ≡ None → a ≡ None
or_first None b e = refl
or_first (Some c) b e = absurd (let never : ⊥ = cc in never)

or_rest : (a b : Option Cause) → or_cause a b ≡ None → b ≡ None
or_rest None b e = e
or_rest (Some c) b e = absurd (let never : ⊥ = cc in never)

-- a word
pub load_word : WordsAreLoaded
load_word map floor made objects memory order (Plain p) w h l is e =
    let value = word_in order (bytes_through objects p 4) in
    let none = defined_none (read_cause (shapes objects) p 4 4) value w e in
    let same = defined_same (read_cause (shapes objects) p 4 4) value w e in
    let r = reached map floor made objects p h 4 4 l.laid is none in (
      access_by map floor made objects p h 4 4 r memory l (inr (inr refl)),
      λ vs long s.
          subst (λ (v : Word). IsWord map v (number_in order vs)) same
          (word_is map order (bytes_through objects p 4) vs (through_long map floor made objects p h 4 4 r) (loaded_alike map floor made objects p h 4 4 r memory vs l long s)),
    )
load_word map floor made objects memory order (Label f k) w h l is e = absurd (none_some w e)
load_word map floor made objects memory order (Partly mask bits) w h l is e = absurd (none_some w e)

abbrev numbers_of : List (Byte Word) → List ℕ
numbers_of bs = map (λ b. value_of b) bs

or_false : (a b : Bool) → (a || b) ≡ false → (a ≡ false) × (b ≡ false)
or_false true b e = absurd (let never : ⊥ = cc in never)
or_false false b e = (refl, e)

byte_all : (h v : ℕ) → h < 256 → bit_and h 255 ≡ v → h ≡ v
byte_all h v l e = let m : bit_and h 255 ≡ h % 2 ^ 8 = and_mask h 8 in omega (arith, l, e, m)

-- bytes all of whose bits are known are the machine's
known_alike : (map : Map) (bs : List (Byte Word)) (vs : List ℕ) → has_unknown_bits bs ≡ false → has_parts bs ≡ false → AllZip (IsByte map) bs vs → numbers_of bs ≡ vs
known_alike map [] [] e f z = refl
known_alike map [] (v ∷ vs) e f z = absurd z
known_alike map (b ∷ bs) [] e f z = absurd z
known_alike map (Part w k ∷ bs) (v ∷ vs) e f z = absurd (let never : ⊥ = cc in never)
known_alike map (Bits known value ∷ bs) (v ∷ vs) e f z =
    let a = or_false (not (known == 255)) (has_unknown_bits bs) e in
    let full : known ≡ 255 = eqb-true known 255 (not_false (known == 255) a.0) in
    let it : v ≡ value = byte_all v value z.0.0 (ap (λ (n : ℕ). bit_and v n) (sym full) ∙ z.0.2) in
    ap (λ (n : ℕ). n ∷ numbers_of bs) (sym it) ∙ ap (λ (ns : List ℕ). v ∷ ns) (known_alike map bs vs a.1 f z.1)

-- a narrower number
pub narrow_is : (map : Map) (bits m n : ℕ) → n % 2 ^ bits ≡ m → IsWord map (narrow bits m) n
narrow_is map bits m n e = and_mask n bits ∙ sym (mod-eq_of_lt (mod_below n (2 ^ bits) (pow_pos bits))) ∙ ap (λ (k : ℕ). k % 2 ^ bits) e

width_alignment : (w : Width) → IsAlignment (bytes_in w)
width_alignment width.One = inl refl
width_alignment width.Two = inr (inl refl)
width_alignment width.Four = inr (inr refl)

pub load_number : NumbersAreLoaded
load_number map floor made objects memory order w (Plain p) v h l is e =
    let size = bytes_in w in
    let bytes = bytes_through objects p size in
    let value = narrow (bits_in w) (number_of_bytes order bytes) in
    let both = defined_none (or_cause (read_cause (shapes objects) p size size) (number_cause bytes)) value v e in
    let same = defined_same (or_cause (read_cause (shapes objects) p size size) (number_cause bytes)) value v e in
    let none = or_first (read_cause (shapes objects) p size size) (number_cause bytes) both in
    let number = or_rest (read_cause (shapes objects) p size size) (number_cause bytes) both in
    let known = first_not (is_unknown bytes) Unknown ((has_parts bytes, PointerBytes) ∷ []) number in
    let parts = first_not (has_parts bytes) PointerBytes [] (first_rest (is_unknown bytes) Unknown ((has_parts bytes, PointerBytes) ∷ []) number) in
    let r = reached map floor made objects p h size size l.laid is none in (
      access_by map floor made objects p h size size r memory l (width_alignment w),
      λ vs n long s low.
          let are : numbers_of bytes ≡ vs = known_alike map bytes vs known parts (loaded_alike map floor made objects p h size size r memory vs l long s) in
          subst (λ (x : Word). IsWord map x n) same (narrow_is map (bits_in w) (number_of_bytes order bytes) n (low ∙ ap (λ (ns : List ℕ). number_in order ns) (sym are))),
    )
load_number map floor made objects memory order w (Label f k) v h l is e = absurd (none_some v e)
load_number map floor made objects memory order w (Partly mask bits) v h l is e = absurd (none_some v e)

-- ---- stores

four_bytes : (order : Order) (n : ℕ) → length (number_bytes order 4 n) ≡ 4
four_bytes Big n = refl
four_bytes Little n = refl

word_long : (map : Map) (order : Order) (w : Word) (n : ℕ) → AllZip (IsByte map) (word_bytes order w) (number_bytes order 4 n) → length (word_bytes order w) ≡ 4
word_long map order w n z = sym (zipped_long map (word_bytes order w) (number_bytes order 4 n) z) ∙ four_bytes order n

pub store_word : WordsAreStored
store_word map floor made objects after old new order (Plain p) w h n l is of small e =
    let bytes = word_bytes order w in
    let cause = write_cause Assignment (shapes objects) p 4 4 in
    let none = defined_none cause (stored_through objects p bytes) after e in
    let same = defined_same cause (stored_through objects p bytes) after e in
    let r = reached map floor made objects p h 4 4 l.laid is (readable Assignment (shapes objects) p 4 4 none) in
    let alike = word_alike map order w n small of in (
      access_by map floor made objects p h 4 4 r old l (inr (inr refl)),
      λ c. subst (λ (xs : List Object). Lies map floor made xs new) same (stored_lies map floor made objects p h 4 4 r old new bytes (number_bytes order 4 n) l (word_long map order w n alike) alike c),
    )
store_word map floor made objects after old new order (Label f k) w h n l is of small e = absurd (none_some after e)
store_word map floor made objects after old new order (Partly mask bits) w h n l is of small e = absurd (none_some after e)

-- the low bytes of the machine's word are the number's
ones_both : (n bits : ℕ) → bit_and (n % 2 ^ bits) (2 ^ bits - 1) ≡ n % 2 ^ bits
ones_both n bits = and_mask (n % 2 ^ bits) bits ∙ mod-eq_of_lt (mod_below n (2 ^ bits) (pow_pos bits))

low_if : (b : Bool) (m n : ℕ) → (if b then Some m else None) ≡ Some n → (b ≡ true) × (m ≡ n)
low_if true m n e = (refl, some_is m n e)
low_if false m n e = absurd (none_some n e)

pub low_is : (map : Map) (w : Word) (n m bits : ℕ) → IsWord map w n → low_number bits w ≡ Some m → n % 2 ^ bits ≡ m
low_is map (Plain (Number x)) n m bits is e = ap (λ (k : ℕ). k % 2 ^ bits) is ∙ some_is (x % 2 ^ bits) m e
low_is map (Plain (Pointer object offset)) n m bits is e = absurd (none_some m e)
low_is map (Plain (Function f)) n m bits is e = absurd (none_some m e)
low_is map (Label f l) n m bits is e = absurd (none_some m e)
low_is map (Partly mask value) n m bits is e =
    let both = low_if (mask % 2 ^ bits == 2 ^ bits - 1) (value % 2 ^ bits) m e in
    let full : mask % 2 ^ bits ≡ 2 ^ bits - 1 = eqb-true (mask % 2 ^ bits) (2 ^ bits - 1) both.0 in
    sym (ones_both n bits)
    ∙ ap (λ (k : ℕ). bit_and (n % 2 ^ bits) k) (sym full)
    ∙ sym (and_mod n mask bits)
    ∙ ap (λ (k : ℕ). k % 2 ^ bits) is
    ∙ both.1

two_same : (n m : ℕ) → n % 65536 ≡ m → (n % 256 ≡ m % 256) × (n / 256 % 256 ≡ m / 256 % 256)
two_same n m e = (omega (arith, e), omega (arith, e))

four_same : (n m : ℕ) → n % 4294967296 ≡ m → (n % 256 ≡ m % 256) × (n / 256 % 256 ≡ m / 256 % 256) × (n / 256 / 256 % 256 ≡ m / 256 / 256 % 256) × (n / 256 / 256 / 256 % 256 ≡ m / 256 / 256 / 256 % 256)
four_same n m e = (omega (arith, e), omega (arith, e), omega (arith, e), omega (arith, e))

full_byte : (map : Map) (n m : ℕ) → n % 256 ≡ m % 256 → IsByte map (Bits 255 (m % 256)) (n % 256)
full_byte map n m e = (mod_below n 256 (omega arith), omega arith, and_mask (n % 256) 8 ∙ mod-eq_of_lt (mod_below n 256 (omega arith)) ∙ e)

low_alike : (map : Map) (order : Order) (w : Width) (n m : ℕ) → n % 2 ^ bits_in w ≡ m → AllZip (IsByte map) (known_bytes (number_bytes order (bytes_in w) m)) (number_bytes order (bytes_in w) n)
low_alike map Big width.One n m e = (full_byte map n m (omega (arith, e)), tt)
low_alike map Little width.One n m e = (full_byte map n m (omega (arith, e)), tt)
low_alike map Big width.Two n m e = let q = two_same n m e in (full_byte map (n / 256) (m / 256) q.1, (full_byte map n m q.0, tt))
low_alike map Little width.Two n m e = let q = two_same n m e in (full_byte map n m q.0, (full_byte map (n / 256) (m / 256) q.1, tt))
low_alike map Big width.Four n m e =
    let q = four_same n m e in
    (full_byte map (n / 256 / 256 / 256) (m / 256 / 256 / 256) q.3, (full_byte map (n / 256 / 256) (m / 256 / 256) q.2, (full_byte map (n / 256) (m / 256) q.1, (full_byte map n m q.0, tt))))
low_alike map Little width.Four n m e =
    let q = four_same n m e in
    (full_byte map n m q.0, (full_byte map (n / 256) (m / 256) q.1, (full_byte map (n / 256 / 256) (m / 256 / 256) q.2, (full_byte map (n / 256 / 256 / 256) (m / 256 / 256 / 256) q.3, tt))))

low_length : (order : Order) (w : Width) (n : ℕ) → length (known_bytes {V = Word} (number_bytes order (bytes_in w) n)) ≡ bytes_in w
low_length Big width.One n = refl
low_length Little width.One n = refl
low_length Big width.Two n = refl
low_length Little width.Two n = refl
low_length Big width.Four n = refl
low_length Little width.Four n = refl

store_by : (map : Map) (floor made : ℕ) (objects after : List Object) (old new : ℕ → Option ℕ) (order : Order) (w : Width) (p : Value) (v : Word) (h n : ℕ) (m : Option ℕ) → Lies map floor made objects old → IsWord map (Plain p) h → ((k : ℕ) → m ≡ Some k → n % 2 ^ bits_in w ≡ k) → number_written_by m order w objects (Plain p) ≡ Some after → IsAccess floor old h (bytes_in w) (bytes_in w) × (Changed old new h (number_bytes order (bytes_in w) n) → Lies map floor made after new)
store_by map floor made objects after old new order w p v h n None l is low e = absurd (none_some after e)
store_by map floor made objects after old new order w p v h n (Some m) l is low e =
    let size = bytes_in w in
    let bytes = known_bytes {V = Word} (number_bytes order size m) in
    let cause = write_cause Assignment (shapes objects) p size size in
    let none = defined_none cause (stored_through objects p bytes) after e in
    let same = defined_same cause (stored_through objects p bytes) after e in
    let r = reached map floor made objects p h size size l.laid is (readable Assignment (shapes objects) p size size none) in (
      access_by map floor made objects p h size size r old l (width_alignment w),
      λ c. subst (λ (xs : List Object). Lies map floor made xs new) same (stored_lies map floor made objects p h size size r old new bytes (number_bytes order size n) l (low_length order w m) (low_alike map order w n m (low m refl)) c),
    )

no_number : (m : Option ℕ) (order : Order) (w : Width) (objects after : List Object) (p : Word) → ((size : ℕ) (bytes : List (Byte Word)) → bytes_written size bytes objects p ≡ None) → number_written_by m order w objects p ≡ Some after → ⊥
no_number None order w objects after p none e = none_some after e
no_number (Some m) order w objects after p none e = none_some after (sym (none (bytes_in w) (known_bytes (number_bytes order (bytes_in w) m))) ∙ e)

pub store_number : NumbersAreStored
store_number map floor made objects after old new order w (Plain p) v h n l is of e =
    store_by map floor made objects after old new order w p v h n (low_number (bits_in w) v) l is (λ k f. low_is map v n k (bits_in w) of f) e
store_number map floor made objects after old new order w (Label f k) v h n l is of e = absurd (no_number (low_number (bits_in w) v) order w objects after (Label f k) (λ size bytes. refl) e)
store_number map floor made objects after old new order w (Partly mask bits) v h n l is of e = absurd (no_number (low_number (bits_in w) v) order w objects after (Partly mask bits) (λ size bytes. refl) e)

-- ---- blocks

pub copy_block : BlocksAreCopied
copy_block map floor made objects after old new size alignment (Plain from) (Plain to) h t vs l is of ok e =
    let bytes = bytes_through objects from size in
    let source = read_cause (shapes objects) from size alignment in
    let target = write_cause Assignment (shapes objects) to size alignment in
    let overlap = first_cause ((overlaps_in_part size from to, Overlap) ∷ []) in
    let none = defined_none (or_cause source (or_cause target overlap)) (stored_through objects to bytes) after e in
    let same = defined_same (or_cause source (or_cause target overlap)) (stored_through objects to bytes) after e in
    let a = reached map floor made objects from h size alignment l.laid is (or_first source (or_cause target overlap) none) in
    let b = reached map floor made objects to t size alignment l.laid of (readable Assignment (shapes objects) to size alignment (or_first target overlap (or_rest source (or_cause target overlap) none))) in (
      access_by map floor made objects from h size alignment a old l ok,
      access_by map floor made objects to t size alignment b old l ok,
      λ long s c.
          subst (λ (xs : List Object). Lies map floor made xs new) same
          (stored_lies map floor made objects to t size alignment b old new bytes vs l (through_long map floor made objects from h size alignment a) (loaded_alike map floor made objects from h size alignment a old vs l long s) c),
    )
copy_block map floor made objects after old new size alignment from to h t vs l is of ok e = absurd (none_some after e)
