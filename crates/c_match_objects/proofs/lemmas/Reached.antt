-- Where an access of C goes, and where the access of forests goes that stands for it.
use Rattle.std.specs.Prelude.{◌≡◌, ◌≤◌, ℕ, zero, suc, ◌+◌, ◌*◌, ◌%◌, ◌==◌, ◌&&◌, not, nat_lt, Bool, true, false, Some, None, is_none, List, [], ◌∷◌, length, take, drop, slice_get, if◌then◌else◌}
use Rattle.std.proofs.Common.{refl, ap, sym, subst, inl, inr, ◌∙◌, arith}
use Rattle.std.proofs.lemmas.Bool.{eqb-true, eq-eqb, true≢false}
use Rattle.std.proofs.lemmas.List.{length-map, length-take-le, length-drop}
use Rattle.lcc_base.specs.declared.cause.Cause.{Cause}
use Rattle.lcc_base.specs.declared.cause.Cause.TheVariants.{Outside, Misaligned, Dead}
use Rattle.objects.specs.declared.byte.Byte.{Byte}
use Rattle.objects.specs.declared.value.ObjectName.{ObjectName}
use Rattle.objects.specs.declared.value.Value.{Value}
use Rattle.objects.specs.declared.value.Value.TheVariants.{Number, Pointer, Function}
use Rattle.objects.proofs.lemmas.AccessLaws.{first_not, first_rest, not_less, size_of, its_object}
use Rattle.objects.specs.Accesses.{read_cause}
use Rattle.objects.specs.Accesses as c
use Rattle.objects.specs.Bytes.{unknown_byte}
use Rattle.objects.specs.Causes.{first_cause, is_outside, is_misaligned, is_dead}
use Rattle.objects.specs.Objects.{is_named, if_named, object_of}
use Rattle.objects.specs.Objects.{contents as held_bytes}
use Rattle.objects.specs.Objects.{Object as Shape}
use Rattle.forests.specs.Objects.{Object, shape_of, shapes, contents, bytes_through}
use Rattle.forests.specs.Words.{Word, Plain}
use Rattle.c_match.specs.Ranges.{Range, Map}
use Rattle.c_match.specs.Values.{IsValue}
use Rattle.c_match.specs.Bytes.{AreBytesOf}
use Rattle.c_match.specs.Held.{IsHeldIn, AreHeld, IsAlignment}
use Rattle.c_match.proofs.lemmas.Lists.{bytes_from}

and_first : (a b : Bool) → (a && b) ≡ true → a ≡ true
and_first true b e = refl
and_first false b e = absurd (let never : ⊥ = cc in never)

both_true : (a b : Bool) → a ≡ true → b ≡ true → (a && b) ≡ true
both_true a b p q = cc

pub made_of : (name : ObjectName) (x : Shape) → is_named name x ≡ true → x.made ≡ name.made
made_of name x e = eqb-true x.made name.made (and_first (x.made == name.made) (length x.bytes == name.size) e)

pub not_before : (a b : ℕ) → b ≤ a → nat_lt a b ≡ false
not_before a b h = grind (arith, h)

pub shape_at : (objects : List Object) (o : ℕ) (x : Object) → slice_get objects o ≡ Some x → slice_get (shapes objects) o ≡ Some (shape_of x)
shape_at [] o x e = absurd (let never : ⊥ = cc in never)
shape_at (y ∷ ys) zero x e = let same : y ≡ x = cc in ap (λ (z : Object). Some (shape_of z)) same
shape_at (y ∷ ys) (suc o) x e = shape_at ys o x e

-- A pointer into a living object of C, and the word that stands for it: where they point.
pub record IsReached (map : Map) (old : List Shape) (objects : List Object) (p : Value) (w : Word) : Type 0 where
  pub name : ObjectName
  pub offset : ℕ
  pub it : Shape
  pub range : Range
  pub points : p ≡ Pointer name offset
  pub lives : slice_get old name.place ≡ Some it
  pub named : is_named name it ≡ true
  pub is : map it.made ≡ Some range
  pub held : IsHeldIn map it objects range
  pub word : w ≡ Plain (Pointer range.object (range.start + offset))

-- the pointer of forests
abbrev pub there : {map : Map} {old : List Shape} {objects : List Object} {p : Value} {w : Word} → IsReached map old objects p w → Value
there r = Pointer r.range.object (r.range.start + r.offset)

same_range : (r s : Range) (map : Map) (m n : ℕ) → m ≡ n → map m ≡ Some r → map n ≡ Some s → s ≡ r
same_range r s map m n e f g = let h : map m ≡ map n = ap map e in cc

-- a live pointer
pub lives_reached : (map : Map) (old : List Shape) (objects : List Object) (name : ObjectName) (offset : ℕ) (w : Word) → AreHeld map old objects → IsValue map (Pointer name offset) w → is_dead old (Pointer name offset) ≡ false → IsReached map old objects (Pointer name offset) w
lives_reached map old objects name offset w h v e =
    let x = its_object name (slice_get old name.place) e in
    let held = h.held name.place x.0 x.1 in
    let same : v.0 ≡ held.range = same_range held.range v.0 map x.0.made name.made (made_of name x.0 x.2) held.is v.1 in
    record {
      name = name;
      offset = offset;
      it = x.0;
      range = held.range;
      points = refl;
      lives = x.1;
      named = x.2;
      is = held.is;
      held = held.held;
      word = v.2 ∙ ap (λ (r : Range). Plain (Pointer r.object (r.start + offset))) same;
    }

-- the object of forests lives
pub home_lives : (map : Map) (x : Shape) (objects : List Object) (range : Range) → (h : IsHeldIn map x objects range) → object_of (shapes objects) range.object ≡ Some (shape_of h.home)
home_lives map x objects range h =
    let long : length (shape_of h.home).bytes ≡ range.object.size = length-map h.home.bytes (λ b. unknown_byte {V = Value}) ∙ h.size in
    ap (λ o. if_named range.object o) (shape_at objects range.object.place h.home h.there)
    ∙ ap (λ (b : Bool). if b then Some (shape_of h.home) else None) (both_true (h.home.made == range.object.made) (length (shape_of h.home).bytes == range.object.size) (eq-eqb h.home.made range.object.made h.made) (eq-eqb (length (shape_of h.home).bytes) range.object.size long))

pub not_dead : (map : Map) (x : Shape) (objects : List Object) (range : Range) (offset : ℕ) → IsHeldIn map x objects range → is_dead (shapes objects) (Pointer range.object offset) ≡ false
not_dead map x objects range offset h = ap (λ o. is_none o) (home_lives map x objects range h)

-- so many bytes are in the range
pub room_for : (name : ObjectName) (x : Shape) (start offset size whole : ℕ) → is_named name x ≡ true → offset + size ≤ name.size → start + length x.bytes ≤ whole → start + offset + size ≤ whole
room_for name x start offset size whole named inside fits = let all = size_of name x named in omega (arith, all, inside, fits)

-- ---- alignment: a range begins at a multiple of 4

aligned_so : (alignment k start offset : ℕ) → IsAlignment alignment → start ≡ 4 * k → offset % alignment ≡ 0 → (start + offset) % alignment ≡ 0
aligned_so alignment k start offset (inl one) e h = subst (λ (n : ℕ). (start + offset) % n ≡ 0) (sym one) (omega arith)
aligned_so alignment k start offset (inr (inl two)) e h =
    let o : offset % 2 ≡ 0 = subst (λ (n : ℕ). offset % n ≡ 0) two h in
    subst (λ (n : ℕ). (start + offset) % n ≡ 0) (sym two) (omega (arith, o, e))
aligned_so alignment k start offset (inr (inr four)) e h =
    let o : offset % 4 ≡ 0 = subst (λ (n : ℕ). offset % n ≡ 0) four h in
    subst (λ (n : ℕ). (start + offset) % n ≡ 0) (sym four) (omega (arith, o, e))

not_false : (b : Bool) → not b ≡ false → b ≡ true
not_false true e = refl
not_false false e = absurd (let never : ⊥ = cc in never)

pub stays_aligned : (alignment k start offset : ℕ) → IsAlignment alignment → start ≡ 4 * k → not (offset % alignment == 0) ≡ false → not ((start + offset) % alignment == 0) ≡ false
stays_aligned alignment k start offset a e h =
    ap (λ (b : Bool). not b) (eq-eqb ((start + offset) % alignment) 0 (aligned_so alignment k start offset a e (eqb-true (offset % alignment) 0 (not_false (offset % alignment == 0) h))))

-- ---- accesses

pub three_false : (a b c : Bool) (x y z : Cause) → a ≡ false → b ≡ false → c ≡ false → first_cause ((a, x) ∷ (b, y) ∷ (c, z) ∷ []) ≡ None
three_false true b c x y z p q r = absurd (let never : ⊥ = cc in never)
three_false false true c x y z p q r = absurd (let never : ⊥ = cc in never)
three_false false false true x y z p q r = absurd (let never : ⊥ = cc in never)
three_false false false false x y z p q r = refl

-- An access of C that nothing forbids: it goes to a living object, within its size, and it is aligned.
pub record IsAccess (map : Map) (old : List Shape) (objects : List Object) (p : Value) (w : Word) (size alignment : ℕ) : Type 0 where
  pub reached : IsReached map old objects p w
  pub inside : reached.offset + size ≤ reached.name.size
  pub aligned : not (reached.offset % alignment == 0) ≡ false

pub access : (map : Map) (old : List Shape) (objects : List Object) (p : Value) (w : Word) (size alignment : ℕ) → AreHeld map old objects → IsValue map p w → read_cause old p size alignment ≡ None → IsAccess map old objects p w size alignment
unfolding lives_reached
access map old objects (Number n) w size alignment h v e = absurd (let never : true ≡ false = first_not true Outside ((false, Misaligned) ∷ (false, Dead) ∷ []) e in true≢false never)
access map old objects (Function f) w size alignment h v e = absurd (let never : true ≡ false = first_not true Outside ((false, Misaligned) ∷ (false, Dead) ∷ []) e in true≢false never)
access map old objects (Pointer name offset) w size alignment h v e =
    let p = Pointer name offset in
    let last = (is_dead old p, Dead) ∷ [] in
    let second = (is_misaligned alignment p, Misaligned) ∷ last in
    let outside = first_not (is_outside size p) Outside second e in
    let none = first_rest (is_outside size p) Outside second e in
    let misaligned = first_not (is_misaligned alignment p) Misaligned last none in
    let dead = first_not (is_dead old p) Dead [] (first_rest (is_misaligned alignment p) Misaligned last none) in
    record {
      reached = lives_reached map old objects name offset w h v dead;
      inside = not_less name.size (offset + size) outside;
      aligned = misaligned;
    }

-- the access of forests isn't forbidden
pub goes_there : (map : Map) (old : List Shape) (objects : List Object) (p : Value) (w : Word) (size alignment : ℕ) → IsAlignment alignment → (a : IsAccess map old objects p w size alignment) → read_cause (shapes objects) (there a.reached) size alignment ≡ None
goes_there map old objects p w size alignment ok a =
    let r = a.reached in
    let h = r.held in
    let fits = room_for r.name r.it r.range.start r.offset size r.range.object.size r.named a.inside h.inside in
    three_false (is_outside size (there r)) (is_misaligned alignment (there r)) (is_dead (shapes objects) (there r)) Outside Misaligned Dead
    (not_before r.range.object.size (r.range.start + r.offset + size) fits)
    (stays_aligned alignment h.words r.range.start r.offset ok h.start a.aligned)
    (not_dead map r.it objects r.range (r.range.start + r.offset) h)

found : (name : ObjectName) (old : List Shape) (x : Shape) → slice_get old name.place ≡ Some x → is_named name x ≡ true → object_of old name ≡ Some x
found name old x e n = ap (λ o. if_named name o) e ∙ ap (λ (b : Bool). if b then Some x else None) n

-- the bytes there
pub bytes_reached : (map : Map) (old : List Shape) (objects : List Object) (p : Value) (w : Word) (size : ℕ) → (r : IsReached map old objects p w) → AreBytesOf map (c.bytes_through old p size) (bytes_through objects (there r) size)
bytes_reached map old objects p w size r =
    let h = r.held in
    let first : c.bytes_through old p size ≡ take size (drop r.offset r.it.bytes) = ap (λ q. c.bytes_through old q size) r.points ∙ ap (λ o. take size (drop r.offset (held_bytes o))) (found r.name old r.it r.lives r.named) in
    let second : bytes_through objects (there r) size ≡ take size (drop (r.range.start + r.offset) h.home.bytes) = ap (λ o. take size (drop (r.range.start + r.offset) (contents o))) h.there in
    subst (λ (bs : List (Byte Value)). AreBytesOf map bs (bytes_through objects (there r) size)) (sym first)
    (subst (λ (cs : List (Byte Word)). AreBytesOf map (take size (drop r.offset r.it.bytes)) cs) (sym second) (bytes_from map r.range.start r.offset size r.it.bytes h.home.bytes h.bytes))

-- as many as were asked for
long_enough : {A : Type 0} (size place : ℕ) (xs : List A) → place + size ≤ length xs → length (take size (drop place xs)) ≡ size
long_enough size place xs h = let l = length-drop place xs in length-take-le size (drop place xs) (omega (arith, l, h))

pub length_reached : (map : Map) (old : List Shape) (objects : List Object) (p : Value) (w : Word) (size alignment : ℕ) → (a : IsAccess map old objects p w size alignment) → (length (c.bytes_through old p size) ≡ size) × (length (bytes_through objects (there a.reached) size) ≡ size)
length_reached map old objects p w size alignment a =
    let r = a.reached in
    let h = r.held in
    let fits = room_for r.name r.it r.range.start r.offset size r.range.object.size r.named a.inside h.inside in
    let all = size_of r.name r.it r.named in
    let inside = a.inside in
    let whole = h.size in (
      ap (λ q. length (c.bytes_through old q size)) r.points
          ∙ ap (λ o. length (take size (drop r.offset (held_bytes o)))) (found r.name old r.it r.lives r.named)
          ∙ long_enough size r.offset r.it.bytes (omega (arith, all, inside)),
      ap (λ o. length (take size (drop (r.range.start + r.offset) (contents o)))) h.there ∙ long_enough size (r.range.start + r.offset) h.home.bytes (omega (arith, whole, fits)),
    )
