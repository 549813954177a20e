-- Initial data stands in each lowered unit that begins with it.
use Rattle.std.specs.Prelude.{◌≡◌, ◌≤◌, ◌<◌, ℕ, zero, suc, ◌+◌, ℤ, pos, ◌==◌, ◌&&◌, not, int_le, Bool, true, false, is_none, Option, Some, List, [], ◌∷◌, ◌++◌, length, flat_map, replicate, slice_get}
use Rattle.std.proofs.Common.{refl, ap, sym, subst, ◌∙◌, arith}
use Rattle.std.proofs.lemmas.Bool.{eqb-true}
use Rattle.std.proofs.lemmas.Int.{ints}
use Rattle.std.proofs.lemmas.Option.{slice_get_within}
use Rattle.lcc_base.specs.declared.cause.Cause.TheVariants.{Dead, PointerRange}
use Rattle.lcc_base.specs.declared.order.Order.{Order}
use Rattle.lcc_base.specs.declared.order.Order.TheVariants.{Big, Little}
use Rattle.objects.specs.declared.byte.Byte.{Byte}
use Rattle.objects.specs.declared.byte.Byte.TheVariants.{Bits}
use Rattle.objects.specs.declared.value.ObjectName.{ObjectName}
use Rattle.objects.specs.declared.value.Value.{Value}
use Rattle.objects.specs.declared.value.Value.TheVariants.{Number, Pointer, Function}
use Rattle.objects.proofs.lemmas.AccessLaws.{size_of}
use Rattle.objects.specs.Bytes.{known_bytes, part_bytes}
use Rattle.objects.specs.Causes.{leaves_object}
use Rattle.objects.specs.Objects.{Object, object_of}
use Rattle.objects.specs.Pointers.{place_after}
use Rattle.op_forest.specs.declared.lowered.Datum.{Datum}
use Rattle.op_forest.specs.declared.lowered.Datum.TheVariants as datum
use Rattle.op_forest.specs.declared.lowered.LoweredObject.{LoweredObject}
use Rattle.op_forest.specs.Lowered.{LoweredUnit}
use Rattle.forests.specs.Accesses.{defined}
use Rattle.forests.specs.Units.{bytes_in, moved_or_unknown, size_by, value_of, word_or_unknown}
use Rattle.forests.specs.WordBytes.{word_bytes}
use Rattle.forests.specs.Words.{Word, Plain}
use Rattle.c_meaning.specs.Each.{EachIs}
use Rattle.c_meaning.specs.Units.{UnitTree}
use Rattle.c_runs.specs.Soundness.{IsSoundByte, IsSoundObject}
use Rattle.c_runs.specs.Worlds.{objects}
use Rattle.c_match.specs.Bytes.{AreBytesOf}
use Rattle.c_match.specs.Ranges.{Map}
use Rattle.c_match.specs.Values.{IsValue}
use Rattle.c_match.proofs.lemmas.Scalars.{AreSmall}
use Rattle.c_match.proofs.lemmas.Words.{same_known, word_has_bytes}
use Rattle.c_match_objects.proofs.lemmas.Pointers.{given}
use Rattle.c_match_worlds.specs.Matches.{name_in}
use Rattle.c_match_worlds.specs.Starts.{own_map, own_range, StandsAt}
use Rattle.c_match_worlds.proofs.lemmas.Starting.{own_is}
use Rattle.lowered_data.specs.Data.{Image, image, IsAddress, IsDatumOf, AreDataOf, HasHome, HaveHomes}
use Rattle.lowered_data.specs.Initial.{IsInitialData}
use Rattle.lowered_data.specs.Laws.{NamesStand}
use Rattle.lowered_data.proofs.lemmas.Readings.{lives}

-- ---- lists

pub front_there : {A : Type 0} (xs ys : List A) (n : ℕ) (x : A) → slice_get xs n ≡ Some x → slice_get (xs ++ ys) n ≡ Some x
front_there [] ys n x e = absurd (let never : ⊥ = cc in never)
front_there (z ∷ zs) ys zero x e = e
front_there (z ∷ zs) ys (suc n) x e = front_there zs ys n x e

pub one_there : {A : Type 0} (xs : List A) (n : ℕ) → n < length xs → (x : A) × (slice_get xs n ≡ Some x)
one_there [] n h = absurd (let never : ⊥ = omega arith in never)
one_there (x ∷ xs) zero h = (x, refl)
one_there (x ∷ xs) (suc n) h = one_there xs n (omega (arith, h))

pub home_at : (m : Image) (from place n : ℕ) (os : List LoweredObject) (o : LoweredObject) → HaveHomes m from os → slice_get os n ≡ Some o → place ≡ from + n → HasHome m place o
home_at m from place n [] o h e p = absurd (let never : ⊥ = cc in never)
home_at m from place zero (x ∷ xs) o h e p =
    let same : x ≡ o = cc in
    let here : from ≡ place = omega (arith, p) in
    subst (λ (y : LoweredObject). HasHome m place y) same (subst (λ (k : ℕ). HasHome m k x) here h.0)
home_at m from place (suc n) (x ∷ xs) o h e p = home_at m (from + 1) place n xs o h.1 e (omega (arith, p))

pub some_is : {A : Type 0} (x y : A) → ◌≡◌ {A = Option A} (Some x) (Some y) → x ≡ y
some_is x y e = cc

-- ---- a lowered unit that begins so

record Begins (u : UnitTree) (order : Order) (data_of : List LoweredObject) (d : IsInitialData u order data_of) (l : LoweredUnit) : Type 0 where
  behind : List LoweredObject
  begins : l.objects ≡ data_of ++ behind
  ordered : l.order ≡ order
  names : NamesStand u (length (objects d.world)) l

-- the home of an object that lives at the start
record Home (m : Image) (l : LoweredUnit) (place : ℕ) (x : Object) : Type 0 where
  it : LoweredObject
  there : slice_get l.objects place ≡ Some it
  has : HasHome m place it
  same : has.object ≡ x

home_of : (u : UnitTree) (order : Order) (data_of : List LoweredObject) (d : IsInitialData u order data_of) (l : LoweredUnit) → Begins u order data_of d l → (place : ℕ) (x : Object) → slice_get (objects d.world) place ≡ Some x → Home (image u order (objects d.world)) l place x
home_of u order data_of d l b place x e =
    let many = d.many in
    let o = one_there data_of place (omega (arith, slice_get_within (objects d.world) place x e, many)) in
    let h = home_at (image u order (objects d.world)) 0 place place data_of o.0 d.homes o.1 (omega arith) in
    record {
      it = o.0;
      there = ap (λ os. slice_get os place) b.begins ∙ front_there data_of b.behind place o.0 o.1;
      has = h;
      same = some_is h.object x (sym h.there ∙ e);
    }

-- ---- addresses

record Word_of (map : Map) (l : LoweredUnit) (name : ℕ) (offset : ℤ) (v : Value) : Type 0 where
  word : Word
  is : moved_or_unknown (value_of l name) offset ≡ word
  value : IsValue map v word

within_size : (offset size : ℕ) → offset ≤ size → (int_le (pos 0) (pos offset) && int_le (pos offset) (pos size)) ≡ true
within_size offset size h = grind (arith, ints, h)

moved_there : (name : ObjectName) (x : ℕ) → x ≤ name.size → moved_or_unknown (Some (Pointer name 0)) (pos x) ≡ Plain (Pointer name (0 + x))
moved_there name x h =
    let stays : leaves_object (Pointer name 0) (pos x) ≡ false = ap (λ (b : Bool). not b) (within_size (0 + x) name.size (omega (arith, h))) in
    ap (λ r. word_or_unknown (defined r)) (given false (leaves_object (Pointer name 0) (pos x)) Dead PointerRange (place_after (Pointer name 0) (pos x)) refl stays)

object_word : (u : UnitTree) (order : Order) (data_of : List LoweredObject) (d : IsInitialData u order data_of) (l : LoweredUnit) → Begins u order data_of d l → (object : ObjectName) (x : ℕ) → is_none (object_of (objects d.world) object) ≡ false → x ≤ object.size → Word_of (own_map l (length (objects d.world))) l (length u.functions + object.place) (pos x) (Pointer object x)
object_word u order data_of d l b object x alive inside =
    let own : ℕ = length (objects d.world) in
    let live = lives (objects d.world) object alive in
    let below : object.place < own = slice_get_within (objects d.world) object.place live.it live.there in
    let home = home_of u order data_of d l b object.place live.it live.there in
    let size : size_by (slice_get l.objects object.place) ≡ object.size = ap size_by home.there ∙ home.has.is.size ∙ ap (λ (y : Object). length y.bytes) home.same ∙ size_of object live.it live.named in
    let made : object.made ≡ object.place = sym (eqb-true live.it.made object.made (both live.it.made object.made (length live.it.bytes) object.size live.named)) ∙ ap (λ (y : Object). y.made) (sym home.same) ∙ home.has.made in
    record {
      word = Plain (Pointer (name_in l object.place) (0 + x));
      is = ap (λ v. moved_or_unknown v (pos x)) (b.names.objects object.place below) ∙ moved_there (name_in l object.place) x (omega (arith, inside, size));
      value = (own_range l object.place, ap (own_map l own) made ∙ own_is l own object.place below, refl);
    }
  where
    first : (p q : Bool) → (p && q) ≡ true → p ≡ true
    first true q e = refl
    first false q e = absurd (let never : ⊥ = cc in never)

    both : (p q r s : ℕ) → ((p == q) && (r == s)) ≡ true → (p == q) ≡ true
    both p q r s e = first (p == q) (r == s) e

address_word : (u : UnitTree) (order : Order) (data_of : List LoweredObject) (d : IsInitialData u order data_of) (l : LoweredUnit) → Begins u order data_of d l → (name : ℕ) (offset : ℤ) (v : Value) → IsAddress (image u order (objects d.world)) name offset v → Word_of (own_map l (length (objects d.world))) l name offset v
address_word u order data_of d l b name offset (Number n) h = absurd h
address_word u order data_of d l b name offset (Function f) h = record {
  word = Plain (Function f);
  is = ap (λ n. moved_or_unknown (value_of l n) offset) h.1.0 ∙ ap (λ z. moved_or_unknown (value_of l f) z) h.1.1 ∙ ap (λ v. moved_or_unknown v (pos 0)) (b.names.functions f h.0);
  value = refl;
}
address_word u order data_of d l b name offset (Pointer object x) h =
    let w = object_word u order data_of d l b object x h.0 h.1.1.1 in
    record {
      word = w.word;
      is = ap (λ n. moved_or_unknown (value_of l n) offset) h.1.0 ∙ ap (λ z. moved_or_unknown (value_of l (length u.functions + object.place)) z) h.1.1.0 ∙ w.is;
      value = w.value;
    }

-- ---- items

-- the bytes of forests stand for those of C, and are as many
record Stands (map : Map) (bs : List (Byte Value)) (cs : List (Byte Word)) : Type 0 where
  bytes : AreBytesOf map bs cs
  count : length cs ≡ length bs

known_small : (made : ℕ) (ns : List ℕ) → EachIs (IsSoundByte made) (known_bytes ns) → AreSmall ns
known_small made [] h = tt
known_small made (n ∷ ns) h = (h.0.1, known_small made ns h.1)

known_count : (ns : List ℕ) → length (known_bytes {V = Word} ns) ≡ length (known_bytes {V = Value} ns)
known_count [] = refl
known_count (n ∷ ns) = ap suc (known_count ns)

zeros_stand : (map : Map) (n : ℕ) → Stands map (replicate n (Bits 255 0)) (replicate n (Bits 255 0))
zeros_stand map zero = record { bytes = tt; count = refl }
zeros_stand map (suc n) = let h = zeros_stand map n in record { bytes = ((refl, refl), h.bytes); count = ap suc h.count }

parts_count : {V : Type 0} (order : Order) (v : V) → length (part_bytes order v) ≡ 4
parts_count Big v = refl
parts_count Little v = refl

word_stands : (map : Map) (order : Order) (v : Value) (w : Word) → ((n : ℕ) → v ≡ Number n → ⊥) → IsValue map v w → Stands map (part_bytes order v) (word_bytes order w)
word_stands map order (Number n) w h i = absurd (h n refl)
word_stands map order (Pointer object x) w h i = record {
  bytes = word_has_bytes map order (Pointer object x) w i;
  count = ap (λ (z : Word). length (word_bytes order z)) i.2 ∙ parts_count order (Plain (Pointer i.0.object (i.0.start + x))) ∙ sym (parts_count order (Pointer object x));
}
word_stands map order (Function f) w h i = record {
  bytes = word_has_bytes map order (Function f) w i;
  count = ap (λ (z : Word). length (word_bytes order z)) i ∙ parts_count order (Plain (Function f)) ∙ sym (parts_count order (Function f));
}

no_number : (m : Image) (name : ℕ) (offset : ℤ) (v : Value) → IsAddress m name offset v → (n : ℕ) → v ≡ Number n → ⊥
no_number m name offset (Number k) h n e = h
no_number m name offset (Pointer object x) h n e = cc
no_number m name offset (Function f) h n e = cc

datum_stands : (u : UnitTree) (order : Order) (data_of : List LoweredObject) (d : IsInitialData u order data_of) (l : LoweredUnit) → Begins u order data_of d l → (made : ℕ) (i : Datum) (cs : List (Byte Value)) → EachIs (IsSoundByte made) cs → IsDatumOf (image u order (objects d.world)) i cs → Stands (own_map l (length (objects d.world))) cs (bytes_in l i)
datum_stands u order data_of d l b made (datum.Bytes ns) cs s h =
    let map : Map = own_map l (length (objects d.world)) in
    let small = known_small made ns (subst (λ bs. EachIs (IsSoundByte made) bs) h s) in
    subst (λ bs. Stands map bs (known_bytes ns)) (sym h) (record { bytes = same_known map ns small; count = known_count ns })
datum_stands u order data_of d l b made (datum.Name name offset) cs s h =
    let map : Map = own_map l (length (objects d.world)) in
    let w = address_word u order data_of d l b name offset h.0 h.1 in
    subst (λ bs. Stands map bs (word_bytes l.order (moved_or_unknown (value_of l name) offset))) (sym h.2)
    (subst (λ (z : Word). Stands map (part_bytes order h.0) (word_bytes l.order z)) (sym w.is)
    (subst (λ (o : Order). Stands map (part_bytes order h.0) (word_bytes o w.word)) (sym b.ordered)
    (word_stands map order h.0 w.word (no_number (image u order (objects d.world)) name offset h.0 h.1) w.value)))
datum_stands u order data_of d l b made (datum.Label function label) cs s h = absurd h
datum_stands u order data_of d l b made (datum.Zero n) cs s h = subst (λ bs. Stands (own_map l (length (objects d.world))) bs (replicate n (Bits 255 0))) (sym h) (zeros_stand (own_map l (length (objects d.world))) n)

append_stands : (map : Map) (as' bs : List (Byte Value)) (cs ds : List (Byte Word)) → Stands map as' cs → Stands map bs ds → Stands map (as' ++ bs) (cs ++ ds)
append_stands map [] bs [] ds h g = g
append_stands map [] bs (c ∷ cs) ds h g = absurd (let n = h.count in let never : ⊥ = omega (arith, n) in never)
append_stands map (a ∷ as') bs [] ds h g = absurd h.bytes
append_stands map (a ∷ as') bs (c ∷ cs) ds h g =
    let n = h.count in
    let r = append_stands map as' bs cs ds (record { bytes = h.bytes.1; count = omega (arith, n) }) g in
    record { bytes = (h.bytes.0, r.bytes); count = ap suc r.count }

each_front : (made : ℕ) (bs cs : List (Byte Value)) → EachIs (IsSoundByte made) (bs ++ cs) → EachIs (IsSoundByte made) bs × EachIs (IsSoundByte made) cs
each_front made [] cs h = (tt, h)
each_front made (b ∷ bs) cs h = let r = each_front made bs cs h.1 in ((h.0, r.0), r.1)

items_stand : (u : UnitTree) (order : Order) (data_of : List LoweredObject) (d : IsInitialData u order data_of) (l : LoweredUnit) → Begins u order data_of d l → (made : ℕ) (is : List Datum) (cs : List (Byte Value)) → EachIs (IsSoundByte made) cs → AreDataOf (image u order (objects d.world)) is cs → Stands (own_map l (length (objects d.world))) cs (flat_map (bytes_in l) is)
items_stand u order data_of d l b made [] cs s h = subst (λ bs. Stands (own_map l (length (objects d.world))) bs []) (sym h) (record { bytes = tt; count = refl })
items_stand u order data_of d l b made (i ∷ is) cs s h =
    let map : Map = own_map l (length (objects d.world)) in
    let e = each_front made h.0 h.1 (subst (λ bs. EachIs (IsSoundByte made) bs) h.2 s) in
    subst (λ bs. Stands map bs (bytes_in l i ++ flat_map (bytes_in l) is)) (sym h.2)
    (append_stands map h.0 h.1 (bytes_in l i) (flat_map (bytes_in l) is) (datum_stands u order data_of d l b made i h.0 e.0 h.3) (items_stand u order data_of d l b made is h.1 e.1 h.4))

-- ---- objects

sound_at : (made : ℕ) (os : List Object) (place : ℕ) (x : Object) → EachIs (IsSoundObject made) os → slice_get os place ≡ Some x → EachIs (IsSoundByte made) x.bytes
sound_at made [] place x h e = absurd (let never : ⊥ = cc in never)
sound_at made (y ∷ ys) zero x h e = let same : y ≡ x = cc in subst (λ (z : Object). EachIs (IsSoundByte made) z.bytes) same h.0.1
sound_at made (y ∷ ys) (suc place) x h e = sound_at made ys place x h.1 e

pub data_stand : (u : UnitTree) (order : Order) (data_of behind : List LoweredObject) (d : IsInitialData u order data_of) (l : LoweredUnit)
    → l.objects ≡ data_of ++ behind → l.order ≡ order → NamesStand u (length (objects d.world)) l → (place : ℕ) (x : Object)
    → slice_get (objects d.world) place ≡ Some x → StandsAt l (own_map l (length (objects d.world))) place x
data_stand u order data_of behind d l e o names place x at =
    let b : Begins u order data_of d l = record { behind = behind; begins = e; ordered = o; names = names } in
    let h = home_of u order data_of d l b place x at in
    let holds : AreDataOf (image u order (objects d.world)) h.it.items x.bytes = subst (λ (y : Object). AreDataOf (image u order (objects d.world)) h.it.items y.bytes) h.same h.has.is.items in
    let size : h.it.size ≡ length x.bytes = h.has.is.size ∙ ap (λ (y : Object). length y.bytes) h.same in
    let s = items_stand u order data_of d l b d.world.storage.made h.it.items x.bytes (sound_at d.world.storage.made (objects d.world) place x d.sound.objects at) holds in
    record {
      home = h.it;
      there = h.there;
      made = ap (λ (y : Object). y.made) (sym h.same) ∙ h.has.made;
      whole = s.count ∙ sym size;
      size = sym size;
      bytes = s.bytes;
      writable = λ f. h.has.is.constant ∙ ap (λ (y : Object). y.constant) h.same ∙ f;
    }
