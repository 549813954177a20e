-- The bytes of items are those of the objects that they stand in.
use Rattle.std.specs.Prelude.{◌≡◌, ◌<◌, ℕ, zero, suc, ◌^◌, ℤ, false, List, [], ◌∷◌, ◌++◌, flat_map, replicate, Option, Some, None, slice_get}
use Rattle.std.specs.Int.Bits.{and_zero_r}
use Rattle.std.specs.List.{AllZip}
use Rattle.std.proofs.Common.{refl, sym, ap, subst, ◌∙◌, arith}
use Rattle.std.proofs.Math.Nat.{mod-eq_of_lt}
use Rattle.std.proofs.lemmas.Nat.{and_mask, mod_below}
use Rattle.objects.specs.declared.byte.Byte.{Byte}
use Rattle.objects.specs.declared.byte.Byte.TheVariants.{Bits}
use Rattle.objects.specs.declared.value.Value.{Value}
use Rattle.objects.specs.Bytes.{known_bytes}
use Rattle.objects.specs.Pointers.{moved_if}
use Rattle.op_forest.specs.declared.lowered.Datum.TheVariants as datum
use Rattle.op_forest.specs.declared.lowered.LoweredFunction.{LoweredFunction}
use Rattle.op_forest.specs.declared.lowered.LoweredObject.{LoweredObject}
use Rattle.op_forest.specs.Lowered.{LoweredUnit}
use Rattle.forests.specs.Words.{Word, Plain, Label}
use Rattle.forests.specs.Objects.{Object}
use Rattle.forests.specs.WordBytes.{word_bytes}
use Rattle.forests.specs.Accesses.{defined}
use Rattle.forests.specs.Addresses.{plain}
use Rattle.forests.specs.Units.{value_of, word_or_unknown, moved_or_unknown, label_word, bytes_in, objects_in}
use Rattle.memory_map.specs.Maps.{Map, IsWord, IsByte}
use Rattle.memory_map.proofs.lemmas.Values.{word_alike}
use Rattle.memory_map.proofs.lemmas.Lying.{has_object, zipped}
use Rattle.memory_map.specs.Starts.{unit_objects}
use Rattle.word_rows.specs.Pointers.{moved_number}
use Rattle.word_rows.specs.Data.{AreSmall, ItemsAreBytes, DataAreBytes, UnitsStand}
use Rattle.word_rows.proofs.lemmas.Numbers.{none_some, some_is}
use Rattle.word_rows.proofs.lemmas.Pointers.{moves_if}

known_byte : (map : Map) (n : ℕ) → n < 256 → IsByte map (Bits 255 n) n
known_byte map n l = (l, omega arith, and_mask n 8 ∙ mod-eq_of_lt l)

listed : (map : Map) (bytes : List ℕ) → AreSmall bytes → AllZip (IsByte map) (known_bytes bytes) bytes
listed map [] small = tt
listed map (b ∷ bs) small = (known_byte map b small.0, listed map bs small.1)

zeros : (map : Map) (n : ℕ) → AllZip (IsByte map) (replicate n (Bits 255 0)) (replicate n 0)
zeros map zero = tt
zeros map (suc n) = (known_byte map 0 (omega arith), zeros map n)

-- an address that is moved, or one of which nothing is known
address : (map : Map) (x : Option Value) (n : ℕ) → ((w : Word) → plain x ≡ Some w → IsWord map w n) → IsWord map (word_or_unknown x) n
address map None n h = and_zero_r n
address map (Some v) n h = h (Plain v) refl

moved_small : (h : ℕ) (z : ℤ) → moved_number h z < 2 ^ 32
moved_small h z = mod_below _ (2 ^ 32) (omega arith)

pub item_is : ItemsAreBytes
item_is map u (datum.Bytes bytes) ns is = subst (λ (xs : List ℕ). AllZip (IsByte map) (known_bytes bytes) xs) (sym is.1) (listed map bytes is.0)
item_is map u (datum.Zero n) ns is = subst (λ (xs : List ℕ). AllZip (IsByte map) (replicate n (Bits 255 0)) xs) (sym is) (zeros map n)
item_is map u (datum.Name name offset) ns is =
    let v = is.0 in
    let h = is.1 in
    let word : IsWord map (word_or_unknown (defined (moved_if false v offset))) (moved_number h offset) =
    address map (defined (moved_if false v offset)) (moved_number h offset) (λ w e. moves_if map false v offset w h is.4 is.3 e) in
    let same : moved_or_unknown (value_of u name) offset ≡ word_or_unknown (defined (moved_if false v offset)) = ap (λ (x : Option Value). moved_or_unknown x offset) is.2 in
    subst (λ (xs : List ℕ). AllZip (IsByte map) (word_bytes u.order (moved_or_unknown (value_of u name) offset)) xs) (sym is.5)
    (word_alike map u.order (moved_or_unknown (value_of u name) offset) (moved_number h offset) (moved_small h offset)
    (subst (λ (w : Word). IsWord map w (moved_number h offset)) (sym same) word))
item_is map u (datum.Label function label) ns is =
    let f = is.0 in
    let same : label_word (slice_get u.functions function) label ≡ Label f.name label = ap (λ (x : Option LoweredFunction). label_word x label) is.1 in
    subst (λ (xs : List ℕ). AllZip (IsByte map) (word_bytes u.order (label_word (slice_get u.functions function) label)) xs) (sym is.3)
    (word_alike map u.order (label_word (slice_get u.functions function) label) (map.label f.name label) is.2
    (subst (λ (w : Word). IsWord map w (map.label f.name label)) (sym same) refl))

joined : (map : Map) (bs cs : List (Byte Word)) (ns ms : List ℕ) → AllZip (IsByte map) bs ns → AllZip (IsByte map) cs ms → AllZip (IsByte map) (bs ++ cs) (ns ++ ms)
joined map [] cs [] ms a b = b
joined map [] cs (n ∷ ns) ms a b = absurd a
joined map (x ∷ bs) cs [] ms a b = absurd a
joined map (x ∷ bs) cs (n ∷ ns) ms a b = (a.0, joined map bs cs ns ms a.1 b)

pub data_are : DataAreBytes
data_are map u [] ns is = subst (λ (xs : List ℕ). AllZip (IsByte map) [] xs) (sym is) tt
data_are map u (d ∷ ds) ns is =
    subst (λ (xs : List ℕ). AllZip (IsByte map) (bytes_in u d ++ flat_map (bytes_in u) ds) xs) (sym is.4)
    (joined map (bytes_in u d) (flat_map (bytes_in u) ds) is.0 is.1 (item_is map u d is.0 is.2) (data_are map u ds is.1 is.3))

-- the object of a lowered one
object_is : (u : LoweredUnit) (place : ℕ) (os : List LoweredObject) (k : ℕ) (x : Object) → slice_get (objects_in u place os) k ≡ Some x → (o : LoweredObject) × (slice_get os k ≡ Some o) × (flat_map (bytes_in u) o.items ≡ x.bytes)
object_is u place [] k x e = absurd (none_some x e)
object_is u place (o ∷ os) zero x e = (o, refl, ap (λ (y : Object). y.bytes) (some_is _ x e))
object_is u place (o ∷ os) (suc k) x e = object_is u (suc place) os k x e

pub units_stand : UnitsStand
units_stand map u at memory holds k i a b has e =
    let x = has_object (unit_objects u) k i b has in
    let o = object_is u 0 u.objects k x.0 x.1 in
    let h = holds k a o.0 o.1 e in
    let z = zipped map (flat_map (bytes_in u) o.0.items) h.0 i b (data_are map u o.0.items h.0 h.1) (ap (λ (bs : List (Byte Word)). slice_get bs i) o.2 ∙ x.2) in
    (z.0, h.2 i z.0 z.1, z.2)
