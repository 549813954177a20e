-- What a call of forests makes when it is opened.
use Rattle.std.specs.Prelude.{◌≡◌, ◌≤◌, ◌<◌, ◌^◌, ℕ, zero, suc, ◌+◌, ◌*◌, ◌==◌, ◌&&◌, is_none, Bool, true, false, Option, Some, None, List, [], ◌∷◌, ◌++◌, length, map as mapped, take, drop, option_map, slice_get, if◌then◌else◌}
use Rattle.std.proofs.Common.{refl, sym, ap, subst, ◌∙◌, arith, length-append}
use Rattle.std.proofs.lemmas.List.{length-map, length-replicate}
use Rattle.std.proofs.lemmas.Bool.{eq-eqb}
use Rattle.std.proofs.lemmas.Option.{slice_get-map, same_Some}
use Rattle.lcc_base.specs.declared.cause.Cause.{Cause}
use Rattle.lcc_base.specs.declared.cause.Cause.TheVariants.{Outside, Misaligned, Dead, ReadOnly}
use Rattle.lcc_base.specs.declared.order.Order.{Order}
use Rattle.lcc_base.specs.declared.order.Order.TheVariants.{Little, Big}
use Rattle.objects.specs.declared.byte.Byte.{Byte}
use Rattle.objects.specs.declared.purpose.Purpose.TheVariants.{Assignment, Initialisation}
use Rattle.objects.specs.declared.value.ObjectName.{ObjectName}
use Rattle.objects.specs.declared.value.Value.TheVariants.{Number, Pointer, Function}
use Rattle.objects.specs.Accesses.{read_cause, write_cause}
use Rattle.objects.specs.Bytes.{unknown_byte}
use Rattle.objects.specs.Causes.{first_cause, unless}
use Rattle.objects.specs.Objects.{Object as Shape, object_of, if_named, is_named, is_constant}
use Rattle.op_forest.specs.declared.frame.Slot.{Slot}
use Rattle.op_forest.specs.Callees.{Body}
use Rattle.op_forest.specs.Lowered.{LoweredUnit}
use Rattle.forests.specs.Accesses.{word_read, defined}
use Rattle.forests.specs.Addresses.{Home}
use Rattle.forests.specs.Functions.{slot_bytes, own_bytes, entered, home_in}
use Rattle.forests.specs.Objects.{Object, objects_from, shape_of, shapes, contents, bytes_through}
use Rattle.c_match_objects.proofs.lemmas.StoredScalars.{word_count}
use Rattle.forests.specs.Sound.{AreWords}
use Rattle.forests.specs.WordBytes.{word_bytes, word_in}
use Rattle.forests.proofs.lemmas.WordLaws.{word_back}
use Rattle.forests.specs.Words.{Word, Plain, Label, Partly, IsWord}
use Rattle.forests.specs.Worlds.{World}
use Rattle.dag_forest.specs.Split.{slot_name}
use Rattle.c_pointers_agree.specs.Pointers.{argument_name}
use Rattle.c_entries_agree.proofs.lemmas.Homes.{home, opened, slot_made, word_made}

-- ---- accesses of whole objects of four bytes

shape_there : (os : List Object) (n : ℕ) (y : Object) → slice_get os n ≡ Some y → slice_get (shapes os) n ≡ Some (shape_of y)
shape_there os n y e = slice_get-map shape_of os n ∙ ap (option_map shape_of) e

named_so : (name : ObjectName) (y : Object) → y.made ≡ name.made → length y.bytes ≡ name.size → is_named name (shape_of y) ≡ true
named_so name y made size =
    ap (λ (b : Bool). b && (length (shape_of y).bytes == name.size)) (eq-eqb y.made name.made made)
    ∙ eq-eqb (length (shape_of y).bytes) name.size (length-map y.bytes (λ b. unknown_byte) ∙ size)

object_is : (os : List Object) (name : ObjectName) (y : Object) → slice_get os name.place ≡ Some y → y.made ≡ name.made → length y.bytes ≡ name.size → object_of (shapes os) name ≡ Some (shape_of y)
object_is os name y e made size =
    ap (if_named name) (shape_there os name.place y e) ∙ ap (λ (b : Bool). if b then Some (shape_of y) else None) (named_so name y made size)

pub may_write : (os : List Object) (place made : ℕ) (y : Object) → slice_get os place ≡ Some y → y.made ≡ made → length y.bytes ≡ 4 → y.constant ≡ false → write_cause Assignment (shapes os) (Pointer (record { place = place; made = made; size = 4 }) 0) 4 4 ≡ None
may_write os place made y e m size writable =
    ap (λ (o : Option Shape). first_cause ((false, Outside) ∷ (false, Misaligned) ∷ (is_none o, Dead) ∷ (is_constant o, ReadOnly) ∷ [])) (object_is os (record { place = place; made = made; size = 4 }) y e m size)
    ∙ ap (λ (b : Bool). first_cause ((false, Outside) ∷ (false, Misaligned) ∷ (false, Dead) ∷ (b, ReadOnly) ∷ [])) writable

take_all : (order : Order) (q : Word) → take 4 (word_bytes order q) ≡ word_bytes order q
take_all Little (Plain (Number n)) = refl
take_all Big (Plain (Number n)) = refl
take_all Little (Plain (Pointer o x)) = refl
take_all Big (Plain (Pointer o x)) = refl
take_all Little (Plain (Function f)) = refl
take_all Big (Plain (Function f)) = refl
take_all Little (Label f n) = refl
take_all Big (Label f n) = refl
take_all Little (Partly mask bits) = refl
take_all Big (Partly mask bits) = refl

pub word_there : (order : Order) (os : List Object) (place made : ℕ) (y : Object) (q : Word) → slice_get os place ≡ Some y → y.made ≡ made → length y.bytes ≡ 4 → y.bytes ≡ word_bytes order q → IsWord q
    → word_read order os (Plain (Pointer (record { place = place; made = made; size = 4 }) 0)) ≡ Some q
word_there order os place made y q e m size bytes word =
    let name : ObjectName = record { place = place; made = made; size = 4 } in
    let none : read_cause (shapes os) (Pointer name 0) 4 4 ≡ None = ap (λ (o : Option Shape). first_cause ((false, Outside) ∷ (false, Misaligned) ∷ (is_none o, Dead) ∷ [])) (object_is os name y e m size) in
    let stands : bytes_through os (Pointer name 0) 4 ≡ word_bytes order q = ap (λ (o : Option Object). take 4 (drop 0 (contents o))) e ∙ ap (take 4) bytes ∙ take_all order q in
    ap (λ (c : Option Cause). defined (unless c (word_in order (bytes_through os (Pointer name 0) 4)))) none
    ∙ ap (λ (bs : List (Byte Word)). Some (word_in order bs)) stands
    ∙ ap (λ (v : Word). Some v) (word_back order q word)

-- ---- the call's objects

open_from : (made : ℕ) (bs : List (List (Byte Word))) (i : ℕ) (y : Object) → slice_get (objects_from made bs) i ≡ Some y → y.constant ≡ false
open_from made [] i y e = absurd (let never : ⊥ = cc in never)
open_from made (b ∷ bs) zero y e = let same : record { made = made; constant = false; bytes = b } ≡ y = cc in ap (λ (z : Object). z.constant) (sym same)
open_from made (b ∷ bs) (suc i) y e = open_from (suc made) bs i y e

get_behind : {A : Type 0} (xs ys : List A) (n : ℕ) → slice_get (xs ++ ys) (length xs + n) ≡ slice_get ys n
get_behind [] ys n = ap (slice_get ys) (let z : 0 + n ≡ n = omega arith in z)
get_behind (x ∷ xs) ys n = ap (slice_get (x ∷ (xs ++ ys))) (let z : suc (length xs) + n ≡ suc (length xs + n) = omega arith in z) ∙ get_behind xs ys n

from_count : (made : ℕ) (bs : List (List (Byte Word))) → length (objects_from made bs) ≡ length bs
from_count made [] = refl
from_count made (b ∷ bs) = ap suc (from_count (suc made) bs)

word_of : (ws : List Word) → AreWords ws → (j : ℕ) (q : Word) → slice_get ws j ≡ Some q → IsWord q
word_of [] h j q e = absurd (let never : ⊥ = cc in never)
word_of (w ∷ ws) h zero q e = subst IsWord (let same : w ≡ q = cc in same) h.0
word_of (w ∷ ws) h (suc j) q e = word_of ws h.1 j q e

module _ (l : LoweredUnit) (number : ℕ) (body : Body) (w : World) (past : length l.objects ≤ length w.objects) where
  abbrev here : Home
  here = home l number body w past

  abbrev there : World
  there = opened l number body w past

  pub homes_open : (i : ℕ) (y : Object) → slice_get there.objects (here.place + i) ≡ Some y → y.constant ≡ false
  homes_open i y e = open_from w.made (own_bytes l.order body w.arguments) i y (sym (get_behind w.objects (objects_from w.made (own_bytes l.order body w.arguments)) i) ∙ e)

  pub opened_count : length there.objects ≡ length w.objects + (length here.slots + length w.arguments)
  opened_count =
      let one = length-append w.objects (objects_from w.made (own_bytes l.order body w.arguments)) in
      let two = from_count w.made (own_bytes l.order body w.arguments) in
      let three = length-append (mapped slot_bytes here.slots) (mapped (word_bytes l.order) w.arguments) in
      let four = length-map here.slots slot_bytes in
      let five = length-map w.arguments (word_bytes l.order) in
      omega (arith, one, two, three, four, five)

  pub slots_free : (i : ℕ) (s : Slot) → slice_get here.slots i ≡ Some s → s.size ≡ 4 → write_cause Assignment (shapes there.objects) (Pointer (slot_name here i) 0) 4 4 ≡ None
  slots_free i s e size =
      may_write there.objects (here.place + i) (w.made + i) (record { made = w.made + i; constant = false; bytes = slot_bytes s }) (slot_made l number body w past i s e) refl (length-replicate s.size unknown_byte ∙ size) refl

  pub words_hold : AreWords w.arguments → (j : ℕ) (q : Word) → slice_get w.arguments j ≡ Some q → word_read l.order there.objects (Plain (Pointer (argument_name here j) 0)) ≡ Some q
  words_hold are j q e =
      let made : w.made + (length here.slots + j) ≡ here.made + length here.slots + j = omega arith in
      word_there l.order there.objects (here.place + length here.slots + j) (here.made + length here.slots + j) (record { made = w.made + (length here.slots + j); constant = false; bytes = word_bytes l.order q }) q
      (word_made l number body w past j q e) made (word_count l.order q) refl (word_of w.arguments are j q e)
