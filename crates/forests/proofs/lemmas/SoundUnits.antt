-- Lemmas: a unit's program has words for its names, and it starts in a sound world.
use Rattle.std.specs.Prelude.{◌≡◌, ℕ, ℤ, zero, suc, Option, Some, None, List, [], ◌∷◌, flat_map, replicate, slice_get}
use Rattle.std.proofs.Common.{refl, subst, arith}
use Rattle.lcc_base.specs.declared.cause.Cause.{Cause}
use Rattle.objects.specs.declared.byte.Byte.TheVariants.{Bits}
use Rattle.objects.specs.declared.value.Value.{Value}
use Rattle.objects.specs.Bytes.{known_bytes}
use Rattle.objects.specs.Causes.{unless}
use Rattle.objects.specs.Pointers.{place_after}
use Rattle.op_forest.specs.declared.lowered.LoweredFunction.{LoweredFunction}
use Rattle.op_forest.specs.declared.lowered.LoweredObject.{LoweredObject}
use Rattle.op_forest.specs.declared.lowered.Datum.{Datum}
use Rattle.op_forest.specs.declared.lowered.Datum.TheVariants as datum
use Rattle.op_forest.specs.Callees.{BuiltIn}
use Rattle.op_forest.specs.Lowered.{LoweredUnit}
use Rattle.op_forest.specs.Units.{function_of, object_place, built_in_named}
use Rattle.forests.specs.Words.{Plain, IsWord}
use Rattle.forests.specs.Accesses.{defined}
use Rattle.forests.specs.Units.{value_by, value_of, program_of, word_or_unknown, moved_or_unknown, label_word, bytes_in, objects_in, start_world, null_object, main_world}
use Rattle.forests.specs.Sound.{AreSoundBytes, AreSoundObjects, AreInput, IsSound}
use Rattle.forests.proofs.lemmas.SoundBytes.{bytes_append, bytes_replicate, objects_append, word_bytes_sound, and_full_byte}
use Rattle.forests.proofs.lemmas.SoundRows.{place_after_sound}
use Rattle.forests.specs.SoundRuns.{IsSoundProgram}
use Rattle.forests.specs.SoundUnits.{AreData, HaveData}

same_some : {A : Type 0} {x y : A} → Some x ≡ Some y → x ≡ y
same_some e = cc

value_by_sound : (u : LoweredUnit) (name : ℕ) (f : Option LoweredFunction) (o : Option ℕ) (b : Option BuiltIn) (v : Value) → value_by u name f o b ≡ Some v → IsWord (Plain v)
value_by_sound u name (Some f) o b v e = subst (λ (x : Value). IsWord (Plain x)) (same_some e) tt
value_by_sound u name None (Some place) b v e = subst (λ (x : Value). IsWord (Plain x)) (same_some e) tt
value_by_sound u name None None (Some b) v e = subst (λ (x : Value). IsWord (Plain x)) (same_some e) tt
value_by_sound u name None None None v e = absurd (let never : ⊥ = cc in never)

pub program_sound : (u : LoweredUnit) → IsSoundProgram (program_of u)
program_sound u name v e = value_by_sound u name (function_of u name) (object_place u name) (built_in_named u name) v e

known_sound : (ns : List ℕ) → AreInput ns → AreSoundBytes (known_bytes ns)
known_sound [] h = tt
known_sound (n ∷ ns) h = ((omega arith, and_full_byte n h.0), known_sound ns h.1)

or_unknown_sound : (cause : Option Cause) (v : Value) → IsWord (Plain v) → IsWord (word_or_unknown (defined (unless cause v)))
or_unknown_sound None v h = h
or_unknown_sound (Some c) v h = (omega arith, refl)

moved_sound : (o : Option Value) (by : ℤ) → ((v : Value) → o ≡ Some v → IsWord (Plain v)) → IsWord (moved_or_unknown o by)
moved_sound None by h = (omega arith, refl)
moved_sound (Some v) by h = or_unknown_sound _ (place_after v by) (place_after_sound v by (h v refl))

label_sound : (f : Option LoweredFunction) (l : ℕ) → IsWord (label_word f l)
label_sound None l = (omega arith, refl)
label_sound (Some f) l = tt

items_sound : (u : LoweredUnit) (items : List Datum) → AreData items → AreSoundBytes (flat_map (bytes_in u) items)
items_sound u [] h = tt
items_sound u (datum.Bytes bytes ∷ items) h = bytes_append (known_bytes bytes) _ (known_sound bytes h.0) (items_sound u items h.1)
items_sound u (datum.Name name offset ∷ items) h = bytes_append _ _ (word_bytes_sound u.order (moved_or_unknown (value_of u name) offset) (moved_sound (value_of u name) offset (λ v e. program_sound u name v e))) (items_sound u items h)
items_sound u (datum.Label function label ∷ items) h = bytes_append _ _ (word_bytes_sound u.order (label_word (slice_get u.functions function) label) (label_sound (slice_get u.functions function) label)) (items_sound u items h)
items_sound u (datum.Zero n ∷ items) h = bytes_append (replicate n (Bits 255 0)) _ (bytes_replicate n (Bits 255 0) (omega arith, refl)) (items_sound u items h)

objects_sound : (u : LoweredUnit) (place : ℕ) (os : List LoweredObject) → HaveData os → AreSoundObjects (objects_in u place os)
objects_sound u place [] h = tt
objects_sound u place (o ∷ os) h = (items_sound u o.items h.0, objects_sound u (suc place) os h.1)

start_sound : (u : LoweredUnit) (input : List ℕ) → HaveData u.objects → AreInput input → IsSound (start_world u input)
start_sound u input h i = record { objects = objects_sound u 0 u.objects h; arguments = tt; input = i }

-- the world in which main is called
pub main_sound : (u : LoweredUnit) (words : ℕ) (input : List ℕ) → HaveData u.objects → AreInput input → IsSound (main_world u words input)
main_sound u zero input h i = start_sound u input h i
main_sound u (suc words) input h i = record {
  objects = objects_append (objects_in u 0 u.objects) (null_object u ∷ []) (objects_sound u 0 u.objects h) (bytes_replicate 4 (Bits 255 0) (omega arith, refl), tt);
  arguments = (omega arith, (tt, tt));
  input = i;
}
