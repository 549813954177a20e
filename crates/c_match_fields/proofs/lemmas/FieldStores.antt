-- A bit-field that is written.
use Rattle.std.specs.Prelude.{◌≡◌, ◌≤◌, ℕ, ◌+◌, ◌-◌, ◌^◌, Option, Some, None, Ok, List, [], ◌∷◌, length, map as mapped}
use Rattle.std.proofs.Common.{refl, ap, subst, inr, ◌∙◌, arith}
use Rattle.lcc_base.specs.declared.order.Order.{Order}
use Rattle.lcc_base.specs.declared.order.Order.TheVariants.{Big, Little}
use Rattle.lcc_base.specs.declared.cause.Cause.{Cause}
use Rattle.lcc_base.specs.declared.cause.Cause.TheVariants.{PointerNumber}
use Rattle.lcc_base.specs.NumberIn.{number_in}
use Rattle.objects.specs.declared.byte.Byte.{Byte}
use Rattle.objects.specs.declared.field.Field.{Field}
use Rattle.objects.specs.declared.purpose.Purpose.{Purpose}
use Rattle.objects.specs.declared.purpose.Purpose.TheVariants.{Assignment}
use Rattle.objects.specs.declared.value.Value.{Value}
use Rattle.objects.proofs.lemmas.AccessLaws.{unless_none, unless_same}
use Rattle.objects.specs.Accesses.{write_cause, field_written, number_or_zero}
use Rattle.objects.specs.Accesses as c
use Rattle.objects.proofs.lemmas.BitLaws.{replaced_below}
use Rattle.objects.specs.Bytes.{known_of, value_of, number_bytes}
use Rattle.objects.specs.Causes.{first_cause, unless, is_no_number}
use Rattle.objects.proofs.lemmas.CopyLaws.{readable}
use Rattle.objects.specs.Fields.{shift_of, with_bits, with_field}
use Rattle.objects.specs.Fields.{bits_of as bytes_of}
use Rattle.objects.specs.Objects.{Object as Old}
use Rattle.forests.specs.Accesses.{defined, bytes_written}
use Rattle.forests.specs.Objects.{Object, shapes, bytes_through, stored_through}
use Rattle.forests.specs.Sound.{AreSoundObjects}
use Rattle.forests.proofs.lemmas.SoundBytes.{bytes_through_sound}
use Rattle.forests.specs.WordBytes.{word_bytes, word_in}
use Rattle.forests.specs.Words.{Word, Plain, known_word}
use Rattle.c_match.specs.Ranges.{Map}
use Rattle.c_match.specs.Values.{IsValue}
use Rattle.c_match.specs.Held.{AreHeld, IsOpenTo}
use Rattle.c_match_objects.specs.Accesses.{IsKept}
use Rattle.c_match_fields.specs.Fields.{placed, IsFieldWritten}
use Rattle.c_match_objects.proofs.lemmas.Reached.{there, access, bytes_reached, length_reached}
use Rattle.c_match_objects.proofs.lemmas.Reads.{if_none_same, word_there}
use Rattle.c_match_fields.proofs.lemmas.SetFields.{clears, sets, unit_bytes}
use Rattle.c_match_objects.proofs.lemmas.StoredScalars.{word_count}
use Rattle.c_match_objects.proofs.lemmas.Stores.{store_goes}
use Rattle.c_match_fields.proofs.lemmas.UnitWords.{unit_word, unit_small}

in_unit : (order : Order) (f : Field) → f.first + f.width ≤ 32 → shift_of order f + f.width ≤ 32
in_unit Big f h = omega arith
in_unit Little f h = h

four_long : (order : Order) (k v : ℕ) → length (bytes_of (number_bytes order 4 k) (number_bytes order 4 v)) ≡ 4
four_long Big k v = refl
four_long Little k v = refl

written_there : (objects : List Object) (other : List (Byte Word)) (q : Value) (w : Word) → w ≡ Plain q → write_cause Assignment (shapes objects) q 4 4 ≡ None → bytes_written 4 other objects w ≡ Some (stored_through objects q other)
written_there objects other q w e none =
    let first : bytes_written 4 other objects w ≡ bytes_written 4 other objects (Plain q) = ap (λ (x : Word). bytes_written 4 other objects x) e in
    let second : bytes_written 4 other objects (Plain q) ≡ Some (stored_through objects q other) = ap (λ (x : Option Cause). defined (unless x (stored_through objects q other))) none in
    first ∙ second

pub field_stored : (map : Map) (old new : List Old) (objects : List Object) (order : Order) (purpose : Purpose) (f : Field) (p v : Value) (w : Word) → AreHeld map old objects → AreSoundObjects objects → IsValue map p w → IsOpenTo purpose map objects p → f.first + f.width ≤ 32 → field_written purpose order f v old p ≡ Ok new → IsFieldWritten map old new objects order f (number_or_zero v) w
field_stored map old new objects order purpose f p v w h sound is may within e =
    let n = number_or_zero v in
    let bs = c.bytes_through old p 4 in
    let bytes = with_field order f n bs in
    let refused = first_cause ((is_no_number v, PointerNumber) ∷ []) in
    let rest = if_none_same refused (unless (write_cause purpose old p 4 4) (c.stored_through old p bytes)) new e in
    let allowed = unless_none (write_cause purpose old p 4 4) (c.stored_through old p bytes) new rest in
    let same = unless_same (write_cause purpose old p 4 4) (c.stored_through old p bytes) new rest in
    let a = access map old objects p w 4 4 h is (readable purpose old p 4 4 allowed) in
    let cs = bytes_through objects (there a.reached) 4 in
    let long = length_reached map old objects p w 4 4 a in
    let are = bytes_reached map old objects p w 4 a.reached in
    let sound_bytes = bytes_through_sound objects (there a.reached) 4 sound in
    let known = number_in order (mapped known_of bs) in
    let value = number_in order (mapped value_of bs) in
    let small = unit_small map order bs cs are sound_bytes long.0 in
    let covers = unit_word map order bs cs are sound_bytes long.0 long.1 in
    let shift = shift_of order f in
    let fit = in_unit order f within in
    let cleared = clears shift f.width n known value fit small (word_in order cs) covers in
    let now_known = with_bits shift f.width (2 ^ f.width - 1) known in
    let now_value = with_bits shift f.width n value in
    let done = sets now_known now_value (placed order f n) cleared.mask cleared.bits (replaced_below shift f.width (2 ^ f.width - 1) known fit small) cleared.all cleared.same in
    let other = word_bytes order done.set in
    let stored = store_goes map old objects purpose p w 4 4 bytes other h is (inr (inr refl)) may (unit_bytes map order now_known now_value done.set done.covers) (four_long order now_known now_value) (word_count order done.set) allowed in
    let after = stored_through objects stored.0 other in
    record {
      unit = word_in order cs;
      cleared = known_word cleared.mask cleared.bits;
      set = done.set;
      after = after;
      reads = word_there map old objects order p w a;
      clears = cleared.is;
      sets = done.is;
      writes = written_there objects other stored.0 w stored.1 stored.2;
      kept = subst (λ (os : List Old). IsKept map old os objects after) same stored.3;
    }
