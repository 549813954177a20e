-- Scalars that are stored.
use Rattle.std.specs.Prelude.{◌≡◌, ℕ, ◌%◌, ◌^◌, Option, Some, Ok, List, [], ◌∷◌, length}
use Rattle.std.proofs.Common.{refl, ap, subst, ◌∙◌}
use Rattle.lcc_base.specs.declared.order.Order.{Order}
use Rattle.lcc_base.specs.declared.order.Order.TheVariants.{Big, Little}
use Rattle.lcc_base.specs.declared.cause.Cause.{Cause}
use Rattle.lcc_base.specs.declared.cause.Cause.TheVariants.{PointerNumber}
use Rattle.objects.specs.declared.byte.Byte.{Byte}
use Rattle.objects.specs.declared.purpose.Purpose.{Purpose}
use Rattle.objects.specs.declared.value.Value.{Value}
use Rattle.objects.specs.declared.value.Value.TheVariants.{Number, Pointer, Function}
use Rattle.objects.specs.declared.width.Width.{Width}
use Rattle.objects.specs.declared.width.Width.TheVariants.{One, Two, Four}
use Rattle.objects.specs.Values.{bytes_in, bits_in}
use Rattle.objects.specs.Bytes.{known_bytes, number_bytes}
use Rattle.objects.specs.Causes.{first_cause, unless, is_narrowed}
use Rattle.objects.specs.Scalars.{scalar_bytes}
use Rattle.objects.proofs.lemmas.AccessLaws.{first_not, unless_none, unless_same, bytes_count}
use Rattle.objects.specs.Accesses.{write_cause, written}
use Rattle.objects.specs.Accesses as c
use Rattle.objects.specs.Objects.{Object as Old}
use Rattle.forests.specs.Accesses.{defined, bytes_written, word_written, number_written_by, number_written}
use Rattle.forests.specs.Objects.{Object, stored_through}
use Rattle.forests.specs.WordBytes.{word_bytes}
use Rattle.forests.specs.Words.{Word, Plain, Label, Partly, low_number}
use Rattle.c_match.specs.Ranges.{Map}
use Rattle.c_match.specs.Values.{IsValue}
use Rattle.c_match.specs.Bytes.{AreBytesOf}
use Rattle.c_match.specs.Held.{AreHeld, IsOpenTo}
use Rattle.c_match.proofs.lemmas.Words.{word_has_bytes, number_has_bytes}
use Rattle.c_match_objects.specs.Accesses.{IsKept}
use Rattle.c_match_objects.proofs.lemmas.Reads.{if_none_none, if_none_same, aligned_by_width}
use Rattle.c_match_objects.proofs.lemmas.Stores.{store_goes}

pub word_count : (order : Order) (w : Word) → length (word_bytes order w) ≡ 4
word_count Big (Plain (Number n)) = refl
word_count Little (Plain (Number n)) = refl
word_count Big (Plain (Pointer object offset)) = refl
word_count Little (Plain (Pointer object offset)) = refl
word_count Big (Plain (Function f)) = refl
word_count Little (Plain (Function f)) = refl
word_count Big (Label f l) = refl
word_count Little (Label f l) = refl
word_count Big (Partly mask bits) = refl
word_count Little (Partly mask bits) = refl

number_count : (order : Order) (width : Width) (n : ℕ) → length (known_bytes {V = Word} (number_bytes order (bytes_in width) n)) ≡ bytes_in width
number_count Big One n = refl
number_count Little One n = refl
number_count Big Two n = refl
number_count Little Two n = refl
number_count Big Four n = refl
number_count Little Four n = refl

-- bytes for a scalar of a width
scalar_stored : (map : Map) (old new : List Old) (objects : List Object) (order : Order) (purpose : Purpose) (width : Width) (p v : Value) (w : Word) (other : List (Byte Word)) → AreHeld map old objects → IsValue map p w → IsOpenTo purpose map objects p → AreBytesOf map (scalar_bytes order width v) other → length other ≡ bytes_in width → written purpose order width v old p ≡ Ok new → (after : List Object) × (bytes_written (bytes_in width) other objects w ≡ Some after) × IsKept map old new objects after
scalar_stored map old new objects order purpose width p v w other h is may are long e =
    let size = bytes_in width in
    let bytes = scalar_bytes order width v in
    let refused = first_cause ((is_narrowed width v, PointerNumber) ∷ []) in
    let none = if_none_none refused (unless (write_cause purpose old p size size) (c.stored_through old p bytes)) new e in
    let rest = if_none_same refused (unless (write_cause purpose old p size size) (c.stored_through old p bytes)) new e in
    let allowed = unless_none (write_cause purpose old p size size) (c.stored_through old p bytes) new rest in
    let same = unless_same (write_cause purpose old p size size) (c.stored_through old p bytes) new rest in
    let count = bytes_count order width v (first_not (is_narrowed width v) PointerNumber [] none) in
    let s = store_goes map old objects purpose p w size size bytes other h is (aligned_by_width width) may are count long allowed in
    let after = stored_through objects s.0 other in
    (after, ap (λ (x : Word). bytes_written size other objects x) s.1 ∙ ap (λ (x : Option Cause). defined (unless x after)) s.2, subst (λ (os : List Old). IsKept map old os objects after) same s.3)

pub word_stored : (map : Map) (old new : List Old) (objects : List Object) (order : Order) (purpose : Purpose) (p v : Value) (w u : Word) → AreHeld map old objects → IsValue map p w → IsOpenTo purpose map objects p → IsValue map v u → written purpose order Four v old p ≡ Ok new → (after : List Object) × (word_written order u objects w ≡ Some after) × IsKept map old new objects after
word_stored map old new objects order purpose p v w u h is may of e = scalar_stored map old new objects order purpose Four p v w (word_bytes order u) h is may (word_has_bytes map order v u of) (word_count order u) e

pub number_stored : (map : Map) (old new : List Old) (objects : List Object) (order : Order) (purpose : Purpose) (width : Width) (p : Value) (n : ℕ) (w u : Word) → AreHeld map old objects → IsValue map p w → IsOpenTo purpose map objects p → low_number (bits_in width) u ≡ Some (n % 2 ^ bits_in width) → written purpose order width (Number n) old p ≡ Ok new → (after : List Object) × (number_written order width u objects w ≡ Some after) × IsKept map old new objects after
number_stored map old new objects order purpose width p n w u h is may low e =
    let m = n % 2 ^ bits_in width in
    let s = scalar_stored map old new objects order purpose width p (Number n) w (known_bytes (number_bytes order (bytes_in width) m)) h is may (number_has_bytes map order width n) (number_count order width m) e in
    (s.0, ap (λ (x : Option ℕ). number_written_by x order width objects w) low ∙ s.1, s.2)
