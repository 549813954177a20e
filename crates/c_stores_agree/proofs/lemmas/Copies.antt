-- Known bytes of an object of forests that may not be written, copied to where C stores them.
use Rattle.std.specs.Prelude.{◌≡◌, ℕ, ◌+◌, ◌==◌, ◌&&◌, not, nat_lt, Bool, true, false, Option, Some, None, List, [], ◌∷◌, length, take, drop, slice_get}
use Rattle.std.proofs.Common.{true≢false, refl, sym, ap, subst, inl, ◌∙◌}
use Rattle.std.proofs.lemmas.Bool.{eqb-true}
use Rattle.std.proofs.lemmas.List.{length-map}
use Rattle.lcc_base.specs.declared.cause.Cause.{Cause}
use Rattle.lcc_base.specs.declared.cause.Cause.TheVariants.{Overlap}
use Rattle.objects.specs.declared.byte.Byte.{Byte}
use Rattle.objects.specs.declared.byte.Byte.TheVariants.{Bits}
use Rattle.objects.specs.declared.purpose.Purpose.TheVariants.{Assignment, Initialisation}
use Rattle.objects.specs.declared.value.ObjectName.{ObjectName}
use Rattle.objects.specs.declared.value.Value.{Value}
use Rattle.objects.specs.declared.value.Value.TheVariants.{Pointer}
use Rattle.objects.specs.Accesses.{read_cause, write_cause}
use Rattle.objects.specs.Accesses as c
use Rattle.objects.specs.Bytes.{known_bytes}
use Rattle.objects.specs.Causes.{first_cause, unless, overlaps_in_part}
use Rattle.objects.proofs.lemmas.CopyLaws.{readable}
use Rattle.objects.specs.Copies.{or_cause, copy_cause}
use Rattle.objects.specs.Objects.{Object as Old}
use Rattle.forests.specs.Accesses.{defined, block_copied}
use Rattle.forests.specs.Objects.{Object, shapes, contents, bytes_through, stored_through}
use Rattle.forests.specs.Words.{Word, Plain}
use Rattle.c_match.specs.Held.{AreHeld, IsOpenTo}
use Rattle.c_match.specs.Ranges.{Map}
use Rattle.c_match.specs.Values.{IsValue}
use Rattle.c_match.proofs.lemmas.Scalars.{AreSmall}
use Rattle.c_match.proofs.lemmas.Words.{same_known}
use Rattle.c_match_objects.specs.Accesses.{IsKept}
use Rattle.c_match_objects.proofs.lemmas.Reached.{IsReached, there, access, goes_there, made_of}
use Rattle.c_match_objects.proofs.lemmas.Stores.{store_goes}

-- ---- two places in different objects

no_part : (x y z : Bool) → x ≡ false → ((x && y) && z) ≡ false
no_part true y z e = absurd (true≢false e)
no_part false y z e = refl

unlike : (x : Bool) → (x ≡ true → ⊥) → x ≡ false
unlike true h = absurd (h refl)
unlike false h = refl

pub apart : (size : ℕ) (a b : ObjectName) (m n : ℕ) → (a.place ≡ b.place → ⊥) → overlaps_in_part size (Pointer a m) (Pointer b n) ≡ false
apart size a b m n other = no_part (a.place == b.place) ((a.made == b.made) && (a.size == b.size)) (not (m == n) && (nat_lt m (n + size) && nat_lt n (m + size))) (unlike (a.place == b.place) (λ e. other (eqb-true a.place b.place e)))

no_cause : (a b c : Option Cause) → a ≡ None → b ≡ None → c ≡ None → or_cause a (or_cause b c) ≡ None
no_cause a b c p q r = ap (λ (x : Option Cause). or_cause x (or_cause b c)) p ∙ ap (λ (x : Option Cause). or_cause x c) q ∙ r

-- ---- the copy

-- The bytes stand at the start of an object that may not be written.
pub record IsLocked (objects : List Object) (name : ObjectName) (n : ℕ) (bytes : List ℕ) : Type 0 where
  pub home : Object
  pub lives : slice_get objects name.place ≡ Some home
  pub constant : home.constant ≡ true
  pub long : length bytes ≡ n
  pub begins : take n home.bytes ≡ known_bytes bytes
  pub small : AreSmall bytes

pub record IsCopied (map : Map) (old new : List Old) (objects : List Object) (n : ℕ) (u w : Word) : Type 0 where
  pub after : List Object
  pub copies : block_copied n 1 objects u w ≡ Some after
  pub kept : IsKept map old new objects after

module _ (map : Map) (old : List Old) (objects : List Object) (h : AreHeld map old objects) (name : ObjectName) (n : ℕ) (bytes : List ℕ) (locked : IsLocked objects name n bytes) (from to : Value) (w : Word) (is : IsValue map from (Plain (Pointer name 0))) (of : IsValue map to w) (opens : IsOpenTo Initialisation map objects to)
    (readable_there : read_cause old from n 1 ≡ None) (writable : write_cause Initialisation old to n 1 ≡ None) where
  abbrev target : IsReached map old objects to w
  target = (access map old objects to w n 1 h of (readable Initialisation old to n 1 writable)).reached

  target_open : target.held.home.constant ≡ false
  target_open =
      let may = subst (λ (q : Value). IsOpenTo Initialisation map objects q) target.points opens in
      may target.range target.held.home (sym (ap map (made_of target.name target.it target.named)) ∙ target.is) target.held.there

  other_home : name.place ≡ target.range.object.place → ⊥
  other_home e =
      let there_too : slice_get objects name.place ≡ Some target.held.home = ap (λ (i : ℕ). slice_get objects i) e ∙ target.held.there in
      let lives = locked.lives in
      let one : locked.home ≡ target.held.home = cc in
      true≢false (sym locked.constant ∙ ap (λ (x : Object). x.constant) one ∙ target_open)

  pub known_bytes_go : IsCopied map old (c.stored_through old to (known_bytes bytes)) objects n (Plain (Pointer name 0)) w
  known_bytes_go =
      let source = access map old objects from (Plain (Pointer name 0)) n 1 h is readable_there in
      let from_is : there source.reached ≡ Pointer name 0 = let e = source.reached.word in cc in
      let free : read_cause (shapes objects) (Pointer name 0) n 1 ≡ None = subst (λ (q : Value). read_cause (shapes objects) q n 1 ≡ None) from_is (goes_there map old objects from (Plain (Pointer name 0)) n 1 (inl refl) source) in
      let known : List (Byte Word) = known_bytes bytes in
      let read : bytes_through objects (Pointer name 0) n ≡ known = ap (λ (o : Option Object). take n (drop 0 (contents o))) locked.lives ∙ locked.begins in
      let s = store_goes map old objects Initialisation to w n 1 (known_bytes bytes) known h of (inl refl) opens (same_known map bytes locked.small) (length-map bytes (λ (i : ℕ). Bits 255 i) ∙ locked.long) (length-map bytes (λ (i : ℕ). Bits 255 i) ∙ locked.long) writable in
      let to_is : there target ≡ s.0 = let e = target.word in let f = s.1 in let g : Plain (there target) ≡ Plain s.0 = sym e ∙ f in cc in
      let separate : overlaps_in_part n (Pointer name 0) s.0 ≡ false = subst (λ (q : Value). overlaps_in_part n (Pointer name 0) q ≡ false) to_is (apart n name target.range.object 0 (target.range.start + target.offset) other_home) in
      let none : copy_cause Assignment (shapes objects) (Pointer name 0) s.0 n 1 ≡ None =
      no_cause (read_cause (shapes objects) (Pointer name 0) n 1) (write_cause Assignment (shapes objects) s.0 n 1) (first_cause ((overlaps_in_part n (Pointer name 0) s.0, Overlap) ∷ [])) free s.2 (ap (λ (t : Bool). first_cause ((t, Overlap) ∷ [])) separate) in
      record {
        after = stored_through objects s.0 known;
        copies =
            ap (λ (x : Word). block_copied n 1 objects (Plain (Pointer name 0)) x) s.1
            ∙ ap (λ (x : Option Cause). defined (unless x (stored_through objects s.0 (bytes_through objects (Pointer name 0) n)))) none
            ∙ ap (λ (bs : List (Byte Word)). Some (stored_through objects s.0 bs)) read;
        kept = s.3;
      }
