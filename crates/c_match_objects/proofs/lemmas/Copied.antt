-- A structure that is copied.
use Rattle.std.specs.Prelude.{◌≡◌, ◌≤◌, ◌⊎◌, ℕ, ◌+◌, ◌==◌, ◌&&◌, not, nat_lt, Bool, true, false, Option, Some, None, Ok, List, [], ◌∷◌, length}
use Rattle.std.proofs.Common.{refl, ap, sym, subst, inl, inr, ◌∙◌, arith}
use Rattle.std.proofs.lemmas.Bool.{eqb-true, eqb-false, eq-eqb}
use Rattle.lcc_base.specs.declared.cause.Cause.{Cause}
use Rattle.lcc_base.specs.declared.cause.Cause.TheVariants.{Overlap}
use Rattle.objects.specs.declared.purpose.Purpose.{Purpose}
use Rattle.objects.specs.declared.purpose.Purpose.TheVariants.{Assignment}
use Rattle.objects.specs.declared.value.ObjectName.{ObjectName}
use Rattle.objects.specs.declared.value.Value.{Value}
use Rattle.objects.specs.declared.value.Value.TheVariants.{Pointer}
use Rattle.objects.proofs.lemmas.AccessLaws.{first_not, size_of, unless_none, unless_same}
use Rattle.objects.specs.Accesses.{read_cause, write_cause}
use Rattle.objects.specs.Accesses as c
use Rattle.objects.specs.Causes.{first_cause, unless, overlaps_in_part}
use Rattle.objects.proofs.lemmas.CopyLaws.{readable}
use Rattle.objects.specs.Copies.{or_cause, copy_cause, copied}
use Rattle.objects.specs.Objects.{Object as Old}
use Rattle.objects.proofs.lemmas.PlaceLaws.{apart}
use Rattle.objects.specs.Places.{GoesTo}
use Rattle.objects.specs.Values.{same_object}
use Rattle.forests.specs.Accesses.{defined, block_copied}
use Rattle.forests.specs.Objects.{Object, shapes, bytes_through, stored_through}
use Rattle.forests.specs.Words.{Word, Plain}
use Rattle.c_match.specs.Ranges.{Range, Map}
use Rattle.c_match.specs.Values.{IsValue}
use Rattle.c_match.specs.Held.{AreHeld, IsOpenTo, IsAlignment}
use Rattle.c_match_objects.specs.Accesses.{IsKept}
use Rattle.c_match_objects.proofs.lemmas.Reached.{IsAccess, there, access, goes_there, bytes_reached, length_reached, not_before}
use Rattle.c_match_objects.proofs.lemmas.Stores.{store_goes, writes_there}

or_first : (a b : Option Cause) → or_cause a b ≡ None → a ≡ None
or_first None b e = refl
or_first (Some c) b e = absurd (let never : ⊥ = cc in never)

or_rest : (a b : Option Cause) → or_cause a b ≡ None → b ≡ None
or_rest None b e = e
or_rest (Some c) b e = absurd (let never : ⊥ = cc in never)

both_none : (a b : Option Cause) → a ≡ None → b ≡ None → or_cause a b ≡ None
both_none None b e f = f
both_none (Some c) b e f = absurd (let never : ⊥ = cc in never)

and_none : (a b : Bool) → b ≡ false → (a && b) ≡ false
and_none true b e = e
and_none false b e = refl

first_none : (a b : Bool) → a ≡ false → (a && b) ≡ false
first_none true b e = absurd (let never : ⊥ = cc in never)
first_none false b e = refl

no_overlap : (a b : ObjectName) (x y size : ℕ) → (a.place ≡ b.place → (x ≡ y) ⊎ ((x + size ≤ y) ⊎ (y + size ≤ x))) → overlaps_in_part size (Pointer a x) (Pointer b y) ≡ false
no_overlap a b x y size h =
    elim (a.place == b.place) as (λ t. (a.place == b.place) ≡ t → overlaps_in_part size (Pointer a x) (Pointer b y) ≡ false) [
      | true ↦ (λ t. and_none (same_object a b) (not (x == y) && (nat_lt x (y + size) && nat_lt y (x + size))) (elim (h (eqb-true a.place b.place t)) [
        | inl same ↦ first_none (not (x == y)) (nat_lt x (y + size) && nat_lt y (x + size)) (ap (λ (b : Bool). not b) (eq-eqb x y same))
        | inr far ↦ and_none (not (x == y)) (nat_lt x (y + size) && nat_lt y (x + size)) (elim far [
          | inl before ↦ and_none (nat_lt x (y + size)) (nat_lt y (x + size)) (not_before y (x + size) before)
          | inr behind ↦ first_none (nat_lt x (y + size)) (nat_lt y (x + size)) (not_before x (y + size) behind)
        ])
      ]))
      | false ↦ (λ t. first_none (same_object a b) (not (x == y) && (nat_lt x (y + size) && nat_lt y (x + size))) (first_none (a.place == b.place) ((a.made == b.made) && (a.size == b.size)) t))
    ] refl

goes_to : (map : Map) (old : List Old) (objects : List Object) (p : Value) (w : Word) (size alignment : ℕ) → (a : IsAccess map old objects p w size alignment) → GoesTo old p size a.reached.name.place a.reached.offset
goes_to map old objects p w size alignment a = record {
  name = a.reached.name;
  it = a.reached.it;
  points = a.reached.points;
  stands = refl;
  lives = a.reached.lives;
  named = a.reached.named;
  inside = a.inside;
}

-- in forests they overlap as little as in C
apart_there : (map : Map) (old : List Old) (objects : List Object) (from to : Value) (u w : Word) (size alignment : ℕ) → AreHeld map old objects → overlaps_in_part size from to ≡ false → (a : IsAccess map old objects from u size alignment) → (b : IsAccess map old objects to w size alignment) → overlaps_in_part size (there a.reached) (there b.reached) ≡ false
apart_there map old objects from to u w size alignment h e a b =
    let r = a.reached in
    let s = b.reached in
    let ra = a.inside in
    let rb = b.inside in
    let na = size_of r.name r.it r.named in
    let nb = size_of s.name s.it s.named in
    no_overlap r.range.object s.range.object (r.range.start + r.offset) (s.range.start + s.offset) size
    (λ home. elim (r.name.place == s.name.place) as (λ t. (r.name.place == s.name.place) ≡ t → (r.range.start + r.offset ≡ s.range.start + s.offset) ⊎ ((r.range.start + r.offset + size ≤ s.range.start + s.offset) ⊎ (s.range.start + s.offset + size ≤ r.range.start + r.offset))) [
      | true ↦ (λ t.
          let same = eqb-true r.name.place s.name.place t in
          let it : r.it ≡ s.it = (let l = r.lives in let m = s.lives in cc) in
          let range : r.range ≡ s.range = (let i = r.is in let j = s.is in let k : map r.it.made ≡ map s.it.made = ap (λ (x : Old). map x.made) it in cc) in
          let start : r.range.start ≡ s.range.start = ap (λ (x : Range). x.start) range in
          elim (apart old from to size r.name.place r.offset s.name.place s.offset (goes_to map old objects from u size alignment a) (goes_to map old objects to w size alignment b) e same) [
            | inl one ↦ inl (omega (arith, start, one))
            | inr far ↦ inr (elim far [ inl before ↦ inl (omega (arith, start, before)) | inr behind ↦ inr (omega (arith, start, behind)) ])
          ])
      | false ↦ (λ t.
          inr (elim (h.apart r.name.place s.name.place r.it s.it r.range s.range r.lives s.lives (eqb-false r.name.place s.name.place t) r.is s.is home) [
            | inl before ↦ inl (omega (arith, na, ra, before))
            | inr behind ↦ inr (omega (arith, nb, rb, behind))
          ]))
    ] refl)

pub copy_goes : (map : Map) (old new : List Old) (objects : List Object) (purpose : Purpose) (from to : Value) (u w : Word) (size alignment : ℕ) → AreHeld map old objects → IsValue map from u → IsValue map to w → IsAlignment alignment → IsOpenTo purpose map objects to → copied purpose old from to size alignment ≡ Ok new → (after : List Object) × (block_copied size alignment objects u w ≡ Some after) × IsKept map old new objects after
copy_goes map old new objects purpose from to u w size alignment h is of ok may e =
    let bytes = c.bytes_through old from size in
    let overlap = first_cause ((overlaps_in_part size from to, Overlap) ∷ []) in
    let none = unless_none (copy_cause purpose old from to size alignment) (c.stored_through old to bytes) new e in
    let same = unless_same (copy_cause purpose old from to size alignment) (c.stored_through old to bytes) new e in
    let source = or_first (read_cause old from size alignment) (or_cause (write_cause purpose old to size alignment) overlap) none in
    let rest = or_rest (read_cause old from size alignment) (or_cause (write_cause purpose old to size alignment) overlap) none in
    let target = or_first (write_cause purpose old to size alignment) overlap rest in
    let over = first_not (overlaps_in_part size from to) Overlap [] (or_rest (write_cause purpose old to size alignment) overlap rest) in
    let a = access map old objects from u size alignment h is source in
    let b = access map old objects to w size alignment h of (readable purpose old to size alignment target) in
    let r = a.reached in
    let s = b.reached in
    let other = bytes_through objects (there r) size in
    let long = length_reached map old objects from u size alignment a in
    let inside = b.inside in
    let many = long.1 in
    let fits : s.offset + length other ≤ s.name.size = omega (arith, inside, many) in
    let are = bytes_reached map old objects from u size r in
    let after = stored_through objects (there s) other in
    let free : copy_cause Assignment (shapes objects) (there r) (there s) size alignment ≡ None =
    both_none (read_cause (shapes objects) (there r) size alignment) (or_cause (write_cause Assignment (shapes objects) (there s) size alignment) (first_cause ((overlaps_in_part size (there r) (there s), Overlap) ∷ []))) (goes_there map old objects from u size alignment ok a)
    (both_none (write_cause Assignment (shapes objects) (there s) size alignment) (first_cause ((overlaps_in_part size (there r) (there s), Overlap) ∷ [])) (writes_there map old objects purpose to w size alignment ok may target b)
    (ap (λ (t : Bool). first_cause ((t, Overlap) ∷ [])) (apart_there map old objects from to u w size alignment h over a b))) in
    let kept = store_goes map old objects purpose to w size alignment bytes other h of ok may are long.0 long.1 target in
    let one : kept.0 ≡ there s = (let x = kept.1 in let y = s.word in let z : Plain kept.0 ≡ Plain (there s) = sym x ∙ y in cc) in
    let after_is : IsKept map old new objects after = subst (λ (q : Value). IsKept map old new objects (stored_through objects q other)) one (subst (λ (os : List Old). IsKept map old os objects (stored_through objects kept.0 other)) same kept.3) in
    (after, ap (λ (x : Word). block_copied size alignment objects x w) r.word ∙ ap (λ (x : Word). block_copied size alignment objects (Plain (there r)) x) s.word ∙ ap (λ (x : Option Cause). defined (unless x after)) free, after_is)
