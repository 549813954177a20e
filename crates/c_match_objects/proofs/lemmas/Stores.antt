-- A store of C's, and the store of forests that stands for it.
use Rattle.std.specs.Prelude.{◌≡◌, ◌≤◌, ◌⊎◌, ℕ, zero, suc, ◌+◌, ◌==◌, Bool, true, false, Some, None, List, [], ◌∷◌, length, slice_get, if◌then◌else◌}
use Rattle.std.proofs.Common.{true≢false, refl, ap, sym, subst, inl, inr, ◌∙◌, arith}
use Rattle.std.proofs.lemmas.Bool.{eqb-true, eqb-false}
use Rattle.lcc_base.specs.declared.cause.Cause.{Cause}
use Rattle.lcc_base.specs.declared.cause.Cause.TheVariants.{Outside, Misaligned, Dead, ReadOnly}
use Rattle.objects.specs.declared.byte.Byte.{Byte}
use Rattle.objects.specs.declared.purpose.Purpose.{Purpose}
use Rattle.objects.specs.declared.purpose.Purpose.TheVariants.{Assignment, Initialisation}
use Rattle.objects.specs.declared.value.ObjectName.{ObjectName}
use Rattle.objects.specs.declared.value.Value.{Value}
use Rattle.objects.proofs.lemmas.AccessLaws.{first_not, first_rest, size_of}
use Rattle.objects.proofs.lemmas.AccessLaws.{stored_at as old_at, stored_elsewhere as old_elsewhere}
use Rattle.objects.specs.Accesses.{write_cause}
use Rattle.objects.specs.Accesses as c
use Rattle.objects.proofs.lemmas.ByteLaws.{length-overwritten}
use Rattle.objects.specs.Causes.{first_cause, is_outside, is_misaligned, is_dead, is_refused}
use Rattle.objects.proofs.lemmas.CopyLaws.{readable}
use Rattle.objects.specs.Objects.{is_named, if_named, object_of, is_constant, stored, with_bytes}
use Rattle.objects.specs.Objects.{Object as Old}
use Rattle.forests.specs.Objects.{Object, shapes, stored_through}
use Rattle.forests.specs.Objects.{stored as put, with_bytes as with_words}
use Rattle.forests.specs.Words.{Word, Plain}
use Rattle.forests.proofs.lemmas.WordLaws.{stored_at, stored_elsewhere}
use Rattle.c_match.specs.Ranges.{Range, Map, AreApart}
use Rattle.c_match.specs.Values.{IsValue}
use Rattle.c_match.specs.Bytes.{AreBytesOf}
use Rattle.c_match.specs.Held.{IsHeldIn, IsHeld, AreHeld, IsOpenTo, IsAlignment}
use Rattle.c_match.specs.Left.{IsPrivate, IsLeft}
use Rattle.c_match.proofs.lemmas.Lists.{bytes_over, bytes_before, bytes_behind}
use Rattle.c_match_objects.specs.Accesses.{IsKept}
use Rattle.c_match_objects.proofs.lemmas.Reached.{IsReached, IsAccess, there, access, goes_there, home_lives, made_of}

-- ---- an object of C that was stored to is the one before, with other bytes

pub record WasThere (old : List Old) (p : ℕ) (x : Old) : Type 0 where
  pub before : Old
  pub there : slice_get old p ≡ Some before
  pub made : x.made ≡ before.made
  pub long : length x.bytes ≡ length before.bytes

pub was_there : (old : List Old) (o place : ℕ) (new : List (Byte Value)) (p : ℕ) (x : Old) → slice_get (stored old o place new) p ≡ Some x → WasThere old p x
was_there [] o place new p x e = absurd (let never : ⊥ = cc in never)
was_there (y ∷ ys) zero place new zero x e =
    let same : with_bytes y place new ≡ x = cc in
    record { before = y; there = refl; made = ap (λ (z : Old). z.made) (sym same); long = ap (λ (z : Old). length z.bytes) (sym same) ∙ length-overwritten place new y.bytes }
was_there (y ∷ ys) zero place new (suc p) x e = record { before = x; there = e; made = refl; long = refl }
was_there (y ∷ ys) (suc o) place new zero x e = record { before = y; there = refl; made = (let same : y ≡ x = cc in ap (λ (z : Old). z.made) (sym same)); long = (let same : y ≡ x = cc in ap (λ (z : Old). length z.bytes) (sym same)) }
was_there (y ∷ ys) (suc o) place new (suc p) x e = let w = was_there ys o place new p x e in record { before = w.before; there = w.there; made = w.made; long = w.long }

-- ---- the object that is stored to

module _ (map : Map) (old : List Old) (objects : List Object) (p : Value) (w : Word) (bytes : List (Byte Value)) (other : List (Byte Word)) (r : IsReached map old objects p w) (h : AreHeld map old objects) (are : AreBytesOf map bytes other) (long : length bytes ≡ length other) (inside : r.offset + length other ≤ r.name.size) where
  abbrev after : List Object
  after = put objects r.range.object.place (r.range.start + r.offset) other

  abbrev new : List Old
  new = stored old r.name.place r.offset bytes

  own_held : IsHeldIn map (with_bytes r.it r.offset bytes) after r.range
  own_held =
      let g = r.held in
      record {
        home = with_words g.home (r.range.start + r.offset) other;
        there = stored_at objects r.range.object.place (r.range.start + r.offset) other g.home g.there;
        made = g.made;
        size = length-overwritten (r.range.start + r.offset) other g.home.bytes ∙ g.size;
        words = g.words;
        start = g.start;
        inside = (let l = length-overwritten r.offset bytes r.it.bytes in let i = g.inside in omega (arith, l, i));
        bytes = bytes_over map r.range.start r.offset (r.range.start + r.offset) bytes r.it.bytes other g.home.bytes g.bytes are long refl;
        writable = g.writable;
      }

  -- one in the same home
  beside : (x : Old) (s : Range) → IsHeldIn map x objects s → (same : s.object.place ≡ r.range.object.place) → (r.range.start + length r.it.bytes ≤ s.start) ⊎ (s.start + length x.bytes ≤ r.range.start) → IsHeldIn map x after s
  beside x s g same apart =
      let k = r.range.start + r.offset in
      let all = size_of r.name r.it r.named in
      record {
        home = with_words g.home k other;
        there = ap (λ (n : ℕ). slice_get after n) same ∙ stored_at objects r.range.object.place k other g.home (sym (ap (λ (n : ℕ). slice_get objects n) same) ∙ g.there);
        made = g.made;
        size = length-overwritten k other g.home.bytes ∙ g.size;
        words = g.words;
        start = g.start;
        inside = g.inside;
        bytes = elim apart [
          | inl before ↦ bytes_behind map s.start k x.bytes other g.home.bytes g.bytes (omega (arith, all, inside, before))
          | inr behind ↦ bytes_before map s.start k x.bytes other g.home.bytes g.bytes (omega (arith, behind))
        ];
        writable = g.writable;
      }

  -- one in another
  away : (x : Old) (s : Range) → IsHeldIn map x objects s → (s.object.place ≡ r.range.object.place → ⊥) → IsHeldIn map x after s
  away x s g other_home =
      record {
        home = g.home;
        there = stored_elsewhere objects r.range.object.place (r.range.start + r.offset) other s.object.place other_home ∙ g.there;
        made = g.made;
        size = g.size;
        words = g.words;
        start = g.start;
        inside = g.inside;
        bytes = g.bytes;
        writable = g.writable;
      }

  other_held : (q : ℕ) (x : Old) → (q ≡ r.name.place → ⊥) → slice_get old q ≡ Some x → IsHeld map x after
  other_held q x ne e =
      let g = h.held q x e in
      let s = g.range in
      record {
        range = s;
        is = g.is;
        held = elim (s.object.place == r.range.object.place) as (λ b. (s.object.place == r.range.object.place) ≡ b → IsHeldIn map x after s) [
          | true ↦ (λ t. let same = eqb-true s.object.place r.range.object.place t in beside x s g.held same (h.apart r.name.place q r.it x r.range s r.lives e (λ f. ne (sym f)) r.is g.is (sym same)))
          | false ↦ (λ t. away x s g.held (eqb-false s.object.place r.range.object.place t))
        ] refl;
      }

  its_bytes : (x : Old) → slice_get new r.name.place ≡ Some x → with_bytes r.it r.offset bytes ≡ x
  its_bytes x e = let f = old_at old r.name.place r.offset bytes r.it r.lives in cc

  each_held : (q : ℕ) (x : Old) → slice_get new q ≡ Some x → IsHeld map x after
  each_held q x e =
      elim (q == r.name.place) as (λ b. (q == r.name.place) ≡ b → IsHeld map x after) [
        | true ↦ (λ t.
            let at = eqb-true q r.name.place t in
            let same = its_bytes x (sym (ap (λ (n : ℕ). slice_get new n) at) ∙ e) in
            subst (λ (y : Old). IsHeld map y after) same (record { range = r.range; is = r.is; held = own_held }))
        | false ↦ (λ t. let ne = eqb-false q r.name.place t in other_held q x ne (sym (old_elsewhere old r.name.place r.offset bytes q ne) ∙ e))
      ] refl

  still_apart : (a b : ℕ) (x y : Old) (s t : Range) → slice_get new a ≡ Some x → slice_get new b ≡ Some y → (a ≡ b → ⊥) → map x.made ≡ Some s → map y.made ≡ Some t → AreApart s (length x.bytes) t (length y.bytes)
  still_apart a b x y s t e f ne i j =
      let u = was_there old r.name.place r.offset bytes a x e in
      let v = was_there old r.name.place r.offset bytes b y f in
      let apart = h.apart a b u.before v.before s t u.there v.there ne (sym (ap map u.made) ∙ i) (sym (ap map v.made) ∙ j) in
      λ same. elim (apart same) [
        | inl before ↦ inl (let l = u.long in omega (arith, l, before))
        | inr behind ↦ inr (let l = v.long in omega (arith, l, behind))
      ]

  pub store_holds : AreHeld map new after
  store_holds = record { held = each_held; apart = still_apart }

  pub store_leaves : IsLeft map old objects after
  store_leaves place within private = stored_elsewhere objects r.range.object.place (r.range.start + r.offset) other place (λ e. private r.name.place r.it r.range r.lives r.is (sym e))

  pub store_hides : (place : ℕ) → IsPrivate map old place → IsPrivate map new place
  store_hides place private q x s e i same =
      let u = was_there old r.name.place r.offset bytes q x e in
      private q u.before s u.there (sym (ap map u.made) ∙ i) same

  -- what is stored to may be written
  pub store_keeps_constants : r.held.home.constant ≡ false → (place : ℕ) (home : Object) → slice_get objects place ≡ Some home → home.constant ≡ true → slice_get after place ≡ Some home
  store_keeps_constants opens place home lives locked =
      stored_elsewhere objects r.range.object.place (r.range.start + r.offset) other place
      (λ e. let same : slice_get objects place ≡ Some r.held.home = ap (λ (n : ℕ). slice_get objects n) e ∙ r.held.there in let one : home ≡ r.held.home = cc in true≢false (sym locked ∙ ap (λ (x : Object). x.constant) one ∙ opens))
      ∙ lives

-- ---- whether it is refused

four_false : (a b c d : Bool) (x y z u : Cause) → first_cause ((a, x) ∷ (b, y) ∷ (c, z) ∷ []) ≡ None → d ≡ false → first_cause ((a, x) ∷ (b, y) ∷ (c, z) ∷ (d, u) ∷ []) ≡ None
four_false true b c d x y z u e f = absurd (let never : ⊥ = cc in never)
four_false false true c d x y z u e f = absurd (let never : ⊥ = cc in never)
four_false false false true d x y z u e f = absurd (let never : ⊥ = cc in never)
four_false false false false d x y z u e f = ap (λ (b : Bool). first_cause ((b, u) ∷ [])) f

not_refused : (purpose : Purpose) (old : List Old) (p : Value) (size alignment : ℕ) → write_cause purpose old p size alignment ≡ None → is_refused purpose old p ≡ false
not_refused purpose old p size alignment e =
    let last = (is_refused purpose old p, ReadOnly) ∷ [] in
    let third = (is_dead old p, Dead) ∷ last in
    let second = (is_misaligned alignment p, Misaligned) ∷ third in
    first_not (is_refused purpose old p) ReadOnly []
    (first_rest (is_dead old p) Dead last (first_rest (is_misaligned alignment p) Misaligned third (first_rest (is_outside size p) Outside second e)))

is_found : (name : ObjectName) (old : List Old) (x : Old) → slice_get old name.place ≡ Some x → is_named name x ≡ true → object_of old name ≡ Some x
is_found name old x e n = ap (λ o. if_named name o) e ∙ ap (λ (b : Bool). if b then Some x else None) n

-- the home may be written
home_open : (purpose : Purpose) (map : Map) (old : List Old) (objects : List Object) (p : Value) (w : Word) → (r : IsReached map old objects p w) → IsOpenTo purpose map objects p → is_refused purpose old p ≡ false → r.held.home.constant ≡ false
home_open Assignment map old objects p w r may e =
    r.held.writable (sym (ap (λ o. is_constant o) (is_found r.name old r.it r.lives r.named)) ∙ sym (ap (λ q. is_refused Assignment old q) r.points) ∙ e)
home_open Initialisation map old objects p w r may e =
    let opens = subst (λ (q : Value). IsOpenTo Initialisation map objects q) r.points may in
    opens r.range r.held.home (sym (ap map (made_of r.name r.it r.named)) ∙ r.is) r.held.there

pub writes_there : (map : Map) (old : List Old) (objects : List Object) (purpose : Purpose) (p : Value) (w : Word) (size alignment : ℕ) → IsAlignment alignment → IsOpenTo purpose map objects p → write_cause purpose old p size alignment ≡ None → (a : IsAccess map old objects p w size alignment) → write_cause Assignment (shapes objects) (there a.reached) size alignment ≡ None
writes_there map old objects purpose p w size alignment ok may e a =
    let r = a.reached in
    let q = there r in
    four_false (is_outside size q) (is_misaligned alignment q) (is_dead (shapes objects) q) (is_refused Assignment (shapes objects) q) Outside Misaligned Dead ReadOnly
    (goes_there map old objects p w size alignment ok a)
    (ap (λ o. is_constant o) (home_lives map r.it objects r.range r.held) ∙ home_open purpose map old objects p w r may (not_refused purpose old p size alignment e))

-- ---- the store

pub store_goes : (map : Map) (old : List Old) (objects : List Object) (purpose : Purpose) (p : Value) (w : Word) (size alignment : ℕ) (bytes : List (Byte Value)) (other : List (Byte Word)) → AreHeld map old objects → IsValue map p w → IsAlignment alignment → IsOpenTo purpose map objects p → AreBytesOf map bytes other → length bytes ≡ size → length other ≡ size → write_cause purpose old p size alignment ≡ None → (q : Value) × (w ≡ Plain q) × (write_cause Assignment (shapes objects) q size alignment ≡ None) × IsKept map old (c.stored_through old p bytes) objects (stored_through objects q other)
store_goes map old objects purpose p w size alignment bytes other h is ok may are lb lo e =
    let a = access map old objects p w size alignment h is (readable purpose old p size alignment e) in
    let r = a.reached in
    let i = a.inside in
    let inside : r.offset + length other ≤ r.name.size = omega (arith, i, lo) in
    let kept : IsKept map old (stored old r.name.place r.offset bytes) objects (stored_through objects (there r) other) =
    record {
      held = store_holds map old objects p w bytes other r h are (lb ∙ sym lo) inside;
      left = store_leaves map old objects p w bytes other r h are (lb ∙ sym lo) inside;
      private = store_hides map old objects p w bytes other r h are (lb ∙ sym lo) inside;
      constants = store_keeps_constants map old objects p w bytes other r h are (lb ∙ sym lo) inside (home_open purpose map old objects p w r may (not_refused purpose old p size alignment e));
    } in
    (there r, r.word, writes_there map old objects purpose p w size alignment ok may e a, subst (λ (os : List Old). IsKept map old os objects (stored_through objects (there r) other)) (sym (ap (λ q. c.stored_through old q bytes) r.points)) kept)
