-- Objects that begin and end.
use Rattle.std.specs.Prelude.{◌≡◌, ◌≤◌, ◌<◌, ◌⊎◌, ℕ, zero, suc, ◌+◌, ◌==◌, Bool, true, false, Some, None, List, [], ◌∷◌, ◌++◌, length, take, drop, replicate, slice_get}
use Rattle.std.proofs.Common.{refl, ap, sym, subst, inl, inr, ◌∙◌, arith}
use Rattle.std.proofs.lemmas.Bool.{eqb-true, eqb-false}
use Rattle.std.proofs.lemmas.Option.{slice_get_within}
use Rattle.objects.specs.declared.value.ObjectName.{ObjectName}
use Rattle.objects.specs.declared.value.Value.TheVariants.{Pointer}
use Rattle.objects.specs.Bytes.{unknown_byte}
use Rattle.objects.specs.Objects.{flagged, flagged_through}
use Rattle.objects.specs.Objects.{Object as Old}
use Rattle.forests.specs.Objects.{Object}
use Rattle.c_match.specs.Ranges.{Range, Map, Grown, AreApart, with_range}
use Rattle.c_match.specs.Bytes.{AreBytesOf}
use Rattle.c_match.specs.Held.{IsHeldIn, IsHeld, AreHeld}
use Rattle.c_match.specs.Left.{IsPrivate, IsLeft}
use Rattle.c_match.proofs.lemmas.Growing.{bytes_grow, range_is, range_elsewhere, range_grows}

-- ---- objects of forests alone

pub in_same_home : (map : Map) (x : Old) (objects new : List Object) (r : Range) → IsHeldIn map x objects r → slice_get new r.object.place ≡ slice_get objects r.object.place → IsHeldIn map x new r
in_same_home map x objects new r h e = record {
  home = h.home;
  there = e ∙ h.there;
  made = h.made;
  size = h.size;
  words = h.words;
  start = h.start;
  inside = h.inside;
  bytes = h.bytes;
  writable = h.writable;
}

pub held_by_same_homes : (map : Map) (old : List Old) (objects new : List Object) → AreHeld map old objects → ((p : ℕ) (x : Old) (r : Range) → slice_get old p ≡ Some x → map x.made ≡ Some r → slice_get new r.object.place ≡ slice_get objects r.object.place) → AreHeld map old new
held_by_same_homes map old objects new h same = record {
  held = λ p x e. (let g = h.held p x e in record { range = g.range; is = g.is; held = in_same_home map x objects new g.range g.held (same p x g.range e g.is) });
  apart = h.apart;
}

before : {A : Type 0} (xs ys : List A) (n : ℕ) → n < length xs → slice_get (xs ++ ys) n ≡ slice_get xs n
before [] ys n h = absurd (let never : ⊥ = omega arith in never)
before (x ∷ xs) ys zero h = refl
before (x ∷ xs) ys (suc n) h = before xs ys n (omega arith)

same_range : (map : Map) (m : ℕ) (r s : Range) → map m ≡ Some r → map m ≡ Some s → r ≡ s
same_range map m r s e f = cc

-- the place of a home
pub home_within : (map : Map) (old : List Old) (objects : List Object) (p : ℕ) (x : Old) (r : Range) → AreHeld map old objects → slice_get old p ≡ Some x → map x.made ≡ Some r → r.object.place < length objects
home_within map old objects p x r h e f =
    let g = h.held p x e in
    let same = same_range map x.made g.range r g.is f in
    subst (λ (s : Range). s.object.place < length objects) same (slice_get_within objects g.range.object.place g.held.home g.held.there)

pub homes_begin : (map : Map) (old : List Old) (objects more : List Object) → AreHeld map old objects → AreHeld map old (objects ++ more) × IsLeft map old objects (objects ++ more) × ((place : ℕ) → length objects ≤ place → IsPrivate map old place)
homes_begin map old objects more h = (
  held_by_same_homes map old objects (objects ++ more) h (λ p x r e f. before objects more r.object.place (home_within map old objects p x r h e f)),
  λ place within private. before objects more place within,
  λ place past p x r e f same. let within = home_within map old objects p x r h e f in let never : ⊥ = omega (arith, within, past, same) in never,
)

pub leaving_goes_on : (map more : Map) (old later : List Old) (first second third : List Object) → IsLeft map old first second → IsLeft more later second third → length first ≤ length second → ((place : ℕ) → place < length first → IsPrivate map old place → IsPrivate more later place) → IsLeft map old first third
leaving_goes_on map more old later first second third a b le stays place within private = b place (omega (arith, within, le)) (stays place within private) ∙ a place within private

-- ---- an object of C begins

get_more : {A : Type 0} (xs : List A) (y : A) (n : ℕ) (z : A) → slice_get (xs ++ y ∷ []) n ≡ Some z → (slice_get xs n ≡ Some z) ⊎ ((n ≡ length xs) × (y ≡ z))
get_more [] y zero z e = inr (refl, cc)
get_more [] y (suc n) z e = absurd (let never : ⊥ = cc in never)
get_more (x ∷ xs) y zero z e = inl e
get_more (x ∷ xs) y (suc n) z e = elim (get_more xs y n z e) [ inl f ↦ inl f | inr f ↦ inr (ap suc f.0, f.1) ]

not_none : (map : Map) (m n : ℕ) (r : Range) → map m ≡ None → map n ≡ Some r → n ≡ m → ⊥
not_none map m n r none some e = let never : ⊥ = (let f : map n ≡ map m = ap map e in cc) in never

grown_in : (map more : Map) (x : Old) (objects : List Object) (r : Range) → Grown map more → IsHeldIn map x objects r → IsHeldIn more x objects r
grown_in map more x objects r g h = record {
  home = h.home;
  there = h.there;
  made = h.made;
  size = h.size;
  words = h.words;
  start = h.start;
  inside = h.inside;
  bytes = bytes_grow map more x.bytes _ g h.bytes;
  writable = h.writable;
}

-- what is held is so where further objects have ranges
pub held_grows : (map more : Map) (x : Old) (objects : List Object) → Grown map more → IsHeld map x objects → IsHeld more x objects
held_grows map more x objects g h = record { range = h.range; is = g x.made h.range h.is; held = grown_in map more x objects h.range g h.held }

turned : (r s : Range) (m n : ℕ) → AreApart r m s n → AreApart s n r m
turned r s m n h e = elim (h (sym e)) [ inl a ↦ inr a | inr b ↦ inl b ]

module _ (map : Map) (old : List Old) (objects : List Object) (x : Old) (range : Range) (h : AreHeld map old objects) (none : map x.made ≡ None) (in_home : IsHeldIn map x objects range) (far : (p : ℕ) (y : Old) (r : Range) → slice_get old p ≡ Some y → map y.made ≡ Some r → AreApart range (length x.bytes) r (length y.bytes)) where
  abbrev more : Map
  more = with_range x.made range map

  grows : Grown map more
  grows = range_grows x.made range map none

  new_held : IsHeld more x objects
  new_held = record { range = range; is = range_is x.made range map; held = grown_in map more x objects range grows in_home }

  each_held : (p : ℕ) (y : Old) → slice_get (old ++ x ∷ []) p ≡ Some y → IsHeld more y objects
  each_held p y e = elim (get_more old x p y e) [
    | inl f ↦ held_grows map more y objects grows (h.held p y f)
    | inr f ↦ subst (λ (z : Old). IsHeld more z objects) f.1 new_held
  ]

  -- the range of an object that was there
  as_before : (p : ℕ) (y : Old) (r : Range) → slice_get old p ≡ Some y → more y.made ≡ Some r → map y.made ≡ Some r
  as_before p y r e f =
      let g = h.held p y e in
      sym (range_elsewhere x.made range map y.made (not_none map x.made y.made g.range none g.is)) ∙ f

  its_range : (y : Old) (r : Range) → x ≡ y → more y.made ≡ Some r → range ≡ r
  its_range y r e f = let g = range_is x.made range map in let i : more x.made ≡ more y.made = ap (λ (z : Old). more z.made) e in cc

  still_apart : (p q : ℕ) (y z : Old) (r s : Range) → slice_get (old ++ x ∷ []) p ≡ Some y → slice_get (old ++ x ∷ []) q ≡ Some z → (p ≡ q → ⊥) → more y.made ≡ Some r → more z.made ≡ Some s → AreApart r (length y.bytes) s (length z.bytes)
  still_apart p q y z r s e f ne i j = elim (get_more old x p y e) [
    | inl a ↦ elim (get_more old x q z f) [
      | inl b ↦ h.apart p q y z r s a b ne (as_before p y r a i) (as_before q z s b j)
      | inr b ↦ turned s r (length z.bytes) (length y.bytes) (subst (λ (t : Range). AreApart t (length z.bytes) r (length y.bytes)) (its_range z s b.1 j) (subst (λ (o : Old). AreApart range (length o.bytes) r (length y.bytes)) b.1 (far p y r a (as_before p y r a i))))
    ]
    | inr a ↦ elim (get_more old x q z f) [
      | inl b ↦ subst (λ (t : Range). AreApart t (length y.bytes) s (length z.bytes)) (its_range y r a.1 i) (subst (λ (o : Old). AreApart range (length o.bytes) s (length z.bytes)) a.1 (far q z s b (as_before q z s b j)))
      | inr b ↦ absurd (ne (a.0 ∙ sym b.0))
    ]
  ]

  pub object_begins : AreHeld (with_range x.made range map) (old ++ x ∷ []) objects × Grown map (with_range x.made range map)
  object_begins = (record { held = each_held; apart = still_apart }, grows)

pub private_is_apart : (map : Map) (old : List Old) (range : Range) (size : ℕ) → IsPrivate map old range.object.place → (p : ℕ) (y : Old) (r : Range) → slice_get old p ≡ Some y → map y.made ≡ Some r → AreApart range size r (length y.bytes)
private_is_apart map old range size private p y r e f same = absurd (private p y r e f (sym same))

pub slot_holds : (map : Map) (size room : ℕ) → size ≤ room → AreBytesOf map (replicate size unknown_byte) (replicate room unknown_byte)
slot_holds map zero room h = tt
slot_holds map (suc size) zero h = absurd (let never : ⊥ = omega arith in never)
slot_holds map (suc size) (suc room) h = ((refl, refl), slot_holds map size room (omega arith))

-- ---- const objects

record WasFlagged (old : List Old) (o p : ℕ) (x : Old) : Type 0 where
  was : Old
  there : slice_get old p ≡ Some was
  made : x.made ≡ was.made
  bytes : x.bytes ≡ was.bytes
  kept : (p ≡ o → ⊥) → x.constant ≡ was.constant

was_flagged : (old : List Old) (o p : ℕ) (constant : Bool) (x : Old) → slice_get (flagged old o constant) p ≡ Some x → WasFlagged old o p x
was_flagged [] o p constant x e = absurd (let never : ⊥ = cc in never)
was_flagged (y ∷ ys) zero zero constant x e = let same : record { made = y.made; constant = constant; bytes = y.bytes } ≡ x = cc in record { was = y; there = refl; made = ap (λ (z : Old). z.made) (sym same); bytes = ap (λ (z : Old). z.bytes) (sym same); kept = λ h. absurd (h refl) }
was_flagged (y ∷ ys) zero (suc p) constant x e = record { was = x; there = e; made = refl; bytes = refl; kept = λ h. refl }
was_flagged (y ∷ ys) (suc o) zero constant x e = let same : y ≡ x = cc in record { was = y; there = refl; made = ap (λ (z : Old). z.made) (sym same); bytes = ap (λ (z : Old). z.bytes) (sym same); kept = λ h. ap (λ (z : Old). z.constant) (sym same) }
was_flagged (y ∷ ys) (suc o) (suc p) constant x e = let w = was_flagged ys o p constant x e in record { was = w.was; there = w.there; made = w.made; bytes = w.bytes; kept = λ h. w.kept (λ f. h (ap suc f)) }

pub flags_stay : (map : Map) (old : List Old) (objects : List Object) (name : ObjectName) (offset : ℕ) (constant : Bool) → AreHeld map old objects → ((x : Old) (r : Range) (home : Object) → slice_get old name.place ≡ Some x → map x.made ≡ Some r → slice_get objects r.object.place ≡ Some home → home.constant ≡ false) → AreHeld map (flagged_through old (Pointer name offset) constant) objects
flags_stay map old objects name offset constant h opens = record {
  held = λ p x e.
      (let w = was_flagged old name.place p constant x e in
      let g = h.held p w.was w.there in
      record {
        range = g.range;
        is = ap map w.made ∙ g.is;
        held = record {
          home = g.held.home;
          there = g.held.there;
          made = g.held.made;
          size = g.held.size;
          words = g.held.words;
          start = g.held.start;
          inside = subst (λ bs. g.range.start + length bs ≤ g.range.object.size) (sym w.bytes) g.held.inside;
          bytes = subst (λ bs. AreBytesOf map bs (drop g.range.start g.held.home.bytes)) (sym w.bytes) g.held.bytes;
          writable = λ free. elim (p == name.place) as (λ b. (p == name.place) ≡ b → g.held.home.constant ≡ false) [
            | true ↦ (λ t. opens w.was g.range g.held.home (sym (ap (λ (n : ℕ). slice_get old n) (eqb-true p name.place t)) ∙ w.there) g.is g.held.there)
            | false ↦ (λ t. g.held.writable (sym (w.kept (eqb-false p name.place t)) ∙ free))
          ] refl;
        };
      });
  apart = λ p q x y r s e f ne i j.
      (let v = was_flagged old name.place p constant x e in
      let w = was_flagged old name.place q constant y f in
      subst (λ bs. AreApart r (length bs) s (length y.bytes)) (sym v.bytes) (subst (λ bs. AreApart r (length v.was.bytes) s (length bs)) (sym w.bytes)
      (h.apart p q v.was w.was r s v.there w.there ne (sym (ap map v.made) ∙ i) (sym (ap map w.made) ∙ j))));
}

-- ---- objects end

taken : {A : Type 0} (n : ℕ) (xs : List A) (k : ℕ) (x : A) → slice_get (take n xs) k ≡ Some x → (k < n) × (slice_get xs k ≡ Some x)
taken zero xs k x e = absurd (let never : ⊥ = cc in never)
taken (suc n) [] k x e = absurd (let never : ⊥ = cc in never)
taken (suc n) (y ∷ ys) zero x e = (omega arith, e)
taken (suc n) (y ∷ ys) (suc k) x e = let t = taken n ys k x e in (let lt = t.0 in omega (arith, lt), t.1)

kept : {A : Type 0} (n : ℕ) (xs : List A) (k : ℕ) → k < n → slice_get (take n xs) k ≡ slice_get xs k
kept zero xs k h = absurd (let never : ⊥ = omega arith in never)
kept (suc n) [] k h = refl
kept (suc n) (x ∷ xs) zero h = refl
kept (suc n) (x ∷ xs) (suc k) h = kept n xs k (omega arith)

pub objects_end : (map : Map) (old : List Old) (objects : List Object) (count homes : ℕ) → AreHeld map old objects → ((p : ℕ) (x : Old) (r : Range) → p < count → slice_get old p ≡ Some x → map x.made ≡ Some r → r.object.place < homes) → AreHeld map (take count old) (take homes objects)
objects_end map old objects count homes h low = record {
  held = λ p x e.
      (let t = taken count old p x e in
      let g = h.held p x t.1 in
      record { range = g.range; is = g.is; held = in_same_home map x objects (take homes objects) g.range g.held (kept homes objects g.range.object.place (low p x g.range t.0 t.1 g.is)) });
  apart = λ p q x y r s e f ne i j. h.apart p q x y r s (taken count old p x e).1 (taken count old q y f).1 ne i j;
}
