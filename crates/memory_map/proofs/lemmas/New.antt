-- New objects, and addresses that they are clear of.
use Rattle.std.proofs.Common.{◌≡◌, ◌⊎◌, inl, inr, ⊎_elim, ℕ, zero, suc, ◌+◌, ◌-◌, ◌%◌, ◌<◌, ◌≤◌, List, [], ◌∷◌, ◌++◌, length, Option, Some, refl, sym, ap, ◌∙◌, subst, arith}
use Rattle.std.specs.Prelude.{slice_get, nat_lt, true}
use Rattle.std.proofs.lemmas.Bool.{cases_lt, cond-true, cond-false, lt-ltb, le-ltb}
use Rattle.std.proofs.lemmas.Option.{slice_get_within}
use Rattle.objects.specs.declared.byte.Byte.{Byte}
use Rattle.forests.specs.Words.{Word}
use Rattle.forests.specs.Objects.{Object, contents}
use Rattle.memory_map.specs.Maps.{Map, IsByte, Grown, start_of, start_at, HasByte}
use Rattle.memory_map.specs.Lies.{HasRoom, IsLaid, IsClear, object_at, extended, AreNumbered, Spread, IsOf}
use Rattle.memory_map.specs.Lifetimes.{MapsGrow, ObjectsBegin}
use Rattle.memory_map.specs.Privacy.{ClearNew}
use Rattle.memory_map.proofs.lemmas.Lying.{grown_byte, has_object}

-- ---- the extended map

pub front_at : (map : Map) (made : ℕ) (places : List ℕ) (m : ℕ) → m < made → object_at map made places m ≡ map.object m
front_at map made places m l = cond-true (nat_lt m made) (map.object m) (slice_get places (m - made)) (lt-ltb m made l)

pub behind_at : (map : Map) (made : ℕ) (places : List ℕ) (m k : ℕ) → m ≡ made + k → object_at map made places m ≡ slice_get places k
behind_at map made places m k e =
    cond-false (nat_lt m made) (map.object m) (slice_get places (m - made)) (le-ltb m made (omega (arith, e))) ∙ (let q : m - made ≡ k = omega (arith, e) in ap (slice_get places) q)

pub grown_extended : MapsGrow
grown_extended map floor made objects places l = record {
  objects = λ o a e. front_at map made places o (l.fresh o a e) ∙ e;
  functions = λ f. refl;
  labels = λ f k. refl;
}

-- ---- lists, one behind the other

pub get_front : {A : Type 0} (old new : List A) (o : ℕ) → o < length old → slice_get (old ++ new) o ≡ slice_get old o
get_front [] new o l = absurd (omega (arith, l))
get_front (x ∷ xs) new zero l = refl
get_front (x ∷ xs) new (suc o) l = get_front xs new o (omega (arith, l))

pub get_behind : {A : Type 0} (old new : List A) (o k : ℕ) → o ≡ length old + k → slice_get (old ++ new) o ≡ slice_get new k
get_behind [] new o k e = let q : o ≡ k = omega (arith, e) in ap (slice_get new) q
get_behind (x ∷ xs) new zero k e = absurd (omega (arith, e))
get_behind (x ∷ xs) new (suc o) k e = get_behind xs new o k (omega (arith, e))

-- an element is an old one or a new one
abbrev pub Either : {A : Type 0} → List A → List A → ℕ → A → Type 0
Either old new o x = ((o < length old) × (slice_get old o ≡ Some x)) ⊎ ((k : ℕ) × (o ≡ length old + k) × (slice_get new k ≡ Some x))

pub either : {A : Type 0} (old new : List A) (o : ℕ) (x : A) → slice_get (old ++ new) o ≡ Some x → Either old new o x
either old new o x e = ⊎_elim
    (λ l. inl (l, sym (get_front old new o l) ∙ e))
    (λ l. let s : o ≡ length old + (o - length old) = omega (arith, l) in inr (o - length old, s, sym (get_behind old new o (o - length old) s) ∙ e))
    (cases_lt o (length old))

-- a byte is an old object's or a new one's
abbrev pub Joint : List Object → List Object → ℕ → ℕ → Byte Word → Type 0
Joint old new o i b = ((o < length old) × HasByte old o i b) ⊎ ((k : ℕ) × (o ≡ length old + k) × HasByte new k i b)

pub joint : (old new : List Object) (o i : ℕ) (b : Byte Word) → HasByte (old ++ new) o i b → Joint old new o i b
joint old new o i b e = ⊎_elim
    (λ l. inl (l, subst (λ (x : Option Object). slice_get (contents x) i ≡ Some b) (get_front old new o l) e))
    (λ l. let s : o ≡ length old + (o - length old) = omega (arith, l) in inr (o - length old, s, subst (λ (x : Option Object). slice_get (contents x) i ≡ Some b) (get_behind old new o (o - length old) s) e))
    (cases_lt o (length old))

some_place : (ps : List ℕ) (k : ℕ) → k < length ps → (a : ℕ) × (slice_get ps k ≡ Some a)
some_place [] k low = absurd (omega (arith, low))
some_place (q ∷ ps) zero low = (q, refl)
some_place (q ∷ ps) (suc k) low = some_place ps k (omega (arith, low))

-- ---- what the extended map gives the objects

module _ (map : Map) (floor made : ℕ) (objects new : List Object) (places : List ℕ) (laid : IsLaid map floor made objects) (numbered : AreNumbered made new) where
  more : Map
  more = extended map made places

  -- an object that was there has its address
  old_object : (o : ℕ) (x : Object) → slice_get objects o ≡ Some x → object_at map made places x.made ≡ map.object x.made
  old_object o x e = let k = laid.known o x e in front_at map made places x.made (laid.fresh x.made k.0 k.1)

  new_object : (k : ℕ) (x : Object) → slice_get new k ≡ Some x → object_at map made places x.made ≡ slice_get places k
  new_object k x e = behind_at map made places x.made k (numbered k x e)

  pub old_start : (o i a : ℕ) (b : Byte Word) → o < length objects → HasByte objects o i b → start_at (extended map made places) (objects ++ new) o ≡ Some a → start_at map objects o ≡ Some a
  old_start o i a b l has e =
      let x = has_object objects o i b has in
      ap (start_of map) x.1 ∙ sym (old_object o x.0 x.1) ∙ sym (ap (start_of (extended map made places)) (get_front objects new o l ∙ x.1)) ∙ e

  pub new_start : (o k i a : ℕ) (b : Byte Word) → o ≡ length objects + k → HasByte new k i b → start_at (extended map made places) (objects ++ new) o ≡ Some a → slice_get places k ≡ Some a
  new_start o k i a b is has e =
      let x = has_object new k i b has in
      sym (new_object k x.0 x.1) ∙ sym (ap (start_of (extended map made places)) (get_behind objects new o k is ∙ x.1)) ∙ e

  -- addresses that the new objects are clear of too
  pub clear_behind : (P : ℕ → Type 0) → ((x : ℕ) → IsOf places new x → P x → ⊥) → IsClear map objects P → IsClear (extended map made places) (objects ++ new) P
  clear_behind P off clear o i a b has e p = either_way (joint objects new o i b has)
    where
      either_way : Joint objects new o i b → ⊥
      either_way (inl x) = clear o i a b x.1 (old_start o i a b x.0 x.1 e) p
      either_way (inr x) = off (a + i) (record { object = x.0; place = i; start = a; byte = b; there = new_start o x.0 i a b x.1 x.2 e; has = x.2; is = refl }) p

  known : (s : Spread floor places new) (o : ℕ) (x : Object) → slice_get (objects ++ new) o ≡ Some x → (a : ℕ) × (object_at map made places x.made ≡ Some a)
  known s o x e = known_by (either objects new o x e)
    where
      known_by : Either objects new o x → (a : ℕ) × (object_at map made places x.made ≡ Some a)
      known_by (inl q) = let k = laid.known o x q.1 in (k.0, old_object o x q.1 ∙ k.1)
      known_by (inr q) =
          let place = some_place places q.0 (let l = slice_get_within new q.0 x q.2 in let m = s.many in omega (arith, l, m)) in
          (place.0, new_object q.0 x q.2 ∙ place.1)

  split : (m : ℕ) → made ≤ m → m ≡ made + (m - made)
  split m l = omega (arith, l)

  fresh : (s : Spread floor places new) (m a : ℕ) → object_at map made places m ≡ Some a → m < made + length new
  fresh s m a e = ⊎_elim
      (λ l. omega (arith, l))
      (λ l. let w = slice_get_within places (m - made) a (sym (behind_at map made places m (m - made) (split m l)) ∙ e) in let n = s.many in omega (arith, w, n, l))
      (cases_lt m made)

  four : (s : Spread floor places new) (m a : ℕ) → object_at map made places m ≡ Some a → a % 4 ≡ 0
  four s m a e = ⊎_elim
      (λ l. laid.four m a (sym (front_at map made places m l) ∙ e))
      (λ l. s.four (m - made) a (sym (behind_at map made places m (m - made) (split m l)) ∙ e))
      (cases_lt m made)

  room : (s : Spread floor places new) (o a : ℕ) (x : Object) → slice_get (objects ++ new) o ≡ Some x → object_at map made places x.made ≡ Some a → HasRoom floor a (length x.bytes)
  room s o a x e f = room_by (either objects new o x e)
    where
      room_by : Either objects new o x → HasRoom floor a (length x.bytes)
      room_by (inl q) = laid.room o a x q.1 (sym (old_object o x q.1) ∙ f)
      room_by (inr q) = s.room q.0 a x q.2 (sym (new_object q.0 x q.2) ∙ f)

  meets : (clear : IsClear map objects (IsOf places new)) (o i a : ℕ) (b : Byte Word) (k j c : ℕ) (d : Byte Word) → HasByte objects o i b → start_at map objects o ≡ Some a → HasByte new k j d → slice_get places k ≡ Some c → a + i ≡ c + j → ⊥
  meets clear o i a b k j c d x e y f g = clear o i a b x e (record { object = k; place = j; start = c; byte = d; there = f; has = y; is = g })

  apart : (s : Spread floor places new) (clear : IsClear map objects (IsOf places new)) (o i p j a c : ℕ) (b d : Byte Word) → start_at (extended map made places) (objects ++ new) o ≡ Some a → start_at (extended map made places) (objects ++ new) p ≡ Some c → a + i ≡ c + j → Joint objects new o i b → Joint objects new p j d → o ≡ p
  apart s clear o i p j a c b d e f g (inl x) (inl y) = laid.apart o i p j a c b d x.1 y.1 (old_start o i a b x.0 x.1 e) (old_start p j c d y.0 y.1 f) g
  apart s clear o i p j a c b d e f g (inl x) (inr y) = absurd (meets clear o i a b y.0 j c d x.1 (old_start o i a b x.0 x.1 e) y.2 (new_start p y.0 j c d y.1 y.2 f) g)
  apart s clear o i p j a c b d e f g (inr x) (inl y) = absurd (meets clear p j c d x.0 i a b y.1 (old_start p j c d y.0 y.1 f) x.2 (new_start o x.0 i a b x.1 x.2 e) (sym g))
  apart s clear o i p j a c b d e f g (inr x) (inr y) =
      x.1 ∙ ap (λ (m : ℕ). length objects + m) (s.apart x.0 i y.0 j a c b d x.2 y.2 (new_start o x.0 i a b x.1 x.2 e) (new_start p y.0 j c d y.1 y.2 f) g) ∙ sym y.1

  pub laid_new : Spread floor places new → IsClear map objects (IsOf places new) → IsLaid (extended map made places) floor (made + length new) (objects ++ new)
  laid_new s clear = record {
    known = λ o x e. known s o x e;
    fresh = λ m a e. fresh s m a e;
    four = λ m a e. four s m a e;
    room = λ o a x e f. room s o a x e f;
    apart = λ o i p j a c b d x y e f g. apart s clear o i p j a c b d e f g (joint objects new o i b x) (joint objects new p j d y);
  }

-- new objects
pub new_lies : ObjectsBegin
new_lies map floor made objects new places memory l numbered s clear stand = record {
  laid = laid_new map floor made objects new places l.laid numbered s clear;
  bytes = λ o i a b x e. byte o i a b e (joint objects new o i b x);
}
  where
    grown : Grown map (extended map made places)
    grown = grown_extended map floor made objects places l.laid

    byte : (o i a : ℕ) (b : Byte Word) → start_at (extended map made places) (objects ++ new) o ≡ Some a → Joint objects new o i b → (v : ℕ) × (memory (a + i) ≡ Some v) × IsByte (extended map made places) b v
    byte o i a b e (inl x) =
        let y = l.bytes o i a b x.1 (old_start map floor made objects new places l.laid numbered o i a b x.0 x.1 e) in
        (y.0, y.1, grown_byte map (extended map made places) b y.0 grown y.2)
    byte o i a b e (inr x) =
        let y = stand x.0 i a b x.2 (new_start map floor made objects new places l.laid numbered o x.0 i a b x.1 x.2 e) in
        (y.0, y.1, grown_byte map (extended map made places) b y.0 grown y.2)

pub clear_new : ClearNew
clear_new map floor made objects new places set laid numbered off clear = clear_behind map floor made objects new places laid numbered (λ x. set x ≡ true) off clear
