-- The start: the unit's objects are new objects of a memory without any.
use Rattle.std.proofs.Common.{◌≡◌, inl, ℕ, zero, suc, ◌+◌, ◌%◌, ◌^◌, ◌<◌, ◌≤◌, List, [], ◌∷◌, length, Some, refl, ap, subst, arith}
use Rattle.std.specs.Prelude.{slice_get}
use Rattle.std.proofs.lemmas.Option.{slice_get_within}
use Rattle.objects.specs.declared.byte.Byte.{Byte}
use Rattle.forests.specs.Words.{Word}
use Rattle.forests.specs.Objects.{Object}
use Rattle.memory_map.specs.Maps.{start_at, HasByte}
use Rattle.memory_map.specs.Lies.{IsLaid, extended, Spread}
use Rattle.memory_map.specs.Frames.{up_four, data_places, EndBy, bare_map}
use Rattle.memory_map.specs.Lifetimes.{UnitsBegin}
use Rattle.memory_map.proofs.lemmas.Overwritten.{none_some, some_is}
use Rattle.memory_map.proofs.lemmas.New.{laid_new, new_start}

pub empty_laid : (functions : ℕ → ℕ) (labels : ℕ → ℕ → ℕ) (floor : ℕ) → IsLaid (bare_map functions labels) floor 0 []
empty_laid functions labels floor = record {
  known = λ o x e. absurd (none_some x e);
  fresh = λ m a e. absurd (none_some a e);
  four = λ m a e. absurd (none_some a e);
  room = λ o a x e f. absurd (none_some x e);
  apart = λ o i p j a c b d x y e f g. absurd (none_some b x);
}

above : (n : ℕ) → n ≤ up_four n
above n = omega arith

data_many : (a : ℕ) (xs : List Object) → length (data_places a xs) ≡ length xs
data_many a [] = refl
data_many a (x ∷ xs) = ap suc (data_many (up_four (a + length x.bytes)) xs)

data_four : (a : ℕ) (xs : List Object) → a % 4 ≡ 0 → (k c : ℕ) → slice_get (data_places a xs) k ≡ Some c → c % 4 ≡ 0
data_four a [] four k c e = absurd (none_some c e)
data_four a (x ∷ xs) four zero c e = subst (λ (n : ℕ). n % 4 ≡ 0) (some_is a c e) four
data_four a (x ∷ xs) four (suc k) c e = data_four (up_four (a + length x.bytes)) xs (omega arith) k c e

data_low : (a : ℕ) (xs : List Object) (k c : ℕ) → slice_get (data_places a xs) k ≡ Some c → a ≤ c
data_low a [] k c e = absurd (none_some c e)
data_low a (x ∷ xs) zero c e = let q = some_is a c e in omega (arith, q)
data_low a (x ∷ xs) (suc k) c e = let l = data_low (up_four (a + length x.bytes)) xs k c e in let u = above (a + length x.bytes) in omega (arith, l, u)

pub data_ends : (last a : ℕ) (xs : List Object) → EndBy last a xs → (k c : ℕ) (x : Object) → slice_get xs k ≡ Some x → slice_get (data_places a xs) k ≡ Some c → c + length x.bytes ≤ last
data_ends last a [] ends k c x e f = absurd (none_some x e)
data_ends last a (y ∷ ys) ends zero c x e f =
    let same = some_is a c f in
    let it = ap (λ (z : Object). length z.bytes) (some_is y x e) in
    let l = ends.0 in
    omega (arith, same, it, l)
data_ends last a (y ∷ ys) ends (suc k) c x e f = data_ends last (up_four (a + length y.bytes)) ys ends.1 k c x e f

data_apart : (a : ℕ) (xs : List Object) (k i l j p c : ℕ) (b d : Byte Word) → HasByte xs k i b → HasByte xs l j d → slice_get (data_places a xs) k ≡ Some p → slice_get (data_places a xs) l ≡ Some c → p + i ≡ c + j → k ≡ l
data_apart a [] k i l j p c b d x y e f g = absurd (none_some b x)
data_apart a (o ∷ os) zero i zero j p c b d x y e f g = refl
data_apart a (o ∷ os) zero i (suc l) j p c b d x y e f g =
    let w = slice_get_within o.bytes i b x in let q = some_is a p e in let m = data_low (up_four (a + length o.bytes)) os l c f in let u = above (a + length o.bytes) in absurd (let never : ⊥ = omega (arith, w, q, m, u, g) in never)
data_apart a (o ∷ os) (suc k) i zero j p c b d x y e f g =
    let w = slice_get_within o.bytes j d y in let q = some_is a c f in let m = data_low (up_four (a + length o.bytes)) os k p e in let u = above (a + length o.bytes) in absurd (let never : ⊥ = omega (arith, w, q, m, u, g) in never)
data_apart a (o ∷ os) (suc k) i (suc l) j p c b d x y e f g = ap suc (data_apart (up_four (a + length o.bytes)) os k i l j p c b d x y e f g)

pub data_spread : (floor a : ℕ) (xs : List Object) → a % 4 ≡ 0 → 0 < a → floor < 2 ^ 32 → EndBy floor a xs → Spread floor (data_places a xs) xs
data_spread floor a xs four some small ends = record {
  many = data_many a xs;
  four = data_four a xs four;
  room = λ k c x e f.
      let l = data_ends floor a xs ends k c x e f in
      let m = data_low a xs k c f in
      record { some = omega (arith, m, some); small = omega (arith, l, small); side = inl l };
  apart = data_apart a xs;
}

-- where the data hold the objects' bytes, the objects lie there
pub start_lies : UnitsBegin
start_lies functions labels floor a xs memory four some small ends numbered stand = record {
  laid = subst (λ (n : ℕ). IsLaid (extended (bare_map functions labels) 0 (data_places a xs)) floor n xs) (zero_plus (length xs))
      (laid_new (bare_map functions labels) floor 0 [] xs (data_places a xs) (empty_laid functions labels floor) numbered (data_spread floor a xs four some small ends) (λ o i p b x e of. none_some b x));
  bytes = λ o i p b x e. stand o i p b x (placed o i p b x e);
}
  where
    zero_plus : (n : ℕ) → 0 + n ≡ n
    zero_plus n = omega arith

    placed : (o i p : ℕ) (b : Byte Word) → HasByte xs o i b → start_at (extended (bare_map functions labels) 0 (data_places a xs)) xs o ≡ Some p → slice_get (data_places a xs) o ≡ Some p
    placed o i p b has e = new_start (bare_map functions labels) floor 0 [] xs (data_places a xs) (empty_laid functions labels floor) numbered o o i p b (omega arith) has e
