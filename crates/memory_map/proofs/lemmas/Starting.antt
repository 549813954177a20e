-- The world in which main is called.
use Rattle.std.proofs.Common.{◌≡◌, inr, ℕ, zero, suc, ◌+◌, ◌%◌, ◌<◌, List, [], ◌∷◌, ◌++◌, length, Option, Some, refl, sym, ap, ◌∙◌, subst, arith}
use Rattle.std.specs.Prelude.{slice_get, replicate}
use Rattle.std.proofs.lemmas.Option.{slice_get_within}
use Rattle.objects.specs.declared.byte.Byte.{Byte}
use Rattle.objects.specs.declared.byte.Byte.TheVariants.{Bits}
use Rattle.op_forest.specs.declared.lowered.LoweredObject.{LoweredObject}
use Rattle.op_forest.specs.Lowered.{LoweredUnit}
use Rattle.forests.specs.Words.{Word}
use Rattle.forests.specs.Objects.{Object}
use Rattle.forests.specs.Units.{objects_in, null_object}
use Rattle.memory_map.specs.Maps.{IsByte, start_at, HasByte}
use Rattle.memory_map.specs.Lies.{HasRoom, Lies, IsClear, extended, AreNumbered, Spread, IsOf, StandAll}
use Rattle.memory_map.specs.Frames.{data_places, bare_map}
use Rattle.memory_map.specs.Starts.{unit_objects, unit_map, IsLoaded, UnitsAreNumbered, MainBegins, MainIsHanded}
use Rattle.memory_map.proofs.lemmas.Overwritten.{none_some, some_is}
use Rattle.memory_map.proofs.lemmas.Lying.{has_object}
use Rattle.memory_map.proofs.lemmas.New.{behind_at, new_lies, new_start}
use Rattle.memory_map.proofs.lemmas.Beginning.{empty_laid, data_ends, start_lies}

numbered_from : (u : LoweredUnit) (place : ℕ) (os : List LoweredObject) → AreNumbered place (objects_in u place os)
numbered_from u place [] k x e = absurd (none_some x e)
numbered_from u place (o ∷ os) zero x e = let made = ap (λ (y : Object). y.made) (some_is _ x e) in omega (arith, made)
numbered_from u place (o ∷ os) (suc k) x e = let r = numbered_from u (suc place) os k x e in omega (arith, r)

as_many : (u : LoweredUnit) (place : ℕ) (os : List LoweredObject) → length (objects_in u place os) ≡ length os
as_many u place [] = refl
as_many u place (o ∷ os) = ap suc (as_many u (suc place) os)

pub units_numbered : UnitsAreNumbered
units_numbered u = (numbered_from u 0 u.objects, as_many u 0 u.objects)

four_zeros : (i : ℕ) (b : Byte Word) → slice_get (replicate 4 (Bits 255 0)) i ≡ Some b → (i < 4) × (b ≡ Bits 255 0)
four_zeros zero b e = (omega arith, sym (some_is (Bits 255 0) b e))
four_zeros (suc zero) b e = (omega arith, sym (some_is (Bits 255 0) b e))
four_zeros (suc (suc zero)) b e = (omega arith, sym (some_is (Bits 255 0) b e))
four_zeros (suc (suc (suc zero))) b e = (omega arith, sym (some_is (Bits 255 0) b e))
four_zeros (suc (suc (suc (suc i)))) b e = absurd (none_some b e)

module _ (functions : ℕ → ℕ) (labels : ℕ → ℕ → ℕ) (u : LoweredUnit) (floor at null_at : ℕ) (memory : ℕ → Option ℕ) (loaded : IsLoaded functions labels u floor at null_at memory) where
  unit_lies : Lies (unit_map functions labels u at) floor (length u.objects) (unit_objects u) memory
  unit_lies =
      let above = loaded.above in let small = loaded.small in
      subst (λ (n : ℕ). Lies (unit_map functions labels u at) floor n (unit_objects u) memory) (as_many u 0 u.objects)
      (start_lies functions labels floor at (unit_objects u) memory loaded.four loaded.some (omega (arith, above, small)) loaded.ends (numbered_from u 0 u.objects) loaded.stand)

  -- the null pointer's object is one more
  null_numbered : AreNumbered (length u.objects) (null_object u ∷ [])
  null_numbered zero x e = let made = ap (λ (y : Object). y.made) (some_is (null_object u) x e) in omega (arith, made)
  null_numbered (suc k) x e = absurd (none_some x e)

  null_spread : Spread floor (null_at ∷ []) (null_object u ∷ [])
  null_spread = record {
    many = refl;
    four = four;
    room = room;
    apart = apart;
  }
    where
      four : (k a : ℕ) → slice_get (null_at ∷ []) k ≡ Some a → a % 4 ≡ 0
      four zero a e = subst (λ (n : ℕ). n % 4 ≡ 0) (some_is null_at a e) loaded.null_four
      four (suc k) a e = absurd (none_some a e)

      null_room : HasRoom floor null_at 4
      null_room = record { some = loaded.null_some; small = loaded.small; side = inr loaded.above }

      room : (k a : ℕ) (x : Object) → slice_get (null_object u ∷ []) k ≡ Some x → slice_get (null_at ∷ []) k ≡ Some a → HasRoom floor a (length x.bytes)
      room zero a x e f = subst (λ (n : ℕ). HasRoom floor n (length x.bytes)) (some_is null_at a f) (subst (λ (y : Object). HasRoom floor null_at (length y.bytes)) (some_is (null_object u) x e) null_room)
      room (suc k) a x e f = absurd (none_some a f)

      apart : (k i l j a c : ℕ) (b d : Byte Word) → HasByte (null_object u ∷ []) k i b → HasByte (null_object u ∷ []) l j d → slice_get (null_at ∷ []) k ≡ Some a → slice_get (null_at ∷ []) l ≡ Some c → a + i ≡ c + j → k ≡ l
      apart zero i zero j a c b d x y e f g = refl
      apart (suc k) i l j a c b d x y e f g = absurd (none_some a e)
      apart k i (suc l) j a c b d x y e f g = absurd (none_some c f)

  -- where a unit's byte lies
  low_byte : (o i a : ℕ) (b : Byte Word) → HasByte (unit_objects u) o i b → start_at (unit_map functions labels u at) (unit_objects u) o ≡ Some a → a + i < floor
  low_byte o i a b has e =
      let x = has_object (unit_objects u) o i b has in
      let place = new_start (bare_map functions labels) floor 0 [] (unit_objects u) (data_places at (unit_objects u)) (empty_laid functions labels floor) (numbered_from u 0 u.objects) o o i a b (omega arith) has e in
      let last = data_ends floor at (unit_objects u) loaded.ends o a x.0 x.1 place in
      let l = slice_get_within x.0.bytes i b x.2 in
      omega (arith, last, l)

  null_clear : IsClear (unit_map functions labels u at) (unit_objects u) (IsOf (null_at ∷ []) (null_object u ∷ []))
  null_clear o i a b has e of =
      let low = low_byte o i a b has e in
      high of.object of.start of.place of.there of.is low
    where
      high : (k n p : ℕ) → slice_get (null_at ∷ []) k ≡ Some n → a + i ≡ n + p → a + i < floor → ⊥
      high zero n p there is low = let q = some_is null_at n there in let above = loaded.above in omega (arith, q, above, is, low)
      high (suc k) n p there is low = none_some n there

  null_stands : StandAll (unit_map functions labels u at) (null_at ∷ []) (null_object u ∷ []) memory
  null_stands zero i a b has e =
      let z = four_zeros i b has in
      let q = some_is null_at a e in
      (0, ap (λ (n : ℕ). memory (n + i)) (sym q) ∙ loaded.zeros i z.0, subst (λ (y : Byte Word). IsByte (unit_map functions labels u at) y 0) (sym z.1) (omega arith, omega arith, refl))
  null_stands (suc k) i a b has e = absurd (none_some a e)

  null_lies : Lies (extended (unit_map functions labels u at) (length u.objects) (null_at ∷ [])) floor (length u.objects + 1) (unit_objects u ++ null_object u ∷ []) memory
  null_lies = new_lies (unit_map functions labels u at) floor (length u.objects) (unit_objects u) (null_object u ∷ []) (null_at ∷ []) memory unit_lies null_numbered null_spread null_clear null_stands

pub main_lies : MainBegins
main_lies functions labels u floor at null_at zero input memory loaded = unit_lies functions labels u floor at null_at memory loaded
main_lies functions labels u floor at null_at (suc words) input memory loaded = null_lies functions labels u floor at null_at memory loaded

pub main_handed : MainIsHanded
main_handed functions labels u floor at null_at words memory loaded = (
  null_at,
  behind_at (unit_map functions labels u at) (length u.objects) (null_at ∷ []) (length u.objects) 0 (omega arith),
  (let small = loaded.small in omega (arith, small)),
  omega arith,
)
