-- The worlds with which runs begin.
use Rattle.std.specs.Prelude.{◌≡◌, ◌<◌, ℕ, suc, zero, ◌+◌, nat_lt, Bool, true, false, Some, None, List, [], ◌∷◌, length, slice_get, if◌then◌else◌}
use Rattle.std.proofs.Common.{refl, sym, ap, ◌∙◌, arith}
use Rattle.std.proofs.lemmas.Bool.Decides.{nat_tests}
use Rattle.std.proofs.lemmas.Option.{slice_get_within}
use Rattle.objects.specs.Objects.{Object as Old}
use Rattle.op_forest.specs.declared.lowered.LoweredObject.{LoweredObject}
use Rattle.op_forest.specs.Lowered.{LoweredUnit}
use Rattle.forests.specs.Sound.{IsSound}
use Rattle.forests.specs.Units.{objects_in, size_by, start_world}
use Rattle.c_runs.specs.Worlds as c
use Rattle.c_match.specs.Ranges.{Range}
use Rattle.c_match.specs.Held.{IsHeld}
use Rattle.c_match_worlds.specs.Matches.{Matches, object_in}
use Rattle.c_match_worlds.specs.Starts.{own_range, own_map, StandsAt}

-- the object at a place, as the run begins with it
object_there : (u : LoweredUnit) (from : ℕ) (os : List LoweredObject) (p : ℕ) (o : LoweredObject) → slice_get os p ≡ Some o → slice_get (objects_in u from os) p ≡ Some (object_in u (from + p) o)
object_there u from [] p o e = absurd cc
object_there u from (x ∷ xs) zero o e = ap (λ (y : LoweredObject). Some (object_in u from y)) (same x o e) ∙ ap (λ n. Some (object_in u n o)) (search arith)
  where
    same : (y z : LoweredObject) → Some y ≡ Some z → y ≡ z
    same y z e = cc
object_there u from (x ∷ xs) (suc p) o e = object_there u (suc from) xs p o e ∙ ap (λ n. Some (object_in u n o)) (search arith)

is_below : (m own : ℕ) → m < own → nat_lt m own ≡ true
is_below m own l = search (nat_tests, arith)

below_from : (u : LoweredUnit) (own m : ℕ) (r : Range) (b : Bool) → nat_lt m own ≡ b → (if b then Some (own_range u m) else None) ≡ Some r → m < own
below_from u own m r true e h = search (nat_tests, arith)
below_from u own m r false e h = absurd cc

-- what has a range is one of the first objects
pub own_made : (u : LoweredUnit) (own m : ℕ) (r : Range) → own_map u own m ≡ Some r → m < own
own_made u own m r h = below_from u own m r (nat_lt m own) refl h

pub own_is : (u : LoweredUnit) (own m : ℕ) → m < own → own_map u own m ≡ Some (own_range u m)
own_is u own m l = ap (λ b. if b then Some (own_range u m) else None) (is_below m own l)

-- so its range is that of its number
own_place : (u : LoweredUnit) (own m : ℕ) (r : Range) → own_map u own m ≡ Some r → r.object.place ≡ m
own_place u own m r h = place_of (own_range u m) r (sym (own_is u own m (own_made u own m r h)) ∙ h)
  where
    place_of : (s q : Range) → Some s ≡ Some q → q.object.place ≡ s.object.place
    place_of s q e = cc

-- in the world with which a run begins
starts_there : (u : LoweredUnit) (p : ℕ) (o : LoweredObject) → slice_get u.objects p ≡ Some o → slice_get (objects_in u 0 u.objects) p ≡ Some (object_in u p o)
starts_there u p o e = object_there u 0 u.objects p o e ∙ ap (λ n. Some (object_in u n o)) (search arith)

stands : (u : LoweredUnit) (own : ℕ) (input : List ℕ) (p : ℕ) (x : Old) → p < own → StandsAt u (own_map u own) p x → IsHeld (own_map u own) x (start_world u input).objects
stands u own input p x l s = record {
  range = own_range u p;
  is = ap (own_map u own) s.made ∙ own_is u own p l;
  held = record {
    home = object_in u p s.home;
    there = starts_there u p s.home s.there;
    made = refl;
    size = s.whole ∙ sym (ap size_by s.there);
    words = 0;
    start = refl;
    inside = let e = s.size in let z : size_by (slice_get u.objects p) ≡ s.home.size = ap size_by s.there in omega (arith, e, z);
    bytes = s.bytes;
    writable = s.writable;
  };
}

pub starts_match : (u : LoweredUnit) (old : c.World) (input : List ℕ)
    → ((p : ℕ) (x : Old) → slice_get (c.objects old) p ≡ Some x → StandsAt u (own_map u (length (c.objects old))) p x)
    → old.storage.made ≡ length (c.objects old) → old.input ≡ input → old.trace ≡ [] → IsSound (start_world u input)
    → Matches u (length (c.objects old)) (own_map u (length (c.objects old))) old (start_world u input)
starts_match u old input all made read shown sound =
    let own = length (c.objects old) in
    let at : (p : ℕ) (x : Old) → slice_get (c.objects old) p ≡ Some x → x.made ≡ p = λ p x e. (all p x e).made in
    let placed : (p : ℕ) (x : Old) (r : Range) → slice_get (c.objects old) p ≡ Some x → own_map u own x.made ≡ Some r → r.object.place ≡ p = λ p x r e h. own_place u own x.made r h ∙ at p x e in
    record {
      held = record {
        held = λ p x e. stands u own input p x (slice_get_within (c.objects old) p x e) (all p x e);
        apart = λ p q x y r s e f other g h same. absurd (other (sym (placed p x r e g) ∙ same ∙ placed q y s f h));
      };
      made = λ m r h. let l = own_made u own m r h in omega (arith, l, made);
      whole = λ p l. own_is u own p l;
      constants = λ t o lt e locked. starts_there u t o e;
      tables = λ t o le e. (starts_there u t o e, λ p x r f g same. let l = slice_get_within (c.objects old) p x f in let z = placed p x r f g in omega (arith, l, z, same, le));
      input = sym read;
      trace = sym shown;
      sound = sound;
    }
