-- Places that may be initialised, const or not, may be so still.
use Rattle.std.specs.Prelude.{◌≡◌, ℕ, zero, suc, ◌+◌, Some, List, [], ◌∷◌, slice_get}
use Rattle.std.proofs.Common.{refl, sym, ap, subst, ◌∙◌}
use Rattle.objects.specs.declared.purpose.Purpose.{Purpose}
use Rattle.objects.specs.declared.purpose.Purpose.TheVariants.{Assignment, Initialisation}
use Rattle.objects.specs.declared.value.Value.{Value}
use Rattle.objects.specs.declared.value.Value.TheVariants.{Number, Pointer, Function}
use Rattle.objects.specs.Objects.{Object as Shape}
use Rattle.forests.specs.Alike.{AreAlike}
use Rattle.forests.specs.Objects.{Object, shape_of}
use Rattle.forests.specs.Words.{Word, Plain, Label, Partly}
use Rattle.c_meaning.specs.Each.{EachIs}
use Rattle.c_match.specs.Held.{IsOpenTo}
use Rattle.c_match.specs.Ranges.{Map, Range, Grown}
use Rattle.c_match.specs.Values.{IsValue}
use Rattle.c_straight_agree.specs.Layouts.{IsOpenAt}
use Rattle.c_straight_agree.proofs.lemmas.Putting.{each_map}

-- objects that are alike are const alike
constant_alike : (a b : List Object) (place : ℕ) (y : Object) → AreAlike a b → slice_get b place ≡ Some y → (x : Object) × ((slice_get a place ≡ Some x) × (y.constant ≡ x.constant))
constant_alike [] [] place y same e = absurd (let never : ⊥ = cc in never)
constant_alike [] (z ∷ b) place y same e = absurd (let never : ⊥ = cc in never)
constant_alike (x ∷ a) [] place y same e = absurd (let never : ⊥ = cc in never)
constant_alike (x ∷ a) (z ∷ b) zero y same e =
    let is : z ≡ y = cc in
    let shape : shape_of x ≡ shape_of z = cc in
    (x, (refl, ap (λ (o : Object). o.constant) (sym is) ∙ sym (ap (λ (s : Shape). s.constant) shape)))
constant_alike (x ∷ a) (z ∷ b) (suc place) y same e = let rest : AreAlike a b = cc in constant_alike a b place y rest e

open_so : (map later : Map) (first world : List Object) (v : Value) (u : Word) → IsValue map v u → Grown map later → AreAlike first world → IsOpenTo Initialisation map first v → IsOpenTo Initialisation later world v
open_so map later first world (Number n) u is grown alike opens = tt
open_so map later first world (Pointer object offset) u is grown alike opens =
    λ r home made at.
    let same : is.0 ≡ r = (let a = grown object.made is.0 is.1 in cc) in
    let x = constant_alike first world r.object.place home alike at in
    x.1.1 ∙ opens r x.0 (subst (λ (q : Range). map object.made ≡ Some q) same is.1) x.1.0
open_so map later first world (Function f) u is grown alike opens = tt

-- a place that may be written for this purpose may be so where further objects have ranges
pub open_stays : (purpose : Purpose) (map later : Map) (first world : List Object) (v : Value) (u : Word) → IsValue map v u → Grown map later → AreAlike first world → IsOpenTo purpose map first v → IsOpenTo purpose later world v
open_stays Assignment map later first world v u is grown alike opens = tt
open_stays Initialisation map later first world v u is grown alike opens = open_so map later first world v u is grown alike opens

open_at_stays : (first world : List Object) → AreAlike first world → (u : Word) → IsOpenAt first u → IsOpenAt world u
open_at_stays first world alike (Plain (Pointer name offset)) opens =
    λ home at.
    let x = constant_alike first world name.place home alike at in
    x.1.1 ∙ opens x.0 x.1.0
open_at_stays first world alike (Plain (Number n)) opens = tt
open_at_stays first world alike (Plain (Function f)) opens = tt
open_at_stays first world alike (Label f l) opens = tt
open_at_stays first world alike (Partly mask bits) opens = tt

-- locals may be written still
pub opens_stay : (addresses : List Word) (first world : List Object) → AreAlike first world → EachIs (IsOpenAt first) addresses → EachIs (IsOpenAt world) addresses
opens_stay addresses first world alike opens = each_map (IsOpenAt first) (IsOpenAt world) addresses (open_at_stays first world alike) opens

-- an object of C that stands at an address where it may be written may be initialised
pub open_by : (map : Map) (objects : List Object) (v : Value) (u : Word) → IsValue map v u → IsOpenAt objects u → IsOpenTo Initialisation map objects v
open_by map objects (Number n) u is opens = tt
open_by map objects (Pointer object offset) u is opens =
    λ r home made at.
    let same : is.0 ≡ r = (let a = is.1 in cc) in
    let here : IsOpenAt objects (Plain (Pointer is.0.object (is.0.start + offset))) = subst (λ (x : Word). IsOpenAt objects x) is.2 opens in
    here home (subst (λ (q : Range). slice_get objects q.object.place ≡ Some home) (sym same) at)
open_by map objects (Function f) u is opens = tt
