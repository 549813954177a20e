-- What the objects of a unit without a fault begin with is constant.
use Rattle.std.proofs.Common.{◌≡◌, Bool, true, false, not, List, [], ◌∷◌, refl}
use Rattle.std.specs.Prelude.{Option, Some, None, if◌then◌else◌}
use Rattle.c_types.specs.CType.{CType}
use Rattle.c_meaning.specs.AddressConstants.{is_static_value}
use Rattle.c_meaning.specs.Constraints.{Fault, Breaks}
use Rattle.c_meaning.specs.CoreTrees.{line_of}
use Rattle.c_meaning.specs.Declarations.{Defined}
use Rattle.c_meaning.specs.Each.{EachIs}
use Rattle.c_meaning.specs.Postorder.{or_else}
use Rattle.c_meaning.specs.State.{State}
use Rattle.c_meaning.specs.StmtTrees.{FilledOf}
use Rattle.c_meaning.specs.Types.{is_array}
use Rattle.c_units.specs.Ends.{constants_fault, is_past, names_fault, open_fault, over, past_fault, tentative, unit_fault, whole_fault, with_tentative}
use Rattle.c_units.specs.Externals.{Parts}
use Rattle.c_fits.proofs.lemmas.Booleans.{and_beside, negated, not_false}
use Rattle.c_unit_fits.specs.OpenUnits.{IsStaticObject, IsStaticPlace}

pub first_none : (x y : Option Fault) → or_else x y ≡ None → x ≡ None
first_none (Some f) y h = h
first_none None y h = refl

pub second_none : (x y : Option Fault) → or_else x y ≡ None → y ≡ None
second_none (Some f) y h = absurd (let never : ⊥ = cc in never)
second_none None y h = h

place_static : (s : State) (os : List Defined) (p : FilledOf CType) → is_past s os p ≡ false → IsStaticPlace s.tags os p
place_static s os p h a = not_false (is_static_value s.tags (over os p.value)) (and_beside (not (is_array p.of)) (not (is_static_value s.tags (over os p.value))) (negated (is_array p.of) a) h)

places_static : (s : State) (os : List Defined) (ps : List (FilledOf CType)) → past_fault s os ps ≡ None → EachIs (IsStaticPlace s.tags os) ps
places_static s os [] h = tt
places_static s os (p ∷ ps) h = by (is_past s os p) refl h (places_static s os ps)
  where
    by : (b : Bool) → is_past s os p ≡ b → (if b then Some (Breaks 24 (line_of p.value)) else past_fault s os ps) ≡ None → (past_fault s os ps ≡ None → EachIs (IsStaticPlace s.tags os) ps) → EachIs (IsStaticPlace s.tags os) (p ∷ ps)
    by true e h i = absurd (let never : ⊥ = cc in never)
    by false e h i = (place_static s os p e, i h)

objects_static : (s : State) (os more : List Defined) → constants_fault s os more ≡ None → EachIs (IsStaticObject s.tags os) more
objects_static s os [] h = tt
objects_static s os (o ∷ more) h =
    (places_static s os o.object.places (first_none (past_fault s os o.object.places) (constants_fault s os more) h), objects_static s os more (second_none (past_fault s os o.object.places) (constants_fault s os more) h))

pub unit_static : (s : State) (q : Parts) → unit_fault s q ≡ None → EachIs (IsStaticObject s.tags (with_tentative s q).objects) (with_tentative s q).objects
unfolding unit_fault
unit_static s q h =
    objects_static s (with_tentative s q).objects (with_tentative s q).objects
    (first_none (constants_fault s (with_tentative s q).objects (with_tentative s q).objects) (names_fault s (with_tentative s q)) (second_none (open_fault s (tentative s s.links)) (whole_fault s (with_tentative s q)) h))
