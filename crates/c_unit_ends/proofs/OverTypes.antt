-- Values with the types that their objects have in the whole unit: over a table they are those over its types.
use Rattle.std.proofs.Common.{◌≡◌, ℕ, ◌<◌, Bool, true, false, List, [], ◌∷◌, map, refl, sym, ap}
use Rattle.std.specs.Prelude.{◌==◌, if◌then◌else◌}
use Rattle.c_types.specs.Table.{Table, type_at}
use Rattle.c_meaning.specs.declared.core_expr.CoreKind.{CoreKind}
use Rattle.c_meaning.specs.declared.core_expr.CoreKind.TheVariants as kind
use Rattle.c_meaning.specs.CoreTrees.{CoreOf, Core, CoresOf, NoCore, Cores, IsIn, AreIn, cores_of, seen, all_seen}
use Rattle.c_check_decl.specs.declared.declares.DefinedObject.{DefinedObject}
use Rattle.c_check_decl.specs.Declares.{AreObjectsIn, defined_in}
use Rattle.c_units.specs.Ends.{all_over, over, type_among, whole_type}
use Rattle.c_unit_ends.specs.Over.{all_over_places, first_type, over_places, whole_place}

pub over_list : (os : List DefinedObject) (cs : List (CoreOf ℕ)) → all_over_places os (cores_of cs) ≡ cores_of (map (over_places os) cs)
over_list os [] = refl
over_list os (c ∷ cs) = ap (Cores (over_places os c)) (over_list os cs)

pub over_made : (os : List DefinedObject) (c : CoreOf ℕ) (what new : CoreKind) (of line whole : ℕ) (kids all : List (CoreOf ℕ)) → c ≡ Core what of line (cores_of kids) → new ≡ what → whole ≡ whole_place os what of → all ≡ map (over_places os) kids
    → Core new whole line (cores_of all) ≡ over_places os c
over_made os c what new of line whole kids all e f g h = rw (e, f, g, h) (ap (Core what (whole_place os what of) line) (sym (over_list os kids)))

-- ---- over a table

first_seen : (t : Table) (os : List DefinedObject) (id of : ℕ) → type_at t (first_type os id of) ≡ type_among (map (defined_in t) os) id (type_at t of)
first_seen t [] id of = refl
first_seen t (o ∷ os) id of = by (o.symbol == id) (first_seen t os id of)
  where
    by : (b : Bool) → type_at t (first_type os id of) ≡ type_among (map (defined_in t) os) id (type_at t of) → type_at t (if b then o.object.of else first_type os id of) ≡ (if b then type_at t o.object.of else type_among (map (defined_in t) os) id (type_at t of))
    by true h = refl
    by false h = h

whole_seen : (t : Table) (os : List DefinedObject) (what : CoreKind) (of : ℕ) → type_at t (whole_place os what of) ≡ whole_type (map (defined_in t) os) what (type_at t of)
whole_seen t os (kind.Symbol id) of = first_seen t os id of
whole_seen t os what of = refl

mutual
  pub over_seen : (t : Table) (os : List DefinedObject) (c : CoreOf ℕ) → seen (type_at t) (over_places os c) ≡ over (map (defined_in t) os) (seen (type_at t) c)
  over_seen t os (Core what of line kids) = rw (whole_seen t os what of, all_over_seen t os kids) refl

  all_over_seen : (t : Table) (os : List DefinedObject) (cs : CoresOf ℕ) → all_seen (type_at t) (all_over_places os cs) ≡ all_over (map (defined_in t) os) (all_seen (type_at t) cs)
  all_over_seen t os NoCore = refl
  all_over_seen t os (Cores c cs) = rw (over_seen t os c, all_over_seen t os cs) refl

-- ---- the types stand in the table

first_within : (n : ℕ) (os : List DefinedObject) (id of : ℕ) → AreObjectsIn n os → of < n → first_type os id of < n
first_within n [] id of i l = l
first_within n (o ∷ os) id of i l = by (o.symbol == id) (first_within n os id of i.1 l)
  where
    by : (b : Bool) → first_type os id of < n → (if b then o.object.of else first_type os id of) < n
    by true h = i.0.0
    by false h = h

whole_within : (n : ℕ) (os : List DefinedObject) (what : CoreKind) (of : ℕ) → AreObjectsIn n os → of < n → whole_place os what of < n
whole_within n os (kind.Symbol id) of i l = first_within n os id of i l
whole_within n os what of i l = l

mutual
  pub over_within : (n : ℕ) (os : List DefinedObject) (c : CoreOf ℕ) → AreObjectsIn n os → IsIn n c → IsIn n (over_places os c)
  over_within n os (Core what of line kids) i j = (whole_within n os what of i j.0, all_over_within n os kids i j.1)

  all_over_within : (n : ℕ) (os : List DefinedObject) (cs : CoresOf ℕ) → AreObjectsIn n os → AreIn n cs → AreIn n (all_over_places os cs)
  all_over_within n os NoCore i j = tt
  all_over_within n os (Cores c cs) i j = (over_within n os c i j.0, all_over_within n os cs i j.1)
