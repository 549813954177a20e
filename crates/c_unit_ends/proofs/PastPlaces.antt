-- Places and objects in order: the fault of the first one that has one.
use Rattle.std.proofs.Common.{◌≡◌, ℕ, ◌+◌, ◌<◌, Bool, true, false, List, [], ◌∷◌, length, get_or, drop, map, refl, sym, ap, ◌∙◌}
use Rattle.std.specs.Prelude.{◌&&◌, not, Some, None, if◌then◌else◌}
use Rattle.std.proofs.lemmas.List.{at_drop_more}
use Rattle.c_types.specs.CType.{CType}
use Rattle.c_types.specs.Layout.{Tag}
use Rattle.c_types.specs.Table.{Table, type_at}
use Rattle.c_meaning.specs.Constraints.{Breaks}
use Rattle.c_meaning.specs.CoreTrees.{CoreOf, Core, line_of, seen}
use Rattle.c_meaning.specs.Declarations.{Defined}
use Rattle.c_meaning.specs.Postorder.{or_else}
use Rattle.c_meaning.specs.State.{State}
use Rattle.c_meaning.specs.StmtTrees.{FilledOf}
use Rattle.c_meaning.specs.AddressConstants.{is_static_value}
use Rattle.c_meaning.specs.Types.{is_array}
use Rattle.c_meaning.specs.declared.filled_place.FilledPlace.{FilledPlace}
use Rattle.c_values.specs.declared.check_fault.CheckFault.{CheckFault}
use Rattle.c_values.specs.declared.check_fault.CheckFault.TheVariants.{Constraint, Limit, Memory}
use Rattle.c_check_expr.specs.StepFaults.{IsFault}
use Rattle.c_initialisers.specs.FilledPlaces.{filled_place_in}
use Rattle.c_check_decl.specs.declared.declares.DefinedObject.{DefinedObject}
use Rattle.c_check_decl.specs.Declares.{defined_in}
use Rattle.c_units.specs.Ends.{constants_fault, is_past, over, past_fault}
use Rattle.c_unit_ends.specs.Over.{over_places, with_tags}
use Rattle.c_unit_ends.proofs.OverTypes.{over_seen}

line_seen : {T U : Type 0} (known : T → U) (c : CoreOf T) → line_of (seen known c) ≡ line_of c
line_seen known (Core what of line kids) = refl

-- ---- places

module _ (s : State) (all : List Defined) (t : Table) (ps : List FilledPlace) (i : ℕ) (p : FilledPlace) (l : i < length ps) (e : p ≡ get_or ps i p) where
  abbrev rest : List (FilledOf CType)
  rest = map (filled_place_in t) (drop (i + 1) ps)

  past_at : past_fault s all (map (filled_place_in t) (drop i ps)) ≡ (if is_past s all (filled_place_in t p) then Some (Breaks 24 (line_of (filled_place_in t p).value)) else past_fault s all rest)
  past_at =
      at_drop_more (λ (qs : List FilledPlace). past_fault s all (map (filled_place_in t) qs)) ps i p l
      ∙ ap (λ (q : FilledPlace). if is_past s all (filled_place_in t q) then Some (Breaks 24 (line_of (filled_place_in t q).value)) else past_fault s all rest) (sym e)

  pub place_passes : is_past s all (filled_place_in t p) ≡ false → past_fault s all (map (filled_place_in t) (drop (i + 1) ps)) ≡ past_fault s all (map (filled_place_in t) (drop i ps))
  place_passes h = sym (past_at ∙ ap (λ (b : Bool). if b then Some (Breaks 24 (line_of (filled_place_in t p).value)) else past_fault s all rest) h)

  pub place_told : is_past s all (filled_place_in t p) ≡ true → past_fault s all (map (filled_place_in t) (drop i ps)) ≡ Some (Breaks 24 (line_of p.value))
  place_told h =
      past_at ∙ ap (λ (b : Bool). if b then Some (Breaks 24 (line_of (filled_place_in t p).value)) else past_fault s all rest) h
      ∙ ap (λ (n : ℕ). Some (Breaks 24 n)) (line_seen (type_at t) p.value)

-- whether a place's value lies past the end of its object
pub value_past : (tags : List Tag) (t : Table) (os : List DefinedObject) (p : FilledPlace) (c : CoreOf ℕ) (b : Bool) → c ≡ over_places os p.value → b ≡ is_static_value tags (seen (type_at t) c) → is_array (type_at t p.at.of) ≡ false
    → not b ≡ is_past (with_tags tags) (map (defined_in t) os) (filled_place_in t p)
value_past tags t os p c b e f g =
    ap not (f ∙ ap (λ v. is_static_value tags (seen (type_at t) v)) e ∙ ap (is_static_value tags) (over_seen t os p.value))
    ∙ ap (λ (a : Bool). not a && not (is_static_value tags (over (map (defined_in t) os) (seen (type_at t) p.value)))) (sym g)

pub string_passes : (tags : List Tag) (t : Table) (os : List DefinedObject) (p : FilledPlace) → is_array (type_at t p.at.of) ≡ true → false ≡ is_past (with_tags tags) (map (defined_in t) os) (filled_place_in t p)
string_passes tags t os p g = ap (λ (a : Bool). not a && not (is_static_value tags (over (map (defined_in t) os) (seen (type_at t) p.value)))) (sym g)

-- ---- objects

module _ (s : State) (all : List Defined) (t : Table) (os : List DefinedObject) (i : ℕ) (o : DefinedObject) (l : i < length os) (e : o ≡ get_or os i o) where
  constants_at : constants_fault s all (map (defined_in t) (drop i os)) ≡ or_else (past_fault s all (map (filled_place_in t) o.object.places)) (constants_fault s all (map (defined_in t) (drop (i + 1) os)))
  constants_at =
      at_drop_more (λ (qs : List DefinedObject). constants_fault s all (map (defined_in t) qs)) os i o l
      ∙ ap (λ (q : DefinedObject). or_else (past_fault s all (map (filled_place_in t) q.object.places)) (constants_fault s all (map (defined_in t) (drop (i + 1) os)))) (sym e)

  pub object_passes : past_fault s all (map (filled_place_in t) o.object.places) ≡ None → constants_fault s all (map (defined_in t) (drop (i + 1) os)) ≡ constants_fault s all (map (defined_in t) (drop i os))
  object_passes h = sym (constants_at ∙ ap (λ f. or_else f (constants_fault s all (map (defined_in t) (drop (i + 1) os)))) h)

  pub object_told : (f : CheckFault) → IsFault f (past_fault s all (map (filled_place_in t) o.object.places)) → IsFault f (constants_fault s all (map (defined_in t) (drop i os)))
  object_told (Constraint number line) h = constants_at ∙ ap (λ g. or_else g (constants_fault s all (map (defined_in t) (drop (i + 1) os)))) h
  object_told (Limit limit line) h = constants_at ∙ ap (λ g. or_else g (constants_fault s all (map (defined_in t) (drop (i + 1) os)))) h
  object_told Memory h = tt

-- ---- only the definitions of structures and unions are asked of the state

module _ (s : State) (tags : List Tag) (e : s.tags ≡ tags) (all : List Defined) where
  pub past_same : (ps : List (FilledOf CType)) → past_fault s all ps ≡ past_fault (with_tags tags) all ps
  past_same [] = refl
  past_same (p ∷ ps) =
      ap (λ (ts : List Tag). if not (is_array p.of) && not (is_static_value ts (over all p.value)) then Some (Breaks 24 (line_of p.value)) else past_fault s all ps) e
      ∙ ap (λ f. if not (is_array p.of) && not (is_static_value tags (over all p.value)) then Some (Breaks 24 (line_of p.value)) else f) (past_same ps)

  pub constants_same : (os : List Defined) → constants_fault s all os ≡ constants_fault (with_tags tags) all os
  constants_same [] = refl
  constants_same (o ∷ os) = ap (λ f. or_else f (constants_fault s all os)) (past_same o.object.places) ∙ ap (or_else (past_fault (with_tags tags) all o.object.places)) (constants_same os)
