-- External declarations one behind the other: what came of the front of the list, and what is left.
use Rattle.std.proofs.Common.{◌≡◌, ℕ, ◌+◌, ◌<◌, ◌≤◌, List, [], ◌∷◌, length, get_or, drop, map, sym, ap, ◌∙◌, refl}
use Rattle.std.specs.Prelude.{Result, Ok, Err, IsErrAnd}
use Rattle.c_ast.specs.declared.unit.External.{External}
use Rattle.c_symbols.specs.Scoping.{Scoping}
use Rattle.c_types.specs.Table.{Table}
use Rattle.c_meaning.specs.State.{State}
use Rattle.c_meaning.specs.Typing.{Outcome}
use Rattle.c_values.specs.declared.check_fault.CheckFault.{CheckFault}
use Rattle.c_check_expr.specs.Known.{AreSymbolsIn, state_of}
use Rattle.c_check_expr.proofs.lemmas.Walking.{passed}
use Rattle.c_check_expr.proofs.lemmas.WalkLists.{Going, folded, going_ends, going_on, going_starts, going_stops, then_same}
use Rattle.c_check_expr.specs.Walks.{Walks}
use Rattle.c_units.specs.Externals.{Parts, no_parts, typed_external, typed_externals}
use Rattle.c_unit_parts.specs.declared.UnitParts.{UnitParts}
use Rattle.c_unit_parts.specs.PartsIn.{ArePartsIn, parts_in}
use Rattle.c_check_unit.specs.ExternalsIn.{external_in, external_seen, externals_in}

-- ---- a list by steps

abbrev step : State → Parts → External → Outcome Parts
step s u e = typed_external s u (external_seen e)

externals_folded : (s : State) (u : Parts) (es : List External) → folded step s u es ≡ typed_externals s u (map external_seen es)
externals_folded s u [] = refl
externals_folded s u (e ∷ es) = then_same (typed_external s u (external_seen e)) (λ m v. folded step m v es) (λ m v. typed_externals m v (map external_seen es)) (λ m v. externals_folded m v es)

-- ---- the loop

unfoldable pub ExternalsGoing : Scoping → Table → List External → Scoping → Table → UnitParts → List External → Type 0
ExternalsGoing r a list s t done left = Going parts_in ArePartsIn step (typed_externals (state_of r a) no_parts (map external_seen list)) r a s t done left

module _ (r : Scoping) (a : Table) (list : List External) where
  abbrev whole : Outcome Parts
  whole = typed_externals (state_of r a) no_parts (map external_seen list)

  pub externals_start : (start : UnitParts) → AreSymbolsIn (length a.forms) r.symbols → parts_in a start ≡ no_parts → ArePartsIn (length a.forms) start → ExternalsGoing r a list r a start list
  unfolding ExternalsGoing
  externals_start start i e w = going_starts parts_in ArePartsIn step whole r a start list i w (sym (ap (λ u. folded step (state_of r a) u list) e ∙ externals_folded (state_of r a) no_parts list))

  pub parts_within : (s : Scoping) (t : Table) (done : UnitParts) (left : List External) → ExternalsGoing r a list s t done left → ArePartsIn (length t.forms) done
  unfolding ExternalsGoing
  parts_within s t done left g = g.within

  module _ (s : Scoping) (t : Table) (done : UnitParts) (k : ℕ) (x : External) (l : k < length list) (is : x ≡ get_or list k x) (going : ExternalsGoing r a list s t done (drop k list)) where
    pub externals_on : (u : Scoping) (c : Table) (all : UnitParts) → Walks parts_in ArePartsIn (external_in s t (parts_in t done) (external_seen x)) s t u c (Ok all) → ExternalsGoing r a list u c all (drop (k + 1) list)
    unfolding ExternalsGoing external_in
    externals_on u c all h = going_on parts_in ArePartsIn step whole r a s u t c done all list k x l is going h

    pub externals_stop : (u : Scoping) (c : Table) (f : CheckFault) (y : Result UnitParts CheckFault) → IsErrAnd y (λ d. d ≡ f) → Walks parts_in ArePartsIn (external_in s t (parts_in t done) (external_seen x)) s t u c (Err f)
        → Walks parts_in ArePartsIn (externals_in r a no_parts (map external_seen list)) r a u c y
    unfolding ExternalsGoing external_in externals_in
    externals_stop u c f y g h = passed y g (going_stops parts_in ArePartsIn step whole r a s u t c done list k x f l is going h)

  pub externals_end : (s : Scoping) (t : Table) (done : UnitParts) (k : ℕ) → length list ≤ k → ExternalsGoing r a list s t done (drop k list) → Walks parts_in ArePartsIn (externals_in r a no_parts (map external_seen list)) r a s t (Ok done)
  unfolding ExternalsGoing externals_in
  externals_end s t done k l g = going_ends parts_in ArePartsIn step whole r a s t done list k l g
