-- What symbols stand for from the parts of a unit, and what is told of its names.
use Rattle.std.proofs.Common.{◌≡◌, ℕ, Bool, true, List, [], ◌++◌, map, refl, sym, ap, ◌∙◌}
use Rattle.std.specs.Prelude.{Option, Some, None, if◌then◌else◌}
use Rattle.c_types.specs.Table.{Table}
use Rattle.c_meaning.specs.Constraints.{Breaks}
use Rattle.c_meaning.specs.Postorder.{or_else}
use Rattle.c_meaning.specs.State.{State}
use Rattle.c_values.specs.declared.check_fault.CheckFault.{CheckFault}
use Rattle.c_check_expr.specs.StepFaults.{IsFault}
use Rattle.c_check_decl.specs.declared.declares.DefinedObject.{DefinedObject as ObjectValue}
use Rattle.c_check_decl.specs.Declares.{defined_in, linked_in}
use Rattle.c_units.specs.Ends.{called_from, has_main, missing_at, missing_from, names_fault, otherwise_from}
use Rattle.c_units.specs.Ends as whole
use Rattle.c_standings.specs.declared.Standing.{Standing}
use Rattle.c_standings.specs.StandingLists.{of_symbol}
use Rattle.c_unit_parts.specs.declared.DefinedFunction.{DefinedFunction as FunctionValue}
use Rattle.c_unit_parts.specs.declared.UnitParts.{UnitParts}
use Rattle.c_unit_parts.specs.PartsIn.{function_in, parts_in}
use Rattle.c_unit_ends.specs.NameFaults.{called_in, missing_in, other_in}
use Rattle.c_unit_ends.specs.Over.{symbols_of}
use Rattle.c_unit_ends.specs.Standing.{AreStandings, first_of, functions_from, named_among, objects_from}
use Rattle.c_unit_ends.specs.Uses.{function_uses, object_uses}
use Rattle.c_unit_ends.proofs.ByStandings.{called_told, missing_told, other_told, standings_are}
use Rattle.c_unit_ends.proofs.Missing.{missing_behind}
use Rattle.c_unit_ends.proofs.FaultsTold.{told_first, told_same}
use Rattle.c_unit_ends.proofs.SameUses.{functions_same, objects_same}

pub standings_from : (s : State) (t : Table) (p : UnitParts) (none some more all : List (ℕ × Standing)) (fs : List FunctionValue) (os : List ObjectValue) (ns : List (List ℕ × ℕ)) → none ≡ [] → fs ≡ p.functions → os ≡ p.objects → ns ≡ s.links
    → ((k : ℕ) → of_symbol some k ≡ first_of (of_symbol none k) (functions_from 0 (map (λ (f : FunctionValue). f.symbol) fs) k))
    → ((k : ℕ) → of_symbol more k ≡ first_of (of_symbol some k) (objects_from 0 (symbols_of os) k))
    → ((k : ℕ) → of_symbol all k ≡ first_of (of_symbol more k) (named_among ns k))
    → AreStandings s (parts_in t p) all
standings_from s t p none some more all fs os ns e f g h a b c id =
    standings_are s t p.functions p.objects (parts_in t p) id (of_symbol all id) refl refl
    (c id ∙ ap (λ x. first_of x (named_among ns id)) (b id ∙ ap (λ x. first_of x (objects_from 0 (symbols_of os) id)) (a id ∙ ap (λ es. first_of (of_symbol es id) (functions_from 0 (map (λ (v : FunctionValue). v.symbol) fs) id)) e))
    ∙ ap (λ vs. first_of (first_of (functions_from 0 (map (λ (v : FunctionValue). v.symbol) vs) id) (objects_from 0 (symbols_of os) id)) (named_among ns id)) f
    ∙ ap (λ vs. first_of (first_of (functions_from 0 (map (λ (v : FunctionValue). v.symbol) p.functions) id) (objects_from 0 (symbols_of vs) id)) (named_among ns id)) g
    ∙ ap (λ ms. first_of (first_of (functions_from 0 (map (λ (v : FunctionValue). v.symbol) p.functions) id) (objects_from 0 (symbols_of p.objects) id)) (named_among ms id)) h)

-- ---- names

module _ (s : State) (t : Table) (p : UnitParts) (xs : List (ℕ × Standing)) (h : AreStandings s (parts_in t p) xs) (m : has_main (map (function_in t) p.functions) ≡ true) where
  abbrev used : Option ℕ
  used = missing_in xs (missing_in xs None (object_uses p.objects)) (function_uses p.functions)

  abbrev called : Option ℕ
  called = called_in xs s.links 0 (other_in xs None (map (linked_in t) p.linked)) s.symbols

  used_told : missing_from s (parts_in t p) None (whole.object_uses (map (defined_in t) p.objects) ++ whole.function_uses (map (function_in t) p.functions)) ≡ used
  used_told =
      missing_told s (parts_in t p) xs h None (whole.object_uses (map (defined_in t) p.objects) ++ whole.function_uses (map (function_in t) p.functions))
      ∙ ap (λ us. missing_in xs None (us ++ whole.function_uses (map (function_in t) p.functions))) (objects_same t p.objects)
      ∙ ap (λ us. missing_in xs None (object_uses p.objects ++ us)) (functions_same t p.functions)
      ∙ missing_behind xs None (object_uses p.objects) (function_uses p.functions)

  called_is : called_from s (parts_in t p) 0 (otherwise_from s (parts_in t p) None (map (linked_in t) p.linked)) s.symbols ≡ called
  called_is = called_told s (parts_in t p) xs h 0 _ s.symbols ∙ ap (λ f. called_in xs s.links 0 f s.symbols) (other_told s (parts_in t p) xs h None (map (linked_in t) p.linked))

  names_are : names_fault s (parts_in t p) ≡ or_else (missing_at used) (missing_at called)
  names_are =
      ap (λ (b : Bool). if b then or_else (missing_at (missing_from s (parts_in t p) None (whole.object_uses (map (defined_in t) p.objects) ++ whole.function_uses (map (function_in t) p.functions)))) (missing_at (called_from s (parts_in t p) 0 (otherwise_from s (parts_in t p) None (map (linked_in t) p.linked)) s.symbols)) else Some (Breaks 52 1)) m
      ∙ ap (λ x. or_else (missing_at x) (missing_at (called_from s (parts_in t p) 0 (otherwise_from s (parts_in t p) None (map (linked_in t) p.linked)) s.symbols))) used_told
      ∙ ap (λ x. or_else (missing_at used) (missing_at x)) called_is

  -- a name is used that nothing defines
  pub used_fault : (f : CheckFault) (first line : Option ℕ) → first ≡ missing_in xs None (object_uses p.objects) → line ≡ missing_in xs first (function_uses p.functions) → IsFault f (missing_at line) → IsFault f (names_fault s (parts_in t p))
  used_fault f first line d e g =
      told_same f _ _ (names_are ∙ ap (λ x. or_else (missing_at x) (missing_at called)) (sym (e ∙ ap (λ x. missing_in xs x (function_uses p.functions)) d))) (told_first f (missing_at line) (missing_at called) g)

  -- each name that is used is defined
  pub called_fault : (first line declared : Option ℕ) (other : Option ℕ) → first ≡ missing_in xs None (object_uses p.objects) → line ≡ missing_in xs first (function_uses p.functions) → missing_at line ≡ None
      → declared ≡ other_in xs None (map (linked_in t) p.linked) → other ≡ called_in xs s.links 0 declared s.symbols → names_fault s (parts_in t p) ≡ missing_at other
  called_fault first line declared other d e g i j =
      names_are ∙ ap (λ x. or_else (missing_at x) (missing_at called)) (sym (e ∙ ap (λ x. missing_in xs x (function_uses p.functions)) d)) ∙ ap (λ x. or_else x (missing_at called)) g
      ∙ ap missing_at (sym (j ∙ ap (λ x. called_in xs s.links 0 x s.symbols) i))
