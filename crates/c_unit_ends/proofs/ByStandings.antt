-- What is told of names by what their symbols stand for is what the unit's own definitions tell.
use Rattle.std.proofs.Common.{◌≡◌, ℕ, suc, Bool, true, false, List, [], ◌∷◌, map, refl, sym, ap, ◌∙◌}
use Rattle.std.specs.Prelude.{◌==◌, ◌||◌, ◌&&◌, not, Option, Some, None, is_some, if◌then◌else◌}
use Rattle.c_types.specs.CType.{CType}
use Rattle.c_types.specs.Table.{Table}
use Rattle.c_meaning.specs.declared.built_in.BuiltIn.{BuiltIn}
use Rattle.c_meaning.specs.declared.core_expr.CoreKind.{CoreKind}
use Rattle.c_meaning.specs.declared.core_expr.CoreKind.TheVariants as kind
use Rattle.c_meaning.specs.Declarations.{Defined, Linked}
use Rattle.c_meaning.specs.State.{Known, State}
use Rattle.c_check_decl.specs.declared.declares.DefinedObject.{DefinedObject as ObjectValue}
use Rattle.c_check_decl.specs.Declares.{defined_in}
use Rattle.c_unit_parts.specs.declared.DefinedFunction.{DefinedFunction as FunctionValue}
use Rattle.c_unit_parts.specs.PartsIn.{function_in}
use Rattle.c_units.specs.Externals.{Parts}
use Rattle.c_units.specs.Functions.{DefinedFunction}
use Rattle.c_units.specs.Ends.{built_in_of, called_from, fits_built_in, gives_otherwise, is_called_otherwise, is_defined_in, is_function_of, is_link, is_nothing_in, is_object_of, is_otherwise, least, linked_symbol, missing_from, otherwise_from}
use Rattle.c_units.specs.Wholes.{function_from, object_from, or_built_in, or_object, or_symbol, stands_for}
use Rattle.c_standings.specs.declared.Standing.{Standing}
use Rattle.c_standings.specs.declared.Standing.TheVariants as standing
use Rattle.c_standings.specs.StandingLists.{kind_of, of_symbol}
use Rattle.c_unit_ends.specs.NameFaults.{called_in, called_with, gives_other, is_called, is_other, missing_in, missing_with, other_in, other_with}
use Rattle.c_unit_ends.specs.Over.{symbols_of}
use Rattle.c_unit_ends.specs.Standing.{AreStandings, by_name, first_of, functions_from, objects_from}

-- ---- a function, else an object, else a built-in function

abbrev as_function : Option ℕ → Option Standing
as_function (Some n) = Some (standing.Function n)
as_function None = None

abbrev as_object : Option ℕ → Option Standing
as_object (Some n) = Some (standing.Object n)
as_object None = None

functions_placed : (t : Table) (k : ℕ) (fs : List FunctionValue) (id : ℕ) → functions_from k (map (λ (f : FunctionValue). f.symbol) fs) id ≡ as_function (function_from k (map (function_in t) fs) id)
functions_placed t k [] id = refl
functions_placed t k (f ∷ fs) id = by (f.symbol == id) (functions_placed t (suc k) fs id)
  where
    by : (b : Bool) → functions_from (suc k) (map (λ (f : FunctionValue). f.symbol) fs) id ≡ as_function (function_from (suc k) (map (function_in t) fs) id)
        → (if b then Some (standing.Function k) else functions_from (suc k) (map (λ (f : FunctionValue). f.symbol) fs) id) ≡ as_function (if b then Some k else function_from (suc k) (map (function_in t) fs) id)
    by true h = refl
    by false h = h

objects_placed : (t : Table) (k : ℕ) (os : List ObjectValue) (id : ℕ) → objects_from k (symbols_of os) id ≡ as_object (object_from k (map (defined_in t) os) id)
objects_placed t k [] id = refl
objects_placed t k (o ∷ os) id = by (o.symbol == id) (objects_placed t (suc k) os id)
  where
    by : (b : Bool) → objects_from (suc k) (symbols_of os) id ≡ as_object (object_from (suc k) (map (defined_in t) os) id)
        → (if b then Some (standing.Object k) else objects_from (suc k) (symbols_of os) id) ≡ as_object (if b then Some k else object_from (suc k) (map (defined_in t) os) id)
    by true h = refl
    by false h = h

-- the kinds of these
abbrev pub all_of : Option ℕ → Option ℕ → Option BuiltIn → Option Standing
all_of a b c = first_of (first_of (as_function a) (as_object b)) (by_name c)

kinds_third : (c : Option BuiltIn) (id : ℕ) → kind_of (all_of None None c) id ≡ or_symbol c id
kinds_third None id = refl
kinds_third (Some b) id = refl

kinds_second : (s : State) (b : Option ℕ) (id : ℕ) → kind_of (all_of None b (built_in_of s id)) id ≡ or_built_in s b id
kinds_second s None id = kinds_third (built_in_of s id) id
kinds_second s (Some n) id = refl

kinds_first : (s : State) (u : Parts) (a : Option ℕ) (id : ℕ) → kind_of (all_of a (object_from 0 u.objects id) (built_in_of s id)) id ≡ or_object s u a id
kinds_first s u None id = kinds_second s (object_from 0 u.objects id) id
kinds_first s u (Some n) id = refl

-- what each symbol stands for in the unit
abbrev pub standing_in : State → Parts → ℕ → Option Standing
standing_in s u id = all_of (function_from 0 u.functions id) (object_from 0 u.objects id) (built_in_of s id)

pub standing_kind : (s : State) (u : Parts) (id : ℕ) → kind_of (standing_in s u id) id ≡ stands_for s u id
standing_kind s u id = kinds_first s u (function_from 0 u.functions id) id

pub standings_are : (s : State) (t : Table) (fs : List FunctionValue) (os : List ObjectValue) (u : Parts) (id : ℕ) (x : Option Standing) → u.functions ≡ map (function_in t) fs → u.objects ≡ map (defined_in t) os
    → x ≡ first_of (first_of (functions_from 0 (map (λ (f : FunctionValue). f.symbol) fs) id) (objects_from 0 (symbols_of os) id)) (by_name (built_in_of s id)) → kind_of x id ≡ stands_for s u id
standings_are s t fs os u id x e f g =
    ap (λ y. kind_of y id) (g ∙ rw (functions_placed t 0 fs id, objects_placed t 0 os id) (rw (sym e, sym f) refl)) ∙ standing_kind s u id

-- ---- a kind tells the standing

abbrev standing_of : CoreKind → Option Standing
standing_of (kind.Function n) = Some (standing.Function n)
standing_of (kind.Object n) = Some (standing.Object n)
standing_of (kind.BuiltIn b) = Some (standing.BuiltIn b)
standing_of what = None

back : (x : Option Standing) (id : ℕ) → standing_of (kind_of x id) ≡ x
back None id = refl
back (Some (standing.Function n)) id = refl
back (Some (standing.Object n)) id = refl
back (Some (standing.BuiltIn b)) id = refl

-- ---- what is told of a symbol

function_found : (k : ℕ) (fs : List DefinedFunction) (id : ℕ) → is_function_of fs id ≡ is_some (function_from k fs id)
function_found k [] id = refl
function_found k (f ∷ fs) id = by (f.symbol == id) (function_found (suc k) fs id)
  where
    by : (b : Bool) → is_function_of fs id ≡ is_some (function_from (suc k) fs id) → (b || is_function_of fs id) ≡ is_some (if b then Some k else function_from (suc k) fs id)
    by true h = refl
    by false h = h

object_found : (k : ℕ) (os : List Defined) (id : ℕ) → is_object_of os id ≡ is_some (object_from k os id)
object_found k [] id = refl
object_found k (o ∷ os) id = by (o.symbol == id) (object_found (suc k) os id)
  where
    by : (b : Bool) → is_object_of os id ≡ is_some (object_from (suc k) os id) → (b || is_object_of os id) ≡ is_some (if b then Some k else object_from (suc k) os id)
    by true h = refl
    by false h = h

defined_found : (u : Parts) (id : ℕ) → is_defined_in u id ≡ (is_some (function_from 0 u.functions id) || is_some (object_from 0 u.objects id))
defined_found u id = rw (function_found 0 u.functions id, object_found 0 u.objects id) refl

nothing_by : (a b : Option ℕ) (c : Option BuiltIn) → not ((is_some a || is_some b) || is_some c) ≡ not (is_some (all_of a b c))
nothing_by (Some n) b c = refl
nothing_by None (Some n) c = refl
nothing_by None None None = refl
nothing_by None None (Some b) = refl

other_by : (a b : Option ℕ) (c : Option BuiltIn) (of : CType) → (not (is_some a || is_some b) && not (fits_built_in c of)) ≡ is_other (all_of a b c) of
other_by (Some n) b c of = refl
other_by None (Some n) c of = refl
other_by None None None of = refl
other_by None None (Some b) of = refl

gives_by : (a b : Option ℕ) (c : Option BuiltIn) (of : CType) → (not (is_some a || is_some b) && gives_otherwise c of) ≡ gives_other (all_of a b c) of
gives_by (Some n) b c of = refl
gives_by None (Some n) c of = refl
gives_by None None None of = refl
gives_by None None (Some b) of = refl

module _ (s : State) (u : Parts) (xs : List (ℕ × Standing)) (h : AreStandings s u xs) where
  standing_at : (id : ℕ) → of_symbol xs id ≡ standing_in s u id
  standing_at id = sym (back (of_symbol xs id) id) ∙ ap standing_of (h id ∙ sym (standing_kind s u id)) ∙ back (standing_in s u id) id

  nothing_at : (id : ℕ) → is_nothing_in s u id ≡ not (is_some (of_symbol xs id))
  nothing_at id =
      ap (λ (b : Bool). not (b || is_some (built_in_of s id))) (defined_found u id) ∙ nothing_by (function_from 0 u.functions id) (object_from 0 u.objects id) (built_in_of s id)
      ∙ ap (λ x. not (is_some x)) (sym (standing_at id))

  other_at : (id : ℕ) (of : CType) → is_otherwise s u id of ≡ is_other (of_symbol xs id) of
  other_at id of =
      ap (λ (b : Bool). not b && not (fits_built_in (built_in_of s id) of)) (defined_found u id) ∙ other_by (function_from 0 u.functions id) (object_from 0 u.objects id) (built_in_of s id) of
      ∙ ap (λ x. is_other x of) (sym (standing_at id))

  called_at : (o : Option ℕ) (of : CType) → is_called_otherwise s u o of ≡ is_called xs o of
  called_at None of = refl
  called_at (Some id) of =
      ap (λ (b : Bool). not b && gives_otherwise (built_in_of s id) of) (defined_found u id) ∙ gives_by (function_from 0 u.functions id) (object_from 0 u.objects id) (built_in_of s id) of
      ∙ ap (λ x. gives_other x of) (sym (standing_at id))

  -- ---- the least lines

  choice : (b : Bool) (x y : Option ℕ) → (if not b then x else y) ≡ (if b then y else x)
  choice true x y = refl
  choice false x y = refl

  pub missing_told : (found : Option ℕ) (us : List (ℕ × ℕ)) → missing_from s u found us ≡ missing_in xs found us
  missing_told found [] = refl
  missing_told found (x ∷ us) =
      ap (λ f. missing_from s u f us) (ap (λ (b : Bool). if b then least found x.1 else found) (nothing_at x.0) ∙ choice (is_some (of_symbol xs x.0)) (least found x.1) found)
      ∙ missing_told (missing_with xs found x) us

  pub other_told : (found : Option ℕ) (ds : List Linked) → otherwise_from s u found ds ≡ other_in xs found ds
  other_told found [] = refl
  other_told found (d ∷ ds) =
      ap (λ f. otherwise_from s u f ds) (ap (λ (b : Bool). if b then least found d.line else found) (other_at d.symbol d.of)) ∙ other_told (other_with xs found d) ds

  pub called_told : (id : ℕ) (found : Option ℕ) (ks : List Known) → called_from s u id found ks ≡ called_in xs s.links id found ks
  called_told id found [] = refl
  called_told id found (k ∷ ks) =
      ap (λ f. called_from s u (suc id) f ks) (ap (λ (b : Bool). if not (is_link s.links id) && b then least found k.line else found) (called_at (linked_symbol k) k.of))
      ∙ called_told (suc id) (called_with xs s.links id found k) ks
