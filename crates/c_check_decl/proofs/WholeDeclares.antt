-- What a declared name declares, by its linkage and its storage class.
use Rattle.std.proofs.Common.{◌≡◌, ℕ, Bool, true, false, Option, Some, None, List, [], ◌∷◌, ◌++◌, map, refl, sym, ap, ◌∙◌}
use Rattle.std.specs.Prelude.{◌||◌, is_some}
use Rattle.c_ast.specs.Trees.{InitialiserTree}
use Rattle.c_types.specs.CType.{CType}
use Rattle.c_types.specs.Table.{Table}
use Rattle.c_meaning.specs.declared.core_stmt.CoreStmt.{CoreStmt}
use Rattle.c_meaning.specs.declared.core_stmt.CoreStmt.TheVariants as stmt
use Rattle.c_meaning.specs.declared.filled_place.FilledPlace.{FilledPlace}
use Rattle.c_meaning.specs.Declarations.{Naming, declares, fills_of, is_static, is_typedef, is_zeroed, linked_declares, object, one_object, or_zero}
use Rattle.c_meaning.specs.Initialising.{Filled as FilledTrees}
use Rattle.c_meaning.specs.Linkage.{is_linked}
use Rattle.c_meaning.specs.State.{State, place_here}
use Rattle.c_meaning.specs.StmtTrees.{Initialise}
use Rattle.c_meaning.specs.Types.{is_function}
use Rattle.c_initialisers.specs.declared.filled.Filled.{Filled}
use Rattle.c_initialisers.specs.FilledPlaces.{ArePlacesIn, filled_place_in}
use Rattle.c_check_decl.specs.Declares.{AreFillsIn, IsMaybeFilledIn, maybe_filled_in, places_in, stmt_in}
use Rattle.c_check_decl.proofs.lemmas.FillStmts.{fill_seen, fill_within}

pub is_some_filled : (t : Table) (f : Option Filled) → is_some (maybe_filled_in t f) ≡ is_some f
is_some_filled t None = refl
is_some_filled t (Some f) = refl

pub places_within : (n : ℕ) (f : Option Filled) (ps : List FilledPlace) → ps ≡ places_in f → IsMaybeFilledIn n f → ArePlacesIn n ps
places_within n None ps e i = rw e tt
places_within n (Some f) ps e i = rw e i.places

-- ---- what local objects begin with

pub fills_pushed : (t : Table) (of : CType) (i : Option InitialiserTree) (place : ℕ) (zero : Bool) (before : List CoreStmt) (o : Option Filled) (f : Filled) (ss : List CoreStmt) → before ≡ [] → o ≡ Some f → ss ≡ before ++ stmt.Initialise place zero f.places ∷ [] → zero ≡ is_zeroed of i
    → map (stmt_in t) ss ≡ fills_of place of i (maybe_filled_in t o)
fills_pushed t of i place zero before o f ss b h e z =
    rw (e, b, h) (ap (λ s. s ∷ []) (fill_seen t place zero f.places ∙ ap (λ x. Initialise place x (map (filled_place_in t) f.places)) z))

pub fills_within : (n place : ℕ) (zero : Bool) (before : List CoreStmt) (o : Option Filled) (f : Filled) (ss : List CoreStmt) → before ≡ [] → o ≡ Some f → ss ≡ before ++ stmt.Initialise place zero f.places ∷ [] → IsMaybeFilledIn n o → AreFillsIn n ss
fills_within n place zero before None f ss b h e i = absurd (cc)
fills_within n place zero before (Some g) f ss b h e i = rw (e, b) (let k : g ≡ f = cc in rw (sym k) (fill_within n place zero g.places i.places, tt))

-- ---- by linkage and class

module _ (s : State) (line place : ℕ) (of : CType) (n : Naming) (i : Option InitialiserTree) (f : Option FilledTrees) where
  pub declares_linked : is_linked n.linkage ≡ true → declares s line place of n i f ≡ linked_declares s line of n f
  declares_linked h = rw h refl

  pub declares_static : is_linked n.linkage ≡ false → (is_typedef n.class || is_function n.of) ≡ false → is_static n.class ≡ true → declares s line place of n i f ≡ one_object (object (or_zero (place_here s n.name)) line n f)
  declares_static h k l = rw (h, k, l) refl
