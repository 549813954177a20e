-- Initialisers: what is known behind them comes by steps, and each name in what they store stands for what its declaration says.
use Rattle.std.proofs.Common.{Bool, true, false, List, ◌++◌, subst}
use Rattle.std.specs.Prelude.{Option, Some, None, IfSome, if◌then◌else◌}
use Rattle.c_ast.specs.Trees.{InitialiserTree, ByExpr, Braced, InitialiserTrees, NoInitialisers, Initialisers}
use Rattle.c_meaning.specs.DeclaringRelation.{TypesInitialiser, TypesItem, TypesItems, TypesMaybeInitialiser}
use Rattle.c_meaning.specs.Filling.{Waiting, Found, begun_in, filled_in, is_text_over, next, stored, stored_text, taken}
use Rattle.c_meaning.specs.Initialising.{Filled, Initialised, Stored, is_scalar_at, whole}
use Rattle.c_meaning.specs.State.{State}
use Rattle.c_meaning.specs.Types.{is_scalar}
use Rattle.c_meaning.specs.Values.{CoreTree, passed_to, value}
use Rattle.c_tree_names.specs.Names.{AllInitialiserNames, InitialiserNames, MaybeInitialiserNames}
use Rattle.c_typing_steps.specs.Names.{EachName, EachNameStored, StandsFor}
use Rattle.c_typing_steps.specs.Steps.{Steps, Stay, Go}
use Rattle.c_typing_steps.proofs.lemmas.Builders.{passed_names, value_names}
use Rattle.c_typing_steps.proofs.lemmas.Names.{Name, stored_append, stored_between}
use Rattle.c_typing_steps.proofs.lemmas.NamesWalk.{expr_names}
use Rattle.c_typing_steps.proofs.lemmas.Walk.{expr_steps, stay, to}

-- ---- steps

mutual
  items_steps : (s : State) (static scalar : Bool) (ws : List Waiting) (is : InitialiserTrees) (u : State) (x : Stored) → AllInitialiserNames is → TypesItems s static scalar ws is u x → Steps s u
  items_steps s static scalar ws NoInitialisers u x n h = stay h.0
  items_steps s static scalar ws (Initialisers i is) u x n h = Go (item_steps s static scalar ws i h.0 h.1 n.0 h.2) (to (items_steps h.0 static scalar h.1.left is h.3.0 h.3.1 n.1 h.3.2) h.3.3.0)

  item_steps : (s : State) (static scalar : Bool) (ws : List Waiting) (i : InitialiserTree) (u : State) (x : Stored) → InitialiserNames i → TypesItem s static scalar ws i u x → Steps s u
  item_steps s static scalar ws (ByExpr l e) u x n h = to (expr_steps s e h.0 h.1 n h.2) h.3.1.0
  item_steps s static scalar ws (Braced l items comma) u x n h =
      to (items_steps s static (is_scalar_at (next s.tags ws)) (begun_in s.tags items (next s.tags ws)) items h.0 h.1 n h.2) h.3.1.0

pub initialiser_steps : (s : State) (o : Initialised) (i : InitialiserTree) (u : State) (f : Filled) → InitialiserNames i → TypesInitialiser s o i u f → Steps s u
initialiser_steps s o (ByExpr l e) u f n h = to (expr_steps s e h.0 h.1 n h.2) h.3.1.0
initialiser_steps s o (Braced l items comma) u f n h = to (items_steps s o.static (is_scalar o.of) (begun_in s.tags items (whole s.tags o.of)) items h.0 h.1 n h.2) h.3.1.0

pub maybe_initialiser_steps : (s : State) (o : Initialised) (i : Option InitialiserTree) (u : State) (f : Option Filled) → MaybeInitialiserNames i → TypesMaybeInitialiser s o i u f → Steps s u
maybe_initialiser_steps s o None u f n h = stay h.0
maybe_initialiser_steps s o (Some i) u f n h = to (initialiser_steps s o i h.0 h.1 n h.2) h.3.0

-- ---- names

-- what an expression stores in its place
filled_names : (P : Name) (f : Option Found) (c : CoreTree) → EachName P c → EachNameStored P (filled_in f c)
filled_names P None c h = tt
filled_names P (Some f) c h = (by (is_text_over f.at.of c), tt)
  where
    by : (b : Bool) → EachName P (if b then stored_text f.at c else stored f.at (passed_to f.at.of (value c))).value
    by true = h
    by false = passed_names P f.at.of (value c) (value_names P c h)

-- each name in what is stored, up to this state
abbrev Stand : State → State → Stored → Type 0
Stand s u x = EachNameStored (StandsFor s u) x.places

mutual
  items_names : (s : State) (static scalar : Bool) (ws : List Waiting) (is : InitialiserTrees) (u : State) (x : Stored) → AllInitialiserNames is → TypesItems s static scalar ws is u x → Stand s u x
  items_names s static scalar ws NoInitialisers u x n h = subst (Stand s u) h.1 tt
  items_names s static scalar ws (Initialisers i is) u x n h =
      subst (Stand s u) h.3.3.1
      (subst (λ u. EachNameStored (StandsFor s u) (h.1.places ++ h.3.1.places)) h.3.3.0
      (stored_append (StandsFor s h.3.0) h.1.places h.3.1.places
      (stored_between s s h.0 h.3.0 h.1.places Stay (items_steps h.0 static scalar h.1.left is h.3.0 h.3.1 n.1 h.3.2) (item_names s static scalar ws i h.0 h.1 n.0 h.2))
      (stored_between s h.0 h.3.0 h.3.0 h.3.1.places (item_steps s static scalar ws i h.0 h.1 n.0 h.2) Stay (items_names h.0 static scalar h.1.left is h.3.0 h.3.1 n.1 h.3.2))))

  item_names : (s : State) (static scalar : Bool) (ws : List Waiting) (i : InitialiserTree) (u : State) (x : Stored) → InitialiserNames i → TypesItem s static scalar ws i u x → Stand s u x
  item_names s static scalar ws (ByExpr l e) u x n h =
      subst (Stand s u) h.3.1.1 (subst (λ u. EachNameStored (StandsFor s u) (filled_in (taken h.0.tags h.1 ws) h.1)) h.3.1.0 (filled_names (StandsFor s h.0) (taken h.0.tags h.1 ws) h.1 (expr_names s e h.0 h.1 n h.2)))
  item_names s static scalar ws (Braced l items comma) u x n h =
      subst (Stand s u) h.3.1.1 (subst (λ u. EachNameStored (StandsFor s u) h.1.places) h.3.1.0 (items_names s static (is_scalar_at (next s.tags ws)) (begun_in s.tags items (next s.tags ws)) items h.0 h.1 n h.2))

abbrev StandIn : State → State → Filled → Type 0
StandIn s u f = EachNameStored (StandsFor s u) f.places

pub initialiser_names : (s : State) (o : Initialised) (i : InitialiserTree) (u : State) (f : Filled) → InitialiserNames i → TypesInitialiser s o i u f → EachNameStored (StandsFor s u) f.places
initialiser_names s o (ByExpr l e) u f n h =
    subst (StandIn s u) h.3.1.1 (subst (λ u. EachNameStored (StandsFor s u) (filled_in (whole s.tags o.of) h.1)) h.3.1.0 (filled_names (StandsFor s h.0) (whole s.tags o.of) h.1 (expr_names s e h.0 h.1 n h.2)))
initialiser_names s o (Braced l items comma) u f n h =
    subst (StandIn s u) h.3.1.1 (subst (λ u. EachNameStored (StandsFor s u) h.1.places) h.3.1.0 (items_names s o.static (is_scalar o.of) (begun_in s.tags items (whole s.tags o.of)) items h.0 h.1 n h.2))

abbrev MaybeStand : State → State → Option Filled → Type 0
MaybeStand s u f = IfSome f (StandIn s u)

pub maybe_initialiser_names : (s : State) (o : Initialised) (i : Option InitialiserTree) (u : State) (f : Option Filled) → MaybeInitialiserNames i → TypesMaybeInitialiser s o i u f → IfSome f (λ g. EachNameStored (StandsFor s u) g.places)
maybe_initialiser_names s o None u f n h = subst (MaybeStand s u) h.1 tt
maybe_initialiser_names s o (Some i) u f n h = subst (MaybeStand s u) h.3.1 (subst (λ u. StandIn s u h.1) h.3.0 (initialiser_names s o i h.0 h.1 n h.2))
