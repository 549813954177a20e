-- What typing changes, and what the names of typed expressions and initialisers stand for.
use Rattle.std.specs.Prelude.{Option, List, IfSome}
use Rattle.c_ast.specs.Trees.{ExprTree, SpecifiersTree, DeclaratorTree, InitTree, InitialiserTree}
use Rattle.c_meaning.specs.State.{State}
use Rattle.c_meaning.specs.TypeRows.{Specified}
use Rattle.c_meaning.specs.Typing.{Declared}
use Rattle.c_meaning.specs.TypingRelation.{Types, TypesSpecifiers, TypesDeclarator}
use Rattle.c_meaning.specs.DeclaringRelation.{TypesInside, TypesOwnSpecifiers, TypesMaybeInitialiser}
use Rattle.c_meaning.specs.Initialising.{Initialised, Filled}
use Rattle.c_meaning.specs.Values.{CoreTree}
use Rattle.c_tree_names.specs.Names.{DeclaratorNames, ExprNames, MaybeInitialiserNames, SpecifiersNames}
use Rattle.c_typing_steps.specs.Names.{EachName, EachNameStored, StandsFor}
use Rattle.c_typing_steps.specs.Steps.{Steps}

-- ---- what is known changes by steps

abbrev pub ExpressionsStep : Type 0
ExpressionsStep = (s u : State) (e : ExprTree) (c : CoreTree) → ExprNames e → Types s e u c → Steps s u

abbrev pub SpecifiersStep : Type 0
SpecifiersStep = (s u : State) (specs : SpecifiersTree) (b : Specified) → SpecifiersNames specs → TypesSpecifiers s specs u b → Steps s u

abbrev pub DeclaratorsStep : Type 0
DeclaratorsStep = (s u : State) (d : DeclaratorTree) (p : Declared) → DeclaratorNames d → TypesDeclarator s d u p → Steps s u

-- specifiers of a declaration, with declarators or alone, at file scope or in a block
abbrev pub OwnSpecifiersStep : Type 0
OwnSpecifiersStep = (s u : State) (specs : SpecifiersTree) (is : List InitTree) (b : Specified) → SpecifiersNames specs → TypesOwnSpecifiers s specs is u b → Steps s u

abbrev pub InsideSpecifiersStep : Type 0
InsideSpecifiersStep = (s u : State) (specs : SpecifiersTree) (is : List InitTree) (b : Specified) → SpecifiersNames specs → TypesInside s specs is u b → Steps s u

abbrev pub InitialisersStep : Type 0
InitialisersStep = (s u : State) (o : Initialised) (i : Option InitialiserTree) (f : Option Filled) → MaybeInitialiserNames i → TypesMaybeInitialiser s o i u f → Steps s u

-- ---- names

abbrev pub ExpressionNamesStand : Type 0
ExpressionNamesStand = (s u : State) (e : ExprTree) (c : CoreTree) → ExprNames e → Types s e u c → EachName (StandsFor s u) c

-- so in what an initialiser stores
abbrev pub InitialiserNamesStand : Type 0
InitialiserNamesStand =
    (s u : State) (o : Initialised) (i : Option InitialiserTree) (f : Option Filled) → MaybeInitialiserNames i → TypesMaybeInitialiser s o i u f
    → IfSome f (λ g. EachNameStored (StandsFor s u) g.places)

-- all of them
pub record StepLaws : Type 0 where
  pub expressions : ExpressionsStep
  pub specifiers : SpecifiersStep
  pub declarators : DeclaratorsStep
  pub own : OwnSpecifiersStep
  pub inside : InsideSpecifiersStep
  pub initialisers : InitialisersStep
  pub names : ExpressionNamesStand
  pub stored : InitialiserNamesStand
