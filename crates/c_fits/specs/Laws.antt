-- What is typed fits: what an expression that typing accepts is, and what is known behind it.
use Rattle.std.specs.Prelude.{◌≡◌, true, List, []}
use Rattle.c_ast.specs.Levels.{Parts, FitsDeclaration, FitsInitialiser}
use Rattle.c_ast.specs.Trees.{DeclarationTree, InitialiserTree, ExprTree, DeclaratorTree, SpecifiersTree, TypeNameTree}
use Rattle.c_types.specs.CType.{CType}
use Rattle.c_types.specs.Layout.{Tag}
use Rattle.c_meaning.specs.Declarations.{Declares}
use Rattle.c_meaning.specs.Declaring.{typed_declaration}
use Rattle.c_meaning.specs.Initialising.{Filled, Initialised, typed_initialiser}
use Rattle.c_meaning.specs.Types.{has_size}
use Rattle.c_meaning.specs.State.{State}
use Rattle.c_meaning.specs.Values.{CoreTree, value}
use Rattle.c_meaning.specs.Fits.{Fits, IsOpenLeaf, is_value}
use Rattle.c_meaning.specs.Typing.{Fine, typed, typed_name, typed_declared}
use Rattle.c_fits.specs.Sound.{IsSound, Follows, Leads, has_elements}
use Rattle.c_fits.specs.OpenDeclares.{DeclaresFit}
use Rattle.c_fits.specs.OpenPlaces.{AreOpenOf}
use Rattle.c_fits.specs.Growing.{Grows}

-- while a unit is checked, over the structures and unions that were defined
abbrev pub Fit : List Tag → CoreTree → Type 0
Fit tags c = Fits IsOpenLeaf tags c

-- an expression of the grammar, typed where what is known is sound, fits what is known behind it
abbrev pub TypedFits : Type 0
TypedFits = (s u : State) (e : ExprTree) (c : CoreTree) → IsSound s → Parts e → typed s e ≡ Fine u c → Fit u.tags c

-- so does its value, and it is a value
abbrev pub TypedValueFits : Type 0
TypedValueFits = (s u : State) (e : ExprTree) (c : CoreTree) → IsSound s → Parts e → typed s e ≡ Fine u c → Fit u.tags (value c) × (is_value (value c) ≡ true)

-- what is known behind is sound again, and follows what was known before
abbrev pub TypedFollows : Type 0
TypedFollows = (s u : State) (e : ExprTree) (c : CoreTree) → IsSound s → typed s e ≡ Fine u c → Follows s u

-- so it is behind a type name, and behind specifiers and a declarator
abbrev pub NamedFollows : Type 0
NamedFollows = (s u : State) (t : TypeNameTree) (of : CType) → IsSound s → typed_name s t ≡ Fine u of → Follows s u

abbrev pub DeclaredFollows : Type 0
DeclaredFollows = (s u : State) (specs : SpecifiersTree) (d : DeclaratorTree) (of : CType) → IsSound s → typed_declared s specs d ≡ Fine u of → Follows s u

-- behind a declaration it leads on from what was known before
abbrev pub DeclarationLeads : Type 0
DeclarationLeads = (s u : State) (d : DeclarationTree) (what : Declares) → IsSound s → typed_declaration s d ≡ Fine u what → Leads s u

-- what an initialiser of the grammar stores in an object is such that values are for their places and these lie in it, where the
-- elements of an array of unknown size have a size, and the object has one behind it
abbrev pub InitialiserFits : Type 0
InitialiserFits =
    (s u : State) (o : Initialised) (i : InitialiserTree) (f : Filled) → IsSound s → FitsInitialiser i → has_elements s.tags o.of ≡ true → typed_initialiser s o i ≡ Fine u f → has_size u.tags f.of ≡ true
    → AreOpenOf u.tags f.of f.places

-- what a declaration of the grammar gives: its objects and locals have sizes, and what they begin with is such
abbrev pub DeclarationFits : Type 0
DeclarationFits = (s u : State) (d : DeclarationTree) (what : Declares) → IsSound s → FitsDeclaration d → typed_declaration s d ≡ Fine u what → DeclaresFit u.tags what

-- what is known where nothing is known yet is sound
abbrev pub NothingIsSound : Type 0
NothingIsSound = IsSound (record { outer = []; inner = []; links = []; symbols = []; tags = []; count = 0 })

-- what fits does so still where more is defined
abbrev pub FittingStays : Type 0
FittingStays = (old new : List Tag) (c : CoreTree) → Grows old new → Fit old c → Fit new c
