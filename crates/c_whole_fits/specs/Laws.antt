-- What fits still fits when its unit is made whole.
use Rattle.std.specs.Prelude.{◌≡◌, ℕ, List, length}
use Rattle.c_types.specs.CType.{CType}
use Rattle.c_meaning.specs.declared.core_expr.CoreKind.{CoreKind}
use Rattle.c_meaning.specs.CoreTrees.{type_of}
use Rattle.c_meaning.specs.Each.{EachIs}
use Rattle.c_meaning.specs.Fits.{Fits, IsOpenLeaf, is_value}
use Rattle.c_meaning.specs.Rows.{result_type}
use Rattle.c_meaning.specs.State.{State}
use Rattle.c_meaning.specs.StmtTrees.{FilledOf, StmtOf}
use Rattle.c_meaning.specs.Units.{AreOf, FunctionTree, IsExpr, IsLeaf, IsStmt, UnitTree, labels}
use Rattle.c_meaning.specs.Values.{CoreTree}
use Rattle.c_units.specs.Externals.{Parts}
use Rattle.c_units.specs.Wholes.{placed, placed_places, placed_stmt, stands_for, whole, whole_function, whole_places, whole_stmt}
use Rattle.c_fits.specs.OpenPlaces.{AreOpenOf}
use Rattle.c_unit_fits.specs.OpenStmts.{IsOpenStmt}
use Rattle.c_unit_fits.specs.Shapes.{IsShaped}
use Rattle.c_whole_fits.specs.There.{IsMeant, IsOfFunction, NamesAreThere, PlacesAreThere, StmtIsThere}

-- what symbols stand for in a unit is an object, a function, a built-in one or nothing, and no function where the type isn't one's
abbrev pub SymbolsAreMeant : Type 0
SymbolsAreMeant = (u : UnitTree) (locals : List CType) (s : State) (p : Parts) → EachIs IsOfFunction u.functions → IsMeant (IsLeaf u locals) (stands_for s p)

-- ---- expressions

-- an expression that fits, whose names and string literals are there, fits when it is made whole
abbrev pub WholeFits : Type 0
WholeFits =
    (u : UnitTree) (locals : List CType) (meant : ℕ → CoreKind) (texts : List (List ℕ)) (c : CoreTree) → IsMeant (IsLeaf u locals) meant → Fits IsOpenLeaf u.tags c → NamesAreThere (IsLeaf u locals) meant texts c
    → IsExpr u locals (whole meant texts c)

-- it keeps its type
abbrev pub WholeKeepsType : Type 0
WholeKeepsType = (meant : ℕ → CoreKind) (texts : List (List ℕ)) (c : CoreTree) → type_of (whole meant texts c) ≡ type_of c

-- and is a value where it was one
abbrev pub WholeKeepsValue : Type 0
WholeKeepsValue =
    (u : UnitTree) (locals : List CType) (meant : ℕ → CoreKind) (texts : List (List ℕ)) (c : CoreTree) → IsMeant (IsLeaf u locals) meant → Fits IsOpenLeaf u.tags c → NamesAreThere (IsLeaf u locals) meant texts c
    → is_value (whole meant texts c) ≡ is_value c

-- what fits does so when its calls name their copies
abbrev pub PlacedFits : Type 0
PlacedFits = (u : UnitTree) (locals : List CType) (n : ℕ) (c : CoreTree) → IsExpr u locals c → IsExpr u locals (placed n c)

abbrev pub PlacedKeepsType : Type 0
PlacedKeepsType = (n : ℕ) (c : CoreTree) → type_of (placed n c) ≡ type_of c

abbrev pub PlacedKeepsValue : Type 0
PlacedKeepsValue = (u : UnitTree) (locals : List CType) (n : ℕ) (c : CoreTree) → IsExpr u locals c → is_value (placed n c) ≡ is_value c

-- ---- initialisers

-- what is stored in an object lies in it as before, a string literal as the text that it is
abbrev pub WholePlacesFit : Type 0
WholePlacesFit =
    (u : UnitTree) (locals : List CType) (meant : ℕ → CoreKind) (texts : List (List ℕ)) (of : CType) (ps : List (FilledOf CType)) → IsMeant (IsLeaf u locals) meant → AreOpenOf u.tags of ps → PlacesAreThere (IsLeaf u locals) meant texts ps
    → AreOf u locals of (whole_places meant texts ps)

abbrev pub PlacedPlacesFit : Type 0
PlacedPlacesFit = (u : UnitTree) (locals : List CType) (n : ℕ) (of : CType) (ps : List (FilledOf CType)) → AreOf u locals of ps → AreOf u locals of (placed_places n ps)

-- ---- statements

-- a statement of a function, in which these labels stand
abbrev pub WholeStmtFits : Type 0
WholeStmtFits =
    (u : UnitTree) (f : FunctionTree) (meant : ℕ → CoreKind) (texts : List (List ℕ)) (ns : List ℕ) (s : StmtOf CType) → IsMeant (IsLeaf u f.locals) meant → IsOpenStmt u.tags (result_type f.of) s → IsShaped (length f.locals) ns s → StmtIsThere u f meant texts s
    → IsStmt u f ns (whole_stmt meant texts s)

abbrev pub WholeKeepsLabels : Type 0
WholeKeepsLabels = (meant : ℕ → CoreKind) (texts : List (List ℕ)) (s : StmtOf CType) → labels (whole_stmt meant texts s) ≡ labels s

abbrev pub PlacedStmtFits : Type 0
PlacedStmtFits = (u : UnitTree) (f : FunctionTree) (n : ℕ) (ns : List ℕ) (s : StmtOf CType) → IsStmt u f ns s → IsStmt u f ns (placed_stmt n s)

abbrev pub PlacedKeepsLabels : Type 0
PlacedKeepsLabels = (n : ℕ) (s : StmtOf CType) → labels (placed_stmt n s) ≡ labels s

-- so the body of a function fits, with the copies of structures as its last locals
abbrev pub WholeBodyFits : Type 0
WholeBodyFits =
    (u : UnitTree) (f : FunctionTree) (meant : ℕ → CoreKind) (texts : List (List ℕ)) → IsMeant (IsLeaf u (whole_function meant texts f).locals) meant → IsOpenStmt u.tags (result_type f.of) f.body
    → IsShaped (length f.locals) (labels f.body) f.body → StmtIsThere u (whole_function meant texts f) meant texts f.body
    → IsStmt u (whole_function meant texts f) (labels (whole_function meant texts f).body) (whole_function meant texts f).body
