-- What names and string literals become when their unit is made whole is there.
-- Source: C89 3.1.2.2, 3.1.4.
use Rattle.std.specs.Prelude.{◌≡◌, ℕ, Bool, true, false, IfSome, Some, List, [], ◌∷◌, slice_get}
use Rattle.c_types.specs.CType.{CType}
use Rattle.c_meaning.specs.declared.core_expr.CoreKind.{CoreKind}
use Rattle.c_meaning.specs.declared.core_expr.CoreKind.TheVariants as kind
use Rattle.c_meaning.specs.CoreTrees.{Core, NoCore, Cores}
use Rattle.c_meaning.specs.Declarations.{or_zero}
use Rattle.c_meaning.specs.StmtTrees.{FilledOf, StmtOf, Nothing, Expression, Initialise, Block, If, While, Do, For, Switch, Label, Goto, Break, Continue, Return, StmtsOf, NoStmt, Stmts}
use Rattle.c_meaning.specs.Types.{is_function}
use Rattle.c_meaning.specs.Units.{FunctionTree, IsLeaf, UnitTree}
use Rattle.c_meaning.specs.Values.{CoreTree, CoreTrees, is_place_kind}
use Rattle.c_units.specs.Functions.{place_in}
use Rattle.c_fits.specs.OpenPlaces.{AreOpenOf}

-- what a symbol may stand for: an object, a function, a built-in one, or nothing
abbrev pub is_meaning : CoreKind → Bool
is_meaning (kind.Object n) = true
is_meaning (kind.Function n) = true
is_meaning (kind.BuiltIn b) = true
is_meaning (kind.Symbol id) = true
is_meaning what = false

-- What symbols stand for, where it is known of leaves: a place, if its type isn't a function's.
pub record IsMeant (leaf : CoreKind → CType → Type 0) (meant : ℕ → CoreKind) : Type 0 where
  pub meaning : (id : ℕ) → is_meaning (meant id) ≡ true
  pub places : (id : ℕ) (of : CType) → leaf (meant id) of → is_function of ≡ false → is_place_kind (meant id) ≡ true

-- as it is where a unit's functions have functions' types
abbrev pub IsOfFunction : FunctionTree → Type 0
IsOfFunction f = is_function f.of ≡ true

abbrev pub IsThere : (CoreKind → CType → Type 0) → (ℕ → CoreKind) → List (List ℕ) → CoreKind → CType → Type 0
IsThere leaf meant texts (kind.Local place register) of = leaf (kind.Local place register) of
IsThere leaf meant texts (kind.Symbol id) of = leaf (meant id) of
IsThere leaf meant texts (kind.Literal bytes) of = leaf (kind.Text (or_zero (place_in texts bytes))) of
IsThere leaf meant texts what of = Unit {0}

-- the locals that an expression names, what its symbols stand for and its string literals
abbrev mutual
  pub NamesAreThere : (CoreKind → CType → Type 0) → (ℕ → CoreKind) → List (List ℕ) → CoreTree → Type 0
  NamesAreThere leaf meant texts (Core what of line kids) = IsThere leaf meant texts what of × AllAreThere leaf meant texts kids

  pub AllAreThere : (CoreKind → CType → Type 0) → (ℕ → CoreKind) → List (List ℕ) → CoreTrees → Type 0
  AllAreThere leaf meant texts NoCore = Unit {0}
  AllAreThere leaf meant texts (Cores c cs) = NamesAreThere leaf meant texts c × AllAreThere leaf meant texts cs

-- those of what is stored in an object
abbrev pub PlacesAreThere : (CoreKind → CType → Type 0) → (ℕ → CoreKind) → List (List ℕ) → List (FilledOf CType) → Type 0
PlacesAreThere leaf meant texts [] = Unit {0}
PlacesAreThere leaf meant texts (p ∷ ps) = NamesAreThere leaf meant texts p.value × PlacesAreThere leaf meant texts ps

-- a local of the function with this place, in which what is stored lies
abbrev pub IsOwn : UnitTree → FunctionTree → ℕ → List (FilledOf CType) → Type 0
IsOwn u f local ps = (of : CType) × (slice_get f.locals local ≡ Some of) × AreOpenOf u.tags of ps

-- those of a function's statements, whose initialised locals are its own
abbrev mutual
  pub StmtIsThere : UnitTree → FunctionTree → (ℕ → CoreKind) → List (List ℕ) → StmtOf CType → Type 0
  StmtIsThere u f meant texts Nothing = Unit {0}
  StmtIsThere u f meant texts (Expression e) = NamesAreThere (IsLeaf u f.locals) meant texts e
  StmtIsThere u f meant texts (Initialise local zero ps) = IsOwn u f local ps × PlacesAreThere (IsLeaf u f.locals) meant texts ps
  StmtIsThere u f meant texts (Block first locals ss) = StmtsAreThere u f meant texts ss
  StmtIsThere u f meant texts (If e s t) = NamesAreThere (IsLeaf u f.locals) meant texts e × (StmtIsThere u f meant texts s × StmtIsThere u f meant texts t)
  StmtIsThere u f meant texts (While e s) = NamesAreThere (IsLeaf u f.locals) meant texts e × StmtIsThere u f meant texts s
  StmtIsThere u f meant texts (Do s e) = StmtIsThere u f meant texts s × NamesAreThere (IsLeaf u f.locals) meant texts e
  StmtIsThere u f meant texts (For a b c s) =
      IfSome a (NamesAreThere (IsLeaf u f.locals) meant texts)
      × (IfSome b (NamesAreThere (IsLeaf u f.locals) meant texts) × (IfSome c (NamesAreThere (IsLeaf u f.locals) meant texts) × StmtIsThere u f meant texts s))
  StmtIsThere u f meant texts (Switch e cases default s) = NamesAreThere (IsLeaf u f.locals) meant texts e × StmtIsThere u f meant texts s
  StmtIsThere u f meant texts (Label n s) = StmtIsThere u f meant texts s
  StmtIsThere u f meant texts (Goto n) = Unit {0}
  StmtIsThere u f meant texts Break = Unit {0}
  StmtIsThere u f meant texts Continue = Unit {0}
  StmtIsThere u f meant texts (Return e) = IfSome e (NamesAreThere (IsLeaf u f.locals) meant texts)

  pub StmtsAreThere : UnitTree → FunctionTree → (ℕ → CoreKind) → List (List ℕ) → StmtsOf CType → Type 0
  StmtsAreThere u f meant texts NoStmt = Unit {0}
  StmtsAreThere u f meant texts (Stmts s ss) = StmtIsThere u f meant texts s × StmtsAreThere u f meant texts ss
