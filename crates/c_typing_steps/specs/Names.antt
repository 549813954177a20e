-- The names and string literals in a typed expression, and that each name stands for what its declaration in force says.
-- Source: C89 3.3.1, 3.1.4.
use Rattle.std.specs.Prelude.{◌≡◌, ℕ, Some, IfSome, List, [], ◌∷◌}
use Rattle.c_types.specs.CType.{CType}
use Rattle.c_meaning.specs.declared.core_expr.CoreKind.{CoreKind}
use Rattle.c_meaning.specs.declared.core_expr.CoreKind.TheVariants as kind
use Rattle.c_meaning.specs.CoreTrees.{Core, NoCore, Cores}
use Rattle.c_meaning.specs.Rows.{kind_meant}
use Rattle.c_meaning.specs.State.{State, known_at, place_of}
use Rattle.c_meaning.specs.StmtTrees.{FilledOf, StmtOf, Nothing, Expression, Initialise, Block, If, While, Do, For, Switch, Label, Goto, Break, Continue, Return, StmtsOf, NoStmt, Stmts}
use Rattle.c_meaning.specs.Units.{text_type}
use Rattle.c_meaning.specs.Values.{CoreTree, CoreTrees}
use Rattle.c_tree_names.specs.Names.{IsName}
use Rattle.c_typing_steps.specs.Steps.{Steps}

-- of a name or a string literal, this
abbrev pub IfName : (CoreKind → CType → Type 0) → CoreKind → CType → Type 0
IfName P (kind.Local place register) of = P (kind.Local place register) of
IfName P (kind.Symbol id) of = P (kind.Symbol id) of
IfName P (kind.Literal bytes) of = P (kind.Literal bytes) of
IfName P what of = Unit {0}

abbrev mutual
  -- of each in an expression
  pub EachName : (CoreKind → CType → Type 0) → CoreTree → Type 0
  EachName P (Core what of line kids) = IfName P what of × EachNameOf P kids

  pub EachNameOf : (CoreKind → CType → Type 0) → CoreTrees → Type 0
  EachNameOf P NoCore = Unit {0}
  EachNameOf P (Cores c cs) = EachName P c × EachNameOf P cs

-- and of each in what is stored in an object
abbrev pub EachNameStored : (CoreKind → CType → Type 0) → List (FilledOf CType) → Type 0
EachNameStored P [] = Unit {0}
EachNameStored P (p ∷ ps) = EachName P p.value × EachNameStored P ps

-- and of each in a statement
abbrev mutual
  pub EachNameIn : (CoreKind → CType → Type 0) → StmtOf CType → Type 0
  EachNameIn P Nothing = Unit {0}
  EachNameIn P (Expression e) = EachName P e
  EachNameIn P (Initialise local zero ps) = EachNameStored P ps
  EachNameIn P (Block first locals ss) = EachNameInAll P ss
  EachNameIn P (If e s t) = EachName P e × (EachNameIn P s × EachNameIn P t)
  EachNameIn P (While e s) = EachName P e × EachNameIn P s
  EachNameIn P (Do s e) = EachNameIn P s × EachName P e
  EachNameIn P (For a b c s) = IfSome a (EachName P) × (IfSome b (EachName P) × (IfSome c (EachName P) × EachNameIn P s))
  EachNameIn P (Switch e cases default s) = EachName P e × EachNameIn P s
  EachNameIn P (Label n s) = EachNameIn P s
  EachNameIn P (Goto n) = Unit {0}
  EachNameIn P Break = Unit {0}
  EachNameIn P Continue = Unit {0}
  EachNameIn P (Return e) = IfSome e (EachName P)

  pub EachNameInAll : (CoreKind → CType → Type 0) → StmtsOf CType → Type 0
  EachNameInAll P NoStmt = Unit {0}
  EachNameInAll P (Stmts s ss) = EachNameIn P s × EachNameInAll P ss

-- a name in an expression that is typed between two states stands for what the declaration in force says, at one in between
pub record Stands (s u : State) (what : CoreKind) (of : CType) : Type 0 where
  pub at : State
  pub before : Steps s at
  pub behind : Steps at u
  pub name : List ℕ
  pub is : IsName name
  pub id : ℕ
  pub found : place_of at name ≡ Some id
  pub means : what ≡ kind_meant (known_at at id).class (known_at at id).value id
  pub type : of ≡ (known_at at id).of

-- a string literal has its own type
abbrev pub StandsFor : State → State → CoreKind → CType → Type 0
StandsFor s u (kind.Literal bytes) of = of ≡ text_type bytes
StandsFor s u what of = Stands s u what of
