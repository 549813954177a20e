-- What holds of each element of a list, of each expression of a tree by its kind, and of each expression of a statement.
use Rattle.std.specs.Prelude.{IfSome, List, [], ◌∷◌}
use Rattle.c_types.specs.CType.{CType}
use Rattle.c_meaning.specs.declared.core_expr.CoreKind.{CoreKind}
use Rattle.c_meaning.specs.CoreTrees.{Core, NoCore, Cores}
use Rattle.c_meaning.specs.StmtTrees.{FilledOf, StmtOf, Nothing, Expression, Initialise, Block, If, While, Do, For, Switch, Label, Goto, Break, Continue, Return, StmtsOf, NoStmt, Stmts}
use Rattle.c_meaning.specs.Values.{CoreTree, CoreTrees}

abbrev pub EachIs : {A : Type 0} → (A → Type 0) → List A → Type 0
EachIs is [] = Unit {0}
EachIs is (a ∷ as') = is a × EachIs is as'

-- each kind of an expression is such
abbrev mutual
  pub EachKind : (CoreKind → Type 0) → CoreTree → Type 0
  EachKind is (Core what of line kids) = is what × EachKinds is kids

  pub EachKinds : (CoreKind → Type 0) → CoreTrees → Type 0
  EachKinds is NoCore = Unit {0}
  EachKinds is (Cores c cs) = EachKind is c × EachKinds is cs

-- each expression of a statement is such, and each place of an initialiser
abbrev mutual
  pub EachExpr : (CoreTree → Type 0) → (FilledOf CType → Type 0) → StmtOf CType → Type 0
  EachExpr is at Nothing = Unit {0}
  EachExpr is at (Expression e) = is e
  EachExpr is at (Initialise local zero places) = EachIs at places
  EachExpr is at (Block first locals ss) = EachExprs is at ss
  EachExpr is at (If e s t) = is e × (EachExpr is at s × EachExpr is at t)
  EachExpr is at (While e s) = is e × EachExpr is at s
  EachExpr is at (Do s e) = EachExpr is at s × is e
  EachExpr is at (For a b c s) = IfSome a is × (IfSome b is × (IfSome c is × EachExpr is at s))
  EachExpr is at (Switch e cases default s) = is e × EachExpr is at s
  EachExpr is at (Label n s) = EachExpr is at s
  EachExpr is at (Goto n) = Unit {0}
  EachExpr is at Break = Unit {0}
  EachExpr is at Continue = Unit {0}
  EachExpr is at (Return e) = IfSome e is

  pub EachExprs : (CoreTree → Type 0) → (FilledOf CType → Type 0) → StmtsOf CType → Type 0
  EachExprs is at NoStmt = Unit {0}
  EachExprs is at (Stmts s ss) = EachExpr is at s × EachExprs is at ss
