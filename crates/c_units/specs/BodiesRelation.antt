-- Typing of statements as a relation, by rows: each is typed where its parts are, in order, and its node breaks no constraint and
-- passes no limit. The states are those before and behind it.
-- Source: C89 3.6.
use Rattle.std.specs.Prelude.{◌≡◌, ℕ, None, List, [], ◌∷◌}
use Rattle.c_ast.specs.Trees.{NoExpr, AnExpr, DeclarationTree, StatementTree, Label, Case, Default, Expression, Compound, If, IfElse, Switch, While, Do, For, Goto, Continue, Break, Return, StatementTrees, NoStatements, Statements, BlockTree, Block}
use Rattle.c_types.specs.CType.{CType}
use Rattle.c_meaning.specs.State.{State, entered, left}
use Rattle.c_meaning.specs.StmtTrees.{StmtOf, StmtsOf, NoStmt}
use Rattle.c_meaning.specs.StmtTrees as code
use Rattle.c_meaning.specs.Values.{value}
use Rattle.c_meaning.specs.TypingRelation.{Is, Then, Types, TypesMaybe}
use Rattle.c_meaning.specs.Declarations.{Declares, nothing, together}
use Rattle.c_meaning.specs.DeclaringRelation.{TypesDeclaration}
use Rattle.c_units.specs.Statements.{Around, StmtNode, stmt_fault}
use Rattle.c_units.specs.Statements as node
use Rattle.c_units.specs.Bodies.{Within, Body, Typed, done, marked, with_cases, with_case, with_default, is_case_again, is_default_again, with_declared, in_loop, in_switch, goto, stands_again, maybe_value, returned, labelled, switched, on_code, joined, block_of}

-- a node that breaks nothing and passes nothing, and what it makes of its parts
abbrev pub IsStmt : {T : Type 0} → State → ℕ → StmtNode → T → State → T → Type 0
IsStmt s line n t u x = (stmt_fault s line n ≡ None) × Is s t u x

abbrev pub TypesDeclarations : State → List DeclarationTree → State → Declares → Type 0
TypesDeclarations s [] = Is s nothing
TypesDeclarations s (d ∷ ds) = Then (TypesDeclaration s d) (λ s what. Then (TypesDeclarations s ds) (λ s more. Is s (together what more)))

abbrev mutual
  pub TypesStmt : Within → Around → State → Body → StatementTree → State → Typed (StmtOf CType) → Type 0
  TypesStmt f a s b (Label l name st) = Then (TypesStmt f a s (marked b) st) (λ s t. IsStmt s l (node.Label (stands_again f b name)) (labelled b t))
  TypesStmt f a s b (Case l e st) = Then (Types s e) (λ s c. Then (TypesStmt f a s (with_case a b c) st) (λ s t. IsStmt s l (node.Case c a (is_case_again a b c)) (labelled b t)))
  TypesStmt f a s b (Default l st) = Then (TypesStmt f a s (with_default a b) st) (λ s t. IsStmt s l (node.Default a (is_default_again a b)) (labelled b t))
  TypesStmt f a s b (Expression l NoExpr) = Is s (done b code.Nothing)
  TypesStmt f a s b (Expression l (AnExpr e)) = Then (Types s e) (λ s c. IsStmt s l (node.Expression c) (done b (code.Expression (value c))))
  TypesStmt f a s b (Compound l block) = Then (TypesBlock f a (entered s) b block) (λ t x. Is (left s.outer s.inner t) x)
  TypesStmt f a s b (If l e st) = Then (Types s e) (λ s c. Then (TypesStmt f a s b st) (λ s t. IsStmt s l (node.Test c) (done t.body (code.If (value c) t.code code.Nothing))))
  TypesStmt f a s b (IfElse l e st su) = Then (Types s e) (λ s c. Then (TypesStmt f a s b st) (λ s t. Then (TypesStmt f a s t.body su) (λ s u. IsStmt s l (node.Test c) (done u.body (code.If (value c) t.code u.code)))))
  TypesStmt f a s b (Switch l e st) = Then (Types s e) (λ s c. Then (TypesStmt f (in_switch a) s (with_cases [] None b) st) (λ s t. IsStmt s l (node.Switch c) (switched b c t)))
  TypesStmt f a s b (While l e st) = Then (Types s e) (λ s c. Then (TypesStmt f (in_loop a) s b st) (λ s t. IsStmt s l (node.Test c) (on_code (code.While (value c)) t)))
  TypesStmt f a s b (Do l st e) = Then (TypesStmt f (in_loop a) s b st) (λ s t. Then (Types s e) (λ s c. IsStmt s l (node.Test c) (on_code (λ x. code.Do x (value c)) t)))
  TypesStmt f a s b (For l first test last st) =
      Then (TypesMaybe s first) (λ s c. Then (TypesMaybe s test) (λ s d. Then (TypesMaybe s last) (λ s e.
      Then (TypesStmt f (in_loop a) s b st) (λ s t. IsStmt s l (node.For c d e) (on_code (code.For (maybe_value c) (maybe_value d) (maybe_value e)) t)))))
  TypesStmt f a s b (Goto l name) = Is s (goto f b name)
  TypesStmt f a s b (Continue l) = IsStmt s l (node.Continue a) (done b code.Continue)
  TypesStmt f a s b (Break l) = IsStmt s l (node.Break a) (done b code.Break)
  TypesStmt f a s b (Return l e) = Then (TypesMaybe s e) (λ s c. IsStmt s l (node.Return f.result c) (done b (code.Return (returned f.result c))))

  pub TypesStmts : Within → Around → State → Body → StatementTrees → State → Typed (StmtsOf CType) → Type 0
  TypesStmts f a s b NoStatements = Is s (done b NoStmt)
  TypesStmts f a s b (Statements st more) = Then (TypesStmt f a s b st) (λ s t. Then (TypesStmts f a s t.body more) (λ s ts. Is s (joined t ts)))

  -- in the scope that it stands in
  pub TypesBlock : Within → Around → State → Body → BlockTree → State → Typed (StmtOf CType) → Type 0
  TypesBlock f a s b (Block l ds ss) = Then (TypesDeclarations s ds) (λ s what. Then (TypesStmts f a s (with_declared b what) ss) (λ s t. Is s (block_of b what t)))
