-- What the rows of statements type is what typing as a function gives, and nothing else.
use Rattle.std.specs.Prelude.{None, List, [], ◌∷◌}
use Rattle.c_ast.specs.Trees.{NoExpr, AnExpr, DeclarationTree, StatementTree, Label, Case, Default, Expression, Compound, If, IfElse, Switch, While, Do, For, Goto, Continue, Break, Return, StatementTrees, NoStatements, Statements, BlockTree, Block}
use Rattle.c_meaning.specs.State.{State, entered}
use Rattle.c_meaning.specs.Laws.{IsTyping}
use Rattle.c_meaning.proofs.lemmas.Threads.{then_typing, is_typing, at_typing}
use Rattle.c_meaning.proofs.lemmas.TypingRows.{expr_rows, maybe_rows}
use Rattle.c_meaning.proofs.lemmas.DeclaringRows.{declaration_rows}
use Rattle.c_units.specs.Statements.{Around}
use Rattle.c_units.specs.Bodies.{Within, Body, marked, with_cases, with_case, with_default, with_declared, in_loop, in_switch, typed_declarations, typed_stmt, all_typed_stmts, typed_block}
use Rattle.c_units.specs.BodiesRelation.{TypesDeclarations, TypesStmt, TypesStmts, TypesBlock}

declarations_rows : (s : State) (ds : List DeclarationTree) → IsTyping (typed_declarations s ds) (TypesDeclarations s ds)
declarations_rows s [] = is_typing
declarations_rows s (d ∷ ds) = then_typing (declaration_rows s d) (λ s what. then_typing (declarations_rows s ds) (λ s more. is_typing))

mutual
  pub stmt_rows : (f : Within) (a : Around) (s : State) (b : Body) (t : StatementTree) → IsTyping (typed_stmt f a s b t) (TypesStmt f a s b t)
  stmt_rows f a s b (Label l name st) = then_typing (stmt_rows f a s (marked b) st) (λ s t. at_typing)
  stmt_rows f a s b (Case l e st) = then_typing (expr_rows s e) (λ s c. then_typing (stmt_rows f a s (with_case a b c) st) (λ s t. at_typing))
  stmt_rows f a s b (Default l st) = then_typing (stmt_rows f a s (with_default a b) st) (λ s t. at_typing)
  stmt_rows f a s b (Expression l NoExpr) = is_typing
  stmt_rows f a s b (Expression l (AnExpr e)) = then_typing (expr_rows s e) (λ s c. at_typing)
  stmt_rows f a s b (Compound l block) = then_typing (block_rows f a (entered s) b block) (λ t x. is_typing)
  stmt_rows f a s b (If l e st) = then_typing (expr_rows s e) (λ s c. then_typing (stmt_rows f a s b st) (λ s t. at_typing))
  stmt_rows f a s b (IfElse l e st su) = then_typing (expr_rows s e) (λ s c. then_typing (stmt_rows f a s b st) (λ s t. then_typing (stmt_rows f a s t.body su) (λ s u. at_typing)))
  stmt_rows f a s b (Switch l e st) = then_typing (expr_rows s e) (λ s c. then_typing (stmt_rows f (in_switch a) s (with_cases [] None b) st) (λ s t. at_typing))
  stmt_rows f a s b (While l e st) = then_typing (expr_rows s e) (λ s c. then_typing (stmt_rows f (in_loop a) s b st) (λ s t. at_typing))
  stmt_rows f a s b (Do l st e) = then_typing (stmt_rows f (in_loop a) s b st) (λ s t. then_typing (expr_rows s e) (λ s c. at_typing))
  stmt_rows f a s b (For l first test last st) =
      then_typing (maybe_rows s first) (λ s c. then_typing (maybe_rows s test) (λ s d. then_typing (maybe_rows s last) (λ s e.
      then_typing (stmt_rows f (in_loop a) s b st) (λ s t. at_typing))))
  stmt_rows f a s b (Goto l name) = is_typing
  stmt_rows f a s b (Continue l) = at_typing
  stmt_rows f a s b (Break l) = at_typing
  stmt_rows f a s b (Return l e) = then_typing (maybe_rows s e) (λ s c. at_typing)

  stmts_rows : (f : Within) (a : Around) (s : State) (b : Body) (ss : StatementTrees) → IsTyping (all_typed_stmts f a s b ss) (TypesStmts f a s b ss)
  stmts_rows f a s b NoStatements = is_typing
  stmts_rows f a s b (Statements st more) = then_typing (stmt_rows f a s b st) (λ s t. then_typing (stmts_rows f a s t.body more) (λ s ts. is_typing))

  pub block_rows : (f : Within) (a : Around) (s : State) (b : Body) (block : BlockTree) → IsTyping (typed_block f a s b block) (TypesBlock f a s b block)
  block_rows f a s b (Block l ds ss) = then_typing (declarations_rows s ds) (λ s what. then_typing (stmts_rows f a s (with_declared b what) ss) (λ s t. is_typing))
