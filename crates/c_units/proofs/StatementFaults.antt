-- The fault that typing gives of a statement is that of the first node, in postorder, that has one.
use Rattle.std.specs.Prelude.{refl, None, List, [], ◌∷◌}
use Rattle.c_ast.specs.Trees.{NoExpr, AnExpr, DeclarationTree, StatementTree, Label, Case, Default, Expression, Compound, If, IfElse, Switch, While, Do, For, Goto, Continue, Break, Return, StatementTrees, NoStatements, Statements, BlockTree, Block}
use Rattle.c_meaning.specs.State.{State, entered}
use Rattle.c_meaning.proofs.lemmas.TypingFaults.{expr_first, maybe_first}
use Rattle.c_meaning.proofs.lemmas.DeclaringFaults.{declaration_first}
use Rattle.c_units.specs.Statements.{Around}
use Rattle.c_units.specs.Bodies.{Within, Body, marked, with_cases, with_case, with_default, with_declared, in_loop, in_switch, typed_declarations, typed_stmt, all_typed_stmts, typed_block}
use Rattle.c_units.specs.UnitNodes.{declarations_nodes, stmt_nodes, all_stmt_nodes, block_nodes}
use Rattle.c_units.proofs.Nodes.{IsFirstIn, look_first, last_in, none_in, inside_first, part_inside, node_in}

declarations_first : (s : State) (ds : List DeclarationTree) → IsFirstIn (typed_declarations s ds) (declarations_nodes s ds)
declarations_first s [] = none_in _ _
declarations_first s (d ∷ ds) = look_first _ _ _ _ (inside_first _ _ (declaration_first s d)) (λ s what. last_in _ _ _ (declarations_first s ds) (λ s more. refl))

mutual
  pub stmt_first : (f : Within) (a : Around) (s : State) (b : Body) (t : StatementTree) → IsFirstIn (typed_stmt f a s b t) (stmt_nodes f a s b t)
  stmt_first f a s b (Label l name st) = look_first _ _ _ _ (stmt_first f a s (marked b) st) (λ s t. node_in _ _ _)
  stmt_first f a s b (Case l e st) = look_first _ _ _ _ (part_inside _ _ (expr_first s e)) (λ s c. look_first _ _ _ _ (stmt_first f a s (with_case a b c) st) (λ s t. node_in _ _ _))
  stmt_first f a s b (Default l st) = look_first _ _ _ _ (stmt_first f a s (with_default a b) st) (λ s t. node_in _ _ _)
  stmt_first f a s b (Expression l NoExpr) = none_in _ _
  stmt_first f a s b (Expression l (AnExpr e)) = look_first _ _ _ _ (part_inside _ _ (expr_first s e)) (λ s c. node_in _ _ _)
  stmt_first f a s b (Compound l block) = last_in _ _ _ (block_first f a (entered s) b block) (λ t x. refl)
  stmt_first f a s b (If l e st) = look_first _ _ _ _ (part_inside _ _ (expr_first s e)) (λ s c. look_first _ _ _ _ (stmt_first f a s b st) (λ s t. node_in _ _ _))
  stmt_first f a s b (IfElse l e st su) = look_first _ _ _ _ (part_inside _ _ (expr_first s e)) (λ s c. look_first _ _ _ _ (stmt_first f a s b st) (λ s t. look_first _ _ _ _ (stmt_first f a s t.body su) (λ s u. node_in _ _ _)))
  stmt_first f a s b (Switch l e st) = look_first _ _ _ _ (part_inside _ _ (expr_first s e)) (λ s c. look_first _ _ _ _ (stmt_first f (in_switch a) s (with_cases [] None b) st) (λ s t. node_in _ _ _))
  stmt_first f a s b (While l e st) = look_first _ _ _ _ (part_inside _ _ (expr_first s e)) (λ s c. look_first _ _ _ _ (stmt_first f (in_loop a) s b st) (λ s t. node_in _ _ _))
  stmt_first f a s b (Do l st e) = look_first _ _ _ _ (stmt_first f (in_loop a) s b st) (λ s t. look_first _ _ _ _ (part_inside _ _ (expr_first s e)) (λ s c. node_in _ _ _))
  stmt_first f a s b (For l first test last st) =
      look_first _ _ _ _ (part_inside _ _ (maybe_first s first)) (λ s c. look_first _ _ _ _ (part_inside _ _ (maybe_first s test)) (λ s d. look_first _ _ _ _ (part_inside _ _ (maybe_first s last)) (λ s e.
      look_first _ _ _ _ (stmt_first f (in_loop a) s b st) (λ s t. node_in _ _ _))))
  stmt_first f a s b (Goto l name) = none_in _ _
  stmt_first f a s b (Continue l) = node_in _ _ _
  stmt_first f a s b (Break l) = node_in _ _ _
  stmt_first f a s b (Return l e) = look_first _ _ _ _ (part_inside _ _ (maybe_first s e)) (λ s c. node_in _ _ _)

  stmts_first : (f : Within) (a : Around) (s : State) (b : Body) (ss : StatementTrees) → IsFirstIn (all_typed_stmts f a s b ss) (all_stmt_nodes f a s b ss)
  stmts_first f a s b NoStatements = none_in _ _
  stmts_first f a s b (Statements st more) = look_first _ _ _ _ (stmt_first f a s b st) (λ s t. last_in _ _ _ (stmts_first f a s t.body more) (λ s ts. refl))

  pub block_first : (f : Within) (a : Around) (s : State) (b : Body) (block : BlockTree) → IsFirstIn (typed_block f a s b block) (block_nodes f a s b block)
  block_first f a s b (Block l ds ss) = look_first _ _ _ _ (declarations_first s ds) (λ s what. last_in _ _ _ (stmts_first f a s (with_declared b what) ss) (λ s t. refl))
