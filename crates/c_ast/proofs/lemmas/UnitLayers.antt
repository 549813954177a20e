-- The trees of initialisers and statements as values, one layer at a time.
use Rattle.std.proofs.Common.{◌≡◌, ℕ, Some, None, map, sym, ap, ◌∙◌}
use Rattle.c_ast.specs.declared.statement.InitialiserForm.{InitialiserForm-F, fold-roll-InitialiserForm}
use Rattle.c_ast.specs.declared.statement.InitialiserForm.TheVariants as initialiser_form
use Rattle.c_ast.specs.declared.statement.Initialiser.{Initialiser, out-Initialiser, fold_out-Initialiser}
use Rattle.c_ast.specs.declared.statement.StatementForm.{StatementForm-F, fold-roll-StatementForm}
use Rattle.c_ast.specs.declared.statement.StatementForm.TheVariants as statement_form
use Rattle.c_ast.specs.declared.statement.Statement.{Statement, out-Statement, fold_out-Statement}
use Rattle.c_ast.specs.declared.statement.Block.{Block as BlockValue, out-Block, fold_out-Block}
use Rattle.c_ast.specs.Trees.{InitialiserTree, ByExpr, Braced, StatementTree, Label, Case, Default, Expression, Compound, If, IfElse, Switch, While, Do, For, Goto, Continue, Break, Return, BlockTree, Block}
use Rattle.c_ast.specs.Views.{expr_of}
use Rattle.c_ast.specs.UnitViews.{initialisers_of, initialiser_form_layer, initialiser_layer, initialiser_form_of, initialiser_of, declaration_of, statements_of, maybe_of, statement_form_layer, block_layer, statement_layer, statement_form_of, block_of, statement_of}

pub initialiser_is : (i : Initialiser) → initialiser_of i ≡ initialiser_form_of (out-Initialiser i).form (out-Initialiser i).line
initialiser_is i = fold_out-Initialiser (ℕ → InitialiserTree) InitialiserTree initialiser_form_layer initialiser_layer i

pub is_expr : (e : _) → initialiser_form_of (initialiser_form.Expr e) ≡ λ line. ByExpr line (expr_of e)
is_expr e = ap initialiser_form_of (sym (initialiser_form.rolls-Expr e)) ∙ fold-roll-InitialiserForm (ℕ → InitialiserTree) InitialiserTree initialiser_form_layer initialiser_layer (InitialiserForm-F.Expr e)

pub is_list : (is : _) (comma : _) → initialiser_form_of (initialiser_form.List is comma) ≡ λ line. Braced line (initialisers_of (map initialiser_of is)) comma
is_list is comma = ap initialiser_form_of (sym (initialiser_form.rolls-List is comma)) ∙ fold-roll-InitialiserForm (ℕ → InitialiserTree) InitialiserTree initialiser_form_layer initialiser_layer (InitialiserForm-F.List is comma)

-- ---- statements

pub statement_is : (s : Statement) → statement_of s ≡ statement_form_of (out-Statement s).form (out-Statement s).line
statement_is s = fold_out-Statement (ℕ → StatementTree) BlockTree StatementTree statement_form_layer block_layer statement_layer s

pub is_label : (n : _) (s : _) → statement_form_of (statement_form.Label n s) ≡ λ line. Label line n (statement_of s.value)
is_label n s = ap statement_form_of (sym (statement_form.rolls-Label n s)) ∙ fold-roll-StatementForm (ℕ → StatementTree) BlockTree StatementTree statement_form_layer block_layer statement_layer (StatementForm-F.Label n s)

pub is_case : (e : _) (s : _) → statement_form_of (statement_form.Case e s) ≡ λ line. Case line (expr_of e) (statement_of s.value)
is_case e s = ap statement_form_of (sym (statement_form.rolls-Case e s)) ∙ fold-roll-StatementForm (ℕ → StatementTree) BlockTree StatementTree statement_form_layer block_layer statement_layer (StatementForm-F.Case e s)

pub is_default : (s : _) → statement_form_of (statement_form.Default s) ≡ λ line. Default line (statement_of s.value)
is_default s = ap statement_form_of (sym (statement_form.rolls-Default s)) ∙ fold-roll-StatementForm (ℕ → StatementTree) BlockTree StatementTree statement_form_layer block_layer statement_layer (StatementForm-F.Default s)

pub is_expression : (e : _) → statement_form_of (statement_form.Expression e) ≡ λ line. Expression line (maybe_of e)
is_expression e = ap statement_form_of (sym (statement_form.rolls-Expression e)) ∙ fold-roll-StatementForm (ℕ → StatementTree) BlockTree StatementTree statement_form_layer block_layer statement_layer (StatementForm-F.Expression e)

pub is_block : (b : _) → statement_form_of (statement_form.Block b) ≡ λ line. Compound line (block_of b.value)
is_block b = ap statement_form_of (sym (statement_form.rolls-Block b)) ∙ fold-roll-StatementForm (ℕ → StatementTree) BlockTree StatementTree statement_form_layer block_layer statement_layer (StatementForm-F.Block b)

pub is_if : (e : _) (s : _) → statement_form_of (statement_form.If e s None) ≡ λ line. If line (expr_of e.value) (statement_of s.value)
is_if e s = ap statement_form_of (sym (statement_form.rolls-If e s None)) ∙ fold-roll-StatementForm (ℕ → StatementTree) BlockTree StatementTree statement_form_layer block_layer statement_layer (StatementForm-F.If e s None)

pub is_if_else : (e : _) (s : _) (t : _) → statement_form_of (statement_form.If e s (Some t)) ≡ λ line. IfElse line (expr_of e.value) (statement_of s.value) (statement_of t.value)
is_if_else e s t = ap statement_form_of (sym (statement_form.rolls-If e s (Some t))) ∙ fold-roll-StatementForm (ℕ → StatementTree) BlockTree StatementTree statement_form_layer block_layer statement_layer (StatementForm-F.If e s (Some t))

pub is_switch : (e : _) (s : _) → statement_form_of (statement_form.Switch e s) ≡ λ line. Switch line (expr_of e) (statement_of s.value)
is_switch e s = ap statement_form_of (sym (statement_form.rolls-Switch e s)) ∙ fold-roll-StatementForm (ℕ → StatementTree) BlockTree StatementTree statement_form_layer block_layer statement_layer (StatementForm-F.Switch e s)

pub is_while : (e : _) (s : _) → statement_form_of (statement_form.While e s) ≡ λ line. While line (expr_of e) (statement_of s.value)
is_while e s = ap statement_form_of (sym (statement_form.rolls-While e s)) ∙ fold-roll-StatementForm (ℕ → StatementTree) BlockTree StatementTree statement_form_layer block_layer statement_layer (StatementForm-F.While e s)

pub is_do : (s : _) (e : _) → statement_form_of (statement_form.Do s e) ≡ λ line. Do line (statement_of s.value) (expr_of e)
is_do s e = ap statement_form_of (sym (statement_form.rolls-Do s e)) ∙ fold-roll-StatementForm (ℕ → StatementTree) BlockTree StatementTree statement_form_layer block_layer statement_layer (StatementForm-F.Do s e)

pub is_for : (h : _) (s : _) → statement_form_of (statement_form.For h s) ≡ λ line. For line (maybe_of h.value.first) (maybe_of h.value.test) (maybe_of h.value.last) (statement_of s.value)
is_for h s = ap statement_form_of (sym (statement_form.rolls-For h s)) ∙ fold-roll-StatementForm (ℕ → StatementTree) BlockTree StatementTree statement_form_layer block_layer statement_layer (StatementForm-F.For h s)

pub is_goto : (n : _) → statement_form_of (statement_form.Goto n) ≡ λ line. Goto line n
is_goto n = ap statement_form_of (sym (statement_form.rolls-Goto n)) ∙ fold-roll-StatementForm (ℕ → StatementTree) BlockTree StatementTree statement_form_layer block_layer statement_layer (StatementForm-F.Goto n)

pub is_continue : statement_form_of statement_form.Continue ≡ λ line. Continue line
is_continue = ap statement_form_of (sym statement_form.rolls-Continue) ∙ fold-roll-StatementForm (ℕ → StatementTree) BlockTree StatementTree statement_form_layer block_layer statement_layer StatementForm-F.Continue

pub is_break : statement_form_of statement_form.Break ≡ λ line. Break line
is_break = ap statement_form_of (sym statement_form.rolls-Break) ∙ fold-roll-StatementForm (ℕ → StatementTree) BlockTree StatementTree statement_form_layer block_layer statement_layer StatementForm-F.Break

pub is_return : (e : _) → statement_form_of (statement_form.Return e) ≡ λ line. Return line (maybe_of e)
is_return e = ap statement_form_of (sym (statement_form.rolls-Return e)) ∙ fold-roll-StatementForm (ℕ → StatementTree) BlockTree StatementTree statement_form_layer block_layer statement_layer (StatementForm-F.Return e)

pub block_is : (b : BlockValue) → block_of b ≡ Block (out-Block b).line (map declaration_of (out-Block b).declarations) (statements_of (map statement_of (out-Block b).statements))
block_is b = fold_out-Block (ℕ → StatementTree) BlockTree StatementTree statement_form_layer block_layer statement_layer b
