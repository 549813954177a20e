-- The trees of statements, as contracts of the checker speak of them: they are not unfolded there; and one layer of them at a time.
use Rattle.std.proofs.Common.{◌≡◌, ℕ, Option, Some, None, map, refl, ap, ◌∙◌}
use Rattle.std.specs.Global.{Box}
use Rattle.c_ast.specs.declared.expr.Expr.{Expr}
use Rattle.c_ast.specs.declared.statement.ForHead.{ForHead}
use Rattle.c_ast.specs.declared.statement.Statement.{Statement, out-Statement}
use Rattle.c_ast.specs.declared.statement.StatementForm.{StatementForm}
use Rattle.c_ast.specs.declared.statement.StatementForm.TheVariants as form
use Rattle.c_ast.specs.declared.statement.Block.{Block as BlockValue, out-Block}
use Rattle.c_ast.specs.Trees.{StatementTree, Label, Case, Default, Expression, Compound, If, IfElse, Switch, While, Do, For, Goto, Continue, Break, Return, BlockTree, Block}
use Rattle.c_ast.specs.Seen.{expr_seen, maybe_expr_seen}
use Rattle.c_ast.specs.SeenUnits.{declaration_seen}
use Rattle.c_ast.specs.UnitViews.{block_of, maybe_of, statement_form_of, statement_of, statements_of}
use Rattle.c_ast.proofs.lemmas.UnitLayers.{statement_is, is_label, is_case, is_default, is_expression, is_block, is_if, is_if_else, is_switch, is_while, is_do, is_for, is_goto, is_continue, is_break, is_return, block_is}

unfoldable pub statement_seen : Statement → StatementTree
statement_seen v = statement_of v

unfoldable pub statement_form_seen : StatementForm → ℕ → StatementTree
statement_form_seen v line = statement_form_of v line

unfoldable pub block_seen : BlockValue → BlockTree
block_seen v = block_of v

-- ---- one layer at a time

pub statement_parts : (v : Statement) → statement_seen v ≡ statement_form_seen (out-Statement v).form (out-Statement v).line
unfolding statement_seen statement_form_seen
statement_parts v = statement_is v

pub block_parts : (v : BlockValue) → block_seen v ≡ Block (out-Block v).line (map declaration_seen (out-Block v).declarations) (statements_of (map statement_seen (out-Block v).statements))
unfolding block_seen statement_seen declaration_seen
block_parts v = block_is v

pub form_label : (n : _) (s : Box Statement) (line : ℕ) → statement_form_seen (form.Label n s) line ≡ Label line n (statement_seen s.value)
unfolding statement_form_seen statement_seen
form_label n s line = ap (λ (g : ℕ → StatementTree). g line) (is_label n s)

pub form_case : (e : _) (s : Box Statement) (line : ℕ) → statement_form_seen (form.Case e s) line ≡ Case line (expr_seen e) (statement_seen s.value)
unfolding statement_form_seen statement_seen expr_seen
form_case e s line = ap (λ (g : ℕ → StatementTree). g line) (is_case e s)

pub form_default : (s : Box Statement) (line : ℕ) → statement_form_seen (form.Default s) line ≡ Default line (statement_seen s.value)
unfolding statement_form_seen statement_seen
form_default s line = ap (λ (g : ℕ → StatementTree). g line) (is_default s)

-- an expression that may be missing
maybe_is : (e : Option Expr) → maybe_of e ≡ maybe_expr_seen e
unfolding expr_seen
maybe_is None = refl
maybe_is (Some e) = refl

pub form_expression : (e : Option Expr) (line : ℕ) → statement_form_seen (form.Expression e) line ≡ Expression line (maybe_expr_seen e)
unfolding statement_form_seen
form_expression e line = ap (λ (g : ℕ → StatementTree). g line) (is_expression e) ∙ ap (Expression line) (maybe_is e)

pub form_block : (b : _) (line : ℕ) → statement_form_seen (form.Block b) line ≡ Compound line (block_seen b.value)
unfolding statement_form_seen block_seen
form_block b line = ap (λ (g : ℕ → StatementTree). g line) (is_block b)

pub form_if : (e : _) (s : Box Statement) (line : ℕ) → statement_form_seen (form.If e s None) line ≡ If line (expr_seen e.value) (statement_seen s.value)
unfolding statement_form_seen statement_seen expr_seen
form_if e s line = ap (λ (g : ℕ → StatementTree). g line) (is_if e s)

pub form_if_else : (e : _) (s t : Box Statement) (line : ℕ) → statement_form_seen (form.If e s (Some t)) line ≡ IfElse line (expr_seen e.value) (statement_seen s.value) (statement_seen t.value)
unfolding statement_form_seen statement_seen expr_seen
form_if_else e s t line = ap (λ (g : ℕ → StatementTree). g line) (is_if_else e s t)

pub form_switch : (e : _) (s : Box Statement) (line : ℕ) → statement_form_seen (form.Switch e s) line ≡ Switch line (expr_seen e) (statement_seen s.value)
unfolding statement_form_seen statement_seen expr_seen
form_switch e s line = ap (λ (g : ℕ → StatementTree). g line) (is_switch e s)

pub form_while : (e : _) (s : Box Statement) (line : ℕ) → statement_form_seen (form.While e s) line ≡ While line (expr_seen e) (statement_seen s.value)
unfolding statement_form_seen statement_seen expr_seen
form_while e s line = ap (λ (g : ℕ → StatementTree). g line) (is_while e s)

pub form_do : (s : Box Statement) (e : _) (line : ℕ) → statement_form_seen (form.Do s e) line ≡ Do line (statement_seen s.value) (expr_seen e)
unfolding statement_form_seen statement_seen expr_seen
form_do s e line = ap (λ (g : ℕ → StatementTree). g line) (is_do s e)

pub form_for : (h : Box ForHead) (s : Box Statement) (line : ℕ) → statement_form_seen (form.For h s) line ≡ For line (maybe_expr_seen h.value.first) (maybe_expr_seen h.value.test) (maybe_expr_seen h.value.last) (statement_seen s.value)
unfolding statement_form_seen statement_seen
form_for h s line = ap (λ (g : ℕ → StatementTree). g line) (is_for h s) ∙ rw (maybe_is h.value.first, maybe_is h.value.test, maybe_is h.value.last) refl

pub form_goto : (n : _) (line : ℕ) → statement_form_seen (form.Goto n) line ≡ Goto line n
unfolding statement_form_seen
form_goto n line = ap (λ (g : ℕ → StatementTree). g line) (is_goto n)

pub form_continue : (line : ℕ) → statement_form_seen form.Continue line ≡ Continue line
unfolding statement_form_seen
form_continue line = ap (λ (g : ℕ → StatementTree). g line) is_continue

pub form_break : (line : ℕ) → statement_form_seen form.Break line ≡ Break line
unfolding statement_form_seen
form_break line = ap (λ (g : ℕ → StatementTree). g line) is_break

pub form_return : (e : Option Expr) (line : ℕ) → statement_form_seen (form.Return e) line ≡ Return line (maybe_expr_seen e)
unfolding statement_form_seen
form_return e line = ap (λ (g : ℕ → StatementTree). g line) (is_return e) ∙ ap (Return line) (maybe_is e)

pub ruleset statement_forms = (statement_parts, block_parts, form_label, form_case, form_default, form_expression, form_block, form_if, form_if_else, form_switch, form_while, form_do, form_for, form_goto, form_continue, form_break, form_return)
