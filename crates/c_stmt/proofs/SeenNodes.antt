-- The trees of statements, blocks and units, one layer at a time, as contracts speak of them.
use Rattle.std.proofs.Common.{◌≡◌, ℕ, Option, Some, None, map, refl, ap, ◌∙◌}
use Rattle.c_ast.specs.declared.expr.Expr.{Expr}
use Rattle.c_ast.specs.declared.expr.Specifiers.{Specifiers}
use Rattle.c_ast.specs.declared.statement.Statement.{Statement as StatementValue, out-Statement}
use Rattle.c_ast.specs.declared.statement.StatementForm.TheVariants as statement_form
use Rattle.c_ast.specs.declared.statement.Block.{Block as BlockValue, out-Block}
use Rattle.c_ast.specs.declared.unit.ExternalForm.TheVariants as external_form
use Rattle.c_ast.specs.declared.unit.Unit.{Unit as UnitValue}
use Rattle.c_ast.specs.Trees.{StatementTree, SpecifiersTree, Label, Case, Default, Expression, Compound, If, IfElse, Switch, While, Do, For, Goto, Continue, Break, Return, Block, Function, Declares, Empty}
use Rattle.c_ast.specs.Views.{specifiers_of}
use Rattle.c_ast.specs.UnitViews.{maybe_of, option_of, statements_of}
use Rattle.c_ast.proofs.lemmas.UnitLayers.{statement_is, block_is, is_label, is_case, is_default, is_expression, is_block, is_if, is_if_else, is_switch, is_while, is_do, is_for, is_goto, is_continue, is_break, is_return}
use Rattle.c_ast.specs.Seen.{declarator_seen, expr_seen, maybe_expr_seen, specifiers_seen}
use Rattle.c_ast.specs.SeenUnits.{declaration_seen}
use Rattle.c_stmt.specs.Seen.{block_seen, external_seen, statement_form_seen, statement_seen, unit_seen}

-- ---- what may be left out

any_expr : (o : Option Expr) → maybe_of o ≡ maybe_expr_seen o
unfolding expr_seen
any_expr None = refl
any_expr (Some e) = refl

any_specifiers : (o : Option Specifiers) → option_of specifiers_of o ≡ option_of specifiers_seen o
unfolding specifiers_seen
any_specifiers None = refl
any_specifiers (Some s) = refl

-- ---- statements

pub statement_parts : (v : StatementValue) → statement_seen v ≡ statement_form_seen (out-Statement v).form (out-Statement v).line
unfolding statement_seen statement_form_seen
statement_parts v = statement_is v

pub form_label : (n : _) (s : _) (line : ℕ) → statement_form_seen (statement_form.Label n s) line ≡ Label line n (statement_seen s.value)
unfolding statement_form_seen statement_seen
form_label n s line = ap (λ (g : ℕ → StatementTree). g line) (is_label n s)

pub form_case : (e : _) (s : _) (line : ℕ) → statement_form_seen (statement_form.Case e s) line ≡ Case line (expr_seen e) (statement_seen s.value)
unfolding statement_form_seen statement_seen expr_seen
form_case e s line = ap (λ (g : ℕ → StatementTree). g line) (is_case e s)

pub form_default : (s : _) (line : ℕ) → statement_form_seen (statement_form.Default s) line ≡ Default line (statement_seen s.value)
unfolding statement_form_seen statement_seen
form_default s line = ap (λ (g : ℕ → StatementTree). g line) (is_default s)

pub form_expression : (e : _) (line : ℕ) → statement_form_seen (statement_form.Expression e) line ≡ Expression line (maybe_expr_seen e)
unfolding statement_form_seen
form_expression e line = ap (λ (g : ℕ → StatementTree). g line) (is_expression e) ∙ ap (Expression line) (any_expr e)

pub form_block : (b : _) (line : ℕ) → statement_form_seen (statement_form.Block b) line ≡ Compound line (block_seen b.value)
unfolding statement_form_seen block_seen
form_block b line = ap (λ (g : ℕ → StatementTree). g line) (is_block b)

pub form_if : (e : _) (s : _) (line : ℕ) → statement_form_seen (statement_form.If e s None) line ≡ If line (expr_seen e.value) (statement_seen s.value)
unfolding statement_form_seen statement_seen expr_seen
form_if e s line = ap (λ (g : ℕ → StatementTree). g line) (is_if e s)

pub form_if_else : (e : _) (s : _) (t : _) (line : ℕ) → statement_form_seen (statement_form.If e s (Some t)) line ≡ IfElse line (expr_seen e.value) (statement_seen s.value) (statement_seen t.value)
unfolding statement_form_seen statement_seen expr_seen
form_if_else e s t line = ap (λ (g : ℕ → StatementTree). g line) (is_if_else e s t)

pub form_switch : (e : _) (s : _) (line : ℕ) → statement_form_seen (statement_form.Switch e s) line ≡ Switch line (expr_seen e) (statement_seen s.value)
unfolding statement_form_seen statement_seen expr_seen
form_switch e s line = ap (λ (g : ℕ → StatementTree). g line) (is_switch e s)

pub form_while : (e : _) (s : _) (line : ℕ) → statement_form_seen (statement_form.While e s) line ≡ While line (expr_seen e) (statement_seen s.value)
unfolding statement_form_seen statement_seen expr_seen
form_while e s line = ap (λ (g : ℕ → StatementTree). g line) (is_while e s)

pub form_do : (s : _) (e : _) (line : ℕ) → statement_form_seen (statement_form.Do s e) line ≡ Do line (statement_seen s.value) (expr_seen e)
unfolding statement_form_seen statement_seen expr_seen
form_do s e line = ap (λ (g : ℕ → StatementTree). g line) (is_do s e)

pub form_for : (h : _) (s : _) (line : ℕ) → statement_form_seen (statement_form.For h s) line ≡ For line (maybe_expr_seen h.value.first) (maybe_expr_seen h.value.test) (maybe_expr_seen h.value.last) (statement_seen s.value)
unfolding statement_form_seen statement_seen
form_for h s line = ap (λ (g : ℕ → StatementTree). g line) (is_for h s) ∙ ap (λ o. For line o (maybe_of h.value.test) (maybe_of h.value.last) (statement_seen s.value)) (any_expr h.value.first) ∙ ap (λ o. For line (maybe_expr_seen h.value.first) o (maybe_of h.value.last) (statement_seen s.value)) (any_expr h.value.test) ∙ ap (λ o. For line (maybe_expr_seen h.value.first) (maybe_expr_seen h.value.test) o (statement_seen s.value)) (any_expr h.value.last)

pub form_goto : (n : _) (line : ℕ) → statement_form_seen (statement_form.Goto n) line ≡ Goto line n
unfolding statement_form_seen
form_goto n line = ap (λ (g : ℕ → StatementTree). g line) (is_goto n)

pub form_continue : (line : ℕ) → statement_form_seen statement_form.Continue line ≡ Continue line
unfolding statement_form_seen
form_continue line = ap (λ (g : ℕ → StatementTree). g line) is_continue

pub form_break : (line : ℕ) → statement_form_seen statement_form.Break line ≡ Break line
unfolding statement_form_seen
form_break line = ap (λ (g : ℕ → StatementTree). g line) is_break

pub form_return : (e : _) (line : ℕ) → statement_form_seen (statement_form.Return e) line ≡ Return line (maybe_expr_seen e)
unfolding statement_form_seen
form_return e line = ap (λ (g : ℕ → StatementTree). g line) (is_return e) ∙ ap (Return line) (any_expr e)

pub ruleset statement_forms = (statement_parts, form_label, form_case, form_default, form_expression, form_block, form_if, form_if_else, form_switch, form_while, form_do, form_for, form_goto, form_continue, form_break, form_return)

pub block_parts : (v : BlockValue) → block_seen v ≡ Block (out-Block v).line (map declaration_seen (out-Block v).declarations) (statements_of (map statement_seen (out-Block v).statements))
unfolding block_seen declaration_seen statement_seen
block_parts v = block_is v

-- ---- external declarations and units

pub external_function : (line : ℕ) (f : _) → external_seen record { line = line; form = external_form.Function f } ≡ Function line (option_of specifiers_seen f.value.specifiers) (declarator_seen f.value.declarator) (map declaration_seen f.value.parameters) (block_seen f.value.body)
unfolding external_seen declarator_seen declaration_seen block_seen
external_function line f = ap (λ (o : Option SpecifiersTree). Function line o (declarator_seen f.value.declarator) (map declaration_seen f.value.parameters) (block_seen f.value.body)) (any_specifiers f.value.specifiers)

pub external_declaration : (line : ℕ) (d : _) → external_seen record { line = line; form = external_form.Declaration d } ≡ Declares line (declaration_seen d)
unfolding external_seen declaration_seen
external_declaration line d = refl

pub external_empty : (line : ℕ) → external_seen record { line = line; form = external_form.Empty } ≡ Empty line
unfolding external_seen
external_empty line = refl

pub unit_parts : (v : UnitValue) → unit_seen v ≡ record { line = v.line; externals = map external_seen v.externals }
unfolding unit_seen external_seen
unit_parts v = refl

pub ruleset external_forms = (external_function, external_declaration, external_empty, unit_parts)
