-- The heights of declarations and statements as values, one layer at a time.
use Rattle.std.proofs.Common.{◌≡◌, ℕ, ◌+◌, max, Option, Some, None, List, [], ◌∷◌, map, refl, sym, ap, ◌∙◌}
use Rattle.std.proofs.Math.Nat.{max-zero}
use Rattle.std.specs.Global.{Box}
use Rattle.c_ast.specs.declared.expr.Specifiers.{Specifiers}
use Rattle.c_ast.specs.declared.statement.InitialiserForm.{InitialiserForm, InitialiserForm-F, fold_out-InitialiserForm}
use Rattle.c_ast.specs.declared.statement.InitialiserForm.TheVariants as initialiser_form
use Rattle.c_ast.specs.declared.statement.Initialiser.{Initialiser, out-Initialiser}
use Rattle.c_ast.specs.declared.statement.InitDeclarator.{InitDeclarator}
use Rattle.c_ast.specs.declared.statement.Declaration.{Declaration}
use Rattle.c_ast.specs.declared.statement.StatementForm.{StatementForm, StatementForm-F, fold_out-StatementForm}
use Rattle.c_ast.specs.declared.statement.StatementForm.TheVariants as statement_form
use Rattle.c_ast.specs.declared.statement.Statement.{Statement, out-Statement}
use Rattle.c_ast.specs.declared.statement.Block.{Block, out-Block}
use Rattle.c_ast.specs.declared.unit.ExternalForm.{ExternalForm}
use Rattle.c_ast.specs.declared.unit.ExternalForm.TheVariants as external_form
use Rattle.c_ast.specs.declared.unit.External.{External}
use Rattle.c_ast.specs.declared.unit.Unit.{Unit as UnitValue}
use Rattle.c_ast.specs.Trees.{InitialiserTree, StatementTree, BlockTree}
use Rattle.c_ast.specs.Views.{specifiers_of, declarator_of}
use Rattle.c_ast.specs.UnitViews.{initialisers_of, initialiser_form_layer, initialiser_layer, initialiser_form_of, initialiser_of, boxed_initialiser_of, option_of, init_of, declaration_of, statements_of, maybe_of, statement_form_layer, block_layer, statement_layer, statement_form_of, block_of, statement_of, external_form_of, external_of, unit_of}
use Rattle.c_ast.specs.Heights.{maybe_height, specifiers_height, maybe_specifiers_height, declarator_height, initialiser_height, initialisers_height, option_height, init_height, inits_height, declaration_height, declarations_height, statement_height, statements_height, block_height, external_height, externals_height, unit_height}
use Rattle.c_ast.specs.ValueHeights.{most, if_any, expr_high, specifiers_high, declarator_high}
use Rattle.c_ast.specs.UnitValueHeights.{initialiser_high, maybe_initialiser_high, init_high, declaration_high, statement_high, else_high, block_high, function_high, external_high}
use Rattle.c_ast.proofs.lemmas.UnitLayers.{block_is, initialiser_is, is_block, is_break, is_case, is_continue, is_default, is_do, is_expr, is_expression, is_for, is_goto, is_if, is_if_else, is_label, is_list, is_return, is_switch, is_while, statement_is}
use Rattle.c_ast.proofs.ValueHeights.{any_expr}

-- ---- lists and what may be left out

pub initialisers_most : (xs : List Initialiser) → initialisers_height (initialisers_of (map initialiser_of xs)) ≡ most initialiser_high xs
unfolding initialiser_high
initialisers_most [] = refl
initialisers_most (x ∷ xs) = ap (max (initialiser_height (initialiser_of x))) (initialisers_most xs)

pub inits_most : (xs : List InitDeclarator) → inits_height (map init_of xs) ≡ most init_high xs
unfolding init_high
inits_most [] = refl
inits_most (x ∷ xs) = ap (max (init_height (init_of x))) (inits_most xs)

pub declarations_most : (xs : List Declaration) → declarations_height (map declaration_of xs) ≡ most declaration_high xs
unfolding declaration_high
declarations_most [] = refl
declarations_most (x ∷ xs) = ap (max (declaration_height (declaration_of x))) (declarations_most xs)

pub statements_most : (xs : List Statement) → statements_height (statements_of (map statement_of xs)) ≡ most statement_high xs
unfolding statement_high
statements_most [] = refl
statements_most (x ∷ xs) = ap (max (statement_height (statement_of x))) (statements_most xs)

pub externals_most : (xs : List External) → externals_height (map external_of xs) ≡ most external_high xs
unfolding external_high
externals_most [] = refl
externals_most (x ∷ xs) = ap (max (external_height (external_of x))) (externals_most xs)

any_specifiers : (s : Option Specifiers) → maybe_specifiers_height (option_of specifiers_of s) ≡ if_any specifiers_high s
unfolding specifiers_high
any_specifiers None = refl
any_specifiers (Some s) = refl

any_initialiser : (i : Option (Box Initialiser)) → option_height (option_of boxed_initialiser_of i) ≡ maybe_initialiser_high i
unfolding initialiser_high
any_initialiser None = refl
any_initialiser (Some i) = refl

-- ---- initialisers and declarations

-- the height of a form, whatever its line is
unfoldable pub initialiser_form_height : InitialiserForm → ℕ
initialiser_form_height f = initialiser_height (initialiser_form_of f 0)

initialiser_form_lines : (x : InitialiserForm-F (ℕ → InitialiserTree) InitialiserTree) (line : ℕ) → initialiser_height (initialiser_form_layer x line) ≡ initialiser_height (initialiser_form_layer x 0)
initialiser_form_lines (InitialiserForm-F.Expr e) line = refl
initialiser_form_lines (InitialiserForm-F.List is comma) line = refl

initialiser_form_line : (g : ℕ → InitialiserTree) (x : InitialiserForm-F (ℕ → InitialiserTree) InitialiserTree) → g ≡ initialiser_form_layer x → (line : ℕ) → initialiser_height (g line) ≡ initialiser_height (g 0)
initialiser_form_line g x is line = ap (λ f. initialiser_height (f line)) is ∙ initialiser_form_lines x line ∙ sym (ap (λ f. initialiser_height (f 0)) is)

pub initialiser_form_high : (e : Initialiser) → initialiser_high e ≡ initialiser_form_height (out-Initialiser e).form
unfolding initialiser_high initialiser_form_height
initialiser_form_high e = ap initialiser_height (initialiser_is e) ∙ initialiser_form_line _ _ (fold_out-InitialiserForm (ℕ → InitialiserTree) InitialiserTree initialiser_form_layer initialiser_layer (out-Initialiser e).form) (out-Initialiser e).line

pub initialiser_form_expr : (e : _) → initialiser_form_height (initialiser_form.Expr e) ≡ expr_high e + 1
unfolding initialiser_form_height expr_high
initialiser_form_expr e = ap (λ g. initialiser_height (g 0)) (is_expr e)

pub initialiser_form_list : (is : _) (comma : _) → initialiser_form_height (initialiser_form.List is comma) ≡ most initialiser_high is + 1
unfolding initialiser_form_height expr_high
initialiser_form_list is comma = ap (λ g. initialiser_height (g 0)) (is_list is comma) ∙ ap (λ n. n + 1) (initialisers_most is)

pub ruleset initialiser_forms = (initialiser_form_high, initialiser_form_expr, initialiser_form_list)

pub init_parts : (i : InitDeclarator) → init_high i ≡ max (declarator_high i.declarator) (maybe_initialiser_high i.initialiser)
unfolding init_high declarator_high
init_parts i = ap (max (declarator_height (declarator_of i.declarator))) (any_initialiser i.initialiser)

pub declaration_parts : (d : Declaration) → declaration_high d ≡ max (specifiers_high d.specifiers) (most init_high d.declarators) + 1
unfolding declaration_high specifiers_high
declaration_parts d = ap (λ n. max (specifiers_height (specifiers_of d.specifiers)) n + 1) (inits_most d.declarators)

-- ---- statements

-- the height of a form, whatever its line is
unfoldable pub statement_form_height : StatementForm → ℕ
statement_form_height f = statement_height (statement_form_of f 0)

statement_form_lines : (x : StatementForm-F (ℕ → StatementTree) BlockTree StatementTree) (line : ℕ) → statement_height (statement_form_layer x line) ≡ statement_height (statement_form_layer x 0)
statement_form_lines (StatementForm-F.Label n s) line = refl
statement_form_lines (StatementForm-F.Case e s) line = refl
statement_form_lines (StatementForm-F.Default s) line = refl
statement_form_lines (StatementForm-F.Expression e) line = refl
statement_form_lines (StatementForm-F.Block b) line = refl
statement_form_lines (StatementForm-F.If e s None) line = refl
statement_form_lines (StatementForm-F.If e s (Some t)) line = refl
statement_form_lines (StatementForm-F.Switch e s) line = refl
statement_form_lines (StatementForm-F.While e s) line = refl
statement_form_lines (StatementForm-F.Do s e) line = refl
statement_form_lines (StatementForm-F.For h s) line = refl
statement_form_lines (StatementForm-F.Goto n) line = refl
statement_form_lines StatementForm-F.Continue line = refl
statement_form_lines StatementForm-F.Break line = refl
statement_form_lines (StatementForm-F.Return e) line = refl

statement_form_line : (g : ℕ → StatementTree) (x : StatementForm-F (ℕ → StatementTree) BlockTree StatementTree) → g ≡ statement_form_layer x → (line : ℕ) → statement_height (g line) ≡ statement_height (g 0)
statement_form_line g x is line = ap (λ f. statement_height (f line)) is ∙ statement_form_lines x line ∙ sym (ap (λ f. statement_height (f 0)) is)

pub statement_form_high : (e : Statement) → statement_high e ≡ statement_form_height (out-Statement e).form
unfolding statement_high statement_form_height
statement_form_high e = ap statement_height (statement_is e) ∙ statement_form_line _ _ (fold_out-StatementForm (ℕ → StatementTree) BlockTree StatementTree statement_form_layer block_layer statement_layer (out-Statement e).form) (out-Statement e).line

pub statement_form_label : (n : _) (s : _) → statement_form_height (statement_form.Label n s) ≡ statement_high s.value + 1
unfolding statement_form_height statement_high block_high expr_high
statement_form_label n s = ap (λ g. statement_height (g 0)) (is_label n s)

pub statement_form_case : (e : _) (s : _) → statement_form_height (statement_form.Case e s) ≡ max (expr_high e) (statement_high s.value) + 1
unfolding statement_form_height statement_high block_high expr_high
statement_form_case e s = ap (λ g. statement_height (g 0)) (is_case e s)

pub statement_form_default : (s : _) → statement_form_height (statement_form.Default s) ≡ statement_high s.value + 1
unfolding statement_form_height statement_high block_high expr_high
statement_form_default s = ap (λ g. statement_height (g 0)) (is_default s)

pub statement_form_expression : (e : _) → statement_form_height (statement_form.Expression e) ≡ if_any expr_high e + 1
unfolding statement_form_height statement_high block_high expr_high
statement_form_expression e = ap (λ g. statement_height (g 0)) (is_expression e) ∙ ap (λ n. n + 1) (any_expr e)

pub statement_form_block : (b : _) → statement_form_height (statement_form.Block b) ≡ block_high b.value
unfolding statement_form_height statement_high block_high expr_high
statement_form_block b = ap (λ g. statement_height (g 0)) (is_block b)

pub statement_form_if : (e : _) (s : _) (t : _) → statement_form_height (statement_form.If e s t) ≡ max (max (expr_high e.value) (statement_high s.value)) (else_high t) + 1
unfolding statement_form_height statement_high block_high expr_high
statement_form_if e s None = ap (λ g. statement_height (g 0)) (is_if e s) ∙ ap (λ n. n + 1) (sym (max-zero _))
statement_form_if e s (Some t) = ap (λ g. statement_height (g 0)) (is_if_else e s t)

pub statement_form_switch : (e : _) (s : _) → statement_form_height (statement_form.Switch e s) ≡ max (expr_high e) (statement_high s.value) + 1
unfolding statement_form_height statement_high block_high expr_high
statement_form_switch e s = ap (λ g. statement_height (g 0)) (is_switch e s)

pub statement_form_while : (e : _) (s : _) → statement_form_height (statement_form.While e s) ≡ max (expr_high e) (statement_high s.value) + 1
unfolding statement_form_height statement_high block_high expr_high
statement_form_while e s = ap (λ g. statement_height (g 0)) (is_while e s)

pub statement_form_do : (s : _) (e : _) → statement_form_height (statement_form.Do s e) ≡ max (statement_high s.value) (expr_high e) + 1
unfolding statement_form_height statement_high block_high expr_high
statement_form_do s e = ap (λ g. statement_height (g 0)) (is_do s e)

pub statement_form_for : (h : _) (s : _) → statement_form_height (statement_form.For h s) ≡ max (max (max (if_any expr_high h.value.first) (if_any expr_high h.value.test)) (if_any expr_high h.value.last)) (statement_high s.value) + 1
unfolding statement_form_height statement_high block_high expr_high
statement_form_for h s = ap (λ g. statement_height (g 0)) (is_for h s) ∙ ap (λ n. max (max (max n (maybe_height (maybe_of h.value.test))) (maybe_height (maybe_of h.value.last))) (statement_height (statement_of s.value)) + 1) (any_expr h.value.first) ∙ ap (λ n. max (max (max (if_any expr_high h.value.first) n) (maybe_height (maybe_of h.value.last))) (statement_height (statement_of s.value)) + 1) (any_expr h.value.test) ∙ ap (λ n. max (max (max (if_any expr_high h.value.first) (if_any expr_high h.value.test)) n) (statement_height (statement_of s.value)) + 1) (any_expr h.value.last)

pub statement_form_goto : (n : _) → statement_form_height (statement_form.Goto n) ≡ 1
unfolding statement_form_height statement_high block_high expr_high
statement_form_goto n = ap (λ g. statement_height (g 0)) (is_goto n)

pub statement_form_continue : statement_form_height statement_form.Continue ≡ 1
unfolding statement_form_height statement_high block_high expr_high
statement_form_continue = ap (λ g. statement_height (g 0)) is_continue

pub statement_form_break : statement_form_height statement_form.Break ≡ 1
unfolding statement_form_height statement_high block_high expr_high
statement_form_break = ap (λ g. statement_height (g 0)) is_break

pub statement_form_return : (e : _) → statement_form_height (statement_form.Return e) ≡ if_any expr_high e + 1
unfolding statement_form_height statement_high block_high expr_high
statement_form_return e = ap (λ g. statement_height (g 0)) (is_return e) ∙ ap (λ n. n + 1) (any_expr e)

pub ruleset statement_forms = (statement_form_high, statement_form_label, statement_form_case, statement_form_default, statement_form_expression, statement_form_block, statement_form_if, statement_form_switch, statement_form_while, statement_form_do, statement_form_for, statement_form_goto, statement_form_continue, statement_form_break, statement_form_return)

pub block_parts : (b : Block) → block_high b ≡ max (most declaration_high (out-Block b).declarations) (most statement_high (out-Block b).statements) + 1
unfolding block_high
block_parts b =
    let ds = (out-Block b).declarations in
    let ss = (out-Block b).statements in
    ap block_height (block_is b) ∙ ap (λ n. max n (statements_height (statements_of (map statement_of ss))) + 1) (declarations_most ds) ∙ ap (λ n. max (most declaration_high ds) n + 1) (statements_most ss)

-- ---- units

unfoldable pub external_form_height : ExternalForm → ℕ
external_form_height f = external_height (external_form_of f 0)

external_lines : (f : ExternalForm) (line : ℕ) → external_height (external_form_of f line) ≡ external_height (external_form_of f 0)
external_lines (external_form.Function f) line = refl
external_lines (external_form.Declaration d) line = refl
external_lines external_form.Empty line = refl

pub external_form_high : (x : External) → external_high x ≡ external_form_height x.form
unfolding external_high external_form_height
external_form_high x = external_lines x.form x.line

pub external_form_function : (f : _) → external_form_height (external_form.Function f) ≡ function_high f.value
unfolding external_form_height declarator_high block_high
external_form_function f =
    let d = declarator_height (declarator_of f.value.declarator) in
    let b = block_height (block_of f.value.body) in
    ap (λ n. max (max (max n d) (declarations_height (map declaration_of f.value.parameters))) b + 1) (any_specifiers f.value.specifiers) ∙ ap (λ n. max (max (max (if_any specifiers_high f.value.specifiers) d) n) b + 1) (declarations_most f.value.parameters)

pub external_form_declaration : (d : _) → external_form_height (external_form.Declaration d) ≡ declaration_high d + 1
unfolding external_form_height declaration_high
external_form_declaration d = refl

pub external_form_empty : external_form_height external_form.Empty ≡ 1
unfolding external_form_height
external_form_empty = refl

pub ruleset external_forms = (external_form_high, external_form_function, external_form_declaration, external_form_empty)

pub unit_parts : (u : UnitValue) → unit_height (unit_of u) ≡ most external_high u.externals + 1
unit_parts u = ap (λ n. n + 1) (externals_most u.externals)
