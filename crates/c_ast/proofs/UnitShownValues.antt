-- The texts of declarations and statements as values, one layer at a time.
use Rattle.std.proofs.Common.{◌≡◌, ℕ, ◌++◌, Option, Some, None, List, [], ◌∷◌, map, flat_map, drop, refl, sym, ap, ◌∙◌, append_assoc}
use Rattle.std.proofs.lemmas.List.{append-nil}
use Rattle.std.specs.Global.{Box}
use Rattle.c_ast.specs.declared.expr.Specifiers.{Specifiers}
use Rattle.c_ast.specs.declared.statement.InitialiserForm.{InitialiserForm, InitialiserForm-F, fold_out-InitialiserForm}
use Rattle.c_ast.specs.declared.statement.InitialiserForm.TheVariants as initialiser_form
use Rattle.c_ast.specs.declared.statement.Initialiser.{Initialiser, out-Initialiser}
use Rattle.c_ast.specs.declared.statement.InitDeclarator.{InitDeclarator}
use Rattle.c_ast.specs.declared.statement.Declaration.{Declaration}
use Rattle.c_ast.specs.declared.statement.StatementForm.{StatementForm, StatementForm-F, fold_out-StatementForm}
use Rattle.c_ast.specs.declared.statement.StatementForm.TheVariants as statement_form
use Rattle.c_ast.specs.declared.statement.Statement.{Statement, out-Statement}
use Rattle.c_ast.specs.declared.statement.Block.{Block, out-Block}
use Rattle.c_ast.specs.declared.unit.ExternalForm.{ExternalForm}
use Rattle.c_ast.specs.declared.unit.ExternalForm.TheVariants as external_form
use Rattle.c_ast.specs.declared.unit.External.{External}
use Rattle.c_ast.specs.declared.unit.Unit.{Unit as UnitValue}
use Rattle.c_ast.specs.Printed.{printed}
use Rattle.c_ast.specs.Trees.{InitialiserTree, StatementTree, BlockTree}
use Rattle.c_ast.specs.Views.{specifiers_of, declarator_of}
use Rattle.c_ast.specs.UnitViews.{initialisers_of, initialiser_form_layer, initialiser_layer, initialiser_form_of, initialiser_of, boxed_initialiser_of, option_of, init_of, declaration_of, statements_of, maybe_of, statement_form_layer, block_layer, statement_layer, statement_form_of, block_of, statement_of, external_form_of, external_of, unit_of}
use Rattle.c_ast.specs.TreeTexts.{behind_comma, listed, sign_text, word_text, name_text, end_text, maybe_expr_text, specifiers_text, declarator_text, initialiser_text, initialisers_text, more_initialisers_text, maybe_initialiser_text, init_text, declaration_text, statement_text, statements_text, block_text, maybe_specifiers_text, external_text}
use Rattle.c_ast.specs.ValueTexts.{shown_if_any, expr_shown, specifiers_shown, declarator_shown}
use Rattle.c_ast.specs.UnitValueTexts.{initialiser_shown, shown_initialiser, init_shown, declaration_shown, statement_shown, shown_else, block_shown, function_shown, external_shown}
use Rattle.c_ast.proofs.lemmas.UnitLayers.{block_is, initialiser_is, statement_is, is_expr, is_list, is_label, is_case, is_default, is_expression, is_block, is_if, is_if_else, is_switch, is_while, is_do, is_for, is_goto, is_continue, is_break, is_return}
use Rattle.c_ast.proofs.ShownValues.{any_expr}
use Rattle.c_ast.proofs.SpelledTexts.{unit_printed}

-- ---- lists and what may be left out

initialisers_more : (xs : List Initialiser) → more_initialisers_text (initialisers_of (map initialiser_of xs)) ≡ flat_map (behind_comma initialiser_shown) xs
unfolding initialiser_shown
initialisers_more [] = refl
initialisers_more (x ∷ xs) = ap (λ t. sign_text 45 ++ initialiser_text (initialiser_of x) ++ t) (initialisers_more xs)

initialisers_listed : (xs : List Initialiser) → initialisers_text (initialisers_of (map initialiser_of xs)) ≡ listed initialiser_shown xs
unfolding initialiser_shown
initialisers_listed [] = refl
initialisers_listed (x ∷ xs) = ap (λ t. initialiser_text (initialiser_of x) ++ t) (initialisers_more xs)

inits_more : (xs : List InitDeclarator) → flat_map (behind_comma init_text) (map init_of xs) ≡ flat_map (behind_comma init_shown) xs
unfolding init_shown
inits_more [] = refl
inits_more (x ∷ xs) = ap (λ t. sign_text 45 ++ init_text (init_of x) ++ t) (inits_more xs)

inits_listed : (xs : List InitDeclarator) → listed init_text (map init_of xs) ≡ listed init_shown xs
unfolding init_shown
inits_listed [] = refl
inits_listed (x ∷ xs) = ap (λ t. init_text (init_of x) ++ t) (inits_more xs)

declarations_each : (xs : List Declaration) → flat_map declaration_text (map declaration_of xs) ≡ flat_map declaration_shown xs
unfolding declaration_shown
declarations_each [] = refl
declarations_each (x ∷ xs) = ap (λ t. declaration_text (declaration_of x) ++ t) (declarations_each xs)

statements_each : (xs : List Statement) → statements_text (statements_of (map statement_of xs)) ≡ flat_map statement_shown xs
unfolding statement_shown
statements_each [] = refl
statements_each (x ∷ xs) = ap (λ t. statement_text (statement_of x) ++ t) (statements_each xs)

pub externals_each : (xs : List External) → flat_map external_text (map external_of xs) ≡ flat_map external_shown xs
unfolding external_shown
externals_each [] = refl
externals_each (x ∷ xs) = ap (λ t. external_text (external_of x) ++ t) (externals_each xs)

any_initialiser : (i : Option (Box Initialiser)) → maybe_initialiser_text (option_of boxed_initialiser_of i) ≡ shown_initialiser i
unfolding initialiser_shown
any_initialiser None = refl
any_initialiser (Some i) = refl

any_specifiers : (s : Option Specifiers) → maybe_specifiers_text (option_of specifiers_of s) ≡ shown_if_any specifiers_shown s
unfolding specifiers_shown
any_specifiers None = refl
any_specifiers (Some s) = refl

-- ---- initialisers and declarations

-- the text of a form, whatever its line is
unfoldable pub initialiser_form_shown : InitialiserForm → List ℕ
initialiser_form_shown f = initialiser_text (initialiser_form_of f 0)

initialiser_form_lines : (x : InitialiserForm-F (ℕ → InitialiserTree) InitialiserTree) (line : ℕ) → initialiser_text (initialiser_form_layer x line) ≡ initialiser_text (initialiser_form_layer x 0)
initialiser_form_lines (InitialiserForm-F.Expr e) line = refl
initialiser_form_lines (InitialiserForm-F.List is comma) line = refl

initialiser_form_line : (g : ℕ → InitialiserTree) (x : InitialiserForm-F (ℕ → InitialiserTree) InitialiserTree) → g ≡ initialiser_form_layer x → (line : ℕ) → initialiser_text (g line) ≡ initialiser_text (g 0)
initialiser_form_line g x is line = ap (λ f. initialiser_text (f line)) is ∙ initialiser_form_lines x line ∙ sym (ap (λ f. initialiser_text (f 0)) is)

pub initialiser_form_shown_is : (e : Initialiser) → initialiser_shown e ≡ initialiser_form_shown (out-Initialiser e).form
unfolding initialiser_shown initialiser_form_shown
initialiser_form_shown_is e = ap initialiser_text (initialiser_is e) ∙ initialiser_form_line _ _ (fold_out-InitialiserForm (ℕ → InitialiserTree) InitialiserTree initialiser_form_layer initialiser_layer (out-Initialiser e).form) (out-Initialiser e).line

pub initialiser_form_expr : (e : _) → initialiser_form_shown (initialiser_form.Expr e) ≡ expr_shown e
unfolding initialiser_form_shown expr_shown
initialiser_form_expr e = ap (λ g. initialiser_text (g 0)) (is_expr e)

pub initialiser_form_list : (is : _) (comma : _) → initialiser_form_shown (initialiser_form.List is comma) ≡ sign_text 4 ++ listed initialiser_shown is ++ end_text comma
unfolding initialiser_form_shown expr_shown
initialiser_form_list is comma = ap (λ g. initialiser_text (g 0)) (is_list is comma) ∙ ap (λ t. sign_text 4 ++ t ++ end_text comma) (initialisers_listed is)

pub ruleset initialiser_forms = (initialiser_form_shown_is, initialiser_form_expr, initialiser_form_list)

pub init_parts : (i : InitDeclarator) → init_shown i ≡ declarator_shown i.declarator ++ shown_initialiser i.initialiser
unfolding init_shown declarator_shown
init_parts i = ap (λ t. declarator_text (declarator_of i.declarator) ++ t) (any_initialiser i.initialiser)

pub declaration_parts : (d : Declaration) → declaration_shown d ≡ specifiers_shown d.specifiers ++ listed init_shown d.declarators ++ sign_text 32
unfolding declaration_shown specifiers_shown
declaration_parts d = ap (λ t. specifiers_text (specifiers_of d.specifiers) ++ t ++ sign_text 32) (inits_listed d.declarators)

-- ---- statements

-- the text of a form, whatever its line is
unfoldable pub statement_form_shown : StatementForm → List ℕ
statement_form_shown f = statement_text (statement_form_of f 0)

statement_form_lines : (x : StatementForm-F (ℕ → StatementTree) BlockTree StatementTree) (line : ℕ) → statement_text (statement_form_layer x line) ≡ statement_text (statement_form_layer x 0)
statement_form_lines (StatementForm-F.Label n s) line = refl
statement_form_lines (StatementForm-F.Case e s) line = refl
statement_form_lines (StatementForm-F.Default s) line = refl
statement_form_lines (StatementForm-F.Expression e) line = refl
statement_form_lines (StatementForm-F.Block b) line = refl
statement_form_lines (StatementForm-F.If e s None) line = refl
statement_form_lines (StatementForm-F.If e s (Some t)) line = refl
statement_form_lines (StatementForm-F.Switch e s) line = refl
statement_form_lines (StatementForm-F.While e s) line = refl
statement_form_lines (StatementForm-F.Do s e) line = refl
statement_form_lines (StatementForm-F.For h s) line = refl
statement_form_lines (StatementForm-F.Goto n) line = refl
statement_form_lines StatementForm-F.Continue line = refl
statement_form_lines StatementForm-F.Break line = refl
statement_form_lines (StatementForm-F.Return e) line = refl

statement_form_line : (g : ℕ → StatementTree) (x : StatementForm-F (ℕ → StatementTree) BlockTree StatementTree) → g ≡ statement_form_layer x → (line : ℕ) → statement_text (g line) ≡ statement_text (g 0)
statement_form_line g x is line = ap (λ f. statement_text (f line)) is ∙ statement_form_lines x line ∙ sym (ap (λ f. statement_text (f 0)) is)

pub statement_form_shown_is : (e : Statement) → statement_shown e ≡ statement_form_shown (out-Statement e).form
unfolding statement_shown statement_form_shown
statement_form_shown_is e = ap statement_text (statement_is e) ∙ statement_form_line _ _ (fold_out-StatementForm (ℕ → StatementTree) BlockTree StatementTree statement_form_layer block_layer statement_layer (out-Statement e).form) (out-Statement e).line

pub statement_form_label : (n : _) (s : _) → statement_form_shown (statement_form.Label n s) ≡ name_text n ++ sign_text 31 ++ statement_shown s.value
unfolding statement_form_shown statement_shown block_shown expr_shown
statement_form_label n s = ap (λ g. statement_text (g 0)) (is_label n s)

pub statement_form_case : (e : _) (s : _) → statement_form_shown (statement_form.Case e s) ≡ word_text 2 ++ expr_shown e ++ sign_text 31 ++ statement_shown s.value
unfolding statement_form_shown statement_shown block_shown expr_shown
statement_form_case e s = ap (λ g. statement_text (g 0)) (is_case e s)

pub statement_form_default : (s : _) → statement_form_shown (statement_form.Default s) ≡ word_text 6 ++ sign_text 31 ++ statement_shown s.value
unfolding statement_form_shown statement_shown block_shown expr_shown
statement_form_default s = ap (λ g. statement_text (g 0)) (is_default s)

pub statement_form_expression : (e : _) → statement_form_shown (statement_form.Expression e) ≡ shown_if_any expr_shown e ++ sign_text 32
unfolding statement_form_shown statement_shown block_shown expr_shown
statement_form_expression e = ap (λ g. statement_text (g 0)) (is_expression e) ∙ ap (λ t. t ++ sign_text 32) (any_expr e)

pub statement_form_block : (b : _) → statement_form_shown (statement_form.Block b) ≡ block_shown b.value
unfolding statement_form_shown statement_shown block_shown expr_shown
statement_form_block b = ap (λ g. statement_text (g 0)) (is_block b)

pub statement_form_if : (e : _) (s : _) (t : _) → statement_form_shown (statement_form.If e s t) ≡ (word_text 15 ++ sign_text 2 ++ expr_shown e.value ++ sign_text 3) ++ statement_shown s.value ++ shown_else t
unfolding statement_form_shown statement_shown block_shown expr_shown
statement_form_if e s None = ap (λ g. statement_text (g 0)) (is_if e s) ∙ sym (append-nil _)
statement_form_if e s (Some t) = ap (λ g. statement_text (g 0)) (is_if_else e s t) ∙ append_assoc _ (word_text 9) _

pub statement_form_switch : (e : _) (s : _) → statement_form_shown (statement_form.Switch e s) ≡ (word_text 25 ++ sign_text 2 ++ expr_shown e ++ sign_text 3) ++ statement_shown s.value
unfolding statement_form_shown statement_shown block_shown expr_shown
statement_form_switch e s = ap (λ g. statement_text (g 0)) (is_switch e s)

pub statement_form_while : (e : _) (s : _) → statement_form_shown (statement_form.While e s) ≡ (word_text 31 ++ sign_text 2 ++ expr_shown e ++ sign_text 3) ++ statement_shown s.value
unfolding statement_form_shown statement_shown block_shown expr_shown
statement_form_while e s = ap (λ g. statement_text (g 0)) (is_while e s)

pub statement_form_do : (s : _) (e : _) → statement_form_shown (statement_form.Do s e) ≡ word_text 7 ++ statement_shown s.value ++ (word_text 31 ++ sign_text 2 ++ expr_shown e ++ sign_text 3) ++ sign_text 32
unfolding statement_form_shown statement_shown block_shown expr_shown
statement_form_do s e = ap (λ g. statement_text (g 0)) (is_do s e)

pub statement_form_for : (h : _) (s : _) → statement_form_shown (statement_form.For h s) ≡ (word_text 13 ++ sign_text 2 ++ shown_if_any expr_shown h.value.first ++ sign_text 32 ++ shown_if_any expr_shown h.value.test ++ sign_text 32 ++ shown_if_any expr_shown h.value.last ++ sign_text 3) ++ statement_shown s.value
unfolding statement_form_shown statement_shown block_shown expr_shown
statement_form_for h s = ap (λ g. statement_text (g 0)) (is_for h s) ∙ ap (λ t. word_text 13 ++ sign_text 2 ++ t ++ sign_text 32 ++ maybe_expr_text (maybe_of h.value.test) ++ sign_text 32 ++ maybe_expr_text (maybe_of h.value.last) ++ sign_text 3 ++ statement_text (statement_of s.value)) (any_expr h.value.first) ∙ ap (λ t. word_text 13 ++ sign_text 2 ++ shown_if_any expr_shown h.value.first ++ sign_text 32 ++ t ++ sign_text 32 ++ maybe_expr_text (maybe_of h.value.last) ++ sign_text 3 ++ statement_text (statement_of s.value)) (any_expr h.value.test) ∙ ap (λ t. word_text 13 ++ sign_text 2 ++ shown_if_any expr_shown h.value.first ++ sign_text 32 ++ shown_if_any expr_shown h.value.test ++ sign_text 32 ++ t ++ sign_text 3 ++ statement_text (statement_of s.value)) (any_expr h.value.last)

pub statement_form_goto : (n : _) → statement_form_shown (statement_form.Goto n) ≡ word_text 14 ++ name_text n ++ sign_text 32
unfolding statement_form_shown statement_shown block_shown expr_shown
statement_form_goto n = ap (λ g. statement_text (g 0)) (is_goto n)

pub statement_form_continue : statement_form_shown statement_form.Continue ≡ word_text 5 ++ sign_text 32
unfolding statement_form_shown statement_shown block_shown expr_shown
statement_form_continue = ap (λ g. statement_text (g 0)) is_continue

pub statement_form_break : statement_form_shown statement_form.Break ≡ word_text 1 ++ sign_text 32
unfolding statement_form_shown statement_shown block_shown expr_shown
statement_form_break = ap (λ g. statement_text (g 0)) is_break

pub statement_form_return : (e : _) → statement_form_shown (statement_form.Return e) ≡ word_text 19 ++ shown_if_any expr_shown e ++ sign_text 32
unfolding statement_form_shown statement_shown block_shown expr_shown
statement_form_return e = ap (λ g. statement_text (g 0)) (is_return e) ∙ ap (λ t. word_text 19 ++ t ++ sign_text 32) (any_expr e)

pub ruleset statement_forms = (statement_form_shown_is, statement_form_label, statement_form_case, statement_form_default, statement_form_expression, statement_form_block, statement_form_if, statement_form_switch, statement_form_while, statement_form_do, statement_form_for, statement_form_goto, statement_form_continue, statement_form_break, statement_form_return)

pub block_parts : (b : Block) → block_shown b ≡ sign_text 4 ++ flat_map declaration_shown (out-Block b).declarations ++ flat_map statement_shown (out-Block b).statements ++ sign_text 5
unfolding block_shown
block_parts b =
    let ds = (out-Block b).declarations in
    let ss = (out-Block b).statements in
    ap block_text (block_is b) ∙ ap (λ t. sign_text 4 ++ t ++ statements_text (statements_of (map statement_of ss)) ++ sign_text 5) (declarations_each ds) ∙ ap (λ t. sign_text 4 ++ flat_map declaration_shown ds ++ t ++ sign_text 5) (statements_each ss)

-- ---- external declarations

unfoldable pub external_form_shown : ExternalForm → List ℕ
external_form_shown f = external_text (external_form_of f 0)

external_lines : (f : ExternalForm) (line : ℕ) → external_text (external_form_of f line) ≡ external_text (external_form_of f 0)
external_lines (external_form.Function f) line = refl
external_lines (external_form.Declaration d) line = refl
external_lines external_form.Empty line = refl

pub external_form_shown_is : (x : External) → external_shown x ≡ external_form_shown x.form
unfolding external_shown external_form_shown
external_form_shown_is x = external_lines x.form x.line

pub external_form_function : (f : _) → external_form_shown (external_form.Function f) ≡ function_shown f.value
unfolding external_form_shown declarator_shown block_shown
external_form_function f =
    let d = declarator_text (declarator_of f.value.declarator) in
    let b = block_text (block_of f.value.body) in
    ap (λ t. t ++ d ++ flat_map declaration_text (map declaration_of f.value.parameters) ++ b) (any_specifiers f.value.specifiers) ∙ ap (λ t. shown_if_any specifiers_shown f.value.specifiers ++ d ++ t ++ b) (declarations_each f.value.parameters)

pub external_form_declaration : (d : _) → external_form_shown (external_form.Declaration d) ≡ declaration_shown d
unfolding external_form_shown declaration_shown
external_form_declaration d = refl

pub external_form_empty : external_form_shown external_form.Empty ≡ sign_text 32
unfolding external_form_shown
external_form_empty = refl

pub ruleset external_forms = (external_form_shown_is, external_form_function, external_form_declaration, external_form_empty)

pub unit_printed_is : (u : UnitValue) → drop 1 (flat_map external_shown u.externals) ≡ printed (unit_of u)
unit_printed_is u = ap (drop 1) (sym (externals_each u.externals)) ∙ unit_printed (unit_of u)
