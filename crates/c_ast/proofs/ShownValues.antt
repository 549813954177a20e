-- The texts of values, one layer at a time.
use Rattle.std.proofs.Common.{◌≡◌, ℕ, ◌++◌, Option, Some, None, List, [], ◌∷◌, map, flat_map, refl, sym, ap, ◌∙◌}
use Rattle.c_ast.specs.declared.expr.DeclaratorCore.TheVariants as declarator_core
use Rattle.c_ast.specs.declared.expr.ExprForm.{ExprForm, ExprForm-F, fold_out-ExprForm}
use Rattle.c_ast.specs.declared.expr.ExprForm.TheVariants as expr_form
use Rattle.c_ast.specs.declared.expr.SpecifierForm.{SpecifierForm, SpecifierForm-F, fold_out-SpecifierForm}
use Rattle.c_ast.specs.declared.expr.SpecifierForm.TheVariants as specifier_form
use Rattle.c_ast.specs.declared.expr.SuffixForm.{SuffixForm, SuffixForm-F, fold_out-SuffixForm}
use Rattle.c_ast.specs.declared.expr.SuffixForm.TheVariants as suffix_form
use Rattle.c_ast.specs.declared.expr.Declarator.{Declarator, out-Declarator}
use Rattle.c_ast.specs.declared.expr.Enumerator.{Enumerator, out-Enumerator}
use Rattle.c_ast.specs.declared.expr.Expr.{Expr, out-Expr}
use Rattle.c_ast.specs.declared.expr.Member.{Member, out-Member}
use Rattle.c_ast.specs.declared.expr.MemberDeclarator.{MemberDeclarator, out-MemberDeclarator}
use Rattle.c_ast.specs.declared.expr.Parameter.{Parameter, out-Parameter}
use Rattle.c_ast.specs.declared.expr.Specifier.{Specifier, out-Specifier}
use Rattle.c_ast.specs.declared.expr.Specifiers.{Specifiers, out-Specifiers}
use Rattle.c_ast.specs.declared.expr.Suffix.{Suffix, out-Suffix}
use Rattle.c_ast.specs.declared.expr.TypeName.{TypeName, out-TypeName}
use Rattle.c_ast.specs.Lexemes.{Integer, Character}
use Rattle.c_ast.specs.Operators.{binary_sign, assign_sign, prefix_sign, postfix_sign, member_sign, storage_word, qualifier_word, basic_word, record_word}
use Rattle.c_ast.specs.Printed.{token_text}
use Rattle.c_ast.specs.Trees.{ExprTree, SpecifierTree, SuffixTree, CoreTree, DeclaratorTree, EnumeratorTree, MemberTree, FieldTree, ParameterTree, SpecifiersTree, TypeNameTree}
use Rattle.c_ast.specs.Views.{expr_of, exprs_of, specifiers_of, specifier_of, specifier_list_of, member_of, members_of, field_of, fields_of, enumerator_of, enumerators_of, declarator_of, maybe_declarator_of, suffix_of, suffixes_of, parameter_of, parameters_of, core_of, expr_form_of, specifier_form_of, suffix_form_of, core_layer, expr_form_layer, specifier_form_layer, suffix_form_layer, declarator_layer, enumerator_layer, expr_layer, member_layer, field_layer, parameter_layer, specifier_layer, specifiers_layer, suffix_layer, type_name_layer}
use Rattle.c_ast.specs.UnitViews.{option_of, maybe_of}
use Rattle.c_ast.specs.TreeTexts.{behind_comma, listed, sign_text, word_text, name_text, literal_text, pointer_text, tag_text, end_text, dots_text, expr_text, sequence_text, more_sequence_text, maybe_expr_text, behind_text, type_name_text, specifiers_text, specifier_list_text, specifier_text, members_text, member_text, fields_text, more_fields_text, field_text, enumerators_text, more_enumerators_text, enumerator_text, maybe_declarator_text, declarator_text, core_text, suffixes_text, suffix_text, parameters_text, more_parameters_text, parameter_text}
use Rattle.c_ast.specs.ValueTexts.{shown_if_any, shown_behind, core_shown, expr_shown, type_name_shown, specifiers_shown, specifier_shown, member_shown, field_shown, enumerator_shown, declarator_shown, suffix_shown, parameter_shown}
use Rattle.c_ast.proofs.lemmas.Layers.{declarator_is, enumerator_is, expr_is, field_is, member_is, parameter_is, specifier_is, specifiers_is, suffix_is, type_name_is, is_array, is_assign, is_basic, is_binary, is_call, is_cast, is_character, is_comma, is_conditional, is_declared, is_empty, is_enclosed, is_enum, is_enum_tag, is_index, is_integer, is_name, is_named, is_names, is_omitted, is_parameters, is_parentheses, is_postfix, is_prefix, is_qualifier, is_record, is_record_tag, is_selected, is_sizeof_expr, is_sizeof_type, is_storage, is_text}

-- ---- lists and what may be left out

exprs_more : (xs : List Expr) → more_sequence_text (exprs_of (map expr_of xs)) ≡ flat_map (behind_comma expr_shown) xs
unfolding expr_shown
exprs_more [] = refl
exprs_more (x ∷ xs) = ap (λ t. sign_text 45 ++ expr_text (expr_of x) ++ t) (exprs_more xs)

pub exprs_listed : (xs : List Expr) → sequence_text (exprs_of (map expr_of xs)) ≡ listed expr_shown xs
unfolding expr_shown
exprs_listed [] = refl
exprs_listed (x ∷ xs) = ap (λ t. expr_text (expr_of x) ++ t) (exprs_more xs)

fields_more : (xs : List MemberDeclarator) → more_fields_text (fields_of (map field_of xs)) ≡ flat_map (behind_comma field_shown) xs
unfolding field_shown
fields_more [] = refl
fields_more (x ∷ xs) = ap (λ t. sign_text 45 ++ field_text (field_of x) ++ t) (fields_more xs)

pub fields_listed : (xs : List MemberDeclarator) → fields_text (fields_of (map field_of xs)) ≡ listed field_shown xs
unfolding field_shown
fields_listed [] = refl
fields_listed (x ∷ xs) = ap (λ t. field_text (field_of x) ++ t) (fields_more xs)

enumerators_more : (xs : List Enumerator) → more_enumerators_text (enumerators_of (map enumerator_of xs)) ≡ flat_map (behind_comma enumerator_shown) xs
unfolding enumerator_shown
enumerators_more [] = refl
enumerators_more (x ∷ xs) = ap (λ t. sign_text 45 ++ enumerator_text (enumerator_of x) ++ t) (enumerators_more xs)

pub enumerators_listed : (xs : List Enumerator) → enumerators_text (enumerators_of (map enumerator_of xs)) ≡ listed enumerator_shown xs
unfolding enumerator_shown
enumerators_listed [] = refl
enumerators_listed (x ∷ xs) = ap (λ t. enumerator_text (enumerator_of x) ++ t) (enumerators_more xs)

parameters_more : (xs : List Parameter) → more_parameters_text (parameters_of (map parameter_of xs)) ≡ flat_map (behind_comma parameter_shown) xs
unfolding parameter_shown
parameters_more [] = refl
parameters_more (x ∷ xs) = ap (λ t. sign_text 45 ++ parameter_text (parameter_of x) ++ t) (parameters_more xs)

pub parameters_listed : (xs : List Parameter) → parameters_text (parameters_of (map parameter_of xs)) ≡ listed parameter_shown xs
unfolding parameter_shown
parameters_listed [] = refl
parameters_listed (x ∷ xs) = ap (λ t. parameter_text (parameter_of x) ++ t) (parameters_more xs)

pub specifiers_each : (xs : List Specifier) → specifier_list_text (specifier_list_of (map specifier_of xs)) ≡ flat_map specifier_shown xs
unfolding specifier_shown
specifiers_each [] = refl
specifiers_each (x ∷ xs) = ap (λ t. specifier_text (specifier_of x) ++ t) (specifiers_each xs)

pub members_each : (xs : List Member) → members_text (members_of (map member_of xs)) ≡ flat_map member_shown xs
unfolding member_shown
members_each [] = refl
members_each (x ∷ xs) = ap (λ t. member_text (member_of x) ++ t) (members_each xs)

pub suffixes_each : (xs : List Suffix) → suffixes_text (suffixes_of (map suffix_of xs)) ≡ flat_map suffix_shown xs
unfolding suffix_shown
suffixes_each [] = refl
suffixes_each (x ∷ xs) = ap (λ t. suffix_text (suffix_of x) ++ t) (suffixes_each xs)

pub any_expr : (e : Option Expr) → maybe_expr_text (maybe_of e) ≡ shown_if_any expr_shown e
unfolding expr_shown
any_expr None = refl
any_expr (Some e) = refl

any_behind : (k : ℕ) (e : Option Expr) → behind_text k (maybe_of e) ≡ shown_behind k e
unfolding expr_shown
any_behind k None = refl
any_behind k (Some e) = refl

any_declarator : (d : Option Declarator) → maybe_declarator_text (maybe_declarator_of (option_of declarator_of d)) ≡ shown_if_any declarator_shown d
unfolding declarator_shown
any_declarator None = refl
any_declarator (Some d) = refl

-- ---- expressions

-- the text of a form, whatever its line is
unfoldable pub expr_form_shown : ExprForm → List ℕ
expr_form_shown f = expr_text (expr_form_of f 0)

expr_form_lines : (x : ExprForm-F CoreTree (ℕ → ExprTree) (ℕ → SpecifierTree) (ℕ → SuffixTree) DeclaratorTree EnumeratorTree ExprTree MemberTree FieldTree ParameterTree SpecifierTree SpecifiersTree SuffixTree TypeNameTree) (line : ℕ) → expr_text (expr_form_layer x line) ≡ expr_text (expr_form_layer x 0)
expr_form_lines (ExprForm-F.Name n) line = refl
expr_form_lines (ExprForm-F.Integer v k) line = refl
expr_form_lines (ExprForm-F.Character v) line = refl
expr_form_lines (ExprForm-F.Text bs) line = refl
expr_form_lines (ExprForm-F.Enclosed a) line = refl
expr_form_lines (ExprForm-F.Index a b) line = refl
expr_form_lines (ExprForm-F.Call a es) line = refl
expr_form_lines (ExprForm-F.Member op a n) line = refl
expr_form_lines (ExprForm-F.Postfix op a) line = refl
expr_form_lines (ExprForm-F.Prefix op a) line = refl
expr_form_lines (ExprForm-F.SizeofExpr a) line = refl
expr_form_lines (ExprForm-F.SizeofType t) line = refl
expr_form_lines (ExprForm-F.Cast t a) line = refl
expr_form_lines (ExprForm-F.Binary op a b) line = refl
expr_form_lines (ExprForm-F.Conditional a b c) line = refl
expr_form_lines (ExprForm-F.Assign op a b) line = refl
expr_form_lines (ExprForm-F.Comma es) line = refl

expr_form_line : (g : ℕ → ExprTree) (x : ExprForm-F CoreTree (ℕ → ExprTree) (ℕ → SpecifierTree) (ℕ → SuffixTree) DeclaratorTree EnumeratorTree ExprTree MemberTree FieldTree ParameterTree SpecifierTree SpecifiersTree SuffixTree TypeNameTree) → g ≡ expr_form_layer x → (line : ℕ) → expr_text (g line) ≡ expr_text (g 0)
expr_form_line g x is line = ap (λ f. expr_text (f line)) is ∙ expr_form_lines x line ∙ sym (ap (λ f. expr_text (f 0)) is)

pub expr_form_shown_is : (e : Expr) → expr_shown e ≡ expr_form_shown (out-Expr e).form
unfolding expr_shown expr_form_shown
expr_form_shown_is e = ap expr_text (expr_is e) ∙ expr_form_line _ _ (fold_out-ExprForm CoreTree (ℕ → ExprTree) (ℕ → SpecifierTree) (ℕ → SuffixTree) DeclaratorTree EnumeratorTree ExprTree MemberTree FieldTree ParameterTree SpecifierTree SpecifiersTree SuffixTree TypeNameTree core_layer expr_form_layer specifier_form_layer suffix_form_layer declarator_layer enumerator_layer expr_layer member_layer field_layer parameter_layer specifier_layer specifiers_layer suffix_layer type_name_layer (out-Expr e).form) (out-Expr e).line

pub expr_form_name : (n : _) → expr_form_shown (expr_form.Name n) ≡ name_text n
unfolding expr_form_shown expr_shown type_name_shown
expr_form_name n = ap (λ g. expr_text (g 0)) (is_name n)

pub expr_form_integer : (v : _) (k : _) → expr_form_shown (expr_form.Integer v k) ≡ token_text (Integer v k)
unfolding expr_form_shown expr_shown type_name_shown
expr_form_integer v k = ap (λ g. expr_text (g 0)) (is_integer v k)

pub expr_form_character : (v : _) → expr_form_shown (expr_form.Character v) ≡ token_text (Character v)
unfolding expr_form_shown expr_shown type_name_shown
expr_form_character v = ap (λ g. expr_text (g 0)) (is_character v)

pub expr_form_text : (bs : _) → expr_form_shown (expr_form.Text bs) ≡ flat_map literal_text bs
unfolding expr_form_shown expr_shown type_name_shown
expr_form_text bs = ap (λ g. expr_text (g 0)) (is_text bs)

pub expr_form_enclosed : (a : _) → expr_form_shown (expr_form.Enclosed a) ≡ sign_text 2 ++ expr_shown a.value ++ sign_text 3
unfolding expr_form_shown expr_shown type_name_shown
expr_form_enclosed a = ap (λ g. expr_text (g 0)) (is_enclosed a)

pub expr_form_index : (a : _) (i : _) → expr_form_shown (expr_form.Index a i) ≡ expr_shown a.value ++ sign_text 0 ++ expr_shown i.value ++ sign_text 1
unfolding expr_form_shown expr_shown type_name_shown
expr_form_index a i = ap (λ g. expr_text (g 0)) (is_index a i)

pub expr_form_call : (f : _) (es : _) → expr_form_shown (expr_form.Call f es) ≡ expr_shown f.value ++ sign_text 2 ++ listed expr_shown es.value ++ sign_text 3
unfolding expr_form_shown expr_shown type_name_shown
expr_form_call f es = ap (λ g. expr_text (g 0)) (is_call f es) ∙ ap (λ t. expr_text (expr_of f.value) ++ sign_text 2 ++ t ++ sign_text 3) (exprs_listed es.value)

pub expr_form_selected : (op : _) (a : _) (n : _) → expr_form_shown (expr_form.Member op a n) ≡ expr_shown a.value ++ sign_text (member_sign op) ++ name_text n.value
unfolding expr_form_shown expr_shown type_name_shown
expr_form_selected op a n = ap (λ g. expr_text (g 0)) (is_selected op a n)

pub expr_form_postfix : (op : _) (a : _) → expr_form_shown (expr_form.Postfix op a) ≡ expr_shown a.value ++ sign_text (postfix_sign op)
unfolding expr_form_shown expr_shown type_name_shown
expr_form_postfix op a = ap (λ g. expr_text (g 0)) (is_postfix op a)

pub expr_form_prefix : (op : _) (a : _) → expr_form_shown (expr_form.Prefix op a) ≡ sign_text (prefix_sign op) ++ expr_shown a.value
unfolding expr_form_shown expr_shown type_name_shown
expr_form_prefix op a = ap (λ g. expr_text (g 0)) (is_prefix op a)

pub expr_form_sizeof_expr : (a : _) → expr_form_shown (expr_form.SizeofExpr a) ≡ word_text 22 ++ expr_shown a.value
unfolding expr_form_shown expr_shown type_name_shown
expr_form_sizeof_expr a = ap (λ g. expr_text (g 0)) (is_sizeof_expr a)

pub expr_form_sizeof_type : (t : _) → expr_form_shown (expr_form.SizeofType t) ≡ word_text 22 ++ sign_text 2 ++ type_name_shown t.value ++ sign_text 3
unfolding expr_form_shown expr_shown type_name_shown
expr_form_sizeof_type t = ap (λ g. expr_text (g 0)) (is_sizeof_type t)

pub expr_form_cast : (t : _) (a : _) → expr_form_shown (expr_form.Cast t a) ≡ sign_text 2 ++ type_name_shown t.value ++ sign_text 3 ++ expr_shown a.value
unfolding expr_form_shown expr_shown type_name_shown
expr_form_cast t a = ap (λ g. expr_text (g 0)) (is_cast t a)

pub expr_form_binary : (op : _) (a : _) (b : _) → expr_form_shown (expr_form.Binary op a b) ≡ expr_shown a.value ++ sign_text (binary_sign op) ++ expr_shown b.value
unfolding expr_form_shown expr_shown type_name_shown
expr_form_binary op a b = ap (λ g. expr_text (g 0)) (is_binary op a b)

pub expr_form_conditional : (a : _) (b : _) (c : _) → expr_form_shown (expr_form.Conditional a b c) ≡ expr_shown a.value ++ sign_text 30 ++ expr_shown b.value ++ sign_text 31 ++ expr_shown c.value
unfolding expr_form_shown expr_shown type_name_shown
expr_form_conditional a b c = ap (λ g. expr_text (g 0)) (is_conditional a b c)

pub expr_form_assign : (op : _) (a : _) (b : _) → expr_form_shown (expr_form.Assign op a b) ≡ expr_shown a.value ++ sign_text (assign_sign op) ++ expr_shown b.value
unfolding expr_form_shown expr_shown type_name_shown
expr_form_assign op a b = ap (λ g. expr_text (g 0)) (is_assign op a b)

pub expr_form_comma : (es : _) → expr_form_shown (expr_form.Comma es) ≡ listed expr_shown es
unfolding expr_form_shown expr_shown type_name_shown
expr_form_comma es = ap (λ g. expr_text (g 0)) (is_comma es) ∙ exprs_listed es

pub ruleset expr_forms = (expr_form_shown_is, expr_form_name, expr_form_integer, expr_form_character, expr_form_text, expr_form_enclosed, expr_form_index, expr_form_call, expr_form_selected, expr_form_postfix, expr_form_prefix, expr_form_sizeof_expr, expr_form_sizeof_type, expr_form_cast, expr_form_binary, expr_form_conditional, expr_form_assign, expr_form_comma)

-- ---- specifiers

pub specifiers_list : (v : Specifiers) → specifiers_shown v ≡ flat_map specifier_shown (out-Specifiers v).list
unfolding specifiers_shown specifier_shown
specifiers_list v = ap specifiers_text (specifiers_is v) ∙ specifiers_each (out-Specifiers v).list

-- the text of a form, whatever its line is
unfoldable pub specifier_form_shown : SpecifierForm → List ℕ
specifier_form_shown f = specifier_text (specifier_form_of f 0)

specifier_form_lines : (x : SpecifierForm-F CoreTree (ℕ → ExprTree) (ℕ → SpecifierTree) (ℕ → SuffixTree) DeclaratorTree EnumeratorTree ExprTree MemberTree FieldTree ParameterTree SpecifierTree SpecifiersTree SuffixTree TypeNameTree) (line : ℕ) → specifier_text (specifier_form_layer x line) ≡ specifier_text (specifier_form_layer x 0)
specifier_form_lines (SpecifierForm-F.Storage s) line = refl
specifier_form_lines (SpecifierForm-F.Qualifier q) line = refl
specifier_form_lines (SpecifierForm-F.Basic b) line = refl
specifier_form_lines (SpecifierForm-F.Record k tag ms) line = refl
specifier_form_lines (SpecifierForm-F.RecordTag k tag) line = refl
specifier_form_lines (SpecifierForm-F.Enum tag es comma) line = refl
specifier_form_lines (SpecifierForm-F.EnumTag tag) line = refl
specifier_form_lines (SpecifierForm-F.Named n) line = refl

specifier_form_line : (g : ℕ → SpecifierTree) (x : SpecifierForm-F CoreTree (ℕ → ExprTree) (ℕ → SpecifierTree) (ℕ → SuffixTree) DeclaratorTree EnumeratorTree ExprTree MemberTree FieldTree ParameterTree SpecifierTree SpecifiersTree SuffixTree TypeNameTree) → g ≡ specifier_form_layer x → (line : ℕ) → specifier_text (g line) ≡ specifier_text (g 0)
specifier_form_line g x is line = ap (λ f. specifier_text (f line)) is ∙ specifier_form_lines x line ∙ sym (ap (λ f. specifier_text (f 0)) is)

pub specifier_form_shown_is : (e : Specifier) → specifier_shown e ≡ specifier_form_shown (out-Specifier e).form
unfolding specifier_shown specifier_form_shown
specifier_form_shown_is e = ap specifier_text (specifier_is e) ∙ specifier_form_line _ _ (fold_out-SpecifierForm CoreTree (ℕ → ExprTree) (ℕ → SpecifierTree) (ℕ → SuffixTree) DeclaratorTree EnumeratorTree ExprTree MemberTree FieldTree ParameterTree SpecifierTree SpecifiersTree SuffixTree TypeNameTree core_layer expr_form_layer specifier_form_layer suffix_form_layer declarator_layer enumerator_layer expr_layer member_layer field_layer parameter_layer specifier_layer specifiers_layer suffix_layer type_name_layer (out-Specifier e).form) (out-Specifier e).line

pub specifier_form_storage : (s : _) → specifier_form_shown (specifier_form.Storage s) ≡ word_text (storage_word s)
unfolding specifier_form_shown member_shown enumerator_shown
specifier_form_storage s = ap (λ g. specifier_text (g 0)) (is_storage s)

pub specifier_form_qualifier : (q : _) → specifier_form_shown (specifier_form.Qualifier q) ≡ word_text (qualifier_word q)
unfolding specifier_form_shown member_shown enumerator_shown
specifier_form_qualifier q = ap (λ g. specifier_text (g 0)) (is_qualifier q)

pub specifier_form_basic : (b : _) → specifier_form_shown (specifier_form.Basic b) ≡ word_text (basic_word b)
unfolding specifier_form_shown member_shown enumerator_shown
specifier_form_basic b = ap (λ g. specifier_text (g 0)) (is_basic b)

pub specifier_form_record : (k : _) (tag : _) (ms : _) → specifier_form_shown (specifier_form.Record k tag ms) ≡ word_text (record_word k) ++ tag_text tag ++ sign_text 4 ++ flat_map member_shown ms ++ sign_text 5
unfolding specifier_form_shown member_shown enumerator_shown
specifier_form_record k tag ms = ap (λ g. specifier_text (g 0)) (is_record k tag ms) ∙ ap (λ t. word_text (record_word k) ++ tag_text tag ++ sign_text 4 ++ t ++ sign_text 5) (members_each ms)

pub specifier_form_record_tag : (k : _) (n : _) → specifier_form_shown (specifier_form.RecordTag k n) ≡ word_text (record_word k) ++ name_text n
unfolding specifier_form_shown member_shown enumerator_shown
specifier_form_record_tag k n = ap (λ g. specifier_text (g 0)) (is_record_tag k n)

pub specifier_form_enum : (tag : _) (es : _) (comma : _) → specifier_form_shown (specifier_form.Enum tag es comma) ≡ word_text 10 ++ tag_text tag ++ sign_text 4 ++ listed enumerator_shown es ++ end_text comma
unfolding specifier_form_shown member_shown enumerator_shown
specifier_form_enum tag es comma = ap (λ g. specifier_text (g 0)) (is_enum tag es comma) ∙ ap (λ t. word_text 10 ++ tag_text tag ++ sign_text 4 ++ t ++ end_text comma) (enumerators_listed es)

pub specifier_form_enum_tag : (n : _) → specifier_form_shown (specifier_form.EnumTag n) ≡ word_text 10 ++ name_text n
unfolding specifier_form_shown member_shown enumerator_shown
specifier_form_enum_tag n = ap (λ g. specifier_text (g 0)) (is_enum_tag n)

pub specifier_form_named : (n : _) → specifier_form_shown (specifier_form.Named n) ≡ name_text n
unfolding specifier_form_shown member_shown enumerator_shown
specifier_form_named n = ap (λ g. specifier_text (g 0)) (is_named n)

pub ruleset specifier_forms = (specifier_form_shown_is, specifier_form_storage, specifier_form_qualifier, specifier_form_basic, specifier_form_record, specifier_form_record_tag, specifier_form_enum, specifier_form_enum_tag, specifier_form_named)

pub member_parts : (v : Member) → member_shown v ≡ specifiers_shown (out-Member v).specifiers ++ listed field_shown (out-Member v).declarators ++ sign_text 32
unfolding member_shown specifiers_shown
member_parts v = ap member_text (member_is v) ∙ ap (λ t. specifiers_text (specifiers_of (out-Member v).specifiers) ++ t ++ sign_text 32) (fields_listed (out-Member v).declarators)

pub field_parts : (v : MemberDeclarator) → field_shown v ≡ shown_if_any declarator_shown (out-MemberDeclarator v).declarator ++ shown_behind 31 (out-MemberDeclarator v).width
unfolding field_shown
field_parts v = ap field_text (field_is v) ∙ ap (λ t. t ++ behind_text 31 (maybe_of (out-MemberDeclarator v).width)) (any_declarator (out-MemberDeclarator v).declarator) ∙ ap (λ t. shown_if_any declarator_shown (out-MemberDeclarator v).declarator ++ t) (any_behind 31 (out-MemberDeclarator v).width)

pub enumerator_parts : (v : Enumerator) → enumerator_shown v ≡ name_text (out-Enumerator v).name ++ shown_behind 34 (out-Enumerator v).value
unfolding enumerator_shown
enumerator_parts v = ap enumerator_text (enumerator_is v) ∙ ap (λ t. name_text (out-Enumerator v).name ++ t) (any_behind 34 (out-Enumerator v).value)

-- ---- declarators

pub type_name_parts : (v : TypeName) → type_name_shown v ≡ specifiers_shown (out-TypeName v).specifiers ++ shown_if_any declarator_shown (out-TypeName v).declarator
unfolding type_name_shown specifiers_shown
type_name_parts v = ap type_name_text (type_name_is v) ∙ ap (λ t. specifiers_text (specifiers_of (out-TypeName v).specifiers) ++ t) (any_declarator (out-TypeName v).declarator)

pub parameter_parts : (v : Parameter) → parameter_shown v ≡ specifiers_shown (out-Parameter v).specifiers ++ shown_if_any declarator_shown (out-Parameter v).declarator
unfolding parameter_shown specifiers_shown
parameter_parts v = ap parameter_text (parameter_is v) ∙ ap (λ t. specifiers_text (specifiers_of (out-Parameter v).specifiers) ++ t) (any_declarator (out-Parameter v).declarator)

pub declarator_parts : (v : Declarator) → declarator_shown v ≡ flat_map pointer_text (out-Declarator v).pointers ++ core_shown (out-Declarator v).core ++ flat_map suffix_shown (out-Declarator v).suffixes
unfolding declarator_shown core_shown
declarator_parts v = ap declarator_text (declarator_is v) ∙ ap (λ t. flat_map pointer_text (out-Declarator v).pointers ++ core_text (core_of (out-Declarator v).core) ++ t) (suffixes_each (out-Declarator v).suffixes)

pub core_declared : (n : _) → core_shown (declarator_core.Declared n) ≡ name_text n
unfolding core_shown declarator_shown
core_declared n = ap core_text (is_declared n)

pub core_parentheses : (d : _) → core_shown (declarator_core.Parentheses d) ≡ sign_text 2 ++ declarator_shown d.value ++ sign_text 3
unfolding core_shown declarator_shown
core_parentheses d = ap core_text (is_parentheses d)

pub core_omitted : core_shown declarator_core.Omitted ≡ []
unfolding core_shown declarator_shown
core_omitted = ap core_text is_omitted

pub ruleset cores = (core_declared, core_parentheses, core_omitted)

-- ---- suffixes

-- the text of a form, whatever its line is
unfoldable pub suffix_form_shown : SuffixForm → List ℕ
suffix_form_shown f = suffix_text (suffix_form_of f 0)

suffix_form_lines : (x : SuffixForm-F CoreTree (ℕ → ExprTree) (ℕ → SpecifierTree) (ℕ → SuffixTree) DeclaratorTree EnumeratorTree ExprTree MemberTree FieldTree ParameterTree SpecifierTree SpecifiersTree SuffixTree TypeNameTree) (line : ℕ) → suffix_text (suffix_form_layer x line) ≡ suffix_text (suffix_form_layer x 0)
suffix_form_lines (SuffixForm-F.Array o) line = refl
suffix_form_lines (SuffixForm-F.Parameters ps more) line = refl
suffix_form_lines (SuffixForm-F.Names ns) line = refl
suffix_form_lines SuffixForm-F.Empty line = refl

suffix_form_line : (g : ℕ → SuffixTree) (x : SuffixForm-F CoreTree (ℕ → ExprTree) (ℕ → SpecifierTree) (ℕ → SuffixTree) DeclaratorTree EnumeratorTree ExprTree MemberTree FieldTree ParameterTree SpecifierTree SpecifiersTree SuffixTree TypeNameTree) → g ≡ suffix_form_layer x → (line : ℕ) → suffix_text (g line) ≡ suffix_text (g 0)
suffix_form_line g x is line = ap (λ f. suffix_text (f line)) is ∙ suffix_form_lines x line ∙ sym (ap (λ f. suffix_text (f 0)) is)

pub suffix_form_shown_is : (e : Suffix) → suffix_shown e ≡ suffix_form_shown (out-Suffix e).form
unfolding suffix_shown suffix_form_shown
suffix_form_shown_is e = ap suffix_text (suffix_is e) ∙ suffix_form_line _ _ (fold_out-SuffixForm CoreTree (ℕ → ExprTree) (ℕ → SpecifierTree) (ℕ → SuffixTree) DeclaratorTree EnumeratorTree ExprTree MemberTree FieldTree ParameterTree SpecifierTree SpecifiersTree SuffixTree TypeNameTree core_layer expr_form_layer specifier_form_layer suffix_form_layer declarator_layer enumerator_layer expr_layer member_layer field_layer parameter_layer specifier_layer specifiers_layer suffix_layer type_name_layer (out-Suffix e).form) (out-Suffix e).line

pub suffix_form_array : (o : _) → suffix_form_shown (suffix_form.Array o) ≡ sign_text 0 ++ shown_if_any expr_shown o ++ sign_text 1
unfolding suffix_form_shown expr_shown parameter_shown
suffix_form_array o = ap (λ g. suffix_text (g 0)) (is_array o) ∙ ap (λ t. sign_text 0 ++ t ++ sign_text 1) (any_expr o)

pub suffix_form_parameters : (ps : _) (more : _) → suffix_form_shown (suffix_form.Parameters ps more) ≡ sign_text 2 ++ listed parameter_shown ps ++ dots_text more
unfolding suffix_form_shown expr_shown parameter_shown
suffix_form_parameters ps more = ap (λ g. suffix_text (g 0)) (is_parameters ps more) ∙ ap (λ t. sign_text 2 ++ t ++ dots_text more) (parameters_listed ps)

pub suffix_form_names : (ns : _) → suffix_form_shown (suffix_form.Names ns) ≡ sign_text 2 ++ listed name_text ns ++ sign_text 3
unfolding suffix_form_shown expr_shown parameter_shown
suffix_form_names ns = ap (λ g. suffix_text (g 0)) (is_names ns)

pub suffix_form_empty : suffix_form_shown suffix_form.Empty ≡ sign_text 2 ++ sign_text 3
unfolding suffix_form_shown expr_shown parameter_shown
suffix_form_empty = ap (λ g. suffix_text (g 0)) is_empty

pub ruleset suffix_forms = (suffix_form_shown_is, suffix_form_array, suffix_form_parameters, suffix_form_names, suffix_form_empty)
