-- The heights of values, one layer at a time.
use Rattle.std.proofs.Common.{◌≡◌, ℕ, ◌+◌, max, Option, Some, None, List, [], ◌∷◌, map, refl, sym, ap, ◌∙◌}
use Rattle.c_ast.specs.declared.expr.DeclaratorCore.{DeclaratorCore}
use Rattle.c_ast.specs.declared.expr.DeclaratorCore.TheVariants as declarator_core
use Rattle.c_ast.specs.declared.expr.ExprForm.{ExprForm, ExprForm-F, fold_out-ExprForm}
use Rattle.c_ast.specs.declared.expr.ExprForm.TheVariants as expr_form
use Rattle.c_ast.specs.declared.expr.SpecifierForm.{SpecifierForm, SpecifierForm-F, fold_out-SpecifierForm}
use Rattle.c_ast.specs.declared.expr.SpecifierForm.TheVariants as specifier_form
use Rattle.c_ast.specs.declared.expr.SuffixForm.{SuffixForm, SuffixForm-F, fold_out-SuffixForm}
use Rattle.c_ast.specs.declared.expr.SuffixForm.TheVariants as suffix_form
use Rattle.c_ast.specs.declared.expr.Declarator.{Declarator, out-Declarator}
use Rattle.c_ast.specs.declared.expr.Enumerator.{Enumerator, out-Enumerator}
use Rattle.c_ast.specs.declared.expr.Expr.{Expr, out-Expr}
use Rattle.c_ast.specs.declared.expr.Member.{Member, out-Member}
use Rattle.c_ast.specs.declared.expr.MemberDeclarator.{MemberDeclarator, out-MemberDeclarator}
use Rattle.c_ast.specs.declared.expr.Parameter.{Parameter, out-Parameter}
use Rattle.c_ast.specs.declared.expr.Specifier.{Specifier, out-Specifier}
use Rattle.c_ast.specs.declared.expr.Specifiers.{Specifiers, out-Specifiers}
use Rattle.c_ast.specs.declared.expr.Suffix.{Suffix, out-Suffix}
use Rattle.c_ast.specs.declared.expr.TypeName.{TypeName, out-TypeName}
use Rattle.c_ast.specs.Trees.{ExprTree, SpecifierTree, SuffixTree, CoreTree, DeclaratorTree, EnumeratorTree, MemberTree, FieldTree, ParameterTree, SpecifiersTree, TypeNameTree}
use Rattle.c_ast.specs.Views.{expr_of, exprs_of, specifiers_of, specifier_of, specifier_list_of, member_of, members_of, field_of, fields_of, enumerator_of, enumerators_of, declarator_of, suffix_of, suffixes_of, parameter_of, parameters_of, core_of, expr_form_of, specifier_form_of, suffix_form_of, core_layer, expr_form_layer, specifier_form_layer, suffix_form_layer, declarator_layer, enumerator_layer, expr_layer, member_layer, field_layer, parameter_layer, specifier_layer, specifiers_layer, suffix_layer, type_name_layer, maybe_declarator_of}
use Rattle.c_ast.specs.UnitViews.{option_of, maybe_of}
use Rattle.c_ast.specs.Heights.{height, tallest, type_name_height, specifiers_height, specifier_list_height, specifier_height, member_height, members_height, field_height, fields_height, enumerator_height, enumerators_height, declarator_height, core_height, suffix_height, suffixes_height, parameter_height, parameters_height, maybe_height, maybe_declarator_height}
use Rattle.c_ast.specs.ValueHeights.{most, if_any, expr_high, type_name_high, specifiers_high, specifier_high, member_high, field_high, enumerator_high, declarator_high, suffix_high, parameter_high}
use Rattle.c_ast.proofs.lemmas.Layers.{declarator_is, enumerator_is, expr_is, field_is, is_array, is_assign, is_basic, is_binary, is_call, is_cast, is_character, is_comma, is_conditional, is_declared, is_empty, is_enclosed, is_enum, is_enum_tag, is_index, is_integer, is_name, is_named, is_names, is_omitted, is_parameters, is_parentheses, is_postfix, is_prefix, is_qualifier, is_record, is_record_tag, is_selected, is_sizeof_expr, is_sizeof_type, is_storage, is_text, member_is, parameter_is, specifier_is, specifiers_is, suffix_is, type_name_is}

-- ---- lists and what may be left out

pub exprs_most : (xs : List Expr) → tallest (exprs_of (map expr_of xs)) ≡ most expr_high xs
unfolding expr_high
exprs_most [] = refl
exprs_most (x ∷ xs) = ap (max (height (expr_of x))) (exprs_most xs)

pub specifiers_most : (xs : List Specifier) → specifier_list_height (specifier_list_of (map specifier_of xs)) ≡ most specifier_high xs
unfolding specifier_high
specifiers_most [] = refl
specifiers_most (x ∷ xs) = ap (max (specifier_height (specifier_of x))) (specifiers_most xs)

pub members_most : (xs : List Member) → members_height (members_of (map member_of xs)) ≡ most member_high xs
unfolding member_high
members_most [] = refl
members_most (x ∷ xs) = ap (max (member_height (member_of x))) (members_most xs)

pub fields_most : (xs : List MemberDeclarator) → fields_height (fields_of (map field_of xs)) ≡ most field_high xs
unfolding field_high
fields_most [] = refl
fields_most (x ∷ xs) = ap (max (field_height (field_of x))) (fields_most xs)

pub enumerators_most : (xs : List Enumerator) → enumerators_height (enumerators_of (map enumerator_of xs)) ≡ most enumerator_high xs
unfolding enumerator_high
enumerators_most [] = refl
enumerators_most (x ∷ xs) = ap (max (enumerator_height (enumerator_of x))) (enumerators_most xs)

pub suffixes_most : (xs : List Suffix) → suffixes_height (suffixes_of (map suffix_of xs)) ≡ most suffix_high xs
unfolding suffix_high
suffixes_most [] = refl
suffixes_most (x ∷ xs) = ap (max (suffix_height (suffix_of x))) (suffixes_most xs)

pub parameters_most : (xs : List Parameter) → parameters_height (parameters_of (map parameter_of xs)) ≡ most parameter_high xs
unfolding parameter_high
parameters_most [] = refl
parameters_most (x ∷ xs) = ap (max (parameter_height (parameter_of x))) (parameters_most xs)

pub any_expr : (e : Option Expr) → maybe_height (maybe_of e) ≡ if_any expr_high e
unfolding expr_high
any_expr None = refl
any_expr (Some e) = refl

any_declarator : (d : Option Declarator) → maybe_declarator_height (maybe_declarator_of (option_of declarator_of d)) ≡ if_any declarator_high d
unfolding declarator_high
any_declarator None = refl
any_declarator (Some d) = refl

-- ---- expressions

-- the height of a form, whatever its line is
unfoldable pub form_high : ExprForm → ℕ
form_high f = height (expr_form_of f 0)

expr_form_lines : (x : ExprForm-F CoreTree (ℕ → ExprTree) (ℕ → SpecifierTree) (ℕ → SuffixTree) DeclaratorTree EnumeratorTree ExprTree MemberTree FieldTree ParameterTree SpecifierTree SpecifiersTree SuffixTree TypeNameTree) (line : ℕ) → height (expr_form_layer x line) ≡ height (expr_form_layer x 0)
expr_form_lines (ExprForm-F.Name n) line = refl
expr_form_lines (ExprForm-F.Integer v k) line = refl
expr_form_lines (ExprForm-F.Character v) line = refl
expr_form_lines (ExprForm-F.Text bs) line = refl
expr_form_lines (ExprForm-F.Enclosed a) line = refl
expr_form_lines (ExprForm-F.Index a b) line = refl
expr_form_lines (ExprForm-F.Call a es) line = refl
expr_form_lines (ExprForm-F.Member op a n) line = refl
expr_form_lines (ExprForm-F.Postfix op a) line = refl
expr_form_lines (ExprForm-F.Prefix op a) line = refl
expr_form_lines (ExprForm-F.SizeofExpr a) line = refl
expr_form_lines (ExprForm-F.SizeofType t) line = refl
expr_form_lines (ExprForm-F.Cast t a) line = refl
expr_form_lines (ExprForm-F.Binary op a b) line = refl
expr_form_lines (ExprForm-F.Conditional a b c) line = refl
expr_form_lines (ExprForm-F.Assign op a b) line = refl
expr_form_lines (ExprForm-F.Comma es) line = refl

expr_form_line : (g : ℕ → ExprTree) (x : ExprForm-F CoreTree (ℕ → ExprTree) (ℕ → SpecifierTree) (ℕ → SuffixTree) DeclaratorTree EnumeratorTree ExprTree MemberTree FieldTree ParameterTree SpecifierTree SpecifiersTree SuffixTree TypeNameTree) → g ≡ expr_form_layer x → (line : ℕ) → height (g line) ≡ height (g 0)
expr_form_line g x is line = ap (λ f. height (f line)) is ∙ expr_form_lines x line ∙ sym (ap (λ f. height (f 0)) is)

pub expr_form_high : (e : Expr) → expr_high e ≡ form_high (out-Expr e).form
unfolding expr_high form_high
expr_form_high e = ap height (expr_is e) ∙ expr_form_line _ _ (fold_out-ExprForm CoreTree (ℕ → ExprTree) (ℕ → SpecifierTree) (ℕ → SuffixTree) DeclaratorTree EnumeratorTree ExprTree MemberTree FieldTree ParameterTree SpecifierTree SpecifiersTree SuffixTree TypeNameTree core_layer expr_form_layer specifier_form_layer suffix_form_layer declarator_layer enumerator_layer expr_layer member_layer field_layer parameter_layer specifier_layer specifiers_layer suffix_layer type_name_layer (out-Expr e).form) (out-Expr e).line

pub expr_form_name : (n : _) → form_high (expr_form.Name n) ≡ 1
unfolding form_high expr_high type_name_high
expr_form_name n = ap (λ g. height (g 0)) (is_name n)

pub expr_form_integer : (v : _) (k : _) → form_high (expr_form.Integer v k) ≡ 1
unfolding form_high expr_high type_name_high
expr_form_integer v k = ap (λ g. height (g 0)) (is_integer v k)

pub expr_form_character : (v : _) → form_high (expr_form.Character v) ≡ 1
unfolding form_high expr_high type_name_high
expr_form_character v = ap (λ g. height (g 0)) (is_character v)

pub expr_form_text : (bs : _) → form_high (expr_form.Text bs) ≡ 1
unfolding form_high expr_high type_name_high
expr_form_text bs = ap (λ g. height (g 0)) (is_text bs)

pub expr_form_enclosed : (a : _) → form_high (expr_form.Enclosed a) ≡ expr_high a.value + 1
unfolding form_high expr_high type_name_high
expr_form_enclosed a = ap (λ g. height (g 0)) (is_enclosed a)

pub expr_form_index : (a : _) (b : _) → form_high (expr_form.Index a b) ≡ max (expr_high a.value) (expr_high b.value) + 1
unfolding form_high expr_high type_name_high
expr_form_index a b = ap (λ g. height (g 0)) (is_index a b)

pub expr_form_call : (a : _) (es : _) → form_high (expr_form.Call a es) ≡ max (expr_high a.value) (most expr_high es.value) + 1
unfolding form_high expr_high type_name_high
expr_form_call a es = ap (λ g. height (g 0)) (is_call a es) ∙ ap (λ n. max (height (expr_of a.value)) n + 1) (exprs_most es.value)

pub expr_form_member : (op : _) (a : _) (n : _) → form_high (expr_form.Member op a n) ≡ expr_high a.value + 1
unfolding form_high expr_high type_name_high
expr_form_member op a n = ap (λ g. height (g 0)) (is_selected op a n)

pub expr_form_postfix : (op : _) (a : _) → form_high (expr_form.Postfix op a) ≡ expr_high a.value + 1
unfolding form_high expr_high type_name_high
expr_form_postfix op a = ap (λ g. height (g 0)) (is_postfix op a)

pub expr_form_prefix : (op : _) (a : _) → form_high (expr_form.Prefix op a) ≡ expr_high a.value + 1
unfolding form_high expr_high type_name_high
expr_form_prefix op a = ap (λ g. height (g 0)) (is_prefix op a)

pub expr_form_sizeof_expr : (a : _) → form_high (expr_form.SizeofExpr a) ≡ expr_high a.value + 1
unfolding form_high expr_high type_name_high
expr_form_sizeof_expr a = ap (λ g. height (g 0)) (is_sizeof_expr a)

pub expr_form_sizeof_type : (t : _) → form_high (expr_form.SizeofType t) ≡ type_name_high t.value + 1
unfolding form_high expr_high type_name_high
expr_form_sizeof_type t = ap (λ g. height (g 0)) (is_sizeof_type t)

pub expr_form_cast : (t : _) (a : _) → form_high (expr_form.Cast t a) ≡ max (type_name_high t.value) (expr_high a.value) + 1
unfolding form_high expr_high type_name_high
expr_form_cast t a = ap (λ g. height (g 0)) (is_cast t a)

pub expr_form_binary : (op : _) (a : _) (b : _) → form_high (expr_form.Binary op a b) ≡ max (expr_high a.value) (expr_high b.value) + 1
unfolding form_high expr_high type_name_high
expr_form_binary op a b = ap (λ g. height (g 0)) (is_binary op a b)

pub expr_form_conditional : (a : _) (b : _) (c : _) → form_high (expr_form.Conditional a b c) ≡ max (max (expr_high a.value) (expr_high b.value)) (expr_high c.value) + 1
unfolding form_high expr_high type_name_high
expr_form_conditional a b c = ap (λ g. height (g 0)) (is_conditional a b c)

pub expr_form_assign : (op : _) (a : _) (b : _) → form_high (expr_form.Assign op a b) ≡ max (expr_high a.value) (expr_high b.value) + 1
unfolding form_high expr_high type_name_high
expr_form_assign op a b = ap (λ g. height (g 0)) (is_assign op a b)

pub expr_form_comma : (es : _) → form_high (expr_form.Comma es) ≡ most expr_high es + 1
unfolding form_high expr_high type_name_high
expr_form_comma es = ap (λ g. height (g 0)) (is_comma es) ∙ ap (λ n. n + 1) (exprs_most es)

pub ruleset expr_forms = (expr_form_high, expr_form_name, expr_form_integer, expr_form_character, expr_form_text, expr_form_enclosed, expr_form_index, expr_form_call, expr_form_member, expr_form_postfix, expr_form_prefix, expr_form_sizeof_expr, expr_form_sizeof_type, expr_form_cast, expr_form_binary, expr_form_conditional, expr_form_assign, expr_form_comma)

-- ---- specifiers

pub specifiers_list : (v : Specifiers) → specifiers_high v ≡ most specifier_high (out-Specifiers v).list
unfolding specifiers_high specifier_high
specifiers_list v = ap specifiers_height (specifiers_is v) ∙ specifiers_most (out-Specifiers v).list

-- the height of a form, whatever its line is
unfoldable pub specifier_form_height : SpecifierForm → ℕ
specifier_form_height f = specifier_height (specifier_form_of f 0)

specifier_form_lines : (x : SpecifierForm-F CoreTree (ℕ → ExprTree) (ℕ → SpecifierTree) (ℕ → SuffixTree) DeclaratorTree EnumeratorTree ExprTree MemberTree FieldTree ParameterTree SpecifierTree SpecifiersTree SuffixTree TypeNameTree) (line : ℕ) → specifier_height (specifier_form_layer x line) ≡ specifier_height (specifier_form_layer x 0)
specifier_form_lines (SpecifierForm-F.Storage s) line = refl
specifier_form_lines (SpecifierForm-F.Qualifier q) line = refl
specifier_form_lines (SpecifierForm-F.Basic b) line = refl
specifier_form_lines (SpecifierForm-F.Record k tag ms) line = refl
specifier_form_lines (SpecifierForm-F.RecordTag k tag) line = refl
specifier_form_lines (SpecifierForm-F.Enum tag es comma) line = refl
specifier_form_lines (SpecifierForm-F.EnumTag tag) line = refl
specifier_form_lines (SpecifierForm-F.Named n) line = refl

specifier_form_line : (g : ℕ → SpecifierTree) (x : SpecifierForm-F CoreTree (ℕ → ExprTree) (ℕ → SpecifierTree) (ℕ → SuffixTree) DeclaratorTree EnumeratorTree ExprTree MemberTree FieldTree ParameterTree SpecifierTree SpecifiersTree SuffixTree TypeNameTree) → g ≡ specifier_form_layer x → (line : ℕ) → specifier_height (g line) ≡ specifier_height (g 0)
specifier_form_line g x is line = ap (λ f. specifier_height (f line)) is ∙ specifier_form_lines x line ∙ sym (ap (λ f. specifier_height (f 0)) is)

pub specifier_form_high : (e : Specifier) → specifier_high e ≡ specifier_form_height (out-Specifier e).form
unfolding specifier_high specifier_form_height
specifier_form_high e = ap specifier_height (specifier_is e) ∙ specifier_form_line _ _ (fold_out-SpecifierForm CoreTree (ℕ → ExprTree) (ℕ → SpecifierTree) (ℕ → SuffixTree) DeclaratorTree EnumeratorTree ExprTree MemberTree FieldTree ParameterTree SpecifierTree SpecifiersTree SuffixTree TypeNameTree core_layer expr_form_layer specifier_form_layer suffix_form_layer declarator_layer enumerator_layer expr_layer member_layer field_layer parameter_layer specifier_layer specifiers_layer suffix_layer type_name_layer (out-Specifier e).form) (out-Specifier e).line

pub specifier_form_storage : (s : _) → specifier_form_height (specifier_form.Storage s) ≡ 0
unfolding specifier_form_height member_high enumerator_high
specifier_form_storage s = ap (λ g. specifier_height (g 0)) (is_storage s)

pub specifier_form_qualifier : (q : _) → specifier_form_height (specifier_form.Qualifier q) ≡ 0
unfolding specifier_form_height member_high enumerator_high
specifier_form_qualifier q = ap (λ g. specifier_height (g 0)) (is_qualifier q)

pub specifier_form_basic : (b : _) → specifier_form_height (specifier_form.Basic b) ≡ 0
unfolding specifier_form_height member_high enumerator_high
specifier_form_basic b = ap (λ g. specifier_height (g 0)) (is_basic b)

pub specifier_form_record : (k : _) (tag : _) (ms : _) → specifier_form_height (specifier_form.Record k tag ms) ≡ most member_high ms
unfolding specifier_form_height member_high enumerator_high
specifier_form_record k tag ms = ap (λ g. specifier_height (g 0)) (is_record k tag ms) ∙ members_most ms

pub specifier_form_record_tag : (k : _) (tag : _) → specifier_form_height (specifier_form.RecordTag k tag) ≡ 0
unfolding specifier_form_height member_high enumerator_high
specifier_form_record_tag k tag = ap (λ g. specifier_height (g 0)) (is_record_tag k tag)

pub specifier_form_enum : (tag : _) (es : _) (comma : _) → specifier_form_height (specifier_form.Enum tag es comma) ≡ most enumerator_high es
unfolding specifier_form_height member_high enumerator_high
specifier_form_enum tag es comma = ap (λ g. specifier_height (g 0)) (is_enum tag es comma) ∙ enumerators_most es

pub specifier_form_enum_tag : (tag : _) → specifier_form_height (specifier_form.EnumTag tag) ≡ 0
unfolding specifier_form_height member_high enumerator_high
specifier_form_enum_tag tag = ap (λ g. specifier_height (g 0)) (is_enum_tag tag)

pub specifier_form_named : (n : _) → specifier_form_height (specifier_form.Named n) ≡ 0
unfolding specifier_form_height member_high enumerator_high
specifier_form_named n = ap (λ g. specifier_height (g 0)) (is_named n)

pub ruleset specifier_forms = (specifier_form_high, specifier_form_storage, specifier_form_qualifier, specifier_form_basic, specifier_form_record, specifier_form_record_tag, specifier_form_enum, specifier_form_enum_tag, specifier_form_named)

pub member_parts : (v : Member) → member_high v ≡ max (specifiers_high (out-Member v).specifiers) (most field_high (out-Member v).declarators) + 1
unfolding member_high specifiers_high
member_parts v = ap member_height (member_is v) ∙ ap (λ n. max (specifiers_height (specifiers_of (out-Member v).specifiers)) n + 1) (fields_most (out-Member v).declarators)

pub field_parts : (v : MemberDeclarator) → field_high v ≡ max (if_any declarator_high (out-MemberDeclarator v).declarator) (if_any expr_high (out-MemberDeclarator v).width)
unfolding field_high declarator_high expr_high
field_parts v = ap field_height (field_is v) ∙ ap (λ n. max n (maybe_height (maybe_of (out-MemberDeclarator v).width))) (any_declarator (out-MemberDeclarator v).declarator) ∙ ap (max (if_any declarator_high (out-MemberDeclarator v).declarator)) (any_expr (out-MemberDeclarator v).width)

pub enumerator_value : (v : Enumerator) → enumerator_high v ≡ if_any expr_high (out-Enumerator v).value
unfolding enumerator_high expr_high
enumerator_value v = ap enumerator_height (enumerator_is v) ∙ any_expr (out-Enumerator v).value

-- ---- declarators

pub type_name_parts : (v : TypeName) → type_name_high v ≡ max (specifiers_high (out-TypeName v).specifiers) (if_any declarator_high (out-TypeName v).declarator)
unfolding type_name_high specifiers_high declarator_high
type_name_parts v = ap type_name_height (type_name_is v) ∙ ap (max (specifiers_height (specifiers_of (out-TypeName v).specifiers))) (any_declarator (out-TypeName v).declarator)

pub parameter_parts : (v : Parameter) → parameter_high v ≡ max (specifiers_high (out-Parameter v).specifiers) (if_any declarator_high (out-Parameter v).declarator)
unfolding parameter_high specifiers_high declarator_high
parameter_parts v = ap parameter_height (parameter_is v) ∙ ap (max (specifiers_height (specifiers_of (out-Parameter v).specifiers))) (any_declarator (out-Parameter v).declarator)

-- the height of a declarator's core
unfoldable pub core_high : DeclaratorCore → ℕ
core_high c = core_height (core_of c)

pub declarator_parts : (v : Declarator) → declarator_high v ≡ max (core_high (out-Declarator v).core) (most suffix_high (out-Declarator v).suffixes) + 1
unfolding declarator_high core_high
declarator_parts v = ap declarator_height (declarator_is v) ∙ ap (λ n. max (core_height (core_of (out-Declarator v).core)) n + 1) (suffixes_most (out-Declarator v).suffixes)

pub core_declared : (n : _) → core_high (declarator_core.Declared n) ≡ 0
unfolding core_high declarator_high
core_declared n = ap core_height (is_declared n)

pub core_parentheses : (d : _) → core_high (declarator_core.Parentheses d) ≡ declarator_high d.value
unfolding core_high declarator_high
core_parentheses d = ap core_height (is_parentheses d)

pub core_omitted : core_high declarator_core.Omitted ≡ 0
unfolding core_high declarator_high
core_omitted = ap core_height is_omitted

pub ruleset declarators = (declarator_parts, core_declared, core_parentheses, core_omitted)

-- ---- suffixes

-- the height of a form, whatever its line is
unfoldable pub suffix_form_height : SuffixForm → ℕ
suffix_form_height f = suffix_height (suffix_form_of f 0)

suffix_form_lines : (x : SuffixForm-F CoreTree (ℕ → ExprTree) (ℕ → SpecifierTree) (ℕ → SuffixTree) DeclaratorTree EnumeratorTree ExprTree MemberTree FieldTree ParameterTree SpecifierTree SpecifiersTree SuffixTree TypeNameTree) (line : ℕ) → suffix_height (suffix_form_layer x line) ≡ suffix_height (suffix_form_layer x 0)
suffix_form_lines (SuffixForm-F.Array o) line = refl
suffix_form_lines (SuffixForm-F.Parameters ps more) line = refl
suffix_form_lines (SuffixForm-F.Names ns) line = refl
suffix_form_lines SuffixForm-F.Empty line = refl

suffix_form_line : (g : ℕ → SuffixTree) (x : SuffixForm-F CoreTree (ℕ → ExprTree) (ℕ → SpecifierTree) (ℕ → SuffixTree) DeclaratorTree EnumeratorTree ExprTree MemberTree FieldTree ParameterTree SpecifierTree SpecifiersTree SuffixTree TypeNameTree) → g ≡ suffix_form_layer x → (line : ℕ) → suffix_height (g line) ≡ suffix_height (g 0)
suffix_form_line g x is line = ap (λ f. suffix_height (f line)) is ∙ suffix_form_lines x line ∙ sym (ap (λ f. suffix_height (f 0)) is)

pub suffix_form_high : (e : Suffix) → suffix_high e ≡ suffix_form_height (out-Suffix e).form
unfolding suffix_high suffix_form_height
suffix_form_high e = ap suffix_height (suffix_is e) ∙ suffix_form_line _ _ (fold_out-SuffixForm CoreTree (ℕ → ExprTree) (ℕ → SpecifierTree) (ℕ → SuffixTree) DeclaratorTree EnumeratorTree ExprTree MemberTree FieldTree ParameterTree SpecifierTree SpecifiersTree SuffixTree TypeNameTree core_layer expr_form_layer specifier_form_layer suffix_form_layer declarator_layer enumerator_layer expr_layer member_layer field_layer parameter_layer specifier_layer specifiers_layer suffix_layer type_name_layer (out-Suffix e).form) (out-Suffix e).line

pub suffix_form_array : (o : _) → suffix_form_height (suffix_form.Array o) ≡ if_any expr_high o
unfolding suffix_form_height expr_high parameter_high
suffix_form_array o = ap (λ g. suffix_height (g 0)) (is_array o) ∙ any_expr o

pub suffix_form_parameters : (ps : _) (more : _) → suffix_form_height (suffix_form.Parameters ps more) ≡ most parameter_high ps
unfolding suffix_form_height expr_high parameter_high
suffix_form_parameters ps more = ap (λ g. suffix_height (g 0)) (is_parameters ps more) ∙ parameters_most ps

pub suffix_form_names : (ns : _) → suffix_form_height (suffix_form.Names ns) ≡ 0
unfolding suffix_form_height expr_high parameter_high
suffix_form_names ns = ap (λ g. suffix_height (g 0)) (is_names ns)

pub suffix_form_empty : suffix_form_height suffix_form.Empty ≡ 0
unfolding suffix_form_height expr_high parameter_high
suffix_form_empty = ap (λ g. suffix_height (g 0)) is_empty

pub ruleset suffix_forms = (suffix_form_high, suffix_form_array, suffix_form_parameters, suffix_form_names, suffix_form_empty)
