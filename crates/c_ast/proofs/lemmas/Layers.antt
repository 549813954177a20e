-- The trees of values, one layer at a time, as lemmas for all that build or read such values.
use Rattle.std.proofs.Common.{◌≡◌, ℕ, Option, Some, None, map, refl, sym, ap, ◌∙◌}
use Rattle.c_ast.specs.declared.expr.DeclaratorCore.{DeclaratorCore-F, fold-roll-DeclaratorCore}
use Rattle.c_ast.specs.declared.expr.DeclaratorCore.TheVariants as declarator_core
use Rattle.c_ast.specs.declared.expr.ExprForm.{ExprForm-F, fold-roll-ExprForm}
use Rattle.c_ast.specs.declared.expr.ExprForm.TheVariants as expr_form
use Rattle.c_ast.specs.declared.expr.SpecifierForm.{SpecifierForm-F, fold-roll-SpecifierForm}
use Rattle.c_ast.specs.declared.expr.SpecifierForm.TheVariants as specifier_form
use Rattle.c_ast.specs.declared.expr.SuffixForm.{SuffixForm-F, fold-roll-SuffixForm}
use Rattle.c_ast.specs.declared.expr.SuffixForm.TheVariants as suffix_form
use Rattle.c_ast.specs.declared.expr.Declarator.{Declarator as DeclaratorValue, out-Declarator, fold_out-Declarator}
use Rattle.c_ast.specs.declared.expr.Enumerator.{Enumerator as EnumeratorValue, out-Enumerator, fold_out-Enumerator}
use Rattle.c_ast.specs.declared.expr.Expr.{Expr, out-Expr, fold_out-Expr}
use Rattle.c_ast.specs.declared.expr.Member.{Member, out-Member, fold_out-Member}
use Rattle.c_ast.specs.declared.expr.MemberDeclarator.{MemberDeclarator, out-MemberDeclarator, fold_out-MemberDeclarator}
use Rattle.c_ast.specs.declared.expr.Parameter.{Parameter as ParameterValue, out-Parameter, fold_out-Parameter}
use Rattle.c_ast.specs.declared.expr.Specifier.{Specifier, out-Specifier, fold_out-Specifier}
use Rattle.c_ast.specs.declared.expr.Specifiers.{Specifiers as SpecifiersValue, out-Specifiers, fold_out-Specifiers}
use Rattle.c_ast.specs.declared.expr.Suffix.{Suffix, out-Suffix, fold_out-Suffix}
use Rattle.c_ast.specs.declared.expr.TypeName.{TypeName, out-TypeName, fold_out-TypeName}
use Rattle.c_ast.specs.Trees.{ExprTree, Name, Integer, Character, Text, Enclosed, Index, Call, Postfix, Prefix, SizeofExpr, SizeofType, Cast, Binary, Conditional, Assign, Comma, SpecifierTree, Stored, Qualified, Basic, Record, RecordTag, Enum, EnumTag, NamedType, SuffixTree, ArraySuffix, Prototype, NameList, NoParameters, CoreTree, Named, Inner, Omitted, DeclaratorTree, Declarator, EnumeratorTree, Enumerator, MemberTree, Members, FieldTree, Field, ParameterTree, Parameter, SpecifiersTree, Specified, TypeNameTree, TypeNamed}
use Rattle.c_ast.specs.Trees as tree
use Rattle.c_ast.specs.Views.{expr_of, exprs_of, type_name_of, specifiers_of, specifier_of, specifier_list_of, member_of, members_of, field_of, fields_of, enumerator_of, enumerators_of, declarator_of, maybe_declarator_of, suffix_of, suffixes_of, parameter_of, parameters_of, core_of, expr_form_of, specifier_form_of, suffix_form_of, core_layer, expr_form_layer, specifier_form_layer, suffix_form_layer, declarator_layer, enumerator_layer, expr_layer, member_layer, field_layer, parameter_layer, specifier_layer, specifiers_layer, suffix_layer, type_name_layer}
use Rattle.c_ast.specs.UnitViews.{option_of, maybe_of}

-- ---- expressions

pub expr_is : (e : Expr) → expr_of e ≡ expr_form_of (out-Expr e).form (out-Expr e).line
expr_is e = fold_out-Expr CoreTree (ℕ → ExprTree) (ℕ → SpecifierTree) (ℕ → SuffixTree) DeclaratorTree EnumeratorTree ExprTree MemberTree FieldTree ParameterTree SpecifierTree SpecifiersTree SuffixTree TypeNameTree core_layer expr_form_layer specifier_form_layer suffix_form_layer declarator_layer enumerator_layer expr_layer member_layer field_layer parameter_layer specifier_layer specifiers_layer suffix_layer type_name_layer e

pub is_name : (n : _) → expr_form_of (expr_form.Name n) ≡ λ line. Name line n
is_name n = ap expr_form_of (sym (expr_form.rolls-Name n)) ∙ fold-roll-ExprForm CoreTree (ℕ → ExprTree) (ℕ → SpecifierTree) (ℕ → SuffixTree) DeclaratorTree EnumeratorTree ExprTree MemberTree FieldTree ParameterTree SpecifierTree SpecifiersTree SuffixTree TypeNameTree core_layer expr_form_layer specifier_form_layer suffix_form_layer declarator_layer enumerator_layer expr_layer member_layer field_layer parameter_layer specifier_layer specifiers_layer suffix_layer type_name_layer (ExprForm-F.Name n)

pub is_integer : (v : _) (k : _) → expr_form_of (expr_form.Integer v k) ≡ λ line. Integer line v k
is_integer v k = ap expr_form_of (sym (expr_form.rolls-Integer v k)) ∙ fold-roll-ExprForm CoreTree (ℕ → ExprTree) (ℕ → SpecifierTree) (ℕ → SuffixTree) DeclaratorTree EnumeratorTree ExprTree MemberTree FieldTree ParameterTree SpecifierTree SpecifiersTree SuffixTree TypeNameTree core_layer expr_form_layer specifier_form_layer suffix_form_layer declarator_layer enumerator_layer expr_layer member_layer field_layer parameter_layer specifier_layer specifiers_layer suffix_layer type_name_layer (ExprForm-F.Integer v k)

pub is_character : (v : _) → expr_form_of (expr_form.Character v) ≡ λ line. Character line v
is_character v = ap expr_form_of (sym (expr_form.rolls-Character v)) ∙ fold-roll-ExprForm CoreTree (ℕ → ExprTree) (ℕ → SpecifierTree) (ℕ → SuffixTree) DeclaratorTree EnumeratorTree ExprTree MemberTree FieldTree ParameterTree SpecifierTree SpecifiersTree SuffixTree TypeNameTree core_layer expr_form_layer specifier_form_layer suffix_form_layer declarator_layer enumerator_layer expr_layer member_layer field_layer parameter_layer specifier_layer specifiers_layer suffix_layer type_name_layer (ExprForm-F.Character v)

pub is_text : (bs : _) → expr_form_of (expr_form.Text bs) ≡ λ line. Text line bs
is_text bs = ap expr_form_of (sym (expr_form.rolls-Text bs)) ∙ fold-roll-ExprForm CoreTree (ℕ → ExprTree) (ℕ → SpecifierTree) (ℕ → SuffixTree) DeclaratorTree EnumeratorTree ExprTree MemberTree FieldTree ParameterTree SpecifierTree SpecifiersTree SuffixTree TypeNameTree core_layer expr_form_layer specifier_form_layer suffix_form_layer declarator_layer enumerator_layer expr_layer member_layer field_layer parameter_layer specifier_layer specifiers_layer suffix_layer type_name_layer (ExprForm-F.Text bs)

pub is_enclosed : (a : _) → expr_form_of (expr_form.Enclosed a) ≡ λ line. Enclosed line (expr_of a.value)
is_enclosed a = ap expr_form_of (sym (expr_form.rolls-Enclosed a)) ∙ fold-roll-ExprForm CoreTree (ℕ → ExprTree) (ℕ → SpecifierTree) (ℕ → SuffixTree) DeclaratorTree EnumeratorTree ExprTree MemberTree FieldTree ParameterTree SpecifierTree SpecifiersTree SuffixTree TypeNameTree core_layer expr_form_layer specifier_form_layer suffix_form_layer declarator_layer enumerator_layer expr_layer member_layer field_layer parameter_layer specifier_layer specifiers_layer suffix_layer type_name_layer (ExprForm-F.Enclosed a)

pub is_index : (a : _) (i : _) → expr_form_of (expr_form.Index a i) ≡ λ line. Index line (expr_of a.value) (expr_of i.value)
is_index a i = ap expr_form_of (sym (expr_form.rolls-Index a i)) ∙ fold-roll-ExprForm CoreTree (ℕ → ExprTree) (ℕ → SpecifierTree) (ℕ → SuffixTree) DeclaratorTree EnumeratorTree ExprTree MemberTree FieldTree ParameterTree SpecifierTree SpecifiersTree SuffixTree TypeNameTree core_layer expr_form_layer specifier_form_layer suffix_form_layer declarator_layer enumerator_layer expr_layer member_layer field_layer parameter_layer specifier_layer specifiers_layer suffix_layer type_name_layer (ExprForm-F.Index a i)

pub is_call : (f : _) (es : _) → expr_form_of (expr_form.Call f es) ≡ λ line. Call line (expr_of f.value) (exprs_of (map expr_of es.value))
is_call f es = ap expr_form_of (sym (expr_form.rolls-Call f es)) ∙ fold-roll-ExprForm CoreTree (ℕ → ExprTree) (ℕ → SpecifierTree) (ℕ → SuffixTree) DeclaratorTree EnumeratorTree ExprTree MemberTree FieldTree ParameterTree SpecifierTree SpecifiersTree SuffixTree TypeNameTree core_layer expr_form_layer specifier_form_layer suffix_form_layer declarator_layer enumerator_layer expr_layer member_layer field_layer parameter_layer specifier_layer specifiers_layer suffix_layer type_name_layer (ExprForm-F.Call f es)

pub is_selected : (op : _) (a : _) (n : _) → expr_form_of (expr_form.Member op a n) ≡ λ line. tree.Member line op (expr_of a.value) n.value
is_selected op a n = ap expr_form_of (sym (expr_form.rolls-Member op a n)) ∙ fold-roll-ExprForm CoreTree (ℕ → ExprTree) (ℕ → SpecifierTree) (ℕ → SuffixTree) DeclaratorTree EnumeratorTree ExprTree MemberTree FieldTree ParameterTree SpecifierTree SpecifiersTree SuffixTree TypeNameTree core_layer expr_form_layer specifier_form_layer suffix_form_layer declarator_layer enumerator_layer expr_layer member_layer field_layer parameter_layer specifier_layer specifiers_layer suffix_layer type_name_layer (ExprForm-F.Member op a n)

pub is_postfix : (op : _) (a : _) → expr_form_of (expr_form.Postfix op a) ≡ λ line. Postfix line op (expr_of a.value)
is_postfix op a = ap expr_form_of (sym (expr_form.rolls-Postfix op a)) ∙ fold-roll-ExprForm CoreTree (ℕ → ExprTree) (ℕ → SpecifierTree) (ℕ → SuffixTree) DeclaratorTree EnumeratorTree ExprTree MemberTree FieldTree ParameterTree SpecifierTree SpecifiersTree SuffixTree TypeNameTree core_layer expr_form_layer specifier_form_layer suffix_form_layer declarator_layer enumerator_layer expr_layer member_layer field_layer parameter_layer specifier_layer specifiers_layer suffix_layer type_name_layer (ExprForm-F.Postfix op a)

pub is_prefix : (op : _) (a : _) → expr_form_of (expr_form.Prefix op a) ≡ λ line. Prefix line op (expr_of a.value)
is_prefix op a = ap expr_form_of (sym (expr_form.rolls-Prefix op a)) ∙ fold-roll-ExprForm CoreTree (ℕ → ExprTree) (ℕ → SpecifierTree) (ℕ → SuffixTree) DeclaratorTree EnumeratorTree ExprTree MemberTree FieldTree ParameterTree SpecifierTree SpecifiersTree SuffixTree TypeNameTree core_layer expr_form_layer specifier_form_layer suffix_form_layer declarator_layer enumerator_layer expr_layer member_layer field_layer parameter_layer specifier_layer specifiers_layer suffix_layer type_name_layer (ExprForm-F.Prefix op a)

pub is_sizeof_expr : (a : _) → expr_form_of (expr_form.SizeofExpr a) ≡ λ line. SizeofExpr line (expr_of a.value)
is_sizeof_expr a = ap expr_form_of (sym (expr_form.rolls-SizeofExpr a)) ∙ fold-roll-ExprForm CoreTree (ℕ → ExprTree) (ℕ → SpecifierTree) (ℕ → SuffixTree) DeclaratorTree EnumeratorTree ExprTree MemberTree FieldTree ParameterTree SpecifierTree SpecifiersTree SuffixTree TypeNameTree core_layer expr_form_layer specifier_form_layer suffix_form_layer declarator_layer enumerator_layer expr_layer member_layer field_layer parameter_layer specifier_layer specifiers_layer suffix_layer type_name_layer (ExprForm-F.SizeofExpr a)

pub is_sizeof_type : (t : _) → expr_form_of (expr_form.SizeofType t) ≡ λ line. SizeofType line (type_name_of t.value)
is_sizeof_type t = ap expr_form_of (sym (expr_form.rolls-SizeofType t)) ∙ fold-roll-ExprForm CoreTree (ℕ → ExprTree) (ℕ → SpecifierTree) (ℕ → SuffixTree) DeclaratorTree EnumeratorTree ExprTree MemberTree FieldTree ParameterTree SpecifierTree SpecifiersTree SuffixTree TypeNameTree core_layer expr_form_layer specifier_form_layer suffix_form_layer declarator_layer enumerator_layer expr_layer member_layer field_layer parameter_layer specifier_layer specifiers_layer suffix_layer type_name_layer (ExprForm-F.SizeofType t)

pub is_cast : (t : _) (a : _) → expr_form_of (expr_form.Cast t a) ≡ λ line. Cast line (type_name_of t.value) (expr_of a.value)
is_cast t a = ap expr_form_of (sym (expr_form.rolls-Cast t a)) ∙ fold-roll-ExprForm CoreTree (ℕ → ExprTree) (ℕ → SpecifierTree) (ℕ → SuffixTree) DeclaratorTree EnumeratorTree ExprTree MemberTree FieldTree ParameterTree SpecifierTree SpecifiersTree SuffixTree TypeNameTree core_layer expr_form_layer specifier_form_layer suffix_form_layer declarator_layer enumerator_layer expr_layer member_layer field_layer parameter_layer specifier_layer specifiers_layer suffix_layer type_name_layer (ExprForm-F.Cast t a)

pub is_binary : (op : _) (a : _) (b : _) → expr_form_of (expr_form.Binary op a b) ≡ λ line. Binary line op (expr_of a.value) (expr_of b.value)
is_binary op a b = ap expr_form_of (sym (expr_form.rolls-Binary op a b)) ∙ fold-roll-ExprForm CoreTree (ℕ → ExprTree) (ℕ → SpecifierTree) (ℕ → SuffixTree) DeclaratorTree EnumeratorTree ExprTree MemberTree FieldTree ParameterTree SpecifierTree SpecifiersTree SuffixTree TypeNameTree core_layer expr_form_layer specifier_form_layer suffix_form_layer declarator_layer enumerator_layer expr_layer member_layer field_layer parameter_layer specifier_layer specifiers_layer suffix_layer type_name_layer (ExprForm-F.Binary op a b)

pub is_conditional : (a : _) (b : _) (c : _) → expr_form_of (expr_form.Conditional a b c) ≡ λ line. Conditional line (expr_of a.value) (expr_of b.value) (expr_of c.value)
is_conditional a b c = ap expr_form_of (sym (expr_form.rolls-Conditional a b c)) ∙ fold-roll-ExprForm CoreTree (ℕ → ExprTree) (ℕ → SpecifierTree) (ℕ → SuffixTree) DeclaratorTree EnumeratorTree ExprTree MemberTree FieldTree ParameterTree SpecifierTree SpecifiersTree SuffixTree TypeNameTree core_layer expr_form_layer specifier_form_layer suffix_form_layer declarator_layer enumerator_layer expr_layer member_layer field_layer parameter_layer specifier_layer specifiers_layer suffix_layer type_name_layer (ExprForm-F.Conditional a b c)

pub is_assign : (op : _) (a : _) (b : _) → expr_form_of (expr_form.Assign op a b) ≡ λ line. Assign line op (expr_of a.value) (expr_of b.value)
is_assign op a b = ap expr_form_of (sym (expr_form.rolls-Assign op a b)) ∙ fold-roll-ExprForm CoreTree (ℕ → ExprTree) (ℕ → SpecifierTree) (ℕ → SuffixTree) DeclaratorTree EnumeratorTree ExprTree MemberTree FieldTree ParameterTree SpecifierTree SpecifiersTree SuffixTree TypeNameTree core_layer expr_form_layer specifier_form_layer suffix_form_layer declarator_layer enumerator_layer expr_layer member_layer field_layer parameter_layer specifier_layer specifiers_layer suffix_layer type_name_layer (ExprForm-F.Assign op a b)

pub is_comma : (es : _) → expr_form_of (expr_form.Comma es) ≡ λ line. Comma line (exprs_of (map expr_of es))
is_comma es = ap expr_form_of (sym (expr_form.rolls-Comma es)) ∙ fold-roll-ExprForm CoreTree (ℕ → ExprTree) (ℕ → SpecifierTree) (ℕ → SuffixTree) DeclaratorTree EnumeratorTree ExprTree MemberTree FieldTree ParameterTree SpecifierTree SpecifiersTree SuffixTree TypeNameTree core_layer expr_form_layer specifier_form_layer suffix_form_layer declarator_layer enumerator_layer expr_layer member_layer field_layer parameter_layer specifier_layer specifiers_layer suffix_layer type_name_layer (ExprForm-F.Comma es)

-- ---- specifiers

pub specifiers_is : (s : SpecifiersValue) → specifiers_of s ≡ Specified (out-Specifiers s).line (specifier_list_of (map specifier_of (out-Specifiers s).list))
specifiers_is s = fold_out-Specifiers CoreTree (ℕ → ExprTree) (ℕ → SpecifierTree) (ℕ → SuffixTree) DeclaratorTree EnumeratorTree ExprTree MemberTree FieldTree ParameterTree SpecifierTree SpecifiersTree SuffixTree TypeNameTree core_layer expr_form_layer specifier_form_layer suffix_form_layer declarator_layer enumerator_layer expr_layer member_layer field_layer parameter_layer specifier_layer specifiers_layer suffix_layer type_name_layer s

pub specifier_is : (s : Specifier) → specifier_of s ≡ specifier_form_of (out-Specifier s).form (out-Specifier s).line
specifier_is s = fold_out-Specifier CoreTree (ℕ → ExprTree) (ℕ → SpecifierTree) (ℕ → SuffixTree) DeclaratorTree EnumeratorTree ExprTree MemberTree FieldTree ParameterTree SpecifierTree SpecifiersTree SuffixTree TypeNameTree core_layer expr_form_layer specifier_form_layer suffix_form_layer declarator_layer enumerator_layer expr_layer member_layer field_layer parameter_layer specifier_layer specifiers_layer suffix_layer type_name_layer s

pub is_storage : (s : _) → specifier_form_of (specifier_form.Storage s) ≡ λ line. Stored line s
is_storage s = ap specifier_form_of (sym (specifier_form.rolls-Storage s)) ∙ fold-roll-SpecifierForm CoreTree (ℕ → ExprTree) (ℕ → SpecifierTree) (ℕ → SuffixTree) DeclaratorTree EnumeratorTree ExprTree MemberTree FieldTree ParameterTree SpecifierTree SpecifiersTree SuffixTree TypeNameTree core_layer expr_form_layer specifier_form_layer suffix_form_layer declarator_layer enumerator_layer expr_layer member_layer field_layer parameter_layer specifier_layer specifiers_layer suffix_layer type_name_layer (SpecifierForm-F.Storage s)

pub is_qualifier : (q : _) → specifier_form_of (specifier_form.Qualifier q) ≡ λ line. Qualified line q
is_qualifier q = ap specifier_form_of (sym (specifier_form.rolls-Qualifier q)) ∙ fold-roll-SpecifierForm CoreTree (ℕ → ExprTree) (ℕ → SpecifierTree) (ℕ → SuffixTree) DeclaratorTree EnumeratorTree ExprTree MemberTree FieldTree ParameterTree SpecifierTree SpecifiersTree SuffixTree TypeNameTree core_layer expr_form_layer specifier_form_layer suffix_form_layer declarator_layer enumerator_layer expr_layer member_layer field_layer parameter_layer specifier_layer specifiers_layer suffix_layer type_name_layer (SpecifierForm-F.Qualifier q)

pub is_basic : (b : _) → specifier_form_of (specifier_form.Basic b) ≡ λ line. Basic line b
is_basic b = ap specifier_form_of (sym (specifier_form.rolls-Basic b)) ∙ fold-roll-SpecifierForm CoreTree (ℕ → ExprTree) (ℕ → SpecifierTree) (ℕ → SuffixTree) DeclaratorTree EnumeratorTree ExprTree MemberTree FieldTree ParameterTree SpecifierTree SpecifiersTree SuffixTree TypeNameTree core_layer expr_form_layer specifier_form_layer suffix_form_layer declarator_layer enumerator_layer expr_layer member_layer field_layer parameter_layer specifier_layer specifiers_layer suffix_layer type_name_layer (SpecifierForm-F.Basic b)

pub is_record : (k : _) (tag : _) (ms : _) → specifier_form_of (specifier_form.Record k tag ms) ≡ λ line. Record line k tag (members_of (map member_of ms))
is_record k tag ms = ap specifier_form_of (sym (specifier_form.rolls-Record k tag ms)) ∙ fold-roll-SpecifierForm CoreTree (ℕ → ExprTree) (ℕ → SpecifierTree) (ℕ → SuffixTree) DeclaratorTree EnumeratorTree ExprTree MemberTree FieldTree ParameterTree SpecifierTree SpecifiersTree SuffixTree TypeNameTree core_layer expr_form_layer specifier_form_layer suffix_form_layer declarator_layer enumerator_layer expr_layer member_layer field_layer parameter_layer specifier_layer specifiers_layer suffix_layer type_name_layer (SpecifierForm-F.Record k tag ms)

pub is_record_tag : (k : _) (n : _) → specifier_form_of (specifier_form.RecordTag k n) ≡ λ line. RecordTag line k n
is_record_tag k n = ap specifier_form_of (sym (specifier_form.rolls-RecordTag k n)) ∙ fold-roll-SpecifierForm CoreTree (ℕ → ExprTree) (ℕ → SpecifierTree) (ℕ → SuffixTree) DeclaratorTree EnumeratorTree ExprTree MemberTree FieldTree ParameterTree SpecifierTree SpecifiersTree SuffixTree TypeNameTree core_layer expr_form_layer specifier_form_layer suffix_form_layer declarator_layer enumerator_layer expr_layer member_layer field_layer parameter_layer specifier_layer specifiers_layer suffix_layer type_name_layer (SpecifierForm-F.RecordTag k n)

pub is_enum : (tag : _) (es : _) (comma : _) → specifier_form_of (specifier_form.Enum tag es comma) ≡ λ line. Enum line tag (enumerators_of (map enumerator_of es)) comma
is_enum tag es comma = ap specifier_form_of (sym (specifier_form.rolls-Enum tag es comma)) ∙ fold-roll-SpecifierForm CoreTree (ℕ → ExprTree) (ℕ → SpecifierTree) (ℕ → SuffixTree) DeclaratorTree EnumeratorTree ExprTree MemberTree FieldTree ParameterTree SpecifierTree SpecifiersTree SuffixTree TypeNameTree core_layer expr_form_layer specifier_form_layer suffix_form_layer declarator_layer enumerator_layer expr_layer member_layer field_layer parameter_layer specifier_layer specifiers_layer suffix_layer type_name_layer (SpecifierForm-F.Enum tag es comma)

pub is_enum_tag : (n : _) → specifier_form_of (specifier_form.EnumTag n) ≡ λ line. EnumTag line n
is_enum_tag n = ap specifier_form_of (sym (specifier_form.rolls-EnumTag n)) ∙ fold-roll-SpecifierForm CoreTree (ℕ → ExprTree) (ℕ → SpecifierTree) (ℕ → SuffixTree) DeclaratorTree EnumeratorTree ExprTree MemberTree FieldTree ParameterTree SpecifierTree SpecifiersTree SuffixTree TypeNameTree core_layer expr_form_layer specifier_form_layer suffix_form_layer declarator_layer enumerator_layer expr_layer member_layer field_layer parameter_layer specifier_layer specifiers_layer suffix_layer type_name_layer (SpecifierForm-F.EnumTag n)

pub is_named : (n : _) → specifier_form_of (specifier_form.Named n) ≡ λ line. NamedType line n
is_named n = ap specifier_form_of (sym (specifier_form.rolls-Named n)) ∙ fold-roll-SpecifierForm CoreTree (ℕ → ExprTree) (ℕ → SpecifierTree) (ℕ → SuffixTree) DeclaratorTree EnumeratorTree ExprTree MemberTree FieldTree ParameterTree SpecifierTree SpecifiersTree SuffixTree TypeNameTree core_layer expr_form_layer specifier_form_layer suffix_form_layer declarator_layer enumerator_layer expr_layer member_layer field_layer parameter_layer specifier_layer specifiers_layer suffix_layer type_name_layer (SpecifierForm-F.Named n)

pub member_is : (m : Member) → member_of m ≡ Members (out-Member m).line (specifiers_of (out-Member m).specifiers) (fields_of (map field_of (out-Member m).declarators))
member_is m = fold_out-Member CoreTree (ℕ → ExprTree) (ℕ → SpecifierTree) (ℕ → SuffixTree) DeclaratorTree EnumeratorTree ExprTree MemberTree FieldTree ParameterTree SpecifierTree SpecifiersTree SuffixTree TypeNameTree core_layer expr_form_layer specifier_form_layer suffix_form_layer declarator_layer enumerator_layer expr_layer member_layer field_layer parameter_layer specifier_layer specifiers_layer suffix_layer type_name_layer m

field_from : (v : MemberDeclarator) (d : Option DeclaratorValue) (e : Option Expr) → (out-MemberDeclarator v).declarator ≡ d → (out-MemberDeclarator v).width ≡ e → field_of v ≡ Field (out-MemberDeclarator v).line (maybe_declarator_of (option_of declarator_of d)) (maybe_of e)
field_from v None None p q = fold_out-MemberDeclarator CoreTree (ℕ → ExprTree) (ℕ → SpecifierTree) (ℕ → SuffixTree) DeclaratorTree EnumeratorTree ExprTree MemberTree FieldTree ParameterTree SpecifierTree SpecifiersTree SuffixTree TypeNameTree core_layer expr_form_layer specifier_form_layer suffix_form_layer declarator_layer enumerator_layer expr_layer member_layer field_layer parameter_layer specifier_layer specifiers_layer suffix_layer type_name_layer v ∙ (rw p (rw q refl))
field_from v None (Some e) p q = fold_out-MemberDeclarator CoreTree (ℕ → ExprTree) (ℕ → SpecifierTree) (ℕ → SuffixTree) DeclaratorTree EnumeratorTree ExprTree MemberTree FieldTree ParameterTree SpecifierTree SpecifiersTree SuffixTree TypeNameTree core_layer expr_form_layer specifier_form_layer suffix_form_layer declarator_layer enumerator_layer expr_layer member_layer field_layer parameter_layer specifier_layer specifiers_layer suffix_layer type_name_layer v ∙ (rw p (rw q refl))
field_from v (Some d) None p q = fold_out-MemberDeclarator CoreTree (ℕ → ExprTree) (ℕ → SpecifierTree) (ℕ → SuffixTree) DeclaratorTree EnumeratorTree ExprTree MemberTree FieldTree ParameterTree SpecifierTree SpecifiersTree SuffixTree TypeNameTree core_layer expr_form_layer specifier_form_layer suffix_form_layer declarator_layer enumerator_layer expr_layer member_layer field_layer parameter_layer specifier_layer specifiers_layer suffix_layer type_name_layer v ∙ (rw p (rw q refl))
field_from v (Some d) (Some e) p q = fold_out-MemberDeclarator CoreTree (ℕ → ExprTree) (ℕ → SpecifierTree) (ℕ → SuffixTree) DeclaratorTree EnumeratorTree ExprTree MemberTree FieldTree ParameterTree SpecifierTree SpecifiersTree SuffixTree TypeNameTree core_layer expr_form_layer specifier_form_layer suffix_form_layer declarator_layer enumerator_layer expr_layer member_layer field_layer parameter_layer specifier_layer specifiers_layer suffix_layer type_name_layer v ∙ (rw p (rw q refl))

pub field_is : (v : MemberDeclarator) → field_of v ≡ Field (out-MemberDeclarator v).line (maybe_declarator_of (option_of declarator_of (out-MemberDeclarator v).declarator)) (maybe_of (out-MemberDeclarator v).width)
field_is v = field_from v _ _ refl refl

enumerator_from : (v : EnumeratorValue) (o : Option Expr) → (out-Enumerator v).value ≡ o → enumerator_of v ≡ Enumerator (out-Enumerator v).line (out-Enumerator v).name (maybe_of o)
enumerator_from v None p = fold_out-Enumerator CoreTree (ℕ → ExprTree) (ℕ → SpecifierTree) (ℕ → SuffixTree) DeclaratorTree EnumeratorTree ExprTree MemberTree FieldTree ParameterTree SpecifierTree SpecifiersTree SuffixTree TypeNameTree core_layer expr_form_layer specifier_form_layer suffix_form_layer declarator_layer enumerator_layer expr_layer member_layer field_layer parameter_layer specifier_layer specifiers_layer suffix_layer type_name_layer v ∙ (rw p refl)
enumerator_from v (Some x) p = fold_out-Enumerator CoreTree (ℕ → ExprTree) (ℕ → SpecifierTree) (ℕ → SuffixTree) DeclaratorTree EnumeratorTree ExprTree MemberTree FieldTree ParameterTree SpecifierTree SpecifiersTree SuffixTree TypeNameTree core_layer expr_form_layer specifier_form_layer suffix_form_layer declarator_layer enumerator_layer expr_layer member_layer field_layer parameter_layer specifier_layer specifiers_layer suffix_layer type_name_layer v ∙ (rw p refl)

pub enumerator_is : (v : EnumeratorValue) → enumerator_of v ≡ Enumerator (out-Enumerator v).line (out-Enumerator v).name (maybe_of (out-Enumerator v).value)
enumerator_is v = enumerator_from v _ refl

-- ---- declarators

type_name_from : (v : TypeName) (o : Option DeclaratorValue) → (out-TypeName v).declarator ≡ o → type_name_of v ≡ TypeNamed (out-TypeName v).line (specifiers_of (out-TypeName v).specifiers) (maybe_declarator_of (option_of declarator_of o))
type_name_from v None p = fold_out-TypeName CoreTree (ℕ → ExprTree) (ℕ → SpecifierTree) (ℕ → SuffixTree) DeclaratorTree EnumeratorTree ExprTree MemberTree FieldTree ParameterTree SpecifierTree SpecifiersTree SuffixTree TypeNameTree core_layer expr_form_layer specifier_form_layer suffix_form_layer declarator_layer enumerator_layer expr_layer member_layer field_layer parameter_layer specifier_layer specifiers_layer suffix_layer type_name_layer v ∙ (rw p refl)
type_name_from v (Some x) p = fold_out-TypeName CoreTree (ℕ → ExprTree) (ℕ → SpecifierTree) (ℕ → SuffixTree) DeclaratorTree EnumeratorTree ExprTree MemberTree FieldTree ParameterTree SpecifierTree SpecifiersTree SuffixTree TypeNameTree core_layer expr_form_layer specifier_form_layer suffix_form_layer declarator_layer enumerator_layer expr_layer member_layer field_layer parameter_layer specifier_layer specifiers_layer suffix_layer type_name_layer v ∙ (rw p refl)

pub type_name_is : (v : TypeName) → type_name_of v ≡ TypeNamed (out-TypeName v).line (specifiers_of (out-TypeName v).specifiers) (maybe_declarator_of (option_of declarator_of (out-TypeName v).declarator))
type_name_is v = type_name_from v _ refl

parameter_from : (v : ParameterValue) (o : Option DeclaratorValue) → (out-Parameter v).declarator ≡ o → parameter_of v ≡ Parameter (out-Parameter v).line (specifiers_of (out-Parameter v).specifiers) (maybe_declarator_of (option_of declarator_of o))
parameter_from v None p = fold_out-Parameter CoreTree (ℕ → ExprTree) (ℕ → SpecifierTree) (ℕ → SuffixTree) DeclaratorTree EnumeratorTree ExprTree MemberTree FieldTree ParameterTree SpecifierTree SpecifiersTree SuffixTree TypeNameTree core_layer expr_form_layer specifier_form_layer suffix_form_layer declarator_layer enumerator_layer expr_layer member_layer field_layer parameter_layer specifier_layer specifiers_layer suffix_layer type_name_layer v ∙ (rw p refl)
parameter_from v (Some x) p = fold_out-Parameter CoreTree (ℕ → ExprTree) (ℕ → SpecifierTree) (ℕ → SuffixTree) DeclaratorTree EnumeratorTree ExprTree MemberTree FieldTree ParameterTree SpecifierTree SpecifiersTree SuffixTree TypeNameTree core_layer expr_form_layer specifier_form_layer suffix_form_layer declarator_layer enumerator_layer expr_layer member_layer field_layer parameter_layer specifier_layer specifiers_layer suffix_layer type_name_layer v ∙ (rw p refl)

pub parameter_is : (v : ParameterValue) → parameter_of v ≡ Parameter (out-Parameter v).line (specifiers_of (out-Parameter v).specifiers) (maybe_declarator_of (option_of declarator_of (out-Parameter v).declarator))
parameter_is v = parameter_from v _ refl

pub declarator_is : (d : DeclaratorValue) → declarator_of d ≡ Declarator (out-Declarator d).line (out-Declarator d).pointers (core_of (out-Declarator d).core) (suffixes_of (map suffix_of (out-Declarator d).suffixes))
declarator_is d = fold_out-Declarator CoreTree (ℕ → ExprTree) (ℕ → SpecifierTree) (ℕ → SuffixTree) DeclaratorTree EnumeratorTree ExprTree MemberTree FieldTree ParameterTree SpecifierTree SpecifiersTree SuffixTree TypeNameTree core_layer expr_form_layer specifier_form_layer suffix_form_layer declarator_layer enumerator_layer expr_layer member_layer field_layer parameter_layer specifier_layer specifiers_layer suffix_layer type_name_layer d

pub is_declared : (n : _) → core_of (declarator_core.Declared n) ≡ Named n
is_declared n = ap core_of (sym (declarator_core.rolls-Declared n)) ∙ fold-roll-DeclaratorCore CoreTree (ℕ → ExprTree) (ℕ → SpecifierTree) (ℕ → SuffixTree) DeclaratorTree EnumeratorTree ExprTree MemberTree FieldTree ParameterTree SpecifierTree SpecifiersTree SuffixTree TypeNameTree core_layer expr_form_layer specifier_form_layer suffix_form_layer declarator_layer enumerator_layer expr_layer member_layer field_layer parameter_layer specifier_layer specifiers_layer suffix_layer type_name_layer (DeclaratorCore-F.Declared n)

pub is_parentheses : (d : _) → core_of (declarator_core.Parentheses d) ≡ Inner (declarator_of d.value)
is_parentheses d = ap core_of (sym (declarator_core.rolls-Parentheses d)) ∙ fold-roll-DeclaratorCore CoreTree (ℕ → ExprTree) (ℕ → SpecifierTree) (ℕ → SuffixTree) DeclaratorTree EnumeratorTree ExprTree MemberTree FieldTree ParameterTree SpecifierTree SpecifiersTree SuffixTree TypeNameTree core_layer expr_form_layer specifier_form_layer suffix_form_layer declarator_layer enumerator_layer expr_layer member_layer field_layer parameter_layer specifier_layer specifiers_layer suffix_layer type_name_layer (DeclaratorCore-F.Parentheses d)

pub is_omitted : core_of declarator_core.Omitted ≡ Omitted
is_omitted = ap core_of (sym declarator_core.rolls-Omitted) ∙ fold-roll-DeclaratorCore CoreTree (ℕ → ExprTree) (ℕ → SpecifierTree) (ℕ → SuffixTree) DeclaratorTree EnumeratorTree ExprTree MemberTree FieldTree ParameterTree SpecifierTree SpecifiersTree SuffixTree TypeNameTree core_layer expr_form_layer specifier_form_layer suffix_form_layer declarator_layer enumerator_layer expr_layer member_layer field_layer parameter_layer specifier_layer specifiers_layer suffix_layer type_name_layer DeclaratorCore-F.Omitted

pub suffix_is : (s : Suffix) → suffix_of s ≡ suffix_form_of (out-Suffix s).form (out-Suffix s).line
suffix_is s = fold_out-Suffix CoreTree (ℕ → ExprTree) (ℕ → SpecifierTree) (ℕ → SuffixTree) DeclaratorTree EnumeratorTree ExprTree MemberTree FieldTree ParameterTree SpecifierTree SpecifiersTree SuffixTree TypeNameTree core_layer expr_form_layer specifier_form_layer suffix_form_layer declarator_layer enumerator_layer expr_layer member_layer field_layer parameter_layer specifier_layer specifiers_layer suffix_layer type_name_layer s

pub is_array : (o : _) → suffix_form_of (suffix_form.Array o) ≡ λ line. ArraySuffix line (maybe_of o)
is_array None = ap suffix_form_of (sym (suffix_form.rolls-Array None)) ∙ fold-roll-SuffixForm CoreTree (ℕ → ExprTree) (ℕ → SpecifierTree) (ℕ → SuffixTree) DeclaratorTree EnumeratorTree ExprTree MemberTree FieldTree ParameterTree SpecifierTree SpecifiersTree SuffixTree TypeNameTree core_layer expr_form_layer specifier_form_layer suffix_form_layer declarator_layer enumerator_layer expr_layer member_layer field_layer parameter_layer specifier_layer specifiers_layer suffix_layer type_name_layer (SuffixForm-F.Array None)
is_array (Some e) = ap suffix_form_of (sym (suffix_form.rolls-Array (Some e))) ∙ fold-roll-SuffixForm CoreTree (ℕ → ExprTree) (ℕ → SpecifierTree) (ℕ → SuffixTree) DeclaratorTree EnumeratorTree ExprTree MemberTree FieldTree ParameterTree SpecifierTree SpecifiersTree SuffixTree TypeNameTree core_layer expr_form_layer specifier_form_layer suffix_form_layer declarator_layer enumerator_layer expr_layer member_layer field_layer parameter_layer specifier_layer specifiers_layer suffix_layer type_name_layer (SuffixForm-F.Array (Some e))

pub is_parameters : (ps : _) (more : _) → suffix_form_of (suffix_form.Parameters ps more) ≡ λ line. Prototype line (parameters_of (map parameter_of ps)) more
is_parameters ps more = ap suffix_form_of (sym (suffix_form.rolls-Parameters ps more)) ∙ fold-roll-SuffixForm CoreTree (ℕ → ExprTree) (ℕ → SpecifierTree) (ℕ → SuffixTree) DeclaratorTree EnumeratorTree ExprTree MemberTree FieldTree ParameterTree SpecifierTree SpecifiersTree SuffixTree TypeNameTree core_layer expr_form_layer specifier_form_layer suffix_form_layer declarator_layer enumerator_layer expr_layer member_layer field_layer parameter_layer specifier_layer specifiers_layer suffix_layer type_name_layer (SuffixForm-F.Parameters ps more)

pub is_names : (ns : _) → suffix_form_of (suffix_form.Names ns) ≡ λ line. NameList line ns
is_names ns = ap suffix_form_of (sym (suffix_form.rolls-Names ns)) ∙ fold-roll-SuffixForm CoreTree (ℕ → ExprTree) (ℕ → SpecifierTree) (ℕ → SuffixTree) DeclaratorTree EnumeratorTree ExprTree MemberTree FieldTree ParameterTree SpecifierTree SpecifiersTree SuffixTree TypeNameTree core_layer expr_form_layer specifier_form_layer suffix_form_layer declarator_layer enumerator_layer expr_layer member_layer field_layer parameter_layer specifier_layer specifiers_layer suffix_layer type_name_layer (SuffixForm-F.Names ns)

pub is_empty : suffix_form_of suffix_form.Empty ≡ λ line. NoParameters line
is_empty = ap suffix_form_of (sym suffix_form.rolls-Empty) ∙ fold-roll-SuffixForm CoreTree (ℕ → ExprTree) (ℕ → SpecifierTree) (ℕ → SuffixTree) DeclaratorTree EnumeratorTree ExprTree MemberTree FieldTree ParameterTree SpecifierTree SpecifiersTree SuffixTree TypeNameTree core_layer expr_form_layer specifier_form_layer suffix_form_layer declarator_layer enumerator_layer expr_layer member_layer field_layer parameter_layer specifier_layer specifiers_layer suffix_layer type_name_layer SuffixForm-F.Empty
