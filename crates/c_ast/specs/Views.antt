-- The trees that values of the declared types are.
use Rattle.std.specs.Prelude.{ℕ, Option, Some, None, List, [], ◌∷◌}
use Rattle.c_ast.specs.declared.expr.DeclaratorCore.{DeclaratorCore as DeclaratorCoreValue, DeclaratorCore-F, fold-DeclaratorCore}
use Rattle.c_ast.specs.declared.expr.ExprForm.{ExprForm as ExprFormValue, ExprForm-F, fold-ExprForm}
use Rattle.c_ast.specs.declared.expr.SpecifierForm.{SpecifierForm as SpecifierFormValue, SpecifierForm-F, fold-SpecifierForm}
use Rattle.c_ast.specs.declared.expr.SuffixForm.{SuffixForm as SuffixFormValue, SuffixForm-F, fold-SuffixForm}
use Rattle.c_ast.specs.declared.expr.Declarator.{Declarator as DeclaratorValue, Declarator-F, fold-Declarator}
use Rattle.c_ast.specs.declared.expr.Enumerator.{Enumerator as EnumeratorValue, Enumerator-F, fold-Enumerator}
use Rattle.c_ast.specs.declared.expr.Expr.{Expr as ExprValue, Expr-F, fold-Expr}
use Rattle.c_ast.specs.declared.expr.Member.{Member as MemberValue, Member-F, fold-Member}
use Rattle.c_ast.specs.declared.expr.MemberDeclarator.{MemberDeclarator as MemberDeclaratorValue, MemberDeclarator-F, fold-MemberDeclarator}
use Rattle.c_ast.specs.declared.expr.Parameter.{Parameter as ParameterValue, Parameter-F, fold-Parameter}
use Rattle.c_ast.specs.declared.expr.Specifier.{Specifier as SpecifierValue, Specifier-F, fold-Specifier}
use Rattle.c_ast.specs.declared.expr.Specifiers.{Specifiers as SpecifiersValue, Specifiers-F, fold-Specifiers}
use Rattle.c_ast.specs.declared.expr.Suffix.{Suffix as SuffixValue, Suffix-F, fold-Suffix}
use Rattle.c_ast.specs.declared.expr.TypeName.{TypeName as TypeNameValue, TypeName-F, fold-TypeName}
use Rattle.c_ast.specs.Trees.{ExprTree, Name, Integer, Character, Text, Enclosed, Index, Call, Postfix, Prefix, SizeofExpr, SizeofType, Cast, Binary, Conditional, Assign, Comma, ExprTrees, NoExprs, Exprs, MaybeExpr, NoExpr, AnExpr, TypeNameTree, TypeNamed, SpecifiersTree, Specified, SpecifierTree, Stored, Qualified, Basic, Record, RecordTag, Enum, EnumTag, NamedType, SpecifierTrees, NoSpecifiers, Specifiers, MemberTree, Members, MemberTrees, NoMembers, MoreMembers, FieldTree, Field, FieldTrees, NoFields, Fields, EnumeratorTree, Enumerator, EnumeratorTrees, NoEnumerators, Enumerators, DeclaratorTree, Declarator, MaybeDeclarator, NoDeclarator, ADeclarator, CoreTree, Named, Inner, Omitted, SuffixTree, ArraySuffix, Prototype, NameList, NoParameters, SuffixTrees, NoSuffixes, Suffixes, ParameterTree, Parameter, ParameterTrees, NoParameter, Parameters}
use Rattle.c_ast.specs.Trees as tree

-- ---- lists and what may be left out

abbrev pub exprs_of : List ExprTree → ExprTrees
exprs_of [] = NoExprs
exprs_of (x ∷ xs) = Exprs x (exprs_of xs)

abbrev pub specifier_list_of : List SpecifierTree → SpecifierTrees
specifier_list_of [] = NoSpecifiers
specifier_list_of (x ∷ xs) = Specifiers x (specifier_list_of xs)

abbrev pub members_of : List MemberTree → MemberTrees
members_of [] = NoMembers
members_of (x ∷ xs) = MoreMembers x (members_of xs)

abbrev pub fields_of : List FieldTree → FieldTrees
fields_of [] = NoFields
fields_of (x ∷ xs) = Fields x (fields_of xs)

abbrev pub enumerators_of : List EnumeratorTree → EnumeratorTrees
enumerators_of [] = NoEnumerators
enumerators_of (x ∷ xs) = Enumerators x (enumerators_of xs)

abbrev pub suffixes_of : List SuffixTree → SuffixTrees
suffixes_of [] = NoSuffixes
suffixes_of (x ∷ xs) = Suffixes x (suffixes_of xs)

abbrev pub parameters_of : List ParameterTree → ParameterTrees
parameters_of [] = NoParameter
parameters_of (x ∷ xs) = Parameters x (parameters_of xs)

abbrev pub maybe_expr_of : Option ExprTree → MaybeExpr
maybe_expr_of None = NoExpr
maybe_expr_of (Some e) = AnExpr e

abbrev pub maybe_declarator_of : Option DeclaratorTree → MaybeDeclarator
maybe_declarator_of None = NoDeclarator
maybe_declarator_of (Some d) = ADeclarator d

-- ---- one layer each

abbrev pub core_layer : DeclaratorCore-F CoreTree (ℕ → ExprTree) (ℕ → SpecifierTree) (ℕ → SuffixTree) DeclaratorTree EnumeratorTree ExprTree MemberTree FieldTree ParameterTree SpecifierTree SpecifiersTree SuffixTree TypeNameTree → CoreTree
core_layer (DeclaratorCore-F.Declared n) = Named n
core_layer (DeclaratorCore-F.Parentheses d) = Inner d.value
core_layer DeclaratorCore-F.Omitted = Omitted

abbrev pub expr_form_layer : ExprForm-F CoreTree (ℕ → ExprTree) (ℕ → SpecifierTree) (ℕ → SuffixTree) DeclaratorTree EnumeratorTree ExprTree MemberTree FieldTree ParameterTree SpecifierTree SpecifiersTree SuffixTree TypeNameTree → ℕ → ExprTree
expr_form_layer (ExprForm-F.Name n) line = Name line n
expr_form_layer (ExprForm-F.Integer v k) line = Integer line v k
expr_form_layer (ExprForm-F.Character v) line = Character line v
expr_form_layer (ExprForm-F.Text bs) line = Text line bs
expr_form_layer (ExprForm-F.Enclosed e) line = Enclosed line e.value
expr_form_layer (ExprForm-F.Index a i) line = Index line a.value i.value
expr_form_layer (ExprForm-F.Call f es) line = Call line f.value (exprs_of es.value)
expr_form_layer (ExprForm-F.Member op a n) line = tree.Member line op a.value n.value
expr_form_layer (ExprForm-F.Postfix op a) line = Postfix line op a.value
expr_form_layer (ExprForm-F.Prefix op a) line = Prefix line op a.value
expr_form_layer (ExprForm-F.SizeofExpr a) line = SizeofExpr line a.value
expr_form_layer (ExprForm-F.SizeofType t) line = SizeofType line t.value
expr_form_layer (ExprForm-F.Cast t a) line = Cast line t.value a.value
expr_form_layer (ExprForm-F.Binary op a b) line = Binary line op a.value b.value
expr_form_layer (ExprForm-F.Conditional a b c) line = Conditional line a.value b.value c.value
expr_form_layer (ExprForm-F.Assign op a b) line = Assign line op a.value b.value
expr_form_layer (ExprForm-F.Comma es) line = Comma line (exprs_of es)

abbrev pub specifier_form_layer : SpecifierForm-F CoreTree (ℕ → ExprTree) (ℕ → SpecifierTree) (ℕ → SuffixTree) DeclaratorTree EnumeratorTree ExprTree MemberTree FieldTree ParameterTree SpecifierTree SpecifiersTree SuffixTree TypeNameTree → ℕ → SpecifierTree
specifier_form_layer (SpecifierForm-F.Storage s) line = Stored line s
specifier_form_layer (SpecifierForm-F.Qualifier q) line = Qualified line q
specifier_form_layer (SpecifierForm-F.Basic b) line = Basic line b
specifier_form_layer (SpecifierForm-F.Record k tag ms) line = Record line k tag (members_of ms)
specifier_form_layer (SpecifierForm-F.RecordTag k tag) line = RecordTag line k tag
specifier_form_layer (SpecifierForm-F.Enum tag es comma) line = Enum line tag (enumerators_of es) comma
specifier_form_layer (SpecifierForm-F.EnumTag tag) line = EnumTag line tag
specifier_form_layer (SpecifierForm-F.Named n) line = NamedType line n

abbrev pub suffix_form_layer : SuffixForm-F CoreTree (ℕ → ExprTree) (ℕ → SpecifierTree) (ℕ → SuffixTree) DeclaratorTree EnumeratorTree ExprTree MemberTree FieldTree ParameterTree SpecifierTree SpecifiersTree SuffixTree TypeNameTree → ℕ → SuffixTree
suffix_form_layer (SuffixForm-F.Array e) line = ArraySuffix line (maybe_expr_of e)
suffix_form_layer (SuffixForm-F.Parameters ps more) line = Prototype line (parameters_of ps) more
suffix_form_layer (SuffixForm-F.Names ns) line = NameList line ns
suffix_form_layer SuffixForm-F.Empty line = NoParameters line

abbrev pub declarator_layer : Declarator-F CoreTree (ℕ → ExprTree) (ℕ → SpecifierTree) (ℕ → SuffixTree) DeclaratorTree EnumeratorTree ExprTree MemberTree FieldTree ParameterTree SpecifierTree SpecifiersTree SuffixTree TypeNameTree → DeclaratorTree
declarator_layer d = Declarator d.line d.pointers d.core (suffixes_of d.suffixes)

abbrev pub enumerator_layer : Enumerator-F CoreTree (ℕ → ExprTree) (ℕ → SpecifierTree) (ℕ → SuffixTree) DeclaratorTree EnumeratorTree ExprTree MemberTree FieldTree ParameterTree SpecifierTree SpecifiersTree SuffixTree TypeNameTree → EnumeratorTree
enumerator_layer e = Enumerator e.line e.name (maybe_expr_of e.value)

abbrev pub expr_layer : Expr-F CoreTree (ℕ → ExprTree) (ℕ → SpecifierTree) (ℕ → SuffixTree) DeclaratorTree EnumeratorTree ExprTree MemberTree FieldTree ParameterTree SpecifierTree SpecifiersTree SuffixTree TypeNameTree → ExprTree
expr_layer e = e.form e.line

abbrev pub member_layer : Member-F CoreTree (ℕ → ExprTree) (ℕ → SpecifierTree) (ℕ → SuffixTree) DeclaratorTree EnumeratorTree ExprTree MemberTree FieldTree ParameterTree SpecifierTree SpecifiersTree SuffixTree TypeNameTree → MemberTree
member_layer m = Members m.line m.specifiers (fields_of m.declarators)

abbrev pub field_layer : MemberDeclarator-F CoreTree (ℕ → ExprTree) (ℕ → SpecifierTree) (ℕ → SuffixTree) DeclaratorTree EnumeratorTree ExprTree MemberTree FieldTree ParameterTree SpecifierTree SpecifiersTree SuffixTree TypeNameTree → FieldTree
field_layer d = Field d.line (maybe_declarator_of d.declarator) (maybe_expr_of d.width)

abbrev pub parameter_layer : Parameter-F CoreTree (ℕ → ExprTree) (ℕ → SpecifierTree) (ℕ → SuffixTree) DeclaratorTree EnumeratorTree ExprTree MemberTree FieldTree ParameterTree SpecifierTree SpecifiersTree SuffixTree TypeNameTree → ParameterTree
parameter_layer p = Parameter p.line p.specifiers (maybe_declarator_of p.declarator)

abbrev pub specifier_layer : Specifier-F CoreTree (ℕ → ExprTree) (ℕ → SpecifierTree) (ℕ → SuffixTree) DeclaratorTree EnumeratorTree ExprTree MemberTree FieldTree ParameterTree SpecifierTree SpecifiersTree SuffixTree TypeNameTree → SpecifierTree
specifier_layer s = s.form s.line

abbrev pub specifiers_layer : Specifiers-F CoreTree (ℕ → ExprTree) (ℕ → SpecifierTree) (ℕ → SuffixTree) DeclaratorTree EnumeratorTree ExprTree MemberTree FieldTree ParameterTree SpecifierTree SpecifiersTree SuffixTree TypeNameTree → SpecifiersTree
specifiers_layer s = Specified s.line (specifier_list_of s.list)

abbrev pub suffix_layer : Suffix-F CoreTree (ℕ → ExprTree) (ℕ → SpecifierTree) (ℕ → SuffixTree) DeclaratorTree EnumeratorTree ExprTree MemberTree FieldTree ParameterTree SpecifierTree SpecifiersTree SuffixTree TypeNameTree → SuffixTree
suffix_layer s = s.form s.line

abbrev pub type_name_layer : TypeName-F CoreTree (ℕ → ExprTree) (ℕ → SpecifierTree) (ℕ → SuffixTree) DeclaratorTree EnumeratorTree ExprTree MemberTree FieldTree ParameterTree SpecifierTree SpecifiersTree SuffixTree TypeNameTree → TypeNameTree
type_name_layer t = TypeNamed t.line t.specifiers (maybe_declarator_of t.declarator)

-- ---- the trees of values

abbrev pub core_of : DeclaratorCoreValue → CoreTree
core_of = fold-DeclaratorCore CoreTree (ℕ → ExprTree) (ℕ → SpecifierTree) (ℕ → SuffixTree) DeclaratorTree EnumeratorTree ExprTree MemberTree FieldTree ParameterTree SpecifierTree SpecifiersTree SuffixTree TypeNameTree core_layer expr_form_layer specifier_form_layer suffix_form_layer declarator_layer enumerator_layer expr_layer member_layer field_layer parameter_layer specifier_layer specifiers_layer suffix_layer type_name_layer

abbrev pub expr_form_of : ExprFormValue → ℕ → ExprTree
expr_form_of = fold-ExprForm CoreTree (ℕ → ExprTree) (ℕ → SpecifierTree) (ℕ → SuffixTree) DeclaratorTree EnumeratorTree ExprTree MemberTree FieldTree ParameterTree SpecifierTree SpecifiersTree SuffixTree TypeNameTree core_layer expr_form_layer specifier_form_layer suffix_form_layer declarator_layer enumerator_layer expr_layer member_layer field_layer parameter_layer specifier_layer specifiers_layer suffix_layer type_name_layer

abbrev pub specifier_form_of : SpecifierFormValue → ℕ → SpecifierTree
specifier_form_of = fold-SpecifierForm CoreTree (ℕ → ExprTree) (ℕ → SpecifierTree) (ℕ → SuffixTree) DeclaratorTree EnumeratorTree ExprTree MemberTree FieldTree ParameterTree SpecifierTree SpecifiersTree SuffixTree TypeNameTree core_layer expr_form_layer specifier_form_layer suffix_form_layer declarator_layer enumerator_layer expr_layer member_layer field_layer parameter_layer specifier_layer specifiers_layer suffix_layer type_name_layer

abbrev pub suffix_form_of : SuffixFormValue → ℕ → SuffixTree
suffix_form_of = fold-SuffixForm CoreTree (ℕ → ExprTree) (ℕ → SpecifierTree) (ℕ → SuffixTree) DeclaratorTree EnumeratorTree ExprTree MemberTree FieldTree ParameterTree SpecifierTree SpecifiersTree SuffixTree TypeNameTree core_layer expr_form_layer specifier_form_layer suffix_form_layer declarator_layer enumerator_layer expr_layer member_layer field_layer parameter_layer specifier_layer specifiers_layer suffix_layer type_name_layer

abbrev pub declarator_of : DeclaratorValue → DeclaratorTree
declarator_of = fold-Declarator CoreTree (ℕ → ExprTree) (ℕ → SpecifierTree) (ℕ → SuffixTree) DeclaratorTree EnumeratorTree ExprTree MemberTree FieldTree ParameterTree SpecifierTree SpecifiersTree SuffixTree TypeNameTree core_layer expr_form_layer specifier_form_layer suffix_form_layer declarator_layer enumerator_layer expr_layer member_layer field_layer parameter_layer specifier_layer specifiers_layer suffix_layer type_name_layer

abbrev pub enumerator_of : EnumeratorValue → EnumeratorTree
enumerator_of = fold-Enumerator CoreTree (ℕ → ExprTree) (ℕ → SpecifierTree) (ℕ → SuffixTree) DeclaratorTree EnumeratorTree ExprTree MemberTree FieldTree ParameterTree SpecifierTree SpecifiersTree SuffixTree TypeNameTree core_layer expr_form_layer specifier_form_layer suffix_form_layer declarator_layer enumerator_layer expr_layer member_layer field_layer parameter_layer specifier_layer specifiers_layer suffix_layer type_name_layer

abbrev pub expr_of : ExprValue → ExprTree
expr_of = fold-Expr CoreTree (ℕ → ExprTree) (ℕ → SpecifierTree) (ℕ → SuffixTree) DeclaratorTree EnumeratorTree ExprTree MemberTree FieldTree ParameterTree SpecifierTree SpecifiersTree SuffixTree TypeNameTree core_layer expr_form_layer specifier_form_layer suffix_form_layer declarator_layer enumerator_layer expr_layer member_layer field_layer parameter_layer specifier_layer specifiers_layer suffix_layer type_name_layer

abbrev pub member_of : MemberValue → MemberTree
member_of = fold-Member CoreTree (ℕ → ExprTree) (ℕ → SpecifierTree) (ℕ → SuffixTree) DeclaratorTree EnumeratorTree ExprTree MemberTree FieldTree ParameterTree SpecifierTree SpecifiersTree SuffixTree TypeNameTree core_layer expr_form_layer specifier_form_layer suffix_form_layer declarator_layer enumerator_layer expr_layer member_layer field_layer parameter_layer specifier_layer specifiers_layer suffix_layer type_name_layer

abbrev pub field_of : MemberDeclaratorValue → FieldTree
field_of = fold-MemberDeclarator CoreTree (ℕ → ExprTree) (ℕ → SpecifierTree) (ℕ → SuffixTree) DeclaratorTree EnumeratorTree ExprTree MemberTree FieldTree ParameterTree SpecifierTree SpecifiersTree SuffixTree TypeNameTree core_layer expr_form_layer specifier_form_layer suffix_form_layer declarator_layer enumerator_layer expr_layer member_layer field_layer parameter_layer specifier_layer specifiers_layer suffix_layer type_name_layer

abbrev pub parameter_of : ParameterValue → ParameterTree
parameter_of = fold-Parameter CoreTree (ℕ → ExprTree) (ℕ → SpecifierTree) (ℕ → SuffixTree) DeclaratorTree EnumeratorTree ExprTree MemberTree FieldTree ParameterTree SpecifierTree SpecifiersTree SuffixTree TypeNameTree core_layer expr_form_layer specifier_form_layer suffix_form_layer declarator_layer enumerator_layer expr_layer member_layer field_layer parameter_layer specifier_layer specifiers_layer suffix_layer type_name_layer

abbrev pub specifier_of : SpecifierValue → SpecifierTree
specifier_of = fold-Specifier CoreTree (ℕ → ExprTree) (ℕ → SpecifierTree) (ℕ → SuffixTree) DeclaratorTree EnumeratorTree ExprTree MemberTree FieldTree ParameterTree SpecifierTree SpecifiersTree SuffixTree TypeNameTree core_layer expr_form_layer specifier_form_layer suffix_form_layer declarator_layer enumerator_layer expr_layer member_layer field_layer parameter_layer specifier_layer specifiers_layer suffix_layer type_name_layer

abbrev pub specifiers_of : SpecifiersValue → SpecifiersTree
specifiers_of = fold-Specifiers CoreTree (ℕ → ExprTree) (ℕ → SpecifierTree) (ℕ → SuffixTree) DeclaratorTree EnumeratorTree ExprTree MemberTree FieldTree ParameterTree SpecifierTree SpecifiersTree SuffixTree TypeNameTree core_layer expr_form_layer specifier_form_layer suffix_form_layer declarator_layer enumerator_layer expr_layer member_layer field_layer parameter_layer specifier_layer specifiers_layer suffix_layer type_name_layer

abbrev pub suffix_of : SuffixValue → SuffixTree
suffix_of = fold-Suffix CoreTree (ℕ → ExprTree) (ℕ → SpecifierTree) (ℕ → SuffixTree) DeclaratorTree EnumeratorTree ExprTree MemberTree FieldTree ParameterTree SpecifierTree SpecifiersTree SuffixTree TypeNameTree core_layer expr_form_layer specifier_form_layer suffix_form_layer declarator_layer enumerator_layer expr_layer member_layer field_layer parameter_layer specifier_layer specifiers_layer suffix_layer type_name_layer

abbrev pub type_name_of : TypeNameValue → TypeNameTree
type_name_of = fold-TypeName CoreTree (ℕ → ExprTree) (ℕ → SpecifierTree) (ℕ → SuffixTree) DeclaratorTree EnumeratorTree ExprTree MemberTree FieldTree ParameterTree SpecifierTree SpecifiersTree SuffixTree TypeNameTree core_layer expr_form_layer specifier_form_layer suffix_form_layer declarator_layer enumerator_layer expr_layer member_layer field_layer parameter_layer specifier_layer specifiers_layer suffix_layer type_name_layer
