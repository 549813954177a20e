-- The trees of specifiers, members, declarators and parameters, one layer at a time, as contracts speak of them.
use Rattle.std.proofs.Common.{◌≡◌, ℕ, Option, Some, None, map, refl, ap, ◌∙◌}
use Rattle.c_ast.specs.declared.expr.Declarator.{Declarator as DeclaratorValue, out-Declarator}
use Rattle.c_ast.specs.declared.expr.Enumerator.{Enumerator as EnumeratorValue, out-Enumerator}
use Rattle.c_ast.specs.declared.expr.Expr.{Expr}
use Rattle.c_ast.specs.declared.expr.Member.{Member as MemberValue, out-Member}
use Rattle.c_ast.specs.declared.expr.MemberDeclarator.{MemberDeclarator, out-MemberDeclarator}
use Rattle.c_ast.specs.declared.expr.Parameter.{Parameter as ParameterValue, out-Parameter}
use Rattle.c_ast.specs.declared.expr.Specifier.{Specifier as SpecifierValue, out-Specifier}
use Rattle.c_ast.specs.declared.expr.Specifiers.{Specifiers as SpecifiersValue, out-Specifiers}
use Rattle.c_ast.specs.declared.expr.Suffix.{Suffix as SuffixValue, out-Suffix}
use Rattle.c_ast.specs.declared.expr.TypeName.{TypeName as TypeNameValue, out-TypeName}
use Rattle.c_ast.specs.declared.expr.DeclaratorCore.TheVariants as declarator_core
use Rattle.c_ast.specs.declared.expr.SpecifierForm.TheVariants as specifier_form
use Rattle.c_ast.specs.declared.expr.SuffixForm.TheVariants as suffix_form
use Rattle.c_ast.specs.Trees.{SpecifierTree, SuffixTree, TypeNamed, Specified, Stored, Qualified, Basic, Record, RecordTag, Enum, EnumTag, NamedType, Members, Field, Enumerator, Declarator, Named, Inner, Omitted, ArraySuffix, Prototype, NameList, NoParameters, Parameter}
use Rattle.c_ast.specs.Views.{enumerators_of, fields_of, maybe_declarator_of, members_of, parameters_of, specifier_list_of, suffixes_of, declarator_of}
use Rattle.c_ast.specs.UnitViews.{option_of, maybe_of}
use Rattle.c_ast.proofs.lemmas.Layers.{declarator_is, enumerator_is, field_is, member_is, parameter_is, specifier_is, specifiers_is, suffix_is, type_name_is, is_array, is_basic, is_declared, is_empty, is_enum, is_enum_tag, is_named, is_names, is_omitted, is_parameters, is_parentheses, is_qualifier, is_record, is_record_tag, is_storage}
use Rattle.c_ast.specs.Seen.{core_seen, declarator_seen, enumerator_seen, expr_seen, field_seen, maybe_declarator_seen, maybe_expr_seen, member_seen, parameter_seen, specifier_form_seen, specifier_seen, specifiers_seen, suffix_form_seen, suffix_seen, type_name_seen}

-- ---- what may be left out

any_expr : (o : Option Expr) → maybe_of o ≡ maybe_expr_seen o
unfolding expr_seen
any_expr None = refl
any_expr (Some e) = refl

any_declarator : (o : Option DeclaratorValue) → maybe_declarator_of (option_of declarator_of o) ≡ maybe_declarator_seen o
unfolding declarator_seen
any_declarator None = refl
any_declarator (Some d) = refl

-- ---- specifiers

pub specifier_parts : (v : SpecifierValue) → specifier_seen v ≡ specifier_form_seen (out-Specifier v).form (out-Specifier v).line
unfolding specifier_seen specifier_form_seen
specifier_parts v = specifier_is v

pub form_storage : (s : _) (line : ℕ) → specifier_form_seen (specifier_form.Storage s) line ≡ Stored line s
unfolding specifier_form_seen member_seen enumerator_seen
form_storage s line = ap (λ (g : ℕ → SpecifierTree). g line) (is_storage s)

pub form_qualifier : (q : _) (line : ℕ) → specifier_form_seen (specifier_form.Qualifier q) line ≡ Qualified line q
unfolding specifier_form_seen member_seen enumerator_seen
form_qualifier q line = ap (λ (g : ℕ → SpecifierTree). g line) (is_qualifier q)

pub form_basic : (b : _) (line : ℕ) → specifier_form_seen (specifier_form.Basic b) line ≡ Basic line b
unfolding specifier_form_seen member_seen enumerator_seen
form_basic b line = ap (λ (g : ℕ → SpecifierTree). g line) (is_basic b)

pub form_record : (k : _) (tag : _) (ms : _) (line : ℕ) → specifier_form_seen (specifier_form.Record k tag ms) line ≡ Record line k tag (members_of (map member_seen ms))
unfolding specifier_form_seen member_seen enumerator_seen
form_record k tag ms line = ap (λ (g : ℕ → SpecifierTree). g line) (is_record k tag ms)

pub form_record_tag : (k : _) (n : _) (line : ℕ) → specifier_form_seen (specifier_form.RecordTag k n) line ≡ RecordTag line k n
unfolding specifier_form_seen member_seen enumerator_seen
form_record_tag k n line = ap (λ (g : ℕ → SpecifierTree). g line) (is_record_tag k n)

pub form_enum : (tag : _) (es : _) (comma : _) (line : ℕ) → specifier_form_seen (specifier_form.Enum tag es comma) line ≡ Enum line tag (enumerators_of (map enumerator_seen es)) comma
unfolding specifier_form_seen member_seen enumerator_seen
form_enum tag es comma line = ap (λ (g : ℕ → SpecifierTree). g line) (is_enum tag es comma)

pub form_enum_tag : (n : _) (line : ℕ) → specifier_form_seen (specifier_form.EnumTag n) line ≡ EnumTag line n
unfolding specifier_form_seen member_seen enumerator_seen
form_enum_tag n line = ap (λ (g : ℕ → SpecifierTree). g line) (is_enum_tag n)

pub form_named : (n : _) (line : ℕ) → specifier_form_seen (specifier_form.Named n) line ≡ NamedType line n
unfolding specifier_form_seen member_seen enumerator_seen
form_named n line = ap (λ (g : ℕ → SpecifierTree). g line) (is_named n)

pub ruleset specifier_forms = (specifier_parts, form_storage, form_qualifier, form_basic, form_record, form_record_tag, form_enum, form_enum_tag, form_named)

pub specifiers_parts : (v : SpecifiersValue) → specifiers_seen v ≡ Specified (out-Specifiers v).line (specifier_list_of (map specifier_seen (out-Specifiers v).list))
unfolding specifiers_seen specifier_seen
specifiers_parts v = specifiers_is v

pub member_parts : (v : MemberValue) → member_seen v ≡ Members (out-Member v).line (specifiers_seen (out-Member v).specifiers) (fields_of (map field_seen (out-Member v).declarators))
unfolding member_seen specifiers_seen field_seen
member_parts v = member_is v

pub field_parts : (v : MemberDeclarator) → field_seen v ≡ Field (out-MemberDeclarator v).line (maybe_declarator_seen (out-MemberDeclarator v).declarator) (maybe_expr_seen (out-MemberDeclarator v).width)
unfolding field_seen
field_parts v = field_is v ∙ ap (λ d. Field (out-MemberDeclarator v).line d (maybe_of (out-MemberDeclarator v).width)) (any_declarator (out-MemberDeclarator v).declarator) ∙ ap (Field (out-MemberDeclarator v).line (maybe_declarator_seen (out-MemberDeclarator v).declarator)) (any_expr (out-MemberDeclarator v).width)

pub enumerator_parts : (v : EnumeratorValue) → enumerator_seen v ≡ Enumerator (out-Enumerator v).line (out-Enumerator v).name (maybe_expr_seen (out-Enumerator v).value)
unfolding enumerator_seen
enumerator_parts v = enumerator_is v ∙ ap (Enumerator (out-Enumerator v).line (out-Enumerator v).name) (any_expr (out-Enumerator v).value)

pub type_name_parts : (v : TypeNameValue) → type_name_seen v ≡ TypeNamed (out-TypeName v).line (specifiers_seen (out-TypeName v).specifiers) (maybe_declarator_seen (out-TypeName v).declarator)
unfolding type_name_seen specifiers_seen
type_name_parts v = type_name_is v ∙ ap (TypeNamed (out-TypeName v).line (specifiers_seen (out-TypeName v).specifiers)) (any_declarator (out-TypeName v).declarator)

pub parameter_parts : (v : ParameterValue) → parameter_seen v ≡ Parameter (out-Parameter v).line (specifiers_seen (out-Parameter v).specifiers) (maybe_declarator_seen (out-Parameter v).declarator)
unfolding parameter_seen specifiers_seen
parameter_parts v = parameter_is v ∙ ap (Parameter (out-Parameter v).line (specifiers_seen (out-Parameter v).specifiers)) (any_declarator (out-Parameter v).declarator)

-- ---- declarators

pub declarator_parts : (v : DeclaratorValue) → declarator_seen v ≡ Declarator (out-Declarator v).line (out-Declarator v).pointers (core_seen (out-Declarator v).core) (suffixes_of (map suffix_seen (out-Declarator v).suffixes))
unfolding declarator_seen core_seen suffix_seen
declarator_parts v = declarator_is v

pub core_declared : (n : _) → core_seen (declarator_core.Declared n) ≡ Named n
unfolding core_seen
core_declared n = is_declared n

pub core_parentheses : (d : _) → core_seen (declarator_core.Parentheses d) ≡ Inner (declarator_seen d.value)
unfolding core_seen declarator_seen
core_parentheses d = is_parentheses d

pub core_omitted : core_seen declarator_core.Omitted ≡ Omitted
unfolding core_seen
core_omitted = is_omitted

pub ruleset core_forms = (core_declared, core_parentheses, core_omitted)

pub suffix_parts : (v : SuffixValue) → suffix_seen v ≡ suffix_form_seen (out-Suffix v).form (out-Suffix v).line
unfolding suffix_seen suffix_form_seen
suffix_parts v = suffix_is v

pub form_array : (o : _) (line : ℕ) → suffix_form_seen (suffix_form.Array o) line ≡ ArraySuffix line (maybe_expr_seen o)
unfolding suffix_form_seen
form_array o line = ap (λ (g : ℕ → SuffixTree). g line) (is_array o) ∙ ap (ArraySuffix line) (any_expr o)

pub form_parameters : (ps : _) (more : _) (line : ℕ) → suffix_form_seen (suffix_form.Parameters ps more) line ≡ Prototype line (parameters_of (map parameter_seen ps)) more
unfolding suffix_form_seen parameter_seen
form_parameters ps more line = ap (λ (g : ℕ → SuffixTree). g line) (is_parameters ps more)

pub form_names : (ns : _) (line : ℕ) → suffix_form_seen (suffix_form.Names ns) line ≡ NameList line ns
unfolding suffix_form_seen
form_names ns line = ap (λ (g : ℕ → SuffixTree). g line) (is_names ns)

pub form_empty : (line : ℕ) → suffix_form_seen suffix_form.Empty line ≡ NoParameters line
unfolding suffix_form_seen
form_empty line = ap (λ (g : ℕ → SuffixTree). g line) is_empty

pub ruleset suffix_forms = (suffix_parts, form_array, form_parameters, form_names, form_empty)

pub ruleset type_forms = (specifiers_parts, member_parts, field_parts, enumerator_parts, type_name_parts, parameter_parts, declarator_parts)
