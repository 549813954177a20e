-- The marks of expressions, specifiers and declarators, and others behind them.
-- Source: C89 3.3 to 3.5.
use Rattle.std.specs.Prelude.{ℕ, Bool, true, false, ◌&&◌, ◌||◌, Option, Some, None, List, [], ◌∷◌}
use Rattle.c_ast.specs.declared.specifier.Storage.{Storage}
use Rattle.c_ast.specs.declared.specifier.Storage.TheVariants as storage
use Rattle.c_ast.specs.declared.specifier.Qualifier.{Qualifier}
use Rattle.c_ast.specs.Lexemes.{Name, Keyword, Integer, Character, Text, Sign}
use Rattle.c_ast.specs.Operators.{binary_sign, assign_sign, prefix_sign, postfix_sign, member_sign, storage_word, qualifier_word, basic_word, record_word}
use Rattle.c_ast.specs.Marks.{Mark, Tok, Plain, Typed, Here, Ask, Put, Open, Close, Keep, IsSpecifier, IsSized, IsDeclarator, IsCore, IsSuffix, IsQualifier, IsText, IsSign}
use Rattle.c_ast.specs.Trees.{ExprTree, Enclosed, Index, Call, Member, Postfix, Prefix, SizeofExpr, SizeofType, Cast, Binary, Conditional, Assign, Comma, ExprTrees, NoExprs, Exprs, MaybeExpr, NoExpr, AnExpr, TypeNameTree, TypeNamed, SpecifiersTree, Specified, SpecifierTree, Stored, Qualified, Basic, Record, RecordTag, Enum, EnumTag, NamedType, SpecifierTrees, NoSpecifiers, Specifiers, MemberTree, Members, MemberTrees, NoMembers, MoreMembers, FieldTree, Field, FieldTrees, NoFields, Fields, EnumeratorTree, Enumerator, EnumeratorTrees, NoEnumerators, Enumerators, DeclaratorTree, Declarator, MaybeDeclarator, NoDeclarator, ADeclarator, CoreTree, Named, Inner, Omitted, SuffixTree, ArraySuffix, Prototype, NameList, NoParameters, SuffixTrees, NoSuffixes, Suffixes, ParameterTree, Parameter, ParameterTrees, NoParameter, Parameters}
use Rattle.c_ast.specs.Trees as tree
use Rattle.c_ast.specs.Signs.{open_bracket, close_bracket, open_parenthesis, close_parenthesis, open_brace, close_brace, star_sign, question_mark, colon_sign, semicolon, ellipsis, equals_sign, comma_sign}
use Rattle.c_ast.specs.Keywords.{enum_word, sizeof_word}

abbrev pub sign : ℕ → List Mark → List Mark
sign k r = Tok (Sign k) ∷ r

-- ---- what stands alone

abbrev pub texts_then : List (List ℕ) → List Mark → List Mark
texts_then [] r = Ask IsText false ∷ r
texts_then (b ∷ bs) r = Tok (Text b) ∷ texts_then bs r

abbrev pub qualifiers_then : List Qualifier → List Mark → List Mark
qualifiers_then [] r = Ask IsQualifier false ∷ r
qualifiers_then (q ∷ qs) r = Tok (Keyword (qualifier_word q)) ∷ qualifiers_then qs r

abbrev pub pointers_then : List (List Qualifier) → List Mark → List Mark
pointers_then [] r = Ask (IsSign star_sign) false ∷ r
pointers_then (qs ∷ ps) r = Tok (Sign star_sign) ∷ qualifiers_then qs (pointers_then ps r)

-- a list of names, of which the first is no typedef name; each declares a parameter
abbrev pub more_names_then : List (List ℕ) → List Mark → List Mark
more_names_then [] r = sign close_parenthesis r
more_names_then (n ∷ ns) r = Tok (Sign comma_sign) ∷ Tok (Name n) ∷ Put n false ∷ more_names_then ns r

abbrev pub names_then : List (List ℕ) → List Mark → List Mark
names_then [] r = sign close_parenthesis r
names_then (n ∷ ns) r = Plain n ∷ Put n false ∷ more_names_then ns r

abbrev pub tag_then : Option (List ℕ) → List Mark → List Mark
tag_then None r = r
tag_then (Some n) r = Tok (Name n) ∷ r

-- behind the last of a list in braces
abbrev pub end_then : Bool → List Mark → List Mark
end_then true r = Tok (Sign comma_sign) ∷ Tok (Sign close_brace) ∷ r
end_then false r = Tok (Sign close_brace) ∷ r

-- behind the last parameter
abbrev pub dots_then : Bool → List Mark → List Mark
dots_then true r = Tok (Sign comma_sign) ∷ Tok (Sign ellipsis) ∷ Tok (Sign close_parenthesis) ∷ r
dots_then false r = Tok (Sign close_parenthesis) ∷ r

-- ---- what trees say of themselves

-- a type specifier
abbrev pub says_type : SpecifierTree → Bool
says_type (Stored l s) = false
says_type (Qualified l q) = false
says_type (Basic l b) = true
says_type (Record l k t ms) = true
says_type (RecordTag l k t) = true
says_type (Enum l t es c) = true
says_type (EnumTag l t) = true
says_type (NamedType l n) = true

abbrev pub is_typedef_storage : Storage → Bool
is_typedef_storage storage.Typedef = true
is_typedef_storage storage.Extern = false
is_typedef_storage storage.Static = false
is_typedef_storage storage.Auto = false
is_typedef_storage storage.Register = false

abbrev pub makes_typedef : SpecifierTree → Bool
makes_typedef (Stored l s) = is_typedef_storage s
makes_typedef (Qualified l q) = false
makes_typedef (Basic l b) = false
makes_typedef (Record l k t ms) = false
makes_typedef (RecordTag l k t) = false
makes_typedef (Enum l t es c) = false
makes_typedef (EnumTag l t) = false
makes_typedef (NamedType l n) = false

abbrev pub any_typedef : SpecifierTrees → Bool
any_typedef NoSpecifiers = false
any_typedef (Specifiers s ss) = makes_typedef s || any_typedef ss

-- `typedef` is among them, so what is declared by them is a typedef name
abbrev pub has_typedef : SpecifiersTree → Bool
has_typedef (Specified l ss) = any_typedef ss

abbrev pub no_pointers : List (List Qualifier) → Bool
no_pointers [] = true
no_pointers (p ∷ ps) = false

abbrev pub no_suffixes : SuffixTrees → Bool
no_suffixes NoSuffixes = true
no_suffixes (Suffixes s ss) = false

abbrev mutual
  -- the name that it declares
  pub declared_name : DeclaratorTree → Option (List ℕ)
  declared_name (Declarator l ps c ss) = core_name c

  pub core_name : CoreTree → Option (List ℕ)
  core_name (Named n) = Some n
  core_name (Inner d) = declared_name d
  core_name Omitted = None

abbrev mutual
  -- a name, perhaps in parentheses
  pub just_name : DeclaratorTree → Bool
  just_name (Declarator l ps c ss) = no_pointers ps && (no_suffixes ss && is_own c)

  -- a suffix behind it is that of the declared name itself
  pub is_own : CoreTree → Bool
  is_own (Named n) = true
  is_own (Inner d) = just_name d
  is_own Omitted = false

abbrev pub maybe_name : MaybeDeclarator → Option (List ℕ)
maybe_name NoDeclarator = None
maybe_name (ADeclarator d) = declared_name d

abbrev pub put_then : Option (List ℕ) → Bool → List Mark → List Mark
put_then None typedef r = r
put_then (Some n) typedef r = Put n typedef ∷ r

-- a parameter list's scope ends
abbrev pub closed_then : Bool → List Mark → List Mark
closed_then true r = Keep ∷ r
closed_then false r = Close ∷ r

-- where the name may be omitted (free), it is asked whether one stands there, or a declarator in parentheses
abbrev pub asked_then : (free answer : Bool) → List Mark → List Mark
asked_then true answer r = Ask IsCore answer ∷ r
asked_then false answer r = r

-- ---- marks of trees, and r behind them
-- own: the suffix is that of the declared name of a declarator that is no part of another; its parameters' names are kept

abbrev mutual
  pub expr : ExprTree → List Mark → List Mark
  expr (tree.Name l n) r = Here l ∷ Plain n ∷ r
  expr (tree.Integer l v k) r = Here l ∷ Tok (Integer v k) ∷ r
  expr (tree.Character l v) r = Here l ∷ Tok (Character v) ∷ r
  expr (tree.Text l bs) r = Here l ∷ texts_then bs r
  expr (Enclosed l e) r = Here l ∷ Tok (Sign open_parenthesis) ∷ expr e (Tok (Sign close_parenthesis) ∷ r)
  expr (Index l a i) r = Here l ∷ expr a (Tok (Sign open_bracket) ∷ expr i (Tok (Sign close_bracket) ∷ r))
  expr (Call l f es) r = Here l ∷ expr f (Tok (Sign open_parenthesis) ∷ arguments es r)
  expr (Member l op a n) r = Here l ∷ expr a (Tok (Sign (member_sign op)) ∷ Tok (Name n) ∷ r)
  expr (Postfix l op a) r = Here l ∷ expr a (Tok (Sign (postfix_sign op)) ∷ r)
  expr (Prefix l op a) r = Here l ∷ Tok (Sign (prefix_sign op)) ∷ expr a r
  expr (SizeofExpr l a) r = Here l ∷ Tok (Keyword sizeof_word) ∷ Ask IsSized false ∷ expr a r
  expr (SizeofType l t) r = Here l ∷ Tok (Keyword sizeof_word) ∷ Ask IsSized true ∷ Tok (Sign open_parenthesis) ∷ type_name t (Tok (Sign close_parenthesis) ∷ r)
  expr (Cast l t a) r = Here l ∷ Tok (Sign open_parenthesis) ∷ type_name t (Tok (Sign close_parenthesis) ∷ expr a r)
  expr (Binary l op a b) r = Here l ∷ expr a (Tok (Sign (binary_sign op)) ∷ expr b r)
  expr (Conditional l a b c) r = Here l ∷ expr a (Tok (Sign question_mark) ∷ expr b (Tok (Sign colon_sign) ∷ expr c r))
  expr (Assign l op a b) r = Here l ∷ expr a (Tok (Sign (assign_sign op)) ∷ expr b r)
  expr (Comma l es) r = Here l ∷ sequence es r

  -- expressions between commas
  pub sequence : ExprTrees → List Mark → List Mark
  sequence NoExprs r = r
  sequence (Exprs e es) r = expr e (more_sequence es r)

  pub more_sequence : ExprTrees → List Mark → List Mark
  more_sequence NoExprs r = r
  more_sequence (Exprs e es) r = Tok (Sign comma_sign) ∷ expr e (more_sequence es r)

  -- behind `(`
  pub arguments : ExprTrees → List Mark → List Mark
  arguments NoExprs r = Tok (Sign close_parenthesis) ∷ r
  arguments (Exprs e es) r = expr e (more_arguments es r)

  pub more_arguments : ExprTrees → List Mark → List Mark
  more_arguments NoExprs r = Tok (Sign close_parenthesis) ∷ r
  more_arguments (Exprs e es) r = Tok (Sign comma_sign) ∷ expr e (more_arguments es r)

  -- an expression that may be left out
  pub maybe_expr : MaybeExpr → List Mark → List Mark
  maybe_expr NoExpr r = r
  maybe_expr (AnExpr e) r = expr e r

  -- an expression behind this sign
  pub expr_behind : ℕ → MaybeExpr → List Mark → List Mark
  expr_behind k NoExpr r = Ask (IsSign k) false ∷ r
  expr_behind k (AnExpr e) r = Tok (Sign k) ∷ expr e r

  pub type_name : TypeNameTree → List Mark → List Mark
  type_name (TypeNamed l s d) r = Here l ∷ specifiers s (maybe_declarator true d r)

  pub specifiers : SpecifiersTree → List Mark → List Mark
  specifiers (Specified l ss) r = Here l ∷ Ask (IsSpecifier false) true ∷ specifier_list false ss r

  -- behind specifiers of which one said a type, or none
  pub specifier_list : Bool → SpecifierTrees → List Mark → List Mark
  specifier_list typed NoSpecifiers r = Ask (IsSpecifier typed) false ∷ r
  specifier_list typed (Specifiers s ss) r = Ask (IsSpecifier typed) true ∷ specifier s (specifier_list (typed || says_type s) ss r)

  pub specifier : SpecifierTree → List Mark → List Mark
  specifier (Stored l s) r = Here l ∷ Tok (Keyword (storage_word s)) ∷ r
  specifier (Qualified l q) r = Here l ∷ Tok (Keyword (qualifier_word q)) ∷ r
  specifier (Basic l b) r = Here l ∷ Tok (Keyword (basic_word b)) ∷ r
  specifier (Record l k tag ms) r = Here l ∷ Tok (Keyword (record_word k)) ∷ tag_then tag (Tok (Sign open_brace) ∷ members ms r)
  specifier (RecordTag l k n) r = Here l ∷ Tok (Keyword (record_word k)) ∷ Tok (Name n) ∷ Ask (IsSign open_brace) false ∷ r
  specifier (Enum l tag es comma) r = Here l ∷ Tok (Keyword enum_word) ∷ tag_then tag (Tok (Sign open_brace) ∷ enumerators es comma r)
  specifier (EnumTag l n) r = Here l ∷ Tok (Keyword enum_word) ∷ Tok (Name n) ∷ Ask (IsSign open_brace) false ∷ r
  specifier (NamedType l n) r = Here l ∷ Typed n ∷ r

  pub members : MemberTrees → List Mark → List Mark
  members NoMembers r = Tok (Sign close_brace) ∷ r
  members (MoreMembers m ms) r = member m (members ms r)

  pub member : MemberTree → List Mark → List Mark
  member (Members l s fs) r = Here l ∷ specifiers s (fields fs r)

  pub fields : FieldTrees → List Mark → List Mark
  fields NoFields r = Tok (Sign semicolon) ∷ r
  fields (Fields f fs) r = field f (more_fields fs r)

  pub more_fields : FieldTrees → List Mark → List Mark
  more_fields NoFields r = Tok (Sign semicolon) ∷ r
  more_fields (Fields f fs) r = Tok (Sign comma_sign) ∷ field f (more_fields fs r)

  -- a member's name comes into force nowhere
  pub field : FieldTree → List Mark → List Mark
  field (Field l d w) r = Here l ∷ maybe_declarator false d (expr_behind colon_sign w r)

  pub enumerators : EnumeratorTrees → Bool → List Mark → List Mark
  enumerators NoEnumerators comma r = end_then comma r
  enumerators (Enumerators e es) comma r = enumerator e (more_enumerators es comma r)

  pub more_enumerators : EnumeratorTrees → Bool → List Mark → List Mark
  more_enumerators NoEnumerators comma r = end_then comma r
  more_enumerators (Enumerators e es) comma r = Tok (Sign comma_sign) ∷ enumerator e (more_enumerators es comma r)

  -- an enumerator is in force from its own end
  pub enumerator : EnumeratorTree → List Mark → List Mark
  enumerator (Enumerator l n v) r = Here l ∷ Tok (Name n) ∷ expr_behind equals_sign v (Put n false ∷ r)

  pub maybe_declarator : Bool → MaybeDeclarator → List Mark → List Mark
  maybe_declarator free NoDeclarator r = Ask IsDeclarator false ∷ r
  maybe_declarator free (ADeclarator d) r = Ask IsDeclarator true ∷ declarator free false d r

  -- free: its name may be left out; outer: it is no part of another
  pub declarator : (free outer : Bool) → DeclaratorTree → List Mark → List Mark
  declarator free outer (Declarator l ps c ss) r = Here l ∷ pointers_then ps (core free outer c (suffixes (outer && is_own c) ss r))

  pub core : (free outer : Bool) → CoreTree → List Mark → List Mark
  core free outer (Named n) r = asked_then free true (Tok (Name n) ∷ r)
  core free outer (Inner d) r = asked_then free true (Tok (Sign open_parenthesis) ∷ declarator free outer d (Tok (Sign close_parenthesis) ∷ r))
  core free outer Omitted r = asked_then free false r

  pub suffixes : Bool → SuffixTrees → List Mark → List Mark
  suffixes own NoSuffixes r = Ask IsSuffix false ∷ r
  suffixes own (Suffixes s ss) r = suffix own s (suffixes false ss r)

  pub suffix : Bool → SuffixTree → List Mark → List Mark
  suffix own (ArraySuffix l e) r = Here l ∷ Tok (Sign open_bracket) ∷ maybe_expr e (Tok (Sign close_bracket) ∷ r)
  suffix own (Prototype l ps more) r = Here l ∷ Tok (Sign open_parenthesis) ∷ Open ∷ parameters ps more (closed_then own r)
  suffix own (NameList l ns) r = Here l ∷ Tok (Sign open_parenthesis) ∷ Open ∷ names_then ns (closed_then own r)
  suffix own (NoParameters l) r = Here l ∷ Tok (Sign open_parenthesis) ∷ Open ∷ Tok (Sign close_parenthesis) ∷ closed_then own r

  pub parameters : ParameterTrees → Bool → List Mark → List Mark
  parameters NoParameter more r = dots_then more r
  parameters (Parameters p ps) more r = parameter p (more_parameters ps more r)

  pub more_parameters : ParameterTrees → Bool → List Mark → List Mark
  more_parameters NoParameter more r = dots_then more r
  more_parameters (Parameters p ps) more r = Tok (Sign comma_sign) ∷ parameter p (more_parameters ps more r)

  -- a parameter's name is in force from its declarator's end
  pub parameter : ParameterTree → List Mark → List Mark
  parameter (Parameter l s d) r = Here l ∷ specifiers s (maybe_declarator true d (put_then (maybe_name d) (has_typedef s) r))
