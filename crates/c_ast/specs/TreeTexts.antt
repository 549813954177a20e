-- The texts of trees: those of their tokens in order, each with a blank before it.
-- Source: C89 3.3 to 3.7.
use Rattle.std.specs.Prelude.{ℕ, Bool, true, false, Option, Some, None, List, [], ◌∷◌, ◌++◌, flat_map}
use Rattle.c_ast.specs.declared.specifier.Qualifier.{Qualifier}
use Rattle.c_ast.specs.Lexemes.{Name, Keyword, Integer, Character, Text, Sign}
use Rattle.c_ast.specs.Operators.{binary_sign, assign_sign, prefix_sign, postfix_sign, member_sign, storage_word, qualifier_word, basic_word, record_word}
use Rattle.c_ast.specs.Printed.{token_text}
use Rattle.c_ast.specs.Trees.{ExprTree, Enclosed, Index, Call, Member, Postfix, Prefix, SizeofExpr, SizeofType, Cast, Binary, Conditional, Assign, Comma, ExprTrees, NoExprs, Exprs, MaybeExpr, NoExpr, AnExpr, TypeNameTree, TypeNamed, SpecifiersTree, Specified, SpecifierTree, Stored, Qualified, Basic, Record, RecordTag, Enum, EnumTag, NamedType, SpecifierTrees, NoSpecifiers, Specifiers, MemberTree, Members, MemberTrees, NoMembers, MoreMembers, FieldTree, Field, FieldTrees, NoFields, Fields, EnumeratorTree, Enumerator, EnumeratorTrees, NoEnumerators, Enumerators, DeclaratorTree, Declarator, MaybeDeclarator, NoDeclarator, ADeclarator, CoreTree, Named, Inner, Omitted, SuffixTree, ArraySuffix, Prototype, NameList, NoParameters, SuffixTrees, NoSuffixes, Suffixes, ParameterTree, Parameter, ParameterTrees, NoParameter, Parameters, InitialiserTree, ByExpr, Braced, InitialiserTrees, NoInitialisers, Initialisers, InitTree, DeclarationTree, StatementTree, Label, Case, Default, Expression, Compound, If, IfElse, Switch, While, Do, For, Goto, Continue, Break, Return, StatementTrees, NoStatements, Statements, BlockTree, Block, ExternalTree, Function, Declares, Empty}
use Rattle.c_ast.specs.Trees as tree
use Rattle.c_ast.specs.Signs.{open_bracket, close_bracket, open_parenthesis, close_parenthesis, open_brace, close_brace, star_sign, question_mark, colon_sign, semicolon, ellipsis, equals_sign, comma_sign}
use Rattle.c_ast.specs.Keywords.{break_word, case_word, continue_word, default_word, do_word, else_word, enum_word, for_word, goto_word, if_word, return_word, sizeof_word, switch_word, while_word}

abbrev pub sign_text : ℕ → List ℕ
sign_text k = token_text (Sign k)

abbrev pub word_text : ℕ → List ℕ
word_text k = token_text (Keyword k)

abbrev pub name_text : List ℕ → List ℕ
name_text n = token_text (Name n)

abbrev pub literal_text : List ℕ → List ℕ
literal_text bs = token_text (Text bs)

abbrev pub qualifier_text : Qualifier → List ℕ
qualifier_text q = word_text (qualifier_word q)

abbrev pub pointer_text : List Qualifier → List ℕ
pointer_text qs = sign_text star_sign ++ flat_map qualifier_text qs

-- behind a comma
abbrev pub behind_comma : {A : Type 0} → (A → List ℕ) → A → List ℕ
behind_comma f x = sign_text comma_sign ++ f x

-- with commas between
abbrev pub listed : {A : Type 0} → (A → List ℕ) → List A → List ℕ
listed f [] = []
listed f (x ∷ xs) = f x ++ flat_map (behind_comma f) xs

abbrev pub tag_text : Option (List ℕ) → List ℕ
tag_text None = []
tag_text (Some n) = name_text n

-- behind the last of a list in braces
abbrev pub end_text : Bool → List ℕ
end_text true = sign_text comma_sign ++ sign_text close_brace
end_text false = sign_text close_brace

-- behind the last parameter
abbrev pub dots_text : Bool → List ℕ
dots_text true = sign_text comma_sign ++ sign_text ellipsis ++ sign_text close_parenthesis
dots_text false = sign_text close_parenthesis

abbrev mutual
  pub expr_text : ExprTree → List ℕ
  expr_text (tree.Name l n) = name_text n
  expr_text (tree.Integer l v k) = token_text (Integer v k)
  expr_text (tree.Character l v) = token_text (Character v)
  expr_text (tree.Text l bs) = flat_map literal_text bs
  expr_text (Enclosed l e) = sign_text open_parenthesis ++ expr_text e ++ sign_text close_parenthesis
  expr_text (Index l a i) = expr_text a ++ sign_text open_bracket ++ expr_text i ++ sign_text close_bracket
  expr_text (Call l f es) = expr_text f ++ sign_text open_parenthesis ++ sequence_text es ++ sign_text close_parenthesis
  expr_text (Member l op a n) = expr_text a ++ sign_text (member_sign op) ++ name_text n
  expr_text (Postfix l op a) = expr_text a ++ sign_text (postfix_sign op)
  expr_text (Prefix l op a) = sign_text (prefix_sign op) ++ expr_text a
  expr_text (SizeofExpr l a) = word_text sizeof_word ++ expr_text a
  expr_text (SizeofType l t) = word_text sizeof_word ++ sign_text open_parenthesis ++ type_name_text t ++ sign_text close_parenthesis
  expr_text (Cast l t a) = sign_text open_parenthesis ++ type_name_text t ++ sign_text close_parenthesis ++ expr_text a
  expr_text (Binary l op a b) = expr_text a ++ sign_text (binary_sign op) ++ expr_text b
  expr_text (Conditional l a b c) = expr_text a ++ sign_text question_mark ++ expr_text b ++ sign_text colon_sign ++ expr_text c
  expr_text (Assign l op a b) = expr_text a ++ sign_text (assign_sign op) ++ expr_text b
  expr_text (Comma l es) = sequence_text es

  -- expressions between commas
  pub sequence_text : ExprTrees → List ℕ
  sequence_text NoExprs = []
  sequence_text (Exprs e es) = expr_text e ++ more_sequence_text es

  pub more_sequence_text : ExprTrees → List ℕ
  more_sequence_text NoExprs = []
  more_sequence_text (Exprs e es) = sign_text comma_sign ++ expr_text e ++ more_sequence_text es

  pub maybe_expr_text : MaybeExpr → List ℕ
  maybe_expr_text NoExpr = []
  maybe_expr_text (AnExpr e) = expr_text e

  -- an expression behind this sign
  pub behind_text : ℕ → MaybeExpr → List ℕ
  behind_text k NoExpr = []
  behind_text k (AnExpr e) = sign_text k ++ expr_text e

  pub type_name_text : TypeNameTree → List ℕ
  type_name_text (TypeNamed l s d) = specifiers_text s ++ maybe_declarator_text d

  pub specifiers_text : SpecifiersTree → List ℕ
  specifiers_text (Specified l ss) = specifier_list_text ss

  pub specifier_list_text : SpecifierTrees → List ℕ
  specifier_list_text NoSpecifiers = []
  specifier_list_text (Specifiers s ss) = specifier_text s ++ specifier_list_text ss

  pub specifier_text : SpecifierTree → List ℕ
  specifier_text (Stored l s) = word_text (storage_word s)
  specifier_text (Qualified l q) = word_text (qualifier_word q)
  specifier_text (Basic l b) = word_text (basic_word b)
  specifier_text (Record l k tag ms) = word_text (record_word k) ++ tag_text tag ++ sign_text open_brace ++ members_text ms ++ sign_text close_brace
  specifier_text (RecordTag l k n) = word_text (record_word k) ++ name_text n
  specifier_text (Enum l tag es comma) = word_text enum_word ++ tag_text tag ++ sign_text open_brace ++ enumerators_text es ++ end_text comma
  specifier_text (EnumTag l n) = word_text enum_word ++ name_text n
  specifier_text (NamedType l n) = name_text n

  pub members_text : MemberTrees → List ℕ
  members_text NoMembers = []
  members_text (MoreMembers m ms) = member_text m ++ members_text ms

  pub member_text : MemberTree → List ℕ
  member_text (Members l s fs) = specifiers_text s ++ fields_text fs ++ sign_text semicolon

  pub fields_text : FieldTrees → List ℕ
  fields_text NoFields = []
  fields_text (Fields f fs) = field_text f ++ more_fields_text fs

  pub more_fields_text : FieldTrees → List ℕ
  more_fields_text NoFields = []
  more_fields_text (Fields f fs) = sign_text comma_sign ++ field_text f ++ more_fields_text fs

  pub field_text : FieldTree → List ℕ
  field_text (Field l d w) = maybe_declarator_text d ++ behind_text colon_sign w

  pub enumerators_text : EnumeratorTrees → List ℕ
  enumerators_text NoEnumerators = []
  enumerators_text (Enumerators e es) = enumerator_text e ++ more_enumerators_text es

  pub more_enumerators_text : EnumeratorTrees → List ℕ
  more_enumerators_text NoEnumerators = []
  more_enumerators_text (Enumerators e es) = sign_text comma_sign ++ enumerator_text e ++ more_enumerators_text es

  pub enumerator_text : EnumeratorTree → List ℕ
  enumerator_text (Enumerator l n v) = name_text n ++ behind_text equals_sign v

  pub maybe_declarator_text : MaybeDeclarator → List ℕ
  maybe_declarator_text NoDeclarator = []
  maybe_declarator_text (ADeclarator d) = declarator_text d

  pub declarator_text : DeclaratorTree → List ℕ
  declarator_text (Declarator l ps c ss) = flat_map pointer_text ps ++ core_text c ++ suffixes_text ss

  pub core_text : CoreTree → List ℕ
  core_text (Named n) = name_text n
  core_text (Inner d) = sign_text open_parenthesis ++ declarator_text d ++ sign_text close_parenthesis
  core_text Omitted = []

  pub suffixes_text : SuffixTrees → List ℕ
  suffixes_text NoSuffixes = []
  suffixes_text (Suffixes s ss) = suffix_text s ++ suffixes_text ss

  pub suffix_text : SuffixTree → List ℕ
  suffix_text (ArraySuffix l e) = sign_text open_bracket ++ maybe_expr_text e ++ sign_text close_bracket
  suffix_text (Prototype l ps more) = sign_text open_parenthesis ++ parameters_text ps ++ dots_text more
  suffix_text (NameList l ns) = sign_text open_parenthesis ++ listed name_text ns ++ sign_text close_parenthesis
  suffix_text (NoParameters l) = sign_text open_parenthesis ++ sign_text close_parenthesis

  pub parameters_text : ParameterTrees → List ℕ
  parameters_text NoParameter = []
  parameters_text (Parameters p ps) = parameter_text p ++ more_parameters_text ps

  pub more_parameters_text : ParameterTrees → List ℕ
  more_parameters_text NoParameter = []
  more_parameters_text (Parameters p ps) = sign_text comma_sign ++ parameter_text p ++ more_parameters_text ps

  pub parameter_text : ParameterTree → List ℕ
  parameter_text (Parameter l s d) = specifiers_text s ++ maybe_declarator_text d

abbrev mutual
  pub initialiser_text : InitialiserTree → List ℕ
  initialiser_text (ByExpr l e) = expr_text e
  initialiser_text (Braced l is comma) = sign_text open_brace ++ initialisers_text is ++ end_text comma

  pub initialisers_text : InitialiserTrees → List ℕ
  initialisers_text NoInitialisers = []
  initialisers_text (Initialisers i is) = initialiser_text i ++ more_initialisers_text is

  pub more_initialisers_text : InitialiserTrees → List ℕ
  more_initialisers_text NoInitialisers = []
  more_initialisers_text (Initialisers i is) = sign_text comma_sign ++ initialiser_text i ++ more_initialisers_text is

abbrev pub maybe_initialiser_text : Option InitialiserTree → List ℕ
maybe_initialiser_text None = []
maybe_initialiser_text (Some i) = sign_text equals_sign ++ initialiser_text i

abbrev pub init_text : InitTree → List ℕ
init_text i = declarator_text i.declarator ++ maybe_initialiser_text i.initialiser

abbrev pub declaration_text : DeclarationTree → List ℕ
declaration_text d = specifiers_text d.specifiers ++ listed init_text d.declarators ++ sign_text semicolon

-- an expression in parentheses behind this word
abbrev pub test_text : ℕ → ExprTree → List ℕ
test_text k e = word_text k ++ sign_text open_parenthesis ++ expr_text e ++ sign_text close_parenthesis

abbrev mutual
  pub statement_text : StatementTree → List ℕ
  statement_text (Label l n s) = name_text n ++ sign_text colon_sign ++ statement_text s
  statement_text (Case l e s) = word_text case_word ++ expr_text e ++ sign_text colon_sign ++ statement_text s
  statement_text (Default l s) = word_text default_word ++ sign_text colon_sign ++ statement_text s
  statement_text (Expression l e) = maybe_expr_text e ++ sign_text semicolon
  statement_text (Compound l b) = block_text b
  statement_text (If l e s) = test_text if_word e ++ statement_text s
  statement_text (IfElse l e s t) = test_text if_word e ++ statement_text s ++ word_text else_word ++ statement_text t
  statement_text (Switch l e s) = test_text switch_word e ++ statement_text s
  statement_text (While l e s) = test_text while_word e ++ statement_text s
  statement_text (Do l s e) = word_text do_word ++ statement_text s ++ test_text while_word e ++ sign_text semicolon
  statement_text (For l a b c s) = word_text for_word ++ sign_text open_parenthesis ++ maybe_expr_text a ++ sign_text semicolon ++ maybe_expr_text b ++ sign_text semicolon ++ maybe_expr_text c ++ sign_text close_parenthesis ++ statement_text s
  statement_text (Goto l n) = word_text goto_word ++ name_text n ++ sign_text semicolon
  statement_text (Continue l) = word_text continue_word ++ sign_text semicolon
  statement_text (Break l) = word_text break_word ++ sign_text semicolon
  statement_text (Return l e) = word_text return_word ++ maybe_expr_text e ++ sign_text semicolon

  pub statements_text : StatementTrees → List ℕ
  statements_text NoStatements = []
  statements_text (Statements s ss) = statement_text s ++ statements_text ss

  pub block_text : BlockTree → List ℕ
  block_text (Block l ds ss) = sign_text open_brace ++ flat_map declaration_text ds ++ statements_text ss ++ sign_text close_brace

abbrev pub maybe_specifiers_text : Option SpecifiersTree → List ℕ
maybe_specifiers_text None = []
maybe_specifiers_text (Some s) = specifiers_text s

abbrev pub external_text : ExternalTree → List ℕ
external_text (Function l s d ps b) = maybe_specifiers_text s ++ declarator_text d ++ flat_map declaration_text ps ++ block_text b
external_text (Declares l d) = declaration_text d
external_text (Empty l) = sign_text semicolon
