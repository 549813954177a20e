-- The nodes on the longest way down a tree: a unit, an external declaration, a declaration, a line of members, a declarator,
-- an initialiser, a statement (a block too) and an expression count 1 each; all else counts nothing.
-- Source: the limit on a unit's height is this profile's own.
use Rattle.std.specs.Prelude.{◌+◌, ℕ, max, Option, Some, None, List, [], ◌∷◌}
use Rattle.c_ast.specs.Trees.{ExprTree, Name, Integer, Character, Text, Enclosed, Index, Call, Member, Postfix, Prefix, SizeofExpr, SizeofType, Cast, Binary, Conditional, Assign, Comma, ExprTrees, NoExprs, Exprs, MaybeExpr, NoExpr, AnExpr, TypeNameTree, TypeNamed, SpecifiersTree, Specified, SpecifierTree, Stored, Qualified, Basic, Record, RecordTag, Enum, EnumTag, NamedType, SpecifierTrees, NoSpecifiers, Specifiers, MemberTree, Members, MemberTrees, NoMembers, MoreMembers, FieldTree, Field, FieldTrees, NoFields, Fields, EnumeratorTree, Enumerator, EnumeratorTrees, NoEnumerators, Enumerators, DeclaratorTree, Declarator, MaybeDeclarator, NoDeclarator, ADeclarator, CoreTree, Named, Inner, Omitted, SuffixTree, ArraySuffix, Prototype, NameList, NoParameters, SuffixTrees, NoSuffixes, Suffixes, ParameterTree, Parameter, ParameterTrees, NoParameter, Parameters, InitialiserTree, ByExpr, Braced, InitialiserTrees, NoInitialisers, Initialisers, InitTree, DeclarationTree, StatementTree, Label, Case, Default, Expression, Compound, If, IfElse, Switch, While, Do, For, Goto, Continue, Break, Return, StatementTrees, NoStatements, Statements, BlockTree, Block, ExternalTree, Function, Declares, Empty, UnitTree}

abbrev mutual
  pub height : ExprTree → ℕ
  height (Name l n) = 1
  height (Integer l v k) = 1
  height (Character l v) = 1
  height (Text l bs) = 1
  height (Enclosed l e) = height e + 1
  height (Index l a i) = max (height a) (height i) + 1
  height (Call l f es) = max (height f) (tallest es) + 1
  height (Member l op a n) = height a + 1
  height (Postfix l op a) = height a + 1
  height (Prefix l op a) = height a + 1
  height (SizeofExpr l a) = height a + 1
  height (SizeofType l t) = type_name_height t + 1
  height (Cast l t a) = max (type_name_height t) (height a) + 1
  height (Binary l op a b) = max (height a) (height b) + 1
  height (Conditional l a b c) = max (max (height a) (height b)) (height c) + 1
  height (Assign l op a b) = max (height a) (height b) + 1
  height (Comma l es) = tallest es + 1

  pub tallest : ExprTrees → ℕ
  tallest NoExprs = 0
  tallest (Exprs e es) = max (height e) (tallest es)

  pub maybe_height : MaybeExpr → ℕ
  maybe_height NoExpr = 0
  maybe_height (AnExpr e) = height e

  pub type_name_height : TypeNameTree → ℕ
  type_name_height (TypeNamed l s d) = max (specifiers_height s) (maybe_declarator_height d)

  pub specifiers_height : SpecifiersTree → ℕ
  specifiers_height (Specified l ss) = specifier_list_height ss

  pub specifier_list_height : SpecifierTrees → ℕ
  specifier_list_height NoSpecifiers = 0
  specifier_list_height (Specifiers s ss) = max (specifier_height s) (specifier_list_height ss)

  pub specifier_height : SpecifierTree → ℕ
  specifier_height (Stored l s) = 0
  specifier_height (Qualified l q) = 0
  specifier_height (Basic l b) = 0
  specifier_height (Record l k tag ms) = members_height ms
  specifier_height (RecordTag l k n) = 0
  specifier_height (Enum l tag es comma) = enumerators_height es
  specifier_height (EnumTag l n) = 0
  specifier_height (NamedType l n) = 0

  pub members_height : MemberTrees → ℕ
  members_height NoMembers = 0
  members_height (MoreMembers m ms) = max (member_height m) (members_height ms)

  pub member_height : MemberTree → ℕ
  member_height (Members l s fs) = max (specifiers_height s) (fields_height fs) + 1

  pub fields_height : FieldTrees → ℕ
  fields_height NoFields = 0
  fields_height (Fields f fs) = max (field_height f) (fields_height fs)

  pub field_height : FieldTree → ℕ
  field_height (Field l d w) = max (maybe_declarator_height d) (maybe_height w)

  pub enumerators_height : EnumeratorTrees → ℕ
  enumerators_height NoEnumerators = 0
  enumerators_height (Enumerators e es) = max (enumerator_height e) (enumerators_height es)

  pub enumerator_height : EnumeratorTree → ℕ
  enumerator_height (Enumerator l n v) = maybe_height v

  pub maybe_declarator_height : MaybeDeclarator → ℕ
  maybe_declarator_height NoDeclarator = 0
  maybe_declarator_height (ADeclarator d) = declarator_height d

  pub declarator_height : DeclaratorTree → ℕ
  declarator_height (Declarator l ps c ss) = max (core_height c) (suffixes_height ss) + 1

  pub core_height : CoreTree → ℕ
  core_height (Named n) = 0
  core_height (Inner d) = declarator_height d
  core_height Omitted = 0

  pub suffixes_height : SuffixTrees → ℕ
  suffixes_height NoSuffixes = 0
  suffixes_height (Suffixes s ss) = max (suffix_height s) (suffixes_height ss)

  pub suffix_height : SuffixTree → ℕ
  suffix_height (ArraySuffix l e) = maybe_height e
  suffix_height (Prototype l ps more) = parameters_height ps
  suffix_height (NameList l ns) = 0
  suffix_height (NoParameters l) = 0

  pub parameters_height : ParameterTrees → ℕ
  parameters_height NoParameter = 0
  parameters_height (Parameters p ps) = max (parameter_height p) (parameters_height ps)

  pub parameter_height : ParameterTree → ℕ
  parameter_height (Parameter l s d) = max (specifiers_height s) (maybe_declarator_height d)

abbrev mutual
  pub initialiser_height : InitialiserTree → ℕ
  initialiser_height (ByExpr l e) = height e + 1
  initialiser_height (Braced l is comma) = initialisers_height is + 1

  pub initialisers_height : InitialiserTrees → ℕ
  initialisers_height NoInitialisers = 0
  initialisers_height (Initialisers i is) = max (initialiser_height i) (initialisers_height is)

abbrev pub option_height : Option InitialiserTree → ℕ
option_height None = 0
option_height (Some i) = initialiser_height i

abbrev pub init_height : InitTree → ℕ
init_height i = max (declarator_height i.declarator) (option_height i.initialiser)

abbrev pub inits_height : List InitTree → ℕ
inits_height [] = 0
inits_height (i ∷ is) = max (init_height i) (inits_height is)

abbrev pub declaration_height : DeclarationTree → ℕ
declaration_height d = max (specifiers_height d.specifiers) (inits_height d.declarators) + 1

abbrev pub declarations_height : List DeclarationTree → ℕ
declarations_height [] = 0
declarations_height (d ∷ ds) = max (declaration_height d) (declarations_height ds)

abbrev mutual
  pub statement_height : StatementTree → ℕ
  statement_height (Label l n s) = statement_height s + 1
  statement_height (Case l e s) = max (height e) (statement_height s) + 1
  statement_height (Default l s) = statement_height s + 1
  statement_height (Expression l e) = maybe_height e + 1
  statement_height (Compound l b) = block_height b
  statement_height (If l e s) = max (height e) (statement_height s) + 1
  statement_height (IfElse l e s t) = max (max (height e) (statement_height s)) (statement_height t) + 1
  statement_height (Switch l e s) = max (height e) (statement_height s) + 1
  statement_height (While l e s) = max (height e) (statement_height s) + 1
  statement_height (Do l s e) = max (statement_height s) (height e) + 1
  statement_height (For l a b c s) = max (max (max (maybe_height a) (maybe_height b)) (maybe_height c)) (statement_height s) + 1
  statement_height (Goto l n) = 1
  statement_height (Continue l) = 1
  statement_height (Break l) = 1
  statement_height (Return l e) = maybe_height e + 1

  pub statements_height : StatementTrees → ℕ
  statements_height NoStatements = 0
  statements_height (Statements s ss) = max (statement_height s) (statements_height ss)

  pub block_height : BlockTree → ℕ
  block_height (Block l ds ss) = max (declarations_height ds) (statements_height ss) + 1

abbrev pub maybe_specifiers_height : Option SpecifiersTree → ℕ
maybe_specifiers_height None = 0
maybe_specifiers_height (Some s) = specifiers_height s

abbrev pub external_height : ExternalTree → ℕ
external_height (Function l s d ps b) = max (max (max (maybe_specifiers_height s) (declarator_height d)) (declarations_height ps)) (block_height b) + 1
external_height (Declares l d) = declaration_height d + 1
external_height (Empty l) = 1

abbrev pub externals_height : List ExternalTree → ℕ
externals_height [] = 0
externals_height (x ∷ xs) = max (external_height x) (externals_height xs)

abbrev pub unit_height : UnitTree → ℕ
unit_height u = externals_height u.externals + 1
