-- The names of a tree: at least one byte each, and each byte a letter, a digit or `_`, as those of identifiers are.
-- Source: C89 3.1.2.
use Rattle.std.specs.Prelude.{◌≡◌, ℕ, Bool, true, false, ◌&&◌, ◌||◌, ◌==◌, Option, Some, None, List, [], ◌∷◌}
use Rattle.std.specs.Char.{is_ascii_digit, is_ascii_alphabetic}
use Rattle.c_ast.specs.Levels.{FitsUnit}
use Rattle.c_ast.specs.Trees.{ExprTree, Name, Integer, Character, Text, Enclosed, Index, Call, Member, Postfix, Prefix, SizeofExpr, SizeofType, Cast, Binary, Conditional, Assign, Comma, ExprTrees, NoExprs, Exprs, MaybeExpr, NoExpr, AnExpr, TypeNameTree, TypeNamed, SpecifiersTree, Specified, SpecifierTree, Stored, Qualified, Basic, Record, RecordTag, Enum, EnumTag, NamedType, SpecifierTrees, NoSpecifiers, Specifiers, MemberTree, Members, MemberTrees, NoMembers, MoreMembers, FieldTree, Field, FieldTrees, NoFields, Fields, EnumeratorTree, Enumerator, EnumeratorTrees, NoEnumerators, Enumerators, DeclaratorTree, Declarator, MaybeDeclarator, NoDeclarator, ADeclarator, CoreTree, Named, Inner, Omitted, SuffixTree, ArraySuffix, Prototype, NameList, NoParameters, SuffixTrees, NoSuffixes, Suffixes, ParameterTree, Parameter, ParameterTrees, NoParameter, Parameters, InitialiserTree, ByExpr, Braced, InitialiserTrees, NoInitialisers, Initialisers, InitTree, DeclarationTree, StatementTree, Label, Case, Default, Expression, Compound, If, IfElse, Switch, While, Do, For, Goto, Continue, Break, Return, StatementTrees, NoStatements, Statements, BlockTree, Block, ExternalTree, Function, Declares, Empty, UnitTree}

abbrev pub is_name_byte : ℕ → Bool
is_name_byte b = (is_ascii_alphabetic b || is_ascii_digit b) || b == 95

abbrev pub are_name_bytes : List ℕ → Bool
are_name_bytes [] = true
are_name_bytes (b ∷ bs) = is_name_byte b && are_name_bytes bs

abbrev pub is_name : List ℕ → Bool
is_name [] = false
is_name (b ∷ bs) = is_name_byte b && are_name_bytes bs

abbrev pub IsName : List ℕ → Type 0
IsName n = is_name n ≡ true

abbrev pub AreNames : List (List ℕ) → Type 0
AreNames [] = Unit {0}
AreNames (n ∷ ns) = IsName n × AreNames ns

-- ---- expressions, types and declarators: the names of variables, enumerators, declarators and lists of names

abbrev mutual
  pub ExprNames : ExprTree → Type 0
  ExprNames (Name l n) = IsName n
  ExprNames (Integer l v k) = Unit {0}
  ExprNames (Character l v) = Unit {0}
  ExprNames (Text l bs) = Unit {0}
  ExprNames (Enclosed l e) = ExprNames e
  ExprNames (Index l a i) = ExprNames a × ExprNames i
  ExprNames (Call l f es) = ExprNames f × AllNames es
  ExprNames (Member l op a n) = ExprNames a
  ExprNames (Postfix l op a) = ExprNames a
  ExprNames (Prefix l op a) = ExprNames a
  ExprNames (SizeofExpr l a) = ExprNames a
  ExprNames (SizeofType l t) = TypeNames t
  ExprNames (Cast l t a) = TypeNames t × ExprNames a
  ExprNames (Binary l op a b) = ExprNames a × ExprNames b
  ExprNames (Conditional l a b c) = ExprNames a × (ExprNames b × ExprNames c)
  ExprNames (Assign l op a b) = ExprNames a × ExprNames b
  ExprNames (Comma l es) = AllNames es

  pub AllNames : ExprTrees → Type 0
  AllNames NoExprs = Unit {0}
  AllNames (Exprs e es) = ExprNames e × AllNames es

  pub MaybeNames : MaybeExpr → Type 0
  MaybeNames NoExpr = Unit {0}
  MaybeNames (AnExpr e) = ExprNames e

  pub TypeNames : TypeNameTree → Type 0
  TypeNames (TypeNamed l s d) = SpecifiersNames s × MaybeDeclaratorNames d

  pub SpecifiersNames : SpecifiersTree → Type 0
  SpecifiersNames (Specified l ss) = AllSpecifierNames ss

  pub AllSpecifierNames : SpecifierTrees → Type 0
  AllSpecifierNames NoSpecifiers = Unit {0}
  AllSpecifierNames (Specifiers s ss) = SpecifierNames s × AllSpecifierNames ss

  pub SpecifierNames : SpecifierTree → Type 0
  SpecifierNames (Stored l s) = Unit {0}
  SpecifierNames (Qualified l q) = Unit {0}
  SpecifierNames (Basic l b) = Unit {0}
  SpecifierNames (Record l k tag ms) = AllMemberNames ms
  SpecifierNames (RecordTag l k n) = Unit {0}
  SpecifierNames (Enum l tag es comma) = AllEnumeratorNames es
  SpecifierNames (EnumTag l n) = Unit {0}
  SpecifierNames (NamedType l n) = Unit {0}

  pub AllMemberNames : MemberTrees → Type 0
  AllMemberNames NoMembers = Unit {0}
  AllMemberNames (MoreMembers m ms) = MemberNames m × AllMemberNames ms

  pub MemberNames : MemberTree → Type 0
  MemberNames (Members l s fs) = SpecifiersNames s × AllFieldNames fs

  pub AllFieldNames : FieldTrees → Type 0
  AllFieldNames NoFields = Unit {0}
  AllFieldNames (Fields f fs) = FieldNames f × AllFieldNames fs

  pub FieldNames : FieldTree → Type 0
  FieldNames (Field l d w) = MaybeDeclaratorNames d × MaybeNames w

  pub AllEnumeratorNames : EnumeratorTrees → Type 0
  AllEnumeratorNames NoEnumerators = Unit {0}
  AllEnumeratorNames (Enumerators e es) = EnumeratorNames e × AllEnumeratorNames es

  pub EnumeratorNames : EnumeratorTree → Type 0
  EnumeratorNames (Enumerator l n v) = IsName n × MaybeNames v

  pub MaybeDeclaratorNames : MaybeDeclarator → Type 0
  MaybeDeclaratorNames NoDeclarator = Unit {0}
  MaybeDeclaratorNames (ADeclarator d) = DeclaratorNames d

  pub DeclaratorNames : DeclaratorTree → Type 0
  DeclaratorNames (Declarator l ps c ss) = CoreNames c × AllSuffixNames ss

  pub CoreNames : CoreTree → Type 0
  CoreNames (Named n) = IsName n
  CoreNames (Inner d) = DeclaratorNames d
  CoreNames Omitted = Unit {0}

  pub AllSuffixNames : SuffixTrees → Type 0
  AllSuffixNames NoSuffixes = Unit {0}
  AllSuffixNames (Suffixes s ss) = SuffixNames s × AllSuffixNames ss

  pub SuffixNames : SuffixTree → Type 0
  SuffixNames (ArraySuffix l e) = MaybeNames e
  SuffixNames (Prototype l ps more) = AllParameterNames ps
  SuffixNames (NameList l ns) = AreNames ns
  SuffixNames (NoParameters l) = Unit {0}

  pub AllParameterNames : ParameterTrees → Type 0
  AllParameterNames NoParameter = Unit {0}
  AllParameterNames (Parameters p ps) = ParameterNames p × AllParameterNames ps

  pub ParameterNames : ParameterTree → Type 0
  ParameterNames (Parameter l s d) = SpecifiersNames s × MaybeDeclaratorNames d

-- ---- initialisers and declarations

abbrev mutual
  pub InitialiserNames : InitialiserTree → Type 0
  InitialiserNames (ByExpr l e) = ExprNames e
  InitialiserNames (Braced l is comma) = AllInitialiserNames is

  pub AllInitialiserNames : InitialiserTrees → Type 0
  AllInitialiserNames NoInitialisers = Unit {0}
  AllInitialiserNames (Initialisers i is) = InitialiserNames i × AllInitialiserNames is

abbrev pub MaybeInitialiserNames : Option InitialiserTree → Type 0
MaybeInitialiserNames None = Unit {0}
MaybeInitialiserNames (Some i) = InitialiserNames i

abbrev pub InitNames : InitTree → Type 0
InitNames i = DeclaratorNames i.declarator × MaybeInitialiserNames i.initialiser

abbrev pub AllInitNames : List InitTree → Type 0
AllInitNames [] = Unit {0}
AllInitNames (i ∷ is) = InitNames i × AllInitNames is

abbrev pub DeclarationNames : DeclarationTree → Type 0
DeclarationNames d = SpecifiersNames d.specifiers × AllInitNames d.declarators

abbrev pub AllDeclarationNames : List DeclarationTree → Type 0
AllDeclarationNames [] = Unit {0}
AllDeclarationNames (d ∷ ds) = DeclarationNames d × AllDeclarationNames ds

-- ---- statements and units

abbrev mutual
  pub StatementNames : StatementTree → Type 0
  StatementNames (Label l n s) = StatementNames s
  StatementNames (Case l e s) = ExprNames e × StatementNames s
  StatementNames (Default l s) = StatementNames s
  StatementNames (Expression l e) = MaybeNames e
  StatementNames (Compound l b) = BlockNames b
  StatementNames (If l e s) = ExprNames e × StatementNames s
  StatementNames (IfElse l e s t) = ExprNames e × (StatementNames s × StatementNames t)
  StatementNames (Switch l e s) = ExprNames e × StatementNames s
  StatementNames (While l e s) = ExprNames e × StatementNames s
  StatementNames (Do l s e) = StatementNames s × ExprNames e
  StatementNames (For l a b c s) = MaybeNames a × (MaybeNames b × (MaybeNames c × StatementNames s))
  StatementNames (Goto l n) = Unit {0}
  StatementNames (Continue l) = Unit {0}
  StatementNames (Break l) = Unit {0}
  StatementNames (Return l e) = MaybeNames e

  pub AllStatementNames : StatementTrees → Type 0
  AllStatementNames NoStatements = Unit {0}
  AllStatementNames (Statements s ss) = StatementNames s × AllStatementNames ss

  pub BlockNames : BlockTree → Type 0
  BlockNames (Block l ds ss) = AllDeclarationNames ds × AllStatementNames ss

abbrev pub MaybeSpecifiersNames : Option SpecifiersTree → Type 0
MaybeSpecifiersNames None = Unit {0}
MaybeSpecifiersNames (Some s) = SpecifiersNames s

abbrev pub ExternalNames : ExternalTree → Type 0
ExternalNames (Function l s d ps b) = MaybeSpecifiersNames s × (DeclaratorNames d × (AllDeclarationNames ps × BlockNames b))
ExternalNames (Declares l d) = DeclarationNames d
ExternalNames (Empty l) = Unit {0}

abbrev pub AllExternalNames : List ExternalTree → Type 0
AllExternalNames [] = Unit {0}
AllExternalNames (x ∷ xs) = ExternalNames x × AllExternalNames xs

-- the names of a unit
abbrev pub HasNames : UnitTree → Type 0
HasNames u = AllExternalNames u.externals

-- a unit of the grammar, with names of C
pub record IsGrammatical (u : UnitTree) : Type 0 where
  pub levels : FitsUnit u
  pub names : HasNames u
