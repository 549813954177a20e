-- Which trees the grammar derives, apart from the names in force: the levels of expressions, the kinds of declarators, and
-- lists that aren't empty.
-- Source: C89 3.3 to 3.7.
use Rattle.std.specs.Prelude.{◌≡◌, ◌≤◌, ◌+◌, ℕ, Bool, true, false, not, ◌&&◌, ◌||◌, Option, Some, None, List, [], ◌∷◌}
use Rattle.c_ast.specs.Operators.{level_of, operand_level}
use Rattle.c_ast.specs.ExprMarks.{no_pointers, no_suffixes}
use Rattle.c_ast.specs.Trees.{ExprTree, Name, Integer, Character, Text, Enclosed, Index, Call, Member, Postfix, Prefix, SizeofExpr, SizeofType, Cast, Binary, Conditional, Assign, Comma, ExprTrees, NoExprs, Exprs, MaybeExpr, NoExpr, AnExpr, TypeNameTree, TypeNamed, SpecifiersTree, Specified, SpecifierTree, Stored, Qualified, Basic, Record, RecordTag, Enum, EnumTag, NamedType, SpecifierTrees, NoSpecifiers, Specifiers, MemberTree, Members, MemberTrees, NoMembers, MoreMembers, FieldTree, Field, FieldTrees, NoFields, Fields, EnumeratorTree, Enumerator, EnumeratorTrees, NoEnumerators, Enumerators, DeclaratorTree, Declarator, MaybeDeclarator, NoDeclarator, ADeclarator, CoreTree, Named, Inner, Omitted, SuffixTree, ArraySuffix, Prototype, NameList, NoParameters, SuffixTrees, NoSuffixes, Suffixes, ParameterTree, Parameter, ParameterTrees, NoParameter, Parameters, InitialiserTree, ByExpr, Braced, InitialiserTrees, NoInitialisers, Initialisers, InitTree, DeclarationTree, StatementTree, Label, Case, Default, Expression, Compound, If, IfElse, Switch, While, Do, For, Goto, Continue, Break, Return, StatementTrees, NoStatements, Statements, BlockTree, Block, ExternalTree, Function, Declares, Empty, UnitTree}

-- the level of an expression: 0 expr, 1 assign, 2 cond, 3 to 12 binary, 13 cast, 14 unary, 15 postfix and primary
abbrev pub rank : ExprTree → ℕ
rank (Name l n) = 15
rank (Integer l v k) = 15
rank (Character l v) = 15
rank (Text l bs) = 15
rank (Enclosed l e) = 15
rank (Index l a i) = 15
rank (Call l f es) = 15
rank (Member l op a n) = 15
rank (Postfix l op a) = 15
rank (Prefix l op a) = 14
rank (SizeofExpr l a) = 14
rank (SizeofType l t) = 14
rank (Cast l t a) = 13
rank (Binary l op a b) = level_of op
rank (Conditional l a b c) = 2
rank (Assign l op a b) = 1
rank (Comma l es) = 0

-- ---- lists with something in them

abbrev pub IsSome : {A : Type 0} → List A → Type 0
IsSome [] = ⊥
IsSome (x ∷ xs) = Unit {0}

abbrev pub OneMember : MemberTrees → Type 0
OneMember NoMembers = ⊥
OneMember (MoreMembers m ms) = Unit {0}

abbrev pub OneEnumerator : EnumeratorTrees → Type 0
OneEnumerator NoEnumerators = ⊥
OneEnumerator (Enumerators e es) = Unit {0}

abbrev pub OneField : FieldTrees → Type 0
OneField NoFields = ⊥
OneField (Fields f fs) = Unit {0}

abbrev pub OneParameter : ParameterTrees → Type 0
OneParameter NoParameter = ⊥
OneParameter (Parameters p ps) = Unit {0}

abbrev pub OneInitialiser : InitialiserTrees → Type 0
OneInitialiser NoInitialisers = ⊥
OneInitialiser (Initialisers i is) = Unit {0}

abbrev pub OneExpr : ExprTrees → Type 0
OneExpr NoExprs = ⊥
OneExpr (Exprs e es) = Unit {0}

abbrev pub TwoExprs : ExprTrees → Type 0
TwoExprs NoExprs = ⊥
TwoExprs (Exprs e es) = OneExpr es

-- a declarator or a width
abbrev pub OneOfBoth : MaybeDeclarator → MaybeExpr → Type 0
OneOfBoth NoDeclarator NoExpr = ⊥
OneOfBoth NoDeclarator (AnExpr e) = Unit {0}
OneOfBoth (ADeclarator d) w = Unit {0}

-- ---- kinds of declarators

abbrev mutual
  -- it declares a name
  pub is_named : DeclaratorTree → Bool
  is_named (Declarator l ps c ss) = has_name c

  pub has_name : CoreTree → Bool
  has_name (Named n) = true
  has_name (Inner d) = is_named d
  has_name Omitted = false

abbrev pub no_name_lists : SuffixTrees → Bool
no_name_lists NoSuffixes = true
no_name_lists (Suffixes (NameList l ns) ss) = false
no_name_lists (Suffixes s ss) = no_name_lists ss

abbrev mutual
  -- it has no name, no list of names, and isn't empty
  pub is_abstract : DeclaratorTree → Bool
  is_abstract (Declarator l ps c ss) = no_name_lists ss && lacks_name c (no_pointers ps && no_suffixes ss)

  pub lacks_name : CoreTree → Bool → Bool
  lacks_name (Named n) alone = false
  lacks_name (Inner d) alone = is_abstract d
  lacks_name Omitted alone = not alone

-- ---- trees

abbrev mutual
  pub Parts : ExprTree → Type 0
  Parts (Name l n) = Unit {0}
  Parts (Integer l v k) = Unit {0}
  Parts (Character l v) = Unit {0}
  Parts (Text l bs) = IsSome bs
  Parts (Enclosed l e) = Parts e
  Parts (Index l a i) = (15 ≤ rank a) × Parts a × Parts i
  Parts (Call l f es) = (15 ≤ rank f) × Parts f × AllAssign es
  Parts (Member l op a n) = (15 ≤ rank a) × Parts a
  Parts (Postfix l op a) = (15 ≤ rank a) × Parts a
  Parts (Prefix l op a) = (operand_level op ≤ rank a) × Parts a
  Parts (SizeofExpr l a) = (14 ≤ rank a) × Parts a
  Parts (SizeofType l t) = FitsTypeName t
  Parts (Cast l t a) = FitsTypeName t × (13 ≤ rank a) × Parts a
  Parts (Binary l op a b) = (level_of op ≤ rank a) × Parts a × (level_of op + 1 ≤ rank b) × Parts b
  Parts (Conditional l a b c) = (3 ≤ rank a) × Parts a × Parts b × (2 ≤ rank c) × Parts c
  Parts (Assign l op a b) = (14 ≤ rank a) × Parts a × (1 ≤ rank b) × Parts b
  Parts (Comma l es) = TwoExprs es × AllAssign es

  pub AllAssign : ExprTrees → Type 0
  AllAssign NoExprs = Unit {0}
  AllAssign (Exprs e es) = (1 ≤ rank e) × Parts e × AllAssign es

  -- the expression is of the level, if there is one
  pub FitsMaybe : MaybeExpr → ℕ → Type 0
  FitsMaybe NoExpr level = Unit {0}
  FitsMaybe (AnExpr e) level = (level ≤ rank e) × Parts e

  pub FitsTypeName : TypeNameTree → Type 0
  FitsTypeName (TypeNamed l s d) = FitsSpecifiers s × FitsAbstract d

  pub FitsSpecifiers : SpecifiersTree → Type 0
  FitsSpecifiers (Specified l ss) = FitsSpecifierList ss

  pub FitsSpecifierList : SpecifierTrees → Type 0
  FitsSpecifierList NoSpecifiers = Unit {0}
  FitsSpecifierList (Specifiers s ss) = FitsSpecifier s × FitsSpecifierList ss

  pub FitsSpecifier : SpecifierTree → Type 0
  FitsSpecifier (Stored l s) = Unit {0}
  FitsSpecifier (Qualified l q) = Unit {0}
  FitsSpecifier (Basic l b) = Unit {0}
  FitsSpecifier (Record l k tag ms) = OneMember ms × FitsMembers ms
  FitsSpecifier (RecordTag l k n) = Unit {0}
  FitsSpecifier (Enum l tag es comma) = OneEnumerator es × FitsEnumerators es
  FitsSpecifier (EnumTag l n) = Unit {0}
  FitsSpecifier (NamedType l n) = Unit {0}

  pub FitsMembers : MemberTrees → Type 0
  FitsMembers NoMembers = Unit {0}
  FitsMembers (MoreMembers m ms) = FitsMember m × FitsMembers ms

  pub FitsMember : MemberTree → Type 0
  FitsMember (Members l s fs) = FitsSpecifiers s × OneField fs × FitsFields fs

  pub FitsFields : FieldTrees → Type 0
  FitsFields NoFields = Unit {0}
  FitsFields (Fields f fs) = FitsField f × FitsFields fs

  pub FitsField : FieldTree → Type 0
  FitsField (Field l d w) = OneOfBoth d w × FitsNamed d × FitsMaybe w 2

  pub FitsEnumerators : EnumeratorTrees → Type 0
  FitsEnumerators NoEnumerators = Unit {0}
  FitsEnumerators (Enumerators e es) = FitsEnumerator e × FitsEnumerators es

  pub FitsEnumerator : EnumeratorTree → Type 0
  FitsEnumerator (Enumerator l n v) = FitsMaybe v 2

  -- a declarator with a name, if there is one; without; either
  pub FitsNamed : MaybeDeclarator → Type 0
  FitsNamed NoDeclarator = Unit {0}
  FitsNamed (ADeclarator d) = (is_named d ≡ true) × FitsDeclarator d

  pub FitsAbstract : MaybeDeclarator → Type 0
  FitsAbstract NoDeclarator = Unit {0}
  FitsAbstract (ADeclarator d) = (is_abstract d ≡ true) × FitsDeclarator d

  pub FitsEither : MaybeDeclarator → Type 0
  FitsEither NoDeclarator = Unit {0}
  FitsEither (ADeclarator d) = ((is_named d || is_abstract d) ≡ true) × FitsDeclarator d

  pub FitsDeclarator : DeclaratorTree → Type 0
  FitsDeclarator (Declarator l ps c ss) = FitsCore c × FitsSuffixes ss

  pub FitsCore : CoreTree → Type 0
  FitsCore (Named n) = Unit {0}
  FitsCore (Inner d) = FitsDeclarator d
  FitsCore Omitted = Unit {0}

  pub FitsSuffixes : SuffixTrees → Type 0
  FitsSuffixes NoSuffixes = Unit {0}
  FitsSuffixes (Suffixes s ss) = FitsSuffix s × FitsSuffixes ss

  pub FitsSuffix : SuffixTree → Type 0
  FitsSuffix (ArraySuffix l e) = FitsMaybe e 2
  FitsSuffix (Prototype l ps more) = OneParameter ps × FitsParameters ps
  FitsSuffix (NameList l ns) = IsSome ns
  FitsSuffix (NoParameters l) = Unit {0}

  pub FitsParameters : ParameterTrees → Type 0
  FitsParameters NoParameter = Unit {0}
  FitsParameters (Parameters p ps) = FitsParameter p × FitsParameters ps

  pub FitsParameter : ParameterTree → Type 0
  FitsParameter (Parameter l s d) = FitsSpecifiers s × FitsEither d

-- the grammar derives the expression at the level
abbrev pub FitsAt : ℕ → ExprTree → Type 0
FitsAt level e = (level ≤ rank e) × Parts e

abbrev mutual
  pub FitsInitialiser : InitialiserTree → Type 0
  FitsInitialiser (ByExpr l e) = (1 ≤ rank e) × Parts e
  FitsInitialiser (Braced l is comma) = OneInitialiser is × FitsInitialisers is

  pub FitsInitialisers : InitialiserTrees → Type 0
  FitsInitialisers NoInitialisers = Unit {0}
  FitsInitialisers (Initialisers i is) = FitsInitialiser i × FitsInitialisers is

abbrev pub FitsOption : Option InitialiserTree → Type 0
FitsOption None = Unit {0}
FitsOption (Some i) = FitsInitialiser i

abbrev pub FitsInit : InitTree → Type 0
FitsInit i = (is_named i.declarator ≡ true) × FitsDeclarator i.declarator × FitsOption i.initialiser

abbrev pub FitsInits : List InitTree → Type 0
FitsInits [] = Unit {0}
FitsInits (i ∷ is) = FitsInit i × FitsInits is

abbrev pub FitsDeclaration : DeclarationTree → Type 0
FitsDeclaration d = FitsSpecifiers d.specifiers × FitsInits d.declarators

abbrev pub FitsDeclarations : List DeclarationTree → Type 0
FitsDeclarations [] = Unit {0}
FitsDeclarations (d ∷ ds) = FitsDeclaration d × FitsDeclarations ds

abbrev mutual
  pub FitsStatement : StatementTree → Type 0
  FitsStatement (Label l n s) = FitsStatement s
  FitsStatement (Case l e s) = (2 ≤ rank e) × Parts e × FitsStatement s
  FitsStatement (Default l s) = FitsStatement s
  FitsStatement (Expression l e) = FitsMaybe e 0
  FitsStatement (Compound l b) = FitsBlock b
  FitsStatement (If l e s) = Parts e × FitsStatement s
  FitsStatement (IfElse l e s t) = Parts e × FitsStatement s × FitsStatement t
  FitsStatement (Switch l e s) = Parts e × FitsStatement s
  FitsStatement (While l e s) = Parts e × FitsStatement s
  FitsStatement (Do l s e) = FitsStatement s × Parts e
  FitsStatement (For l a b c s) = FitsMaybe a 0 × FitsMaybe b 0 × FitsMaybe c 0 × FitsStatement s
  FitsStatement (Goto l n) = Unit {0}
  FitsStatement (Continue l) = Unit {0}
  FitsStatement (Break l) = Unit {0}
  FitsStatement (Return l e) = FitsMaybe e 0

  pub FitsStatements : StatementTrees → Type 0
  FitsStatements NoStatements = Unit {0}
  FitsStatements (Statements s ss) = FitsStatement s × FitsStatements ss

  pub FitsBlock : BlockTree → Type 0
  FitsBlock (Block l ds ss) = FitsDeclarations ds × FitsStatements ss

abbrev pub FitsMaybeSpecifiers : Option SpecifiersTree → Type 0
FitsMaybeSpecifiers None = Unit {0}
FitsMaybeSpecifiers (Some s) = FitsSpecifiers s

abbrev pub FitsExternal : ExternalTree → Type 0
FitsExternal (Function l s d ps b) = FitsMaybeSpecifiers s × (is_named d ≡ true) × FitsDeclarator d × FitsDeclarations ps × FitsBlock b
FitsExternal (Declares l d) = FitsDeclaration d
FitsExternal (Empty l) = Unit {0}

abbrev pub FitsExternals : List ExternalTree → Type 0
FitsExternals [] = Unit {0}
FitsExternals (x ∷ xs) = FitsExternal x × FitsExternals xs

-- a lone `;` isn't the first
abbrev pub FitsFirst : List ExternalTree → Type 0
FitsFirst [] = ⊥
FitsFirst (Function l s d ps b ∷ xs) = Unit {0}
FitsFirst (Declares l d ∷ xs) = Unit {0}
FitsFirst (Empty l ∷ xs) = ⊥

abbrev pub FitsUnit : UnitTree → Type 0
FitsUnit u = FitsFirst u.externals × FitsExternals u.externals
