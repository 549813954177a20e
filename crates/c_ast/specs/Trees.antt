-- Syntax trees, without where they lie in memory: one type for each production, its parts in order behind the line of its
-- first token.
-- Source: C89 3.3 to 3.7.
use Rattle.std.specs.Prelude.{ℕ, ℤ, Bool, Option, List}
use Rattle.c_ast.specs.declared.class.IntKind.{IntKind}
use Rattle.c_ast.specs.declared.operator.BinaryOperator.{BinaryOperator}
use Rattle.c_ast.specs.declared.operator.AssignOperator.{AssignOperator}
use Rattle.c_ast.specs.declared.operator.PrefixOperator.{PrefixOperator}
use Rattle.c_ast.specs.declared.operator.PostfixOperator.{PostfixOperator}
use Rattle.c_ast.specs.declared.operator.MemberOperator.{MemberOperator}
use Rattle.c_ast.specs.declared.specifier.Storage.{Storage}
use Rattle.c_ast.specs.declared.specifier.Qualifier.{Qualifier}
use Rattle.c_ast.specs.declared.specifier.BasicType.{BasicType}
use Rattle.c_ast.specs.declared.specifier.RecordKind.{RecordKind}

mutual
  pub data ExprTree : Type 0 where
    Name : (line : ℕ) (name : List ℕ) → ExprTree
    Integer : (line value : ℕ) (kind : IntKind) → ExprTree
    Character : (line : ℕ) (value : ℤ) → ExprTree
    Text : (line : ℕ) (texts : List (List ℕ)) → ExprTree
    Enclosed : (line : ℕ) (e : ExprTree) → ExprTree
    Index : (line : ℕ) (a i : ExprTree) → ExprTree
    Call : (line : ℕ) (f : ExprTree) (args : ExprTrees) → ExprTree
    Member : (line : ℕ) (op : MemberOperator) (a : ExprTree) (name : List ℕ) → ExprTree
    Postfix : (line : ℕ) (op : PostfixOperator) (a : ExprTree) → ExprTree
    Prefix : (line : ℕ) (op : PrefixOperator) (a : ExprTree) → ExprTree
    SizeofExpr : (line : ℕ) (a : ExprTree) → ExprTree
    SizeofType : (line : ℕ) (t : TypeNameTree) → ExprTree
    Cast : (line : ℕ) (t : TypeNameTree) (a : ExprTree) → ExprTree
    Binary : (line : ℕ) (op : BinaryOperator) (a b : ExprTree) → ExprTree
    Conditional : (line : ℕ) (a b c : ExprTree) → ExprTree
    Assign : (line : ℕ) (op : AssignOperator) (a b : ExprTree) → ExprTree
    Comma : (line : ℕ) (parts : ExprTrees) → ExprTree

  pub data ExprTrees : Type 0 where
    NoExprs : ExprTrees
    Exprs : (e : ExprTree) (others : ExprTrees) → ExprTrees

  pub data MaybeExpr : Type 0 where
    NoExpr : MaybeExpr
    AnExpr : (e : ExprTree) → MaybeExpr

  pub data TypeNameTree : Type 0 where
    TypeNamed : (line : ℕ) (specifiers : SpecifiersTree) (declarator : MaybeDeclarator) → TypeNameTree

  pub data SpecifiersTree : Type 0 where
    Specified : (line : ℕ) (list : SpecifierTrees) → SpecifiersTree

  pub data SpecifierTree : Type 0 where
    Stored : (line : ℕ) (storage : Storage) → SpecifierTree
    Qualified : (line : ℕ) (qualifier : Qualifier) → SpecifierTree
    Basic : (line : ℕ) (basic : BasicType) → SpecifierTree
    Record : (line : ℕ) (kind : RecordKind) (tag : Option (List ℕ)) (members : MemberTrees) → SpecifierTree
    RecordTag : (line : ℕ) (kind : RecordKind) (tag : List ℕ) → SpecifierTree
    Enum : (line : ℕ) (tag : Option (List ℕ)) (enumerators : EnumeratorTrees) (comma : Bool) → SpecifierTree
    EnumTag : (line : ℕ) (tag : List ℕ) → SpecifierTree
    NamedType : (line : ℕ) (name : List ℕ) → SpecifierTree

  pub data SpecifierTrees : Type 0 where
    NoSpecifiers : SpecifierTrees
    Specifiers : (s : SpecifierTree) (others : SpecifierTrees) → SpecifierTrees

  pub data MemberTree : Type 0 where
    Members : (line : ℕ) (specifiers : SpecifiersTree) (fields : FieldTrees) → MemberTree

  pub data MemberTrees : Type 0 where
    NoMembers : MemberTrees
    MoreMembers : (m : MemberTree) (others : MemberTrees) → MemberTrees

  -- a member's declarator, its width, or both
  pub data FieldTree : Type 0 where
    Field : (line : ℕ) (declarator : MaybeDeclarator) (width : MaybeExpr) → FieldTree

  pub data FieldTrees : Type 0 where
    NoFields : FieldTrees
    Fields : (f : FieldTree) (others : FieldTrees) → FieldTrees

  pub data EnumeratorTree : Type 0 where
    Enumerator : (line : ℕ) (name : List ℕ) (value : MaybeExpr) → EnumeratorTree

  pub data EnumeratorTrees : Type 0 where
    NoEnumerators : EnumeratorTrees
    Enumerators : (e : EnumeratorTree) (others : EnumeratorTrees) → EnumeratorTrees

  pub data DeclaratorTree : Type 0 where
    Declarator : (line : ℕ) (pointers : List (List Qualifier)) (core : CoreTree) (suffixes : SuffixTrees) → DeclaratorTree

  pub data MaybeDeclarator : Type 0 where
    NoDeclarator : MaybeDeclarator
    ADeclarator : (d : DeclaratorTree) → MaybeDeclarator

  pub data CoreTree : Type 0 where
    Named : (name : List ℕ) → CoreTree
    Inner : (d : DeclaratorTree) → CoreTree
    Omitted : CoreTree

  pub data SuffixTree : Type 0 where
    ArraySuffix : (line : ℕ) (size : MaybeExpr) → SuffixTree
    Prototype : (line : ℕ) (parameters : ParameterTrees) (more : Bool) → SuffixTree
    NameList : (line : ℕ) (names : List (List ℕ)) → SuffixTree
    NoParameters : (line : ℕ) → SuffixTree

  pub data SuffixTrees : Type 0 where
    NoSuffixes : SuffixTrees
    Suffixes : (s : SuffixTree) (others : SuffixTrees) → SuffixTrees

  pub data ParameterTree : Type 0 where
    Parameter : (line : ℕ) (specifiers : SpecifiersTree) (declarator : MaybeDeclarator) → ParameterTree

  pub data ParameterTrees : Type 0 where
    NoParameter : ParameterTrees
    Parameters : (p : ParameterTree) (others : ParameterTrees) → ParameterTrees

mutual
  pub data InitialiserTree : Type 0 where
    ByExpr : (line : ℕ) (e : ExprTree) → InitialiserTree
    Braced : (line : ℕ) (items : InitialiserTrees) (comma : Bool) → InitialiserTree

  pub data InitialiserTrees : Type 0 where
    NoInitialisers : InitialiserTrees
    Initialisers : (i : InitialiserTree) (others : InitialiserTrees) → InitialiserTrees

-- a declarator, and its initialiser
pub record InitTree : Type 0 where
  pub line : ℕ
  pub declarator : DeclaratorTree
  pub initialiser : Option InitialiserTree

pub record DeclarationTree : Type 0 where
  pub line : ℕ
  pub specifiers : SpecifiersTree
  pub declarators : List InitTree

mutual
  pub data StatementTree : Type 0 where
    Label : (line : ℕ) (name : List ℕ) (s : StatementTree) → StatementTree
    Case : (line : ℕ) (e : ExprTree) (s : StatementTree) → StatementTree
    Default : (line : ℕ) (s : StatementTree) → StatementTree
    Expression : (line : ℕ) (e : MaybeExpr) → StatementTree
    Compound : (line : ℕ) (b : BlockTree) → StatementTree
    If : (line : ℕ) (e : ExprTree) (s : StatementTree) → StatementTree
    IfElse : (line : ℕ) (e : ExprTree) (s t : StatementTree) → StatementTree
    Switch : (line : ℕ) (e : ExprTree) (s : StatementTree) → StatementTree
    While : (line : ℕ) (e : ExprTree) (s : StatementTree) → StatementTree
    Do : (line : ℕ) (s : StatementTree) (e : ExprTree) → StatementTree
    For : (line : ℕ) (a b c : MaybeExpr) (s : StatementTree) → StatementTree
    Goto : (line : ℕ) (name : List ℕ) → StatementTree
    Continue : (line : ℕ) → StatementTree
    Break : (line : ℕ) → StatementTree
    Return : (line : ℕ) (e : MaybeExpr) → StatementTree

  pub data StatementTrees : Type 0 where
    NoStatements : StatementTrees
    Statements : (s : StatementTree) (others : StatementTrees) → StatementTrees

  pub data BlockTree : Type 0 where
    Block : (line : ℕ) (declarations : List DeclarationTree) (statements : StatementTrees) → BlockTree

pub data ExternalTree : Type 0 where
  Function : (line : ℕ) (specifiers : Option SpecifiersTree) (declarator : DeclaratorTree) (parameters : List DeclarationTree) (body : BlockTree) → ExternalTree
  Declares : (line : ℕ) (declaration : DeclarationTree) → ExternalTree
  Empty : (line : ℕ) → ExternalTree

pub record UnitTree : Type 0 where
  pub line : ℕ
  pub externals : List ExternalTree
