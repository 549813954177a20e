-- Constructs of C whose parts are typed: what the rows and the constraints speak of.
-- Source: C89 3.3, 3.5.
use Rattle.std.specs.Prelude.{ℕ, ℤ, Bool, Option, List}
use Rattle.c_ast.specs.declared.class.IntKind.{IntKind}
use Rattle.c_ast.specs.declared.operator.BinaryOperator.{BinaryOperator}
use Rattle.c_ast.specs.declared.operator.AssignOperator.{AssignOperator}
use Rattle.c_ast.specs.declared.operator.PrefixOperator.{PrefixOperator}
use Rattle.c_ast.specs.declared.operator.PostfixOperator.{PostfixOperator}
use Rattle.c_ast.specs.declared.operator.MemberOperator.{MemberOperator}
use Rattle.c_ast.specs.declared.specifier.Storage.{Storage}
use Rattle.c_ast.specs.declared.specifier.Qualifier.{Qualifier}
use Rattle.c_ast.specs.declared.specifier.BasicType.{BasicType}
use Rattle.c_ast.specs.declared.specifier.RecordKind.{RecordKind}
use Rattle.c_types.specs.CType.{CType}
use Rattle.c_types.specs.Layout.{MemberType}
use Rattle.c_meaning.specs.Values.{CoreTree, CoreTrees}

-- expressions
pub data ExprNode : Type 0 where
  Name : (name : List ℕ) → ExprNode
  -- a name that is called and was not declared
  NewFunction : (name : List ℕ) → ExprNode
  Integer : (value : ℕ) (kind : IntKind) → ExprNode
  Character : (value : ℤ) → ExprNode
  Text : (texts : List (List ℕ)) → ExprNode
  Index : (a i : CoreTree) → ExprNode
  Call : (callee : CoreTree) (arguments : CoreTrees) → ExprNode
  Member : (op : MemberOperator) (a : CoreTree) (name : List ℕ) → ExprNode
  Postfix : (op : PostfixOperator) (a : CoreTree) → ExprNode
  Prefix : (op : PrefixOperator) (a : CoreTree) → ExprNode
  SizeofExpr : (a : CoreTree) → ExprNode
  SizeofType : (of : CType) → ExprNode
  Cast : (to : CType) (a : CoreTree) → ExprNode
  Binary : (op : BinaryOperator) (a b : CoreTree) → ExprNode
  Conditional : (a b c : CoreTree) → ExprNode
  Assign : (op : AssignOperator) (a b : CoreTree) → ExprNode
  Comma : (parts : CoreTrees) → ExprNode

-- one specifier of a list: a storage class, a qualifier, a word, or a whole type
pub data Part : Type 0 where
  Stored : (class : Storage) → Part
  Qualified : (qualifier : Qualifier) → Part
  Word : (word : BasicType) → Part
  Whole : (of : CType) → Part

-- a parameter of a prototype: its name, if it has one, and its type, which is no array and no function
pub record NamedParameter : Type 0 where
  pub name : Option (List ℕ)
  pub of : CType

-- What a declarator makes of a type, step by step: a pointer with qualifiers; an array with the expression of its size,
-- if there is any; a function with parameters, perhaps with `...` behind them, and the names that were in force at
-- their end; a function with the names of its parameters, or with nothing said of them.
pub data Step : Type 0 where
  ToPointer : (qualifiers : ℕ) → Step
  ToArray : (size : Option CoreTree) → Step
  ToFunction : (parameters : List NamedParameter) (more : Bool) (scope : List (List ℕ × ℕ)) → Step
  ToNamed : (names : List (List ℕ)) → Step
  ToOpen : Step

-- specifiers, declarators, and what they are made of
pub data TypeNode : Type 0 where
  Specifiers : (parts : List Part) → TypeNode
  -- a structure or union with its members, the how-manieth declared it is
  Record : (kind : RecordKind) (tag : Option (List ℕ)) (number : ℕ) (members : List MemberType) → TypeNode
  RecordTag : (kind : RecordKind) (tag : List ℕ) → TypeNode
  Enumeration : (tag : Option (List ℕ)) → TypeNode
  EnumerationTag : (tag : List ℕ) → TypeNode
  -- an enumerator, and the value that it has where none is written
  Enumerator : (name : List ℕ) (value : Option CoreTree) (next : ℤ) → TypeNode
  -- a member behind others, and its width where it is a bit-field
  Field : (before : List MemberType) (name : Option (List ℕ)) (of : CType) (width : Option CoreTree) → TypeNode
  -- a declarator of a type name or a member, over the type of the specifiers
  Declarator : (base : CType) (steps : List Step) → TypeNode
  ParameterDeclarator : (name : Option (List ℕ)) (base : CType) (steps : List Step) → TypeNode
  -- a parameter, and whether it stands alone
  Parameter : (classes : List Storage) (name : Option (List ℕ)) (of : CType) (alone : Bool) → TypeNode

pub data Node : Type 0 where
  Expression : (node : ExprNode) → Node
  Typing : (node : TypeNode) → Node
