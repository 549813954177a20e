-- What stands behind an expression and makes one with it.
-- Source: C89 3.3.2 to 3.3.16.
use Rattle.std.specs.Prelude.{ℕ, Option, Some, None, List, if◌then◌else◌}
use Rattle.c_ast.specs.declared.operator.BinaryOperator.{BinaryOperator}
use Rattle.c_ast.specs.declared.operator.AssignOperator.{AssignOperator}
use Rattle.c_ast.specs.declared.operator.PostfixOperator.{PostfixOperator}
use Rattle.c_ast.specs.declared.operator.MemberOperator.{MemberOperator}
use Rattle.c_ast.specs.Trees.{ExprTree, Index, Call, Binary, Conditional, Assign, ExprTrees}
use Rattle.c_ast.specs.Trees as tree
use Rattle.c_ast.specs.Lexemes.{Lexeme}
use Rattle.c_ast.specs.Reach.{LinkKind, links, link_of}

pub data LinkTree : Type 0 where
  Indexed : (i : ExprTree) → LinkTree
  Arguments : (es : ExprTrees) → LinkTree
  Member : (op : MemberOperator) (name : List ℕ) → LinkTree
  Postfix : (op : PostfixOperator) → LinkTree
  Operand : (op : BinaryOperator) (b : ExprTree) → LinkTree
  Choices : (b c : ExprTree) → LinkTree
  Value : (op : AssignOperator) (b : ExprTree) → LinkTree

-- the expression that it makes with what stands before it
abbrev pub linked : ℕ → ExprTree → LinkTree → ExprTree
linked l a (Indexed i) = Index l a i
linked l a (Arguments es) = Call l a es
linked l a (Member op n) = tree.Member l op a n
linked l a (Postfix op) = tree.Postfix l op a
linked l a (Operand op b) = Binary l op a b
linked l a (Choices b c) = Conditional l a b c
linked l a (Value op b) = Assign l op a b

abbrev pub reaching : ℕ → ℕ → Option LinkKind → Option LinkKind
reaching level rank None = None
reaching level rank (Some k) = if links level rank (Some k) then Some k else None

-- what the token makes of an expression of the rank before it, at the level
abbrev pub kind_at : ℕ → ℕ → Lexeme → Option LinkKind
kind_at level rank l = reaching level rank (link_of l)
