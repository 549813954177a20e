-- Which token goes on from an expression: an operator that binds what stands before it.
-- Source: C89 3.3.
use Rattle.std.specs.Prelude.{◌≡◌, ◌+◌, ◌==◌, if◌then◌else◌, ℕ, Bool, false, ◌||◌, ◌&&◌, Option, Some, None, nat_le, List}
use Rattle.c_ast.specs.declared.operator.BinaryOperator.{BinaryOperator}
use Rattle.c_ast.specs.declared.operator.BinaryOperator.TheVariants as binary
use Rattle.c_ast.specs.declared.operator.AssignOperator.{AssignOperator}
use Rattle.c_ast.specs.declared.operator.AssignOperator.TheVariants as assign
use Rattle.c_ast.specs.declared.operator.PostfixOperator.{PostfixOperator}
use Rattle.c_ast.specs.declared.operator.PostfixOperator.TheVariants as postfix
use Rattle.c_ast.specs.declared.operator.MemberOperator.{MemberOperator}
use Rattle.c_ast.specs.declared.operator.MemberOperator.TheVariants as member
use Rattle.c_ast.specs.Lexemes.{Lexeme, Name, Keyword, Integer, Character, Text, Sign}
use Rattle.c_ast.specs.Operators.{level_of, operand_level, binary_sign, assign_sign, postfix_sign, member_sign, assignment_level, conditional_level, cast_level, unary_level, postfix_level}
use Rattle.c_ast.specs.Trees.{ExprTree, Enclosed, Member, Postfix, Prefix, SizeofExpr, SizeofType, Cast, Binary, Conditional, Comma, ExprTrees, NoExprs, Exprs}
use Rattle.c_ast.specs.Trees as tree
use Rattle.c_ast.specs.Levels.{rank}
use Rattle.c_ast.specs.Marks.{Mark, next, is_sign}
use Rattle.c_ast.specs.Signs.{open_bracket, open_parenthesis, dot_sign, arrow_sign, increment_sign, decrement_sign, ampersand, star_sign, plus_sign, minus_sign, slash, percent_sign, shift_left_sign, shift_right_sign, less_sign, greater_sign, less_equal_sign, greater_equal_sign, equal_sign, not_equal_sign, caret, bar, and_sign, or_sign, question_mark, equals_sign, star_equals, slash_equals, percent_equals, plus_equals, minus_equals, shift_left_equals, shift_right_equals, ampersand_equals, caret_equals, bar_equals, comma_sign}

-- what a token makes of the expression before it
pub data LinkKind : Type 0 where
  Index : LinkKind
  Call : LinkKind
  Select : (op : MemberOperator) → LinkKind
  Step : (op : PostfixOperator) → LinkKind
  Operate : (op : BinaryOperator) → LinkKind
  Question : LinkKind
  Assign : (op : AssignOperator) → LinkKind

abbrev pub sign_of_link : LinkKind → ℕ
sign_of_link Index = open_bracket
sign_of_link Call = open_parenthesis
sign_of_link (Select op) = member_sign op
sign_of_link (Step op) = postfix_sign op
sign_of_link (Operate op) = binary_sign op
sign_of_link Question = question_mark
sign_of_link (Assign op) = assign_sign op

abbrev pub link_of_sign : ℕ → Option LinkKind
link_of_sign k =
    if k == open_bracket then Some Index
    else (if k == open_parenthesis then Some Call
    else (if k == dot_sign then Some (Select member.Dot)
    else (if k == arrow_sign then Some (Select member.Arrow)
    else (if k == increment_sign then Some (Step postfix.Increment)
    else (if k == decrement_sign then Some (Step postfix.Decrement)
    else (if k == ampersand then Some (Operate binary.BitAnd)
    else (if k == star_sign then Some (Operate binary.Multiply)
    else (if k == plus_sign then Some (Operate binary.Add)
    else (if k == minus_sign then Some (Operate binary.Subtract)
    else (if k == slash then Some (Operate binary.Divide)
    else (if k == percent_sign then Some (Operate binary.Remainder)
    else (if k == shift_left_sign then Some (Operate binary.ShiftLeft)
    else (if k == shift_right_sign then Some (Operate binary.ShiftRight)
    else (if k == less_sign then Some (Operate binary.Less)
    else (if k == greater_sign then Some (Operate binary.Greater)
    else (if k == less_equal_sign then Some (Operate binary.LessEqual)
    else (if k == greater_equal_sign then Some (Operate binary.GreaterEqual)
    else (if k == equal_sign then Some (Operate binary.Equal)
    else (if k == not_equal_sign then Some (Operate binary.NotEqual)
    else (if k == caret then Some (Operate binary.BitXor)
    else (if k == bar then Some (Operate binary.BitOr)
    else (if k == and_sign then Some (Operate binary.And)
    else (if k == or_sign then Some (Operate binary.Or)
    else (if k == question_mark then Some Question
    else (if k == equals_sign then Some (Assign assign.Plain)
    else (if k == star_equals then Some (Assign assign.Multiply)
    else (if k == slash_equals then Some (Assign assign.Divide)
    else (if k == percent_equals then Some (Assign assign.Remainder)
    else (if k == plus_equals then Some (Assign assign.Add)
    else (if k == minus_equals then Some (Assign assign.Subtract)
    else (if k == shift_left_equals then Some (Assign assign.ShiftLeft)
    else (if k == shift_right_equals then Some (Assign assign.ShiftRight)
    else (if k == ampersand_equals then Some (Assign assign.BitAnd)
    else (if k == caret_equals then Some (Assign assign.BitXor)
    else (if k == bar_equals then Some (Assign assign.BitOr) else None)))))))))))))))))))))))))))))))))))

abbrev pub link_of : Lexeme → Option LinkKind
link_of (Sign k) = link_of_sign k
link_of (Name n) = None
link_of (Keyword k) = None
link_of (Integer v k) = None
link_of (Character v) = None
link_of (Text b) = None

-- the rank that it needs before it
abbrev pub needed : LinkKind → ℕ
needed Index = postfix_level
needed Call = postfix_level
needed (Select op) = postfix_level
needed (Step op) = postfix_level
needed (Operate op) = level_of op
needed Question = 3
needed (Assign op) = unary_level

-- the rank of what it makes
abbrev pub made : LinkKind → ℕ
made Index = postfix_level
made Call = postfix_level
made (Select op) = postfix_level
made (Step op) = postfix_level
made (Operate op) = level_of op
made Question = conditional_level
made (Assign op) = assignment_level

abbrev pub links : ℕ → ℕ → Option LinkKind → Bool
links level rank None = false
links level rank (Some k) = nat_le level (made k) && nat_le (needed k) rank

-- the token goes on from what is of the rank, at the level
abbrev pub extends : ℕ → ℕ → Lexeme → Bool
extends level rank l = links level rank (link_of l)

abbrev mutual
  -- the token goes on from the last part of the expression
  pub behind : ExprTree → Lexeme → Bool
  behind (tree.Name l n) t = false
  behind (tree.Integer l v k) t = false
  behind (tree.Character l v) t = false
  behind (tree.Text l bs) t = false
  behind (Enclosed l e) t = false
  behind (tree.Index l a i) t = false
  behind (tree.Call l f es) t = false
  behind (Member l op a n) t = false
  behind (Postfix l op a) t = false
  behind (Prefix l op a) t = extends (operand_level op) (rank a) t || behind a t
  behind (SizeofExpr l a) t = extends unary_level (rank a) t || behind a t
  behind (SizeofType l n) t = false
  behind (Cast l n a) t = extends cast_level (rank a) t || behind a t
  behind (Binary l op a b) t = extends (level_of op + 1) (rank b) t || behind b t
  behind (Conditional l a b c) t = extends conditional_level (rank c) t || behind c t
  behind (tree.Assign l op a b) t = extends assignment_level (rank b) t || behind b t
  behind (Comma l es) t = behind_last es t false

  -- the last one's, where there is one
  pub behind_last : ExprTrees → Lexeme → Bool → Bool
  behind_last NoExprs t other = other
  behind_last (Exprs e es) t other = behind_last es t (extends assignment_level (rank e) t || behind e t)

-- the token goes on from the expression, which is of the level, 1 or more
abbrev pub goes_on : ℕ → ExprTree → Lexeme → Bool
goes_on level e t = extends level (rank e) t || behind e t

-- the same of an expression of level 0, from which a comma goes on
abbrev pub goes_on_whole : ExprTree → Lexeme → Bool
goes_on_whole e t = is_sign comma_sign t || goes_on assignment_level e t

-- what is next doesn't go on from the expression
abbrev pub Stops : ℕ → ExprTree → List Mark → Type 0
Stops level e r = (t : Lexeme) → next r ≡ Some t → goes_on level e t ≡ false

abbrev pub StopsWhole : ExprTree → List Mark → Type 0
StopsWhole e r = (t : Lexeme) → next r ≡ Some t → goes_on_whole e t ≡ false
