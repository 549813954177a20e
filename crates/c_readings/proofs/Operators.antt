-- Operators: their signs, and which of them go on from an expression.
use Rattle.std.proofs.Common.{◌≡◌, ◌≤◌, ◌<◌, ◌+◌, ◌==◌, ◌&&◌, ◌||◌, ℕ, Bool, true, false, nat_le, Some, None, List, ◌∷◌, refl, ap, ◌∙◌, subst, arith}
use Rattle.std.proofs.lemmas.Bool.Decides.{nat_tests}
use Rattle.c_ast.specs.declared.operator.BinaryOperator.{BinaryOperator}
use Rattle.c_ast.specs.declared.operator.BinaryOperator.TheVariants as binary
use Rattle.c_ast.specs.declared.operator.AssignOperator.TheVariants as assign
use Rattle.c_ast.specs.declared.operator.PrefixOperator.{PrefixOperator}
use Rattle.c_ast.specs.declared.operator.PrefixOperator.TheVariants as prefix
use Rattle.c_ast.specs.declared.operator.PostfixOperator.TheVariants as postfix
use Rattle.c_ast.specs.declared.operator.MemberOperator.TheVariants as member
use Rattle.c_ast.specs.Lexemes.{Lexeme, Sign}
use Rattle.c_ast.specs.Operators.{level_of, operand_level, prefix_sign}
use Rattle.c_ast.specs.Marks.{Mark, Tok, next, is_sign}
use Rattle.c_ast.specs.Levels.{rank, Parts}
use Rattle.c_ast.specs.Reach.{LinkKind, Index, Call, Select, Step, Operate, Question, Assign, sign_of_link, link_of, needed, made, links, extends, behind, behind_last, goes_on, goes_on_whole}
use Rattle.c_ast.specs.Trees.{ExprTree, Name, Integer, Character, Text, Enclosed, Member, Postfix, Prefix, SizeofExpr, SizeofType, Cast, Binary, Conditional, Comma, ExprTrees, NoExprs, Exprs}
use Rattle.c_ast.specs.Trees as tree
use Rattle.c_readings.specs.Words.{prefix_of}
use Rattle.c_readings.specs.Exact.{Stops}

pub or_first : (a b : Bool) → (a || b) ≡ false → a ≡ false
or_first true b h = absurd cc
or_first false b h = refl

pub or_second : (a b : Bool) → (a || b) ≡ false → b ≡ false
or_second true b h = absurd cc
or_second false b h = h

pub or_none : (a b : Bool) → a ≡ false → b ≡ false → (a || b) ≡ false
or_none true b h k = absurd cc
or_none false b h k = k

-- ---- signs

pub link_sign : (k : LinkKind) → link_of (Sign (sign_of_link k)) ≡ Some k
link_sign Index = refl
link_sign Call = refl
link_sign (Select member.Dot) = refl
link_sign (Select member.Arrow) = refl
link_sign (Step postfix.Increment) = refl
link_sign (Step postfix.Decrement) = refl
link_sign (Operate binary.Or) = refl
link_sign (Operate binary.And) = refl
link_sign (Operate binary.BitOr) = refl
link_sign (Operate binary.BitXor) = refl
link_sign (Operate binary.BitAnd) = refl
link_sign (Operate binary.Equal) = refl
link_sign (Operate binary.NotEqual) = refl
link_sign (Operate binary.Less) = refl
link_sign (Operate binary.Greater) = refl
link_sign (Operate binary.LessEqual) = refl
link_sign (Operate binary.GreaterEqual) = refl
link_sign (Operate binary.ShiftLeft) = refl
link_sign (Operate binary.ShiftRight) = refl
link_sign (Operate binary.Add) = refl
link_sign (Operate binary.Subtract) = refl
link_sign (Operate binary.Multiply) = refl
link_sign (Operate binary.Divide) = refl
link_sign (Operate binary.Remainder) = refl
link_sign Question = refl
link_sign (Assign assign.Plain) = refl
link_sign (Assign assign.Multiply) = refl
link_sign (Assign assign.Divide) = refl
link_sign (Assign assign.Remainder) = refl
link_sign (Assign assign.Add) = refl
link_sign (Assign assign.Subtract) = refl
link_sign (Assign assign.ShiftLeft) = refl
link_sign (Assign assign.ShiftRight) = refl
link_sign (Assign assign.BitAnd) = refl
link_sign (Assign assign.BitXor) = refl
link_sign (Assign assign.BitOr) = refl

pub prefix_known : (op : PrefixOperator) → (prefix_of (prefix_sign op) ≡ Some op) × ((prefix_sign op == 2) ≡ false)
prefix_known prefix.Increment = (refl, refl)
prefix_known prefix.Decrement = (refl, refl)
prefix_known prefix.Address = (refl, refl)
prefix_known prefix.Indirect = (refl, refl)
prefix_known prefix.Plus = (refl, refl)
prefix_known prefix.Minus = (refl, refl)
prefix_known prefix.Complement = (refl, refl)
prefix_known prefix.Not = (refl, refl)

pub operand_levels : (op : PrefixOperator) → (13 ≤ operand_level op) × (operand_level op ≤ 14)
operand_levels prefix.Increment = (omega arith, omega arith)
operand_levels prefix.Decrement = (omega arith, omega arith)
operand_levels prefix.Address = (omega arith, omega arith)
operand_levels prefix.Indirect = (omega arith, omega arith)
operand_levels prefix.Plus = (omega arith, omega arith)
operand_levels prefix.Minus = (omega arith, omega arith)
operand_levels prefix.Complement = (omega arith, omega arith)
operand_levels prefix.Not = (omega arith, omega arith)

pub op_level : (op : BinaryOperator) → (3 ≤ level_of op) × (level_of op ≤ 12)
op_level binary.Or = (omega arith, omega arith)
op_level binary.And = (omega arith, omega arith)
op_level binary.BitOr = (omega arith, omega arith)
op_level binary.BitXor = (omega arith, omega arith)
op_level binary.BitAnd = (omega arith, omega arith)
op_level binary.Equal = (omega arith, omega arith)
op_level binary.NotEqual = (omega arith, omega arith)
op_level binary.Less = (omega arith, omega arith)
op_level binary.Greater = (omega arith, omega arith)
op_level binary.LessEqual = (omega arith, omega arith)
op_level binary.GreaterEqual = (omega arith, omega arith)
op_level binary.ShiftLeft = (omega arith, omega arith)
op_level binary.ShiftRight = (omega arith, omega arith)
op_level binary.Add = (omega arith, omega arith)
op_level binary.Subtract = (omega arith, omega arith)
op_level binary.Multiply = (omega arith, omega arith)
op_level binary.Divide = (omega arith, omega arith)
op_level binary.Remainder = (omega arith, omega arith)

-- ---- what links need and make

pub made_needed : (k : LinkKind) → made k ≤ needed k
made_needed Index = omega arith
made_needed Call = omega arith
made_needed (Select op) = omega arith
made_needed (Step op) = omega arith
made_needed (Operate op) = omega arith
made_needed Question = omega arith
made_needed (Assign op) = omega arith

-- what needs no postfix expression makes none of a cast or above
made_low : (k : LinkKind) → needed k ≤ 14 → made k ≤ 12
made_low Index h = absurd (omega arith)
made_low Call h = absurd (omega arith)
made_low (Select op) h = absurd (omega arith)
made_low (Step op) h = absurd (omega arith)
made_low (Operate op) h = (op_level op).1
made_low Question h = omega arith
made_low (Assign op) h = omega arith

-- what makes something below a postfix expression makes none of a cast or above
made_below : (k : LinkKind) (n : ℕ) → made k < n → n ≤ 15 → made k ≤ 12
made_below Index n h l = absurd (omega arith)
made_below Call n h l = absurd (omega arith)
made_below (Select op) n h l = absurd (omega arith)
made_below (Step op) n h l = absurd (omega arith)
made_below (Operate op) n h l = (op_level op).1
made_below Question n h l = omega arith
made_below (Assign op) n h l = omega arith

pub needed_some : (k : LinkKind) → 3 ≤ needed k
needed_some Index = omega arith
needed_some Call = omega arith
needed_some (Select op) = omega arith
needed_some (Step op) = omega arith
needed_some (Operate op) = (op_level op).0
needed_some Question = omega arith
needed_some (Assign op) = omega arith

extends_is : (k : LinkKind) (level rank : ℕ) → extends level rank (Sign (sign_of_link k)) ≡ (nat_le level (made k) && nat_le (needed k) rank)
extends_is k level rank = ap (links level rank) (link_sign k)

not_low : (k : LinkKind) (level rank : ℕ) → made k < level → extends level rank (Sign (sign_of_link k)) ≡ false
not_low k level rank h =
    let e : nat_le level (made k) ≡ false = grind (arith, nat_tests) in
    extends_is k level rank ∙ ap (λ b. b && nat_le (needed k) rank) e

pub does_extend : (k : LinkKind) (level rank : ℕ) → level ≤ made k → needed k ≤ rank → extends level rank (Sign (sign_of_link k)) ≡ true
does_extend k level rank h p =
    let e : nat_le level (made k) ≡ true = grind (arith, nat_tests) in
    let f : nat_le (needed k) rank ≡ true = grind (arith, nat_tests) in
    extends_is k level rank ∙ ap (λ b. b && nat_le (needed k) rank) e ∙ f

-- ---- a token of a lower level goes on from no part within

pub closed : (e : ExprTree) (k : LinkKind) (level : ℕ) → 1 ≤ level → level ≤ rank e → Parts e → made k < level → behind e (Sign (sign_of_link k)) ≡ false
closed (Name l n) k level o p f h = refl
closed (Integer l v i) k level o p f h = refl
closed (Character l v) k level o p f h = refl
closed (Text l bs) k level o p f h = refl
closed (Enclosed l e) k level o p f h = refl
closed (tree.Index l a i) k level o p f h = refl
closed (tree.Call l a es) k level o p f h = refl
closed (Member l op a n) k level o p f h = refl
closed (Postfix l op a) k level o p f h = refl
closed (Prefix l op a) k level o p f h =
    let g = made_below k level h (omega arith) in let d = operand_levels op in
    or_none _ _ (not_low k (operand_level op) (rank a) (omega (arith, d.0, g))) (closed a k (operand_level op) (omega (arith, d.0)) f.0 f.1 (omega (arith, d.0, g)))
closed (SizeofExpr l a) k level o p f h =
    let g = made_below k level h (omega arith) in
    or_none _ _ (not_low k 14 (rank a) (omega arith)) (closed a k 14 (omega arith) f.0 f.1 (omega arith))
closed (SizeofType l t) k level o p f h = refl
closed (Cast l t a) k level o p f h = or_none _ _ (not_low k 13 (rank a) (omega arith)) (closed a k 13 (omega arith) f.1 f.2 (omega arith))
closed (Binary l op a b) k level o p f h = or_none _ _ (not_low k (level_of op + 1) (rank b) (omega arith)) (closed b k (level_of op + 1) (omega arith) f.2 f.3 (omega arith))
closed (Conditional l a b c) k level o p f h = or_none _ _ (not_low k 2 (rank c) (omega arith)) (closed c k 2 (omega arith) f.3 f.4 (omega arith))
closed (tree.Assign l op a b) k level o p f h = or_none _ _ (not_low k 1 (rank b) (omega arith)) (closed b k 1 (omega arith) f.2 f.3 (omega arith))
closed (Comma l es) k level o p f h = absurd (omega arith)

closed_at : (e : ExprTree) (k : LinkKind) (level : ℕ) → 1 ≤ level → level ≤ rank e → Parts e → made k < level → goes_on level e (Sign (sign_of_link k)) ≡ false
closed_at e k level o p f h = or_none _ _ (not_low k level (rank e) h) (closed e k level o p f h)

-- an operator that may stand behind an expression goes on from no part within it
pub behind_left : (e : ExprTree) (k : LinkKind) → Parts e → needed k ≤ rank e → behind e (Sign (sign_of_link k)) ≡ false
behind_left (Name l n) k f h = refl
behind_left (Integer l v i) k f h = refl
behind_left (Character l v) k f h = refl
behind_left (Text l bs) k f h = refl
behind_left (Enclosed l e) k f h = refl
behind_left (tree.Index l a i) k f h = refl
behind_left (tree.Call l a es) k f h = refl
behind_left (Member l op a n) k f h = refl
behind_left (Postfix l op a) k f h = refl
behind_left (Prefix l op a) k f h = let g = made_low k h in let d = operand_levels op in closed_at a k (operand_level op) (omega (arith, d.0)) f.0 f.1 (omega (arith, d.0, g))
behind_left (SizeofExpr l a) k f h = let g = made_low k h in closed_at a k 14 (omega arith) f.0 f.1 (omega arith)
behind_left (SizeofType l t) k f h = refl
behind_left (Cast l t a) k f h = let g = made_low k (omega arith) in closed_at a k 13 (omega arith) f.1 f.2 (omega arith)
behind_left (Binary l op a b) k f h = let g = made_needed k in closed_at b k (level_of op + 1) (omega arith) f.2 f.3 (omega arith)
behind_left (Conditional l a b c) k f h = absurd (let g = needed_some k in omega arith)
behind_left (tree.Assign l op a b) k f h = absurd (let g = needed_some k in omega arith)
behind_left (Comma l es) k f h = absurd (let g = needed_some k in omega arith)

-- ---- what is no operator goes on from nothing

not_linked : (t : Lexeme) (level rank : ℕ) → link_of t ≡ None → extends level rank t ≡ false
not_linked t level rank h = ap (links level rank) h

mutual
  pub none_behind : (e : ExprTree) (t : Lexeme) → link_of t ≡ None → behind e t ≡ false
  none_behind (Name l n) t h = refl
  none_behind (Integer l v i) t h = refl
  none_behind (Character l v) t h = refl
  none_behind (Text l bs) t h = refl
  none_behind (Enclosed l e) t h = refl
  none_behind (tree.Index l a i) t h = refl
  none_behind (tree.Call l a es) t h = refl
  none_behind (Member l op a n) t h = refl
  none_behind (Postfix l op a) t h = refl
  none_behind (Prefix l op a) t h = or_none _ _ (not_linked t (operand_level op) (rank a) h) (none_behind a t h)
  none_behind (SizeofExpr l a) t h = or_none _ _ (not_linked t 14 (rank a) h) (none_behind a t h)
  none_behind (SizeofType l n) t h = refl
  none_behind (Cast l n a) t h = or_none _ _ (not_linked t 13 (rank a) h) (none_behind a t h)
  none_behind (Binary l op a b) t h = or_none _ _ (not_linked t (level_of op + 1) (rank b) h) (none_behind b t h)
  none_behind (Conditional l a b c) t h = or_none _ _ (not_linked t 2 (rank c) h) (none_behind c t h)
  none_behind (tree.Assign l op a b) t h = or_none _ _ (not_linked t 1 (rank b) h) (none_behind b t h)
  none_behind (Comma l es) t h = none_last es t false h refl

  none_last : (es : ExprTrees) (t : Lexeme) (other : Bool) → link_of t ≡ None → other ≡ false → behind_last es t other ≡ false
  none_last NoExprs t other h o = o
  none_last (Exprs e es) t other h o = none_last es t _ h (or_none _ _ (not_linked t 1 (rank e) h) (none_behind e t h))

pub goes_none : (e : ExprTree) (level : ℕ) (t : Lexeme) → link_of t ≡ None → goes_on level e t ≡ false
goes_none e level t h = or_none _ _ (not_linked t level (rank e) h) (none_behind e t h)

-- what is next is no operator
abbrev pub Closer : List Mark → Type 0
Closer r = (t : Lexeme) → next r ≡ Some t → link_of t ≡ None

-- no operator is next
pub stops : (e : ExprTree) (level : ℕ) (r : List Mark) → Closer r → Stops (goes_on level) e r
stops e level r c t h = goes_none e level t (c t h)

pub stops_whole : (e : ExprTree) (r : List Mark) → Closer r → ((t : Lexeme) → next r ≡ Some t → is_sign 45 t ≡ false) → Stops goes_on_whole e r
stops_whole e r c d t h = or_none _ _ (d t h) (stops e 1 r c t h)

-- this token is next, and is no operator
pub closer : (l : Lexeme) (m : List Mark) → link_of l ≡ None → Closer (Tok l ∷ m)
closer l m h t e = let f : l ≡ t = cc in subst (λ x. link_of x ≡ None) f h

pub stops_at : (e : ExprTree) (level : ℕ) (l : Lexeme) (m : List Mark) → link_of l ≡ None → Stops (goes_on level) e (Tok l ∷ m)
stops_at e level l m h = stops e level (Tok l ∷ m) (closer l m h)

pub stops_whole_at : (e : ExprTree) (l : Lexeme) (m : List Mark) → link_of l ≡ None → is_sign 45 l ≡ false → Stops goes_on_whole e (Tok l ∷ m)
stops_whole_at e l m h d = stops_whole e (Tok l ∷ m) (closer l m h) (λ t e. let f : l ≡ t = cc in subst (λ x. is_sign 45 x ≡ false) f d)
