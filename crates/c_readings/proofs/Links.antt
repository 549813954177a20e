-- What links are, behind an expression: their marks, and what they make with it.
use Rattle.std.proofs.Common.{◌≡◌, ◌≤◌, ◌+◌, ◌==◌, ◌&&◌, if◌then◌else◌, ℕ, max, Bool, true, false, nat_le, Option, Some, None, List, [], ◌∷◌, suc, refl, sym, ap, ◌∙◌, subst, arith}
use Rattle.std.proofs.lemmas.Bool.Decides.{nat_tests}
use Rattle.c_ast.specs.declared.operator.BinaryOperator.TheVariants as binary
use Rattle.c_ast.specs.declared.operator.AssignOperator.TheVariants as assign
use Rattle.c_ast.specs.declared.operator.PostfixOperator.TheVariants as postfix
use Rattle.c_ast.specs.declared.operator.MemberOperator.TheVariants as member
use Rattle.c_ast.specs.Lexemes.{Lexeme, Name, Keyword, Integer, Character, Text, Sign, Placed}
use Rattle.c_ast.specs.Operators.{level_of}
use Rattle.c_ast.specs.Marks.{Mark, Tok, Here}
use Rattle.c_ast.specs.ExprMarks as marks
use Rattle.c_ast.specs.Levels.{rank, Parts, AllAssign}
use Rattle.c_ast.specs.Heights.{height, tallest}
use Rattle.c_ast.specs.Reach.{LinkKind, Index, Call, Select, Step, Operate, Question, Assign, sign_of_link, link_of, link_of_sign, needed, made, links, extends, behind, goes_on}
use Rattle.c_ast.specs.Trees.{ExprTree}
use Rattle.c_readings.specs.Links.{LinkTree, Indexed, Arguments, Member, Postfix, Operand, Choices, Value, linked, reaching, kind_at}
use Rattle.c_readings.specs.Reading.{State}
use Rattle.c_readings.specs.Readers.{Readers}
use Rattle.c_readings.specs.Exact.{FitsAt, Ends, IsPiece}
use Rattle.c_readings.proofs.Operators.{link_sign, does_extend}

abbrev pub kind_of : LinkTree → LinkKind
kind_of (Indexed i) = Index
kind_of (Arguments es) = Call
kind_of (Member op n) = Select op
kind_of (Postfix op) = Step op
kind_of (Operand op b) = Operate op
kind_of (Choices b c) = Question
kind_of (Value op b) = Assign op

-- behind its token
abbrev pub link_marks : LinkTree → List Mark → List Mark
link_marks (Indexed i) r = marks.expr i (Tok (Sign 1) ∷ r)
link_marks (Arguments es) r = marks.arguments es r
link_marks (Member op n) r = Tok (Name n) ∷ r
link_marks (Postfix op) r = r
link_marks (Operand op b) r = marks.expr b r
link_marks (Choices b c) r = marks.expr b (Tok (Sign 31) ∷ marks.expr c r)
link_marks (Value op b) r = marks.expr b r

abbrev pub FitsLink : LinkTree → Type 0
FitsLink (Indexed i) = Parts i
FitsLink (Arguments es) = AllAssign es
FitsLink (Member op n) = Unit {0}
FitsLink (Postfix op) = Unit {0}
FitsLink (Operand op b) = FitsAt (level_of op + 1) b
FitsLink (Choices b c) = Parts b × FitsAt 2 c
FitsLink (Value op b) = FitsAt 1 b

abbrev pub link_goes_on : LinkTree → Lexeme → Bool
link_goes_on (Indexed i) t = false
link_goes_on (Arguments es) t = false
link_goes_on (Member op n) t = false
link_goes_on (Postfix op) t = false
link_goes_on (Operand op b) t = goes_on (level_of op + 1) b t
link_goes_on (Choices b c) t = goes_on 2 c t
link_goes_on (Value op b) t = goes_on 1 b t

abbrev pub link_height : LinkTree → ℕ
link_height (Indexed i) = height i
link_height (Arguments es) = tallest es
link_height (Member op n) = 0
link_height (Postfix op) = 0
link_height (Operand op b) = height b
link_height (Choices b c) = max (height b) (height c)
link_height (Value op b) = height b

-- ---- what a link makes

pub linked_marks : (l : ℕ) (a : ExprTree) (m : LinkTree) (r : List Mark) → marks.expr (linked l a m) r ≡ Here l ∷ marks.expr a (Tok (Sign (sign_of_link (kind_of m))) ∷ link_marks m r)
linked_marks l a (Indexed i) r = refl
linked_marks l a (Arguments es) r = refl
linked_marks l a (Member op n) r = refl
linked_marks l a (Postfix op) r = refl
linked_marks l a (Operand op b) r = refl
linked_marks l a (Choices b c) r = refl
linked_marks l a (Value op b) r = refl

pub linked_rank : (l : ℕ) (a : ExprTree) (m : LinkTree) → rank (linked l a m) ≡ made (kind_of m)
linked_rank l a (Indexed i) = refl
linked_rank l a (Arguments es) = refl
linked_rank l a (Member op n) = refl
linked_rank l a (Postfix op) = refl
linked_rank l a (Operand op b) = refl
linked_rank l a (Choices b c) = refl
linked_rank l a (Value op b) = refl

pub linked_parts : (l : ℕ) (a : ExprTree) (m : LinkTree) → needed (kind_of m) ≤ rank a → Parts a → FitsLink m → Parts (linked l a m)
linked_parts l a (Indexed i) h p f = (h, p, f)
linked_parts l a (Arguments es) h p f = (h, p, f)
linked_parts l a (Member op n) h p f = (h, p)
linked_parts l a (Postfix op) h p f = (h, p)
linked_parts l a (Operand op b) h p f = (h, p, f.0, f.1)
linked_parts l a (Choices b c) h p f = (h, p, f.0, f.1.0, f.1.1)
linked_parts l a (Value op b) h p f = (h, p, f.0, f.1)

pub parts_linked : (l : ℕ) (a : ExprTree) (m : LinkTree) → Parts (linked l a m) → (needed (kind_of m) ≤ rank a) × Parts a × FitsLink m
parts_linked l a (Indexed i) p = p
parts_linked l a (Arguments es) p = p
parts_linked l a (Member op n) p = (p.0, p.1, tt)
parts_linked l a (Postfix op) p = (p.0, p.1, tt)
parts_linked l a (Operand op b) p = (p.0, p.1, (p.2, p.3))
parts_linked l a (Choices b c) p = (p.0, p.1, (p.2, (p.3, p.4)))
parts_linked l a (Value op b) p = (p.0, p.1, (p.2, p.3))

pub linked_height : (l : ℕ) (a : ExprTree) (m : LinkTree) → height (linked l a m) ≡ max (height a) (link_height m) + 1
linked_height l a (Indexed i) = refl
linked_height l a (Arguments es) = refl
linked_height l a (Member op n) = omega arith
linked_height l a (Postfix op) = omega arith
linked_height l a (Operand op b) = refl
linked_height l a (Choices b c) = omega arith
linked_height l a (Value op b) = refl

pub linked_behind : (l : ℕ) (a : ExprTree) (m : LinkTree) (t : Lexeme) → behind (linked l a m) t ≡ link_goes_on m t
linked_behind l a (Indexed i) t = refl
linked_behind l a (Arguments es) t = refl
linked_behind l a (Member op n) t = refl
linked_behind l a (Postfix op) t = refl
linked_behind l a (Operand op b) t = refl
linked_behind l a (Choices b c) t = refl
linked_behind l a (Value op b) t = refl

-- ---- the token of a kind

-- one step through a table of signs
pub by_one : {A : Type 0} (sign : A → ℕ) (n c : ℕ) (j k : A) (o : Option A) → c ≡ sign j → (if n == c then Some j else o) ≡ Some k → (o ≡ Some k → n ≡ sign k) → n ≡ sign k
by_one {A} sign n c j k o e h g = by (n == c) refl h
  where
    by : (b : Bool) → (n == c) ≡ b → (if b then Some j else o) ≡ Some k → n ≡ sign k
    by true i f = let d : n ≡ c = grind (arith, nat_tests) in let m : j ≡ k = cc in d ∙ e ∙ ap sign m
    by false i f = g f

sign_is : (n : ℕ) (k : LinkKind) → link_of_sign n ≡ Some k → n ≡ sign_of_link k
sign_is n k h =
    by_one sign_of_link n 0 Index k _ refl h (λ h1.
    by_one sign_of_link n 2 Call k _ refl h1 (λ h2.
    by_one sign_of_link n 6 (Select member.Dot) k _ refl h2 (λ h3.
    by_one sign_of_link n 7 (Select member.Arrow) k _ refl h3 (λ h4.
    by_one sign_of_link n 8 (Step postfix.Increment) k _ refl h4 (λ h5.
    by_one sign_of_link n 9 (Step postfix.Decrement) k _ refl h5 (λ h6.
    by_one sign_of_link n 10 (Operate binary.BitAnd) k _ refl h6 (λ h7.
    by_one sign_of_link n 11 (Operate binary.Multiply) k _ refl h7 (λ h8.
    by_one sign_of_link n 12 (Operate binary.Add) k _ refl h8 (λ h9.
    by_one sign_of_link n 13 (Operate binary.Subtract) k _ refl h9 (λ h10.
    by_one sign_of_link n 16 (Operate binary.Divide) k _ refl h10 (λ h11.
    by_one sign_of_link n 17 (Operate binary.Remainder) k _ refl h11 (λ h12.
    by_one sign_of_link n 18 (Operate binary.ShiftLeft) k _ refl h12 (λ h13.
    by_one sign_of_link n 19 (Operate binary.ShiftRight) k _ refl h13 (λ h14.
    by_one sign_of_link n 20 (Operate binary.Less) k _ refl h14 (λ h15.
    by_one sign_of_link n 21 (Operate binary.Greater) k _ refl h15 (λ h16.
    by_one sign_of_link n 22 (Operate binary.LessEqual) k _ refl h16 (λ h17.
    by_one sign_of_link n 23 (Operate binary.GreaterEqual) k _ refl h17 (λ h18.
    by_one sign_of_link n 24 (Operate binary.Equal) k _ refl h18 (λ h19.
    by_one sign_of_link n 25 (Operate binary.NotEqual) k _ refl h19 (λ h20.
    by_one sign_of_link n 26 (Operate binary.BitXor) k _ refl h20 (λ h21.
    by_one sign_of_link n 27 (Operate binary.BitOr) k _ refl h21 (λ h22.
    by_one sign_of_link n 28 (Operate binary.And) k _ refl h22 (λ h23.
    by_one sign_of_link n 29 (Operate binary.Or) k _ refl h23 (λ h24.
    by_one sign_of_link n 30 Question k _ refl h24 (λ h25.
    by_one sign_of_link n 34 (Assign assign.Plain) k _ refl h25 (λ h26.
    by_one sign_of_link n 35 (Assign assign.Multiply) k _ refl h26 (λ h27.
    by_one sign_of_link n 36 (Assign assign.Divide) k _ refl h27 (λ h28.
    by_one sign_of_link n 37 (Assign assign.Remainder) k _ refl h28 (λ h29.
    by_one sign_of_link n 38 (Assign assign.Add) k _ refl h29 (λ h30.
    by_one sign_of_link n 39 (Assign assign.Subtract) k _ refl h30 (λ h31.
    by_one sign_of_link n 40 (Assign assign.ShiftLeft) k _ refl h31 (λ h32.
    by_one sign_of_link n 41 (Assign assign.ShiftRight) k _ refl h32 (λ h33.
    by_one sign_of_link n 42 (Assign assign.BitAnd) k _ refl h33 (λ h34.
    by_one sign_of_link n 43 (Assign assign.BitXor) k _ refl h34 (λ h35.
    by_one sign_of_link n 44 (Assign assign.BitOr) k _ refl h35 (λ h36.
    absurd cc))))))))))))))))))))))))))))))))))))

pub link_is : (l : Lexeme) (k : LinkKind) → link_of l ≡ Some k → l ≡ Sign (sign_of_link k)
link_is (Sign n) k h = ap Sign (sign_is n k h)
link_is (Name n) k h = absurd cc
link_is (Keyword n) k h = absurd cc
link_is (Integer v n) k h = absurd cc
link_is (Character v) k h = absurd cc
link_is (Text b) k h = absurd cc

only_if : (b : Bool) (j k : LinkKind) → (if b then Some j else None) ≡ Some k → (j ≡ k) × (b ≡ true)
only_if true j k h = (cc, refl)
only_if false j k h = absurd cc

but_if : (b : Bool) (j : LinkKind) → (if b then Some j else None) ≡ None → b ≡ false
but_if true j h = absurd cc
but_if false j h = refl

reaches : (level rank : ℕ) (o : Option LinkKind) (k : LinkKind) → reaching level rank o ≡ Some k → (o ≡ Some k) × (links level rank (Some k) ≡ true)
reaches level rank None k h = absurd cc
reaches level rank (Some j) k h =
    let g = only_if (links level rank (Some j)) j k h in (ap Some g.0, subst (λ i. links level rank (Some i) ≡ true) g.0 g.1)

-- the kind of a token at a level tells the token, and that the levels are right
pub kind_is : (level rank : ℕ) (l : Lexeme) (k : LinkKind) → kind_at level rank l ≡ Some k → (l ≡ Sign (sign_of_link k)) × (level ≤ made k) × (needed k ≤ rank)
kind_is level rank l k h =
    let g = reaches level rank (link_of l) k h in
    let d : (nat_le level (made k) && nat_le (needed k) rank) ≡ true = g.1 in
    (link_is l k g.0, grind (arith, nat_tests), grind (arith, nat_tests))

no_reach : (level rank : ℕ) (o : Option LinkKind) → reaching level rank o ≡ None → links level rank o ≡ false
no_reach level rank None h = refl
no_reach level rank (Some j) h = but_if (links level rank (Some j)) j h

pub no_kind : (level rank : ℕ) (l : Lexeme) → kind_at level rank l ≡ None → extends level rank l ≡ false
no_kind level rank l h = no_reach level rank (link_of l) h

kept : (level rank : ℕ) (o : Option LinkKind) → links level rank o ≡ false → reaching level rank o ≡ None
kept level rank None h = refl
kept level rank (Some j) h = rw h

pub kind_none : (level rank : ℕ) (l : Lexeme) → extends level rank l ≡ false → kind_at level rank l ≡ None
kind_none level rank l h = kept level rank (link_of l) h

pub kind_next : (level rank : ℕ) (k : LinkKind) → level ≤ made k → needed k ≤ rank → kind_at level rank (Sign (sign_of_link k)) ≡ Some k
kind_next level rank k low high =
    let e : links level rank (Some k) ≡ true = sym (ap (links level rank) (link_sign k)) ∙ does_extend k level rank low high in
    ap (reaching level rank) (link_sign k) ∙ ap (λ b. if b then Some k else None) e

-- ---- what goes on from nothing, and what goes on alike

pub ends_never : {A : Type 0} (g : A → Lexeme → Bool) (x : A) (ts : List Placed) → ((l : Lexeme) → g x l ≡ false) → Ends g x ts
ends_never g x [] h = tt
ends_never g x (t ∷ ts) h = h t.lexeme

pub ends_like : {A B : Type 0} (g : A → Lexeme → Bool) (x : A) (f : B → Lexeme → Bool) (y : B) (ts : List Placed) → ((l : Lexeme) → g x l ≡ false → f y l ≡ false) → Ends g x ts → Ends f y ts
ends_like g x f y [] h e = tt
ends_like g x f y (t ∷ ts) h e = h t.lexeme e

pub le_known : (a b : ℕ) → nat_le a b ≡ true → a ≤ b
le_known a b h = grind (arith, nat_tests)

pub known_le : (a b : ℕ) → a ≤ b → nat_le a b ≡ true
known_le a b h = grind (arith, nat_tests)

-- a first part of a piece, behind which links may stand
abbrev pub Begun : Readers → ℕ → State → ExprTree → State → Type 0
Begun R level s x t = IsPiece marks.expr (FitsAt level) behind height (suc R.limit) 1 s x t

abbrev pub Ended : Readers → ℕ → State → ExprTree → State → Type 0
Ended R level s x t = IsPiece marks.expr (FitsAt level) (goes_on level) height (suc R.limit) 1 s x t
