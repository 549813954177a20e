-- The first token of an expression, and what it isn't.
use Rattle.std.proofs.Common.{◌≡◌, ◌==◌, ◌&&◌, ◌||◌, not, ℕ, Bool, true, false, nat_le, List, [], ◌∷◌, refl, sym, ap, ◌∙◌, subst}
use Rattle.c_ast.specs.declared.operator.PrefixOperator.{PrefixOperator}
use Rattle.c_ast.specs.declared.operator.PrefixOperator.TheVariants as prefix
use Rattle.c_ast.specs.Lexemes.{Lexeme, Name, Keyword, Integer, Character, Text, Sign}
use Rattle.c_ast.specs.InForce.{InForce, is_typedef}
use Rattle.c_ast.specs.Operators.{prefix_sign, binary_sign, assign_sign, postfix_sign, member_sign}
use Rattle.c_ast.specs.Marks.{Mark, Tok, Ask, IsSized, first_is, is_sign, is_specifier, lexemes, IsSpecifier}
use Rattle.c_ast.specs.ExprMarks as marks
use Rattle.c_ast.specs.Levels.{IsSome, Parts, TwoExprs, AllAssign}
use Rattle.c_ast.specs.Trees.{ExprTree, Enclosed, Index, Call, Member, Postfix, Prefix, SizeofExpr, SizeofType, Cast, Binary, Conditional, Assign, Comma, ExprTrees, NoExprs, Exprs, SpecifiersTree, Specified}
use Rattle.c_ast.specs.Trees as tree
use Rattle.c_readings.specs.Reading.{State, answer}
use Rattle.c_readings.specs.Exact.{RunsOn}
use Rattle.c_readings.proofs.Steps.{first_is_at, first_is_plain, same_number}

-- the token begins an expression
abbrev pub starts_expr : InForce → Lexeme → Bool
starts_expr names (Name n) = not (is_typedef names n)
starts_expr names (Keyword k) = k == 22
starts_expr names (Integer v k) = true
starts_expr names (Character v) = true
starts_expr names (Text b) = true
starts_expr names (Sign k) = k == 2 || (nat_le 8 k && nat_le k 15)

abbrev pub Starts : State → Type 0
Starts s = first_is (starts_expr s.names) (lexemes s.rest) ≡ true

prefix_starts : (names : InForce) (op : PrefixOperator) → starts_expr names (Sign (prefix_sign op)) ≡ true
prefix_starts names prefix.Increment = refl
prefix_starts names prefix.Decrement = refl
prefix_starts names prefix.Address = refl
prefix_starts names prefix.Indirect = refl
prefix_starts names prefix.Plus = refl
prefix_starts names prefix.Minus = refl
prefix_starts names prefix.Complement = refl
prefix_starts names prefix.Not = refl

texts_first : (bs : List (List ℕ)) (r : List Mark) (s : State) → IsSome bs → RunsOn (marks.texts_then bs r) s → Starts s
texts_first [] r s f h = absurd f
texts_first (b ∷ bs) r s f h = first_is_at (starts_expr s.names) (Text b) (marks.texts_then bs r) s h

mutual
  pub expr_first : (e : ExprTree) (r : List Mark) (s : State) → Parts e → RunsOn (marks.expr e r) s → Starts s
  expr_first (tree.Name l n) r s f h = first_is_plain (starts_expr s.names) n r s h.1 ∙ ap not h.1.0
  expr_first (tree.Integer l v k) r s f h = first_is_at (starts_expr s.names) (Integer v k) r s h.1
  expr_first (tree.Character l v) r s f h = first_is_at (starts_expr s.names) (Character v) r s h.1
  expr_first (tree.Text l bs) r s f h = texts_first bs r s f h.1
  expr_first (Enclosed l e) r s f h = first_is_at (starts_expr s.names) (Sign 2) (marks.expr e (Tok (Sign 3) ∷ r)) s h.1
  expr_first (Index l a i) r s f h = expr_first a (Tok (Sign 0) ∷ marks.expr i (Tok (Sign 1) ∷ r)) s f.1 h.1
  expr_first (Call l a es) r s f h = expr_first a (Tok (Sign 2) ∷ marks.arguments es r) s f.1 h.1
  expr_first (Member l op a n) r s f h = expr_first a (Tok (Sign (member_sign op)) ∷ Tok (Name n) ∷ r) s f.1 h.1
  expr_first (Postfix l op a) r s f h = expr_first a (Tok (Sign (postfix_sign op)) ∷ r) s f.1 h.1
  expr_first (Prefix l op a) r s f h = first_is_at (starts_expr s.names) (Sign (prefix_sign op)) (marks.expr a r) s h.1 ∙ prefix_starts s.names op
  expr_first (SizeofExpr l a) r s f h = first_is_at (starts_expr s.names) (Keyword 22) (Ask IsSized false ∷ marks.expr a r) s h.1
  expr_first (SizeofType l t) r s f h = first_is_at (starts_expr s.names) (Keyword 22) (Ask IsSized true ∷ Tok (Sign 2) ∷ marks.type_name t (Tok (Sign 3) ∷ r)) s h.1
  expr_first (Cast l t a) r s f h = first_is_at (starts_expr s.names) (Sign 2) (marks.type_name t (Tok (Sign 3) ∷ marks.expr a r)) s h.1
  expr_first (Binary l op a b) r s f h = expr_first a (Tok (Sign (binary_sign op)) ∷ marks.expr b r) s f.1 h.1
  expr_first (Conditional l a b c) r s f h = expr_first a (Tok (Sign 30) ∷ marks.expr b (Tok (Sign 31) ∷ marks.expr c r)) s f.1 h.1
  expr_first (Assign l op a b) r s f h = expr_first a (Tok (Sign (assign_sign op)) ∷ marks.expr b r) s f.1 h.1
  expr_first (Comma l es) r s f h = sequence_first es r s f.0 f.1 h.1

  sequence_first : (es : ExprTrees) (r : List Mark) (s : State) → TwoExprs es → AllAssign es → RunsOn (marks.sequence es r) s → Starts s
  sequence_first NoExprs r s f g h = absurd f
  sequence_first (Exprs e es) r s f g h = expr_first e (marks.more_sequence es r) s g.1 h

-- ---- what the first token of an expression isn't

pub not_true : (b : Bool) → (b ≡ true → b ≡ false) → b ≡ false
not_true true h = h refl
not_true false h = refl

pub no_two : (b : Bool) (C : Type 0) → b ≡ true → b ≡ false → C
no_two b C h k = let e : true ≡ false = sym h ∙ k in absurd cc

pub not_first : (starts is : Lexeme → Bool) (ls : List Lexeme) → ((l : Lexeme) → starts l ≡ true → is l ≡ false) → first_is starts ls ≡ true → first_is is ls ≡ false
not_first starts is [] g h = refl
not_first starts is (l ∷ ls) g h = g l h

other_sign : (names : InForce) (k : ℕ) → starts_expr names (Sign k) ≡ false → (l : Lexeme) → starts_expr names l ≡ true → is_sign k l ≡ false
other_sign names k f (Name n) h = refl
other_sign names k f (Keyword j) h = refl
other_sign names k f (Integer v j) h = refl
other_sign names k f (Character v) h = refl
other_sign names k f (Text b) h = refl
other_sign names k f (Sign j) h = not_true (j == k) (λ e. no_two _ _ (subst (λ x. starts_expr names (Sign x) ≡ true) (same_number j k e) h) f)

pub not_not : (b : Bool) → not b ≡ true → b ≡ false
not_not true h = absurd cc
not_not false h = refl

no_specifier : (names : InForce) (l : Lexeme) → starts_expr names l ≡ true → is_specifier names false l ≡ false
no_specifier names (Name n) h = not_not (is_typedef names n) h
no_specifier names (Keyword j) h = subst (λ x. is_specifier names false (Keyword x) ≡ false) (sym (same_number j 22 h)) refl
no_specifier names (Integer v j) h = refl
no_specifier names (Character v) h = refl
no_specifier names (Text b) h = refl
no_specifier names (Sign j) h = refl

-- an expression doesn't begin with this sign
pub no_sign : (k : ℕ) (e : ExprTree) (r : List Mark) (s : State) → starts_expr s.names (Sign k) ≡ false → Parts e → RunsOn (marks.expr e r) s → first_is (is_sign k) (lexemes s.rest) ≡ false
no_sign k e r s g f h = not_first (starts_expr s.names) (is_sign k) (lexemes s.rest) (other_sign s.names k g) (expr_first e r s f h)

-- nor with a specifier
pub no_type : (e : ExprTree) (r : List Mark) (s : State) → Parts e → RunsOn (marks.expr e r) s → first_is (is_specifier s.names false) (lexemes s.rest) ≡ false
no_type e r s f h = not_first (starts_expr s.names) (is_specifier s.names false) (lexemes s.rest) (no_specifier s.names) (expr_first e r s f h)

-- ---- specifiers

specifier_other : (names : InForce) (typed : Bool) (k : ℕ) (l : Lexeme) → is_specifier names typed l ≡ true → is_sign k l ≡ false
specifier_other names typed k (Name n) h = refl
specifier_other names typed k (Keyword j) h = refl
specifier_other names typed k (Integer v j) h = refl
specifier_other names typed k (Character v) h = refl
specifier_other names typed k (Text b) h = refl
specifier_other names typed k (Sign j) h = absurd cc

-- a specifier is no sign
pub specifier_no_sign : (names : InForce) (typed : Bool) (k : ℕ) (ls : List Lexeme) → first_is (is_specifier names typed) ls ≡ true → first_is (is_sign k) ls ≡ false
specifier_no_sign names typed k ls h = not_first (is_specifier names typed) (is_sign k) ls (specifier_other names typed k) h

pub specifiers_next : (x : SpecifiersTree) (r : List Mark) (s : State) → RunsOn (marks.specifiers x r) s → answer (IsSpecifier false) s ≡ true
specifiers_next (Specified l ss) r s h = h.1.0
