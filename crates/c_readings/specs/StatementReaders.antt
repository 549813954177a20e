-- What a reader of statements and blocks gives, for trees up to a limit; R n reads their expressions and declarations up
-- to n.
-- Source: C89 3.6.
use Rattle.std.specs.Prelude.{◌==◌, if◌then◌else◌, not, ℕ, zero, suc, true, false, Option, Some, None, List, [], ◌∷◌}
use Rattle.c_ast.specs.Lexemes.{Lexeme, Name, Keyword, Integer, Character, Text, Sign, Placed}
use Rattle.c_ast.specs.Marks.{IsSign, IsKeyword, IsLabel}
use Rattle.c_ast.specs.UnitViews.{statements_of}
use Rattle.c_ast.specs.Trees.{ExprTree, MaybeExpr, NoExpr, AnExpr, StatementTree, Label, Case, Default, Expression, Compound, If, IfElse, Switch, While, Do, For, Goto, Continue, Break, Return, BlockTree, Block}
use Rattle.c_ast.specs.Signs.{open_parenthesis, close_parenthesis, open_brace, close_brace, colon_sign, semicolon}
use Rattle.c_ast.specs.Keywords.{break_word, case_word, continue_word, default_word, do_word, else_word, for_word, goto_word, if_word, return_word, switch_word, while_word}
use Rattle.c_ast.specs.Operators.{conditional_level}
use Rattle.c_readings.specs.Reading.{State, Read, gives, bind, ask, answer, here, beyond, one_sign, one_name, open_state, close_state, all_of}
use Rattle.c_readings.specs.Readers.{Readers}
use Rattle.c_readings.specs.DeclarationReaders.{declarations}

-- what a keyword begins
pub data StatementWord : Type 0 where
  CaseWord : StatementWord
  DefaultWord : StatementWord
  IfWord : StatementWord
  SwitchWord : StatementWord
  WhileWord : StatementWord
  DoWord : StatementWord
  ForWord : StatementWord
  GotoWord : StatementWord
  ContinueWord : StatementWord
  BreakWord : StatementWord
  ReturnWord : StatementWord

abbrev pub statement_word : ℕ → Option StatementWord
statement_word k =
    if k == break_word then Some BreakWord
    else (if k == case_word then Some CaseWord
    else (if k == continue_word then Some ContinueWord
    else (if k == default_word then Some DefaultWord
    else (if k == do_word then Some DoWord
    else (if k == for_word then Some ForWord
    else (if k == goto_word then Some GotoWord
    else (if k == if_word then Some IfWord
    else (if k == return_word then Some ReturnWord
    else (if k == switch_word then Some SwitchWord
    else (if k == while_word then Some WhileWord else None))))))))))

abbrev pub word_as : Lexeme → Option StatementWord
word_as (Keyword k) = statement_word k
word_as (Name n) = None
word_as (Integer v k) = None
word_as (Character v) = None
word_as (Text b) = None
word_as (Sign k) = None

abbrev pub word_at : List Placed → Option StatementWord
word_at [] = None
word_at (t ∷ ts) = word_as t.lexeme

-- ---- expressions in statements

unfoldable pub low_expression : (ℕ → Readers) → ℕ → State → Read ExprTree
low_expression R n s = (R n).whole s

-- an expression or none, and this sign
unfoldable pub maybe_before : (ℕ → Readers) → ℕ → ℕ → State → Read MaybeExpr
maybe_before R n k s =
    ask (IsSign k) s
    (gives NoExpr (beyond s))
    (bind (low_expression R n s) (λ e t. one_sign k t (λ u. gives (AnExpr e) u)))

-- an expression in parentheses
unfoldable pub condition : (ℕ → Readers) → ℕ → State → Read ExprTree
condition R n s = one_sign open_parenthesis s (λ t. bind (low_expression R n t) (λ e u. one_sign close_parenthesis u (λ v. gives e v)))

-- ---- statements, one level above those that inner reads

-- a statement behind `:`
unfoldable pub behind_colon : (State → Read StatementTree) → State → Read StatementTree
behind_colon inner s = one_sign colon_sign s (λ t. bind (inner t) (λ x u. gives x u))

-- a statement behind a condition
unfoldable pub guarded : (ℕ → Readers) → ℕ → (State → Read StatementTree) → State → Read (ExprTree × StatementTree)
guarded R n inner s = bind (condition R n s) (λ e t. bind (inner t) (λ x u. gives (e, x) u))

-- a name, and this sign
abbrev pub name_before : ℕ → State → Read (List ℕ)
name_before k s = one_name s (λ n t. one_sign k t (λ u. gives n u))

unfoldable pub labelled : (State → Read StatementTree) → State → Read StatementTree
labelled inner s = bind (name_before colon_sign s) (λ n t. bind (inner t) (λ x u. gives (Label (here s) n x) u))

unfoldable pub if_behind : (ℕ → Readers) → ℕ → (State → Read StatementTree) → ℕ → State → Read StatementTree
if_behind R n inner line s =
    bind (guarded R n inner s) (λ p t.
    ask (IsKeyword else_word) t
    (bind (inner (beyond t)) (λ y u. gives (IfElse line p.0 p.1 y) u))
    (gives (If line p.0 p.1) t))

unfoldable pub do_behind : (ℕ → Readers) → ℕ → (State → Read StatementTree) → ℕ → State → Read StatementTree
do_behind R n inner line s =
    bind (inner s) (λ x t. ask (IsKeyword while_word) t (bind (condition R n (beyond t)) (λ e u. one_sign semicolon u (λ v. gives (Do line x e) v))) None)

unfoldable pub for_behind : (ℕ → Readers) → ℕ → (State → Read StatementTree) → ℕ → State → Read StatementTree
for_behind R n inner line s =
    one_sign open_parenthesis s (λ t. bind (maybe_before R n semicolon t) (λ a u. bind (maybe_before R n semicolon u) (λ b v. bind (maybe_before R n close_parenthesis v) (λ c w. bind (inner w) (λ x z.
    gives (For line a b c x) z)))))

-- behind its keyword
abbrev pub by_word : (ℕ → Readers) → ℕ → (State → Read StatementTree) → ℕ → StatementWord → State → Read StatementTree
by_word R n inner line CaseWord s = bind ((R n).piece conditional_level s) (λ e t. bind (behind_colon inner t) (λ x u. gives (Case line e x) u))
by_word R n inner line DefaultWord s = bind (behind_colon inner s) (λ x t. gives (Default line x) t)
by_word R n inner line IfWord s = if_behind R n inner line s
by_word R n inner line SwitchWord s = bind (guarded R n inner s) (λ p t. gives (Switch line p.0 p.1) t)
by_word R n inner line WhileWord s = bind (guarded R n inner s) (λ p t. gives (While line p.0 p.1) t)
by_word R n inner line DoWord s = do_behind R n inner line s
by_word R n inner line ForWord s = for_behind R n inner line s
by_word R n inner line GotoWord s = bind (name_before semicolon s) (λ n t. gives (Goto line n) t)
by_word R n inner line ContinueWord s = one_sign semicolon s (λ t. gives (Continue line) t)
by_word R n inner line BreakWord s = one_sign semicolon s (λ t. gives (Break line) t)
by_word R n inner line ReturnWord s = bind (maybe_before R n semicolon s) (λ e t. gives (Return line e) t)

-- behind `{`, where the scope is open: declarations, statements, and `}`
unfoldable pub block_inside : (ℕ → Readers) → ℕ → (State → Read StatementTree) → ℕ → State → Read BlockTree
block_inside R n inner line s =
    bind (declarations R n s) (λ ds t. bind (all_of (λ b u. not (answer (IsSign close_brace) u)) (λ b u. inner u) (λ b x. b) true t) (λ ss u.
    one_sign close_brace u (λ v. gives (Block line ds (statements_of ss)) (close_state false v))))

unfoldable pub compound : (ℕ → Readers) → ℕ → (State → Read StatementTree) → State → Read StatementTree
compound R n inner s = bind (block_inside R n inner (here s) (open_state (beyond s))) (λ b t. gives (Compound (here s) b) t)

unfoldable pub evaluate : (ℕ → Readers) → ℕ → State → Read StatementTree
evaluate R n s = bind (maybe_before R n semicolon s) (λ e t. gives (Expression (here s) e) t)

abbrev pub by_maybe_word : (ℕ → Readers) → ℕ → (State → Read StatementTree) → Option StatementWord → State → Read StatementTree
by_maybe_word R n inner (Some w) s = by_word R n inner (here s) w (beyond s)
by_maybe_word R n inner None s = ask (IsSign open_brace) s (compound R n inner s) (evaluate R n s)

unfoldable pub statement_above : (ℕ → Readers) → ℕ → (State → Read StatementTree) → State → Read StatementTree
statement_above R n inner s = ask IsLabel s (labelled inner s) (by_maybe_word R n inner (word_at s.rest) s)

unfoldable pub statement : (ℕ → Readers) → ℕ → State → Read StatementTree
statement R zero s = None
statement R (suc n) s = statement_above R n (λ t. statement R n t) s
