-- What the readers of parts of a text give.
use Rattle.std.specs.Prelude.{◌≡◌, ◌≤◌, ℕ, List, [], ◌∷◌, ◌++◌, codes}
use Rattle.std.specs.List.{AllByRecursion}
use Rattle.first_form.specs.declared.class.FirstClass.TheVariants.{Blank}
use Rattle.first_form.specs.declared.expression.Operator.{Operator}
use Rattle.first_form.specs.declared.expression_reader.Level.{Level}
use Rattle.first_form.specs.declared.expression_reader.Level.TheVariants.{Sum, Product}
use Rattle.lcc_text.specs.Classes.{AllIn}
use Rattle.first_form.specs.Classes.{in_first}
use Rattle.first_form.specs.Tokens.{Token, IsToken, Begins, AreTokens}
use Rattle.first_form.specs.Expression.{MExpression}
use Rattle.first_form.specs.Grammar.{sign_of, tokens_then, level_of, Derives}
use Rattle.first_form.specs.Height.{height}
use Rattle.first_form.specs.FirstForm.{IsExpression, statements_then, result_tokens}

-- what stands behind the blanks
abbrev pub SkipsBlanks : List ℕ → List ℕ → Type 0
SkipsBlanks bytes behind = (gap : List ℕ) × AllIn (in_first Blank) gap × (bytes ≡ gap ++ behind)

-- no token stands at the front
abbrev pub NoToken : List ℕ → Type 0
NoToken bytes = (u : Token) (z : List ℕ) → IsToken u → bytes ≡ u ++ z → ⊥

-- these tokens come first, and rest behind them
abbrev pub BeginWith : List ℕ → List Token → List ℕ → Type 0
BeginWith bytes [] rest = bytes ≡ rest
BeginWith bytes (t ∷ ts) rest = (mid : List ℕ) × Begins bytes t mid × BeginWith mid ts rest

-- what a reader of chains calls its level
abbrev pub level_number : Level → ℕ
level_number Sum = 0
level_number Product = 1

-- an expression of the level doesn't go on with the tokens
abbrev pub Ends : ℕ → List Token → Type 0
Ends level ts = (op : Operator) (more : List Token) → level ≤ level_of op → ts ≡ sign_of op ∷ more → ⊥

-- the bytes begin with the expression of the level, and with no other
pub record Reads (level : ℕ) (bytes : List ℕ) (e : MExpression) (rest : List ℕ) : Type 0 where
  pub within : Derives level e
  pub read : (ts : List Token) → AreTokens ts rest → AreTokens (tokens_then e ts) bytes
  pub one : (f : MExpression) (ts : List Token) → Derives level f → Ends level ts → AreTokens (tokens_then f ts) bytes → (f ≡ e) × AreTokens ts rest

-- the bytes begin with an expression of the level that is no higher than the limit
pub record IsThere (level limit : ℕ) (bytes : List ℕ) : Type 0 where
  pub found : MExpression
  pub behind : List Token
  pub within : Derives level found
  pub low : height found ≤ limit
  pub ends : Ends level behind
  pub tokens : AreTokens (tokens_then found behind) bytes

-- the bytes begin with a token, the expression and further tokens, and with no other expression so
pub record ReadsWithin (before : Token) (after : List Token) (bytes : List ℕ) (e : MExpression) (rest : List ℕ) : Type 0 where
  pub within : IsExpression e
  pub read : (ts : List Token) → AreTokens ts rest → AreTokens (before ∷ tokens_then e (after ++ ts)) bytes
  pub one : (f : MExpression) (ts : List Token) → IsExpression f → Ends 0 (after ++ ts) → AreTokens (before ∷ tokens_then f (after ++ ts)) bytes → (f ≡ e) × AreTokens ts rest

-- the bytes begin with a token, an expression and further tokens
pub record IsWithin (before : Token) (after : List Token) (bytes : List ℕ) : Type 0 where
  pub found : MExpression
  pub behind : List Token
  pub within : IsExpression found
  pub ends : Ends 0 (after ++ behind)
  pub tokens : AreTokens (before ∷ tokens_then found (after ++ behind)) bytes

-- the bytes begin with the statements that print these, and with no others before a `return`
pub record ReadsPrints (bytes : List ℕ) (es : List MExpression) (rest : List ℕ) : Type 0 where
  pub within : AllByRecursion IsExpression es
  pub read : (ts : List Token) → AreTokens ts rest → AreTokens (statements_then es ts) bytes
  pub one : (fs : List MExpression) (ts : List Token) → AllByRecursion IsExpression fs → AreTokens (statements_then fs (codes "return" ∷ ts)) bytes → (fs ≡ es) × AreTokens (codes "return" ∷ ts) rest

-- the bytes begin with statements that print, and a `return`
pub record ArePrints (bytes : List ℕ) : Type 0 where
  pub found : List MExpression
  pub behind : List Token
  pub within : AllByRecursion IsExpression found
  pub tokens : AreTokens (statements_then found (codes "return" ∷ behind)) bytes

-- the bytes are the last statement and the end, and of no other expression
pub record ReadsResult (bytes : List ℕ) (e : MExpression) : Type 0 where
  pub within : IsExpression e
  pub read : AreTokens (result_tokens e) bytes
  pub one : (f : MExpression) → IsExpression f → AreTokens (result_tokens f) bytes → f ≡ e
