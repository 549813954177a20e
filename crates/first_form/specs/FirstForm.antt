-- The first form of C:
--   program = "int" "main" "(" "void" ")" "{" {"putchar" "(" E ")" ";"} "return" E ";" "}"
-- An expression is at most 200 nodes high.
-- Source: C89 3.3.2.2, 3.6.3, 3.6.6.4 and 3.7.1.
use Rattle.std.specs.Prelude.{◌≤◌, ℕ, List, [], ◌∷◌, ◌++◌, codes}
use Rattle.std.specs.List.{AllByRecursion}
use Rattle.first_form.specs.Tokens.{Token, AreTokens}
use Rattle.first_form.specs.Expression.{MExpression}
use Rattle.first_form.specs.Grammar.{tokens_then, Derives}
use Rattle.first_form.specs.Height.{height}
use Rattle.first_form.specs.FirstProgram.{MProgram}

abbrev pub IsExpression : MExpression → Type 0
IsExpression e = Derives 0 e × (height e ≤ 200)

abbrev pub statements_then : List MExpression → List Token → List Token
statements_then [] rest = rest
statements_then (e ∷ es) rest = codes "putchar" ∷ (codes "(" ∷ tokens_then e (codes ")" ∷ (codes ";" ∷ statements_then es rest)))

abbrev pub result_tokens : MExpression → List Token
result_tokens e = codes "return" ∷ tokens_then e (codes ";" ∷ (codes "}" ∷ []))

abbrev pub program_tokens : MProgram → List Token
program_tokens p =
    (codes "int" ∷ codes "main" ∷ codes "(" ∷ codes "void" ∷ codes ")" ∷ codes "{" ∷ []) ++ statements_then p.prints (result_tokens p.result)

-- the bytes are a text of the program
pub record IsFirst (text : List ℕ) (p : MProgram) : Type 0 where
  pub spelled : AreTokens (program_tokens p) text
  pub prints : AllByRecursion IsExpression p.prints
  pub result : IsExpression p.result
