-- What the private readers answer: the state that they read from, and why they answer nothing.
-- Source: C89 3.3 to 3.5.
use Rattle.std.specs.Prelude.{◌≡◌, ◌⊎◌, ℕ, Bool, true, false, None, List}
use Rattle.c_ast.specs.InForce.{InForce}
use Rattle.c_ast.specs.Marks.{IsSign}
use Rattle.c_ast.specs.Signs.{close_parenthesis, close_brace, ellipsis, comma_sign}
use Rattle.c_lexer.specs.declared.token.Token.{Token}
use Rattle.c_lexer.specs.PlacedTokens.{placed}
use Rattle.c_readings.specs.Reading.{State, Read, gives, ask, beyond, one_sign}
use Rattle.c_expr.specs.declared.stop.Stop.{Stop}
use Rattle.c_expr.specs.declared.stop.Stop.TheVariants.{Memory}

-- before these tokens of the source
abbrev pub at : InForce → List ℕ → List Token → State
at names source tokens = record { names = names; rest = placed source tokens }

-- an allocation was refused, or nothing can be read
abbrev pub Fails : {A : Type 0} → Stop → Read A → Type 0
Fails e o = (e ≡ Memory) ⊎ (o ≡ None)

-- behind the last of a list in braces: `}`, perhaps with a comma before it
abbrev pub comma_end : {A : Type 0} → A → State → Read (A × Bool)
comma_end x s = ask (IsSign comma_sign) s (one_sign close_brace (beyond s) (λ t. gives (x, true) t)) (one_sign close_brace s (λ t. gives (x, false) t))

-- behind the last parameter: `)`, perhaps with `, ...` before it
abbrev pub dots_end : {A : Type 0} → A → State → Read (A × Bool)
dots_end x s = ask (IsSign comma_sign) s (one_sign ellipsis (beyond s) (λ t. one_sign close_parenthesis t (λ u. gives (x, true) u))) (one_sign close_parenthesis s (λ t. gives (x, false) t))
