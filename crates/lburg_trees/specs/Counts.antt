-- How many names stand among tokens, and how many parentheses are open behind them.
use Rattle.std.specs.Prelude.{ℕ, ◌+◌, ◌-◌, List, [], ◌∷◌}
use Rattle.lburg_lines.specs.declared.token.Sign.TheVariants.{Open, Close}
use Rattle.lburg_lines.specs.Tokens.{Tok, Word, Mark}

abbrev pub names_among : List Tok → ℕ
names_among [] = 0
names_among (Word n ∷ ts) = names_among ts + 1
names_among (t ∷ ts) = names_among ts

-- where so many are open before them
abbrev pub open_behind : ℕ → List Tok → ℕ
open_behind n [] = n
open_behind n (Mark Open ∷ ts) = open_behind (n + 1) ts
open_behind n (Mark Close ∷ ts) = open_behind (n - 1) ts
open_behind n (t ∷ ts) = open_behind n ts
