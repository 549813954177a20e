-- What a unit is spelled by, which units fit, and which unit a source's tokens denote.
-- Source: C89 3.1 to 3.7; the limit on a unit's height is this profile's own.
use Rattle.std.specs.Prelude.{◌≡◌, ◌≤◌, Some, List, [], ◌∷◌}
use Rattle.c_ast.specs.Lexemes.{Lexeme, Placed}
use Rattle.c_ast.specs.InForce.{InForce, nothing_in_force, is_typedef, put, opened, closed, closed_kept, reopened, forgotten}
use Rattle.c_ast.specs.Marks.{Mark, Tok, Plain, Typed, Here, Ask, Put, Open, Close, Keep, Reopen, Forget, holds, tokens_of, lexemes, next_line}
use Rattle.c_ast.specs.Trees.{UnitTree}
use Rattle.c_ast.specs.UnitMarks.{unit}
use Rattle.c_ast.specs.Levels.{FitsUnit}
use Rattle.c_ast.specs.Heights.{unit_height}
use Rattle.std.specs.Prelude.{true, false}

-- the tokens of a unit, each name with its bytes and each text with what it denotes
abbrev pub spell : UnitTree → List Lexeme
spell u = tokens_of (unit u)

-- each name is classed by the declarations in force, and what follows is what the marks say
abbrev pub Classed : List Mark → InForce → Type 0
Classed [] names = Unit {0}
Classed (Tok l ∷ ms) names = Classed ms names
Classed (Plain n ∷ ms) names = (is_typedef names n ≡ false) × Classed ms names
Classed (Typed n ∷ ms) names = (is_typedef names n ≡ true) × Classed ms names
Classed (Here line ∷ ms) names = Classed ms names
Classed (Ask test answer ∷ ms) names = (holds test names (tokens_of ms) ≡ answer) × Classed ms names
Classed (Put n typedef ∷ ms) names = Classed ms (put names n typedef)
Classed (Open ∷ ms) names = Classed ms (opened names)
Classed (Close ∷ ms) names = Classed ms (closed names)
Classed (Keep ∷ ms) names = Classed ms (closed_kept names)
Classed (Reopen ∷ ms) names = Classed ms (reopened names)
Classed (Forget ∷ ms) names = Classed ms (forgotten names)

abbrev pub behind_first : List Placed → List Placed
behind_first [] = []
behind_first (t ∷ ts) = ts

-- each node's line is that of its first token
abbrev pub Lined : List Mark → List Placed → Type 0
Lined [] ts = Unit {0}
Lined (Tok l ∷ ms) ts = Lined ms (behind_first ts)
Lined (Plain n ∷ ms) ts = Lined ms (behind_first ts)
Lined (Typed n ∷ ms) ts = Lined ms (behind_first ts)
Lined (Here line ∷ ms) ts = (next_line ts ≡ Some line) × Lined ms ts
Lined (Ask test answer ∷ ms) ts = Lined ms ts
Lined (Put n typedef ∷ ms) ts = Lined ms ts
Lined (Open ∷ ms) ts = Lined ms ts
Lined (Close ∷ ms) ts = Lined ms ts
Lined (Keep ∷ ms) ts = Lined ms ts
Lined (Reopen ∷ ms) ts = Lined ms ts
Lined (Forget ∷ ms) ts = Lined ms ts

-- operator levels and kinds of declarators follow the grammar, names are classed by the declarations in force, an else goes
-- with the nearest if, and the height is at most 500
pub record Fits (u : UnitTree) : Type 0 where
  pub levels : FitsUnit u
  pub classed : Classed (unit u) nothing_in_force
  pub low : unit_height u ≤ 500

-- the tokens are those of the unit, which fits, and each of its nodes stands on the line of its first token
pub record Denotes (ts : List Placed) (u : UnitTree) : Type 0 where
  pub spelled : lexemes ts ≡ spell u
  pub fits : Fits u
  pub lined : Lined (unit u) ts
