-- One tree at most of a production stands where its marks run and what is next doesn't go on from it.
-- Source: C89 3.3 to 3.7.
use Rattle.std.specs.Prelude.{◌≡◌, List}
use Rattle.c_ast.specs.Lexemes.{Lexeme, Placed}
use Rattle.c_ast.specs.InForce.{InForce}
use Rattle.c_ast.specs.Marks.{Mark, Runs, next}
use Rattle.c_ast.specs.Reach.{link_of}
use Rattle.std.specs.Prelude.{Some, None}

-- what is next is no operator
abbrev pub Closes : List Mark → Type 0
Closes r = (t : Lexeme) → next r ≡ Some t → link_of t ≡ None

-- two trees that fit, with what may stand behind them, and that run from the same names on the same tokens, are one
abbrev pub OnePiece : {T : Type 0} → (T → List Mark → List Mark) → (T → List Mark → Type 0) → Type 0
OnePiece {T} marks Fits = (x y : T) (r t : List Mark) (names : InForce) (ts : List Placed) → Fits x r → Fits y t → Runs (marks x r) names ts → Runs (marks y t) names ts → x ≡ y
