-- What the open block comes to be, and that it is split behind the slots that there are.
use Rattle.std.specs.Prelude.{ℕ, Bool, List}
use Rattle.c_meaning.specs.Values.{CoreTree}
use Rattle.piece_runs.specs.Pieces.{Piece, Front}
use Rattle.lowered_forms.specs.Contexts.{Context}
use Rattle.lowered_forms.specs.Expressions.{low_e, low_test}
use Rattle.lowered_forms.specs.Later.{IsFront}
use Rattle.lowered_forms.specs.Lows.{Low}

-- the pieces begin all, the open block goes on in the next one of these, and is split behind its slots and maybe more
pub record Final (all : List Piece) (l : Low) : Type 0 where
  pub front : Front all l.pieces l.entries
  pub slots : IsFront l.slots front.before

-- So it is before an expression and a test, of any kind, where it is so behind them.
abbrev pub FinalsGoBack : Type 0
FinalsGoBack = (all : List Piece) (x : Context) (e : CoreTree) (l : Low) → Final all (low_e x e l).low → Final all l

abbrev pub TestFinalsGoBack : Type 0
TestFinalsGoBack = (all : List Piece) (x : Context) (e : CoreTree) (n : ℕ) (when : Bool) (l : Low) → Final all (low_test x e n when l) → Final all l
