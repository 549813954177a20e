-- How a state goes on from an earlier one: pieces, slots and labels are added, and what was the open block begins one.
use Rattle.std.specs.Prelude.{◌≡◌, ◌≤◌, ℕ, ◌+◌, Bool, true, List, [], ◌∷◌, ◌++◌}
use Rattle.c_meaning.specs.Values.{CoreTree}
use Rattle.dag_forest.specs.declared.entry.Entry.{Entry}
use Rattle.lowered_forms.specs.Contexts.{Context}
use Rattle.lowered_forms.specs.Expressions.{low_e, low_test}
use Rattle.piece_runs.specs.Pieces.{Piece, OfBlock, Mark, Front}
use Rattle.lowered_forms.specs.Lows.{Low}
use Rattle.lowered_forms.specs.Straight.{straight, roots_for, root_count}

-- a list goes on from another one
pub record IsFront {A : Type 0} (xs ys : List A) : Type 0 where
  pub more : List A
  pub is : ys ≡ xs ++ more

-- what was the open block begins the first of the further pieces, or the open block where there is none
abbrev pub HoldsOpen : List Entry → List Piece → List Entry → Type 0
HoldsOpen es [] fs = IsFront es fs
HoldsOpen es (OfBlock before gs ∷ ps) fs = IsFront es gs
HoldsOpen es (Mark n ∷ ps) fs = ⊥

pub record IsLater (a b : Low) : Type 0 where
  pub pieces : IsFront a.pieces b.pieces
  pub slots : IsFront a.slots b.slots
  pub labels : a.labels ≤ b.labels
  pub begins : HoldsOpen a.entries pieces.more b.entries

abbrev pub LoweringAdds : Type 0
LoweringAdds = (s : Context) (e : CoreTree) (l : Low) → IsLater l (low_e s e l).low

abbrev pub TestingAdds : Type 0
TestingAdds = (s : Context) (e : CoreTree) (n : ℕ) (when : Bool) (l : Low) → IsLater l (low_test s e n when l)

-- what the open block comes to be at the end, what was the open block comes to be
abbrev pub FrontsGoBack : Type 0
FrontsGoBack = (all : List Piece) (a b : Low) → IsLater a b → Front all b.pieces b.entries → Front all a.pieces a.entries

-- ---- straight expressions

-- no block is finished and no label used, and there are at most so many roots more
pub record GoesOn (n : ℕ) (a b : Low) : Type 0 where
  pub pieces : b.pieces ≡ a.pieces
  pub labels : b.labels ≡ a.labels
  pub entries : IsFront a.entries b.entries
  pub roots : root_count b.entries ≤ root_count a.entries + n

abbrev pub StraightGoesOn : Type 0
StraightGoesOn = (s : Context) (e : CoreTree) → straight e ≡ true → (l : Low) → GoesOn (roots_for e) l (low_e s e l).low
