-- What the lowering of a test keeps: from each state in which the run stands before it, the run comes to stand behind it, or at its label, by the truth
-- of C's test. It is said of any test, whatever its parts are.
-- Source: ISO/IEC 9899:1990, 6.3.3.3, 6.3.8, 6.3.9, 6.3.13, 6.3.14; Aho, Lam, Sethi and Ullman, Compilers, 6.6 (short-circuit code).
use Rattle.std.specs.Prelude.{◌≡◌, ◌<◌, ℕ, Bool, true, false, not, List, [], ◌∷◌, ◌++◌, length}
use Rattle.op_forest.specs.declared.frame.Slot.{Slot}
use Rattle.forests.specs.Alike.{AreAlike}
use Rattle.forests.specs.Words.{Word}
use Rattle.forests.specs.Worlds.{World, Outcome}
use Rattle.dag_seam.specs.SplitLaws.{Lacks}
use Rattle.c_meaning.specs.Values.{CoreTree}
use Rattle.c_runs.specs.Expressions.{eval, asked}
use Rattle.c_runs.specs.Outcomes.{Undefined, OutOfTurns, Exit, Result, Gives, GivesNone, Ends, truth}
use Rattle.c_runs.specs.Run.{context}
use Rattle.c_runs.specs.Worlds as c
use Rattle.c_match.specs.Left.{IsPrivate}
use Rattle.c_match.specs.Ranges.{Map, Grown}
use Rattle.piece_runs.specs.Pieces.{Piece, Mark, Front}
use Rattle.piece_runs.specs.Reaches.{BodyRun, roots_in, Stops}
use Rattle.c_expr_agreement.specs.LoweredExpr.{Left}
use Rattle.c_expr_agreement.specs.Scenes.{Scene}
use Rattle.lowered_forms.specs.Later.{IsFront}
use Rattle.lowered_forms.specs.Lows.{Low}
use Rattle.c_straight_agree.specs.Agreement.{IsLeftBut}
use Rattle.c_straight_agree.specs.Layouts.{FrameLayout, HoldsWholes}
use Rattle.c_straight_agree.specs.Standing.{Standing, IsSoundIn}

-- ---- labels

-- each label stands first where it is among the pieces: there are no two
abbrev pub AreMarkedOnce : BodyRun → Type 0
AreMarkedOnce g = (done rest : List Piece) (n : ℕ) → g.pieces ≡ done ++ Mark n ∷ rest → Lacks n (roots_in g done)

-- Where a label is in the final body: behind these pieces; and behind it a block begins, which is split behind these slots and maybe more.
pub record Label (s : Scene) (n : ℕ) : Type 0 where
  pub before : List Piece
  pub slots : List Slot
  pub labels : ℕ
  pub front : Front s.body.pieces (before ++ Mark n ∷ []) []
  pub split : IsFront slots front.before

abbrev pub low_at : (s : Scene) (n : ℕ) → Label s n → Low
low_at s n t = record { pieces = t.before ++ Mark n ∷ []; entries = []; slots = t.slots; labels = t.labels }

-- ---- what the run comes to

-- The run stands there, in a world of C. Objects that had ranges have the same; those that held nothing of C hold nothing still, and are as they were
-- but for slots that the lowering takes, behind so many.
pub record Passed (s : Scene) (start : ℕ → Outcome) (turns from : ℕ) (m : Low) (h : Front s.body.pieces m.pieces m.entries) (map : Map) (before : c.World) (first : World) (old : c.World) (k : ℕ) : Type 0 where
  pub later : Map
  pub grown : Grown map later
  pub others : ℕ → Word
  pub world : World
  pub stands : Standing s start turns m h later old others world k
  pub alike : AreAlike first.objects world.objects
  pub left : IsLeftBut s from map (c.objects before) first.objects world.objects
  pub private : (place : ℕ) → place < length first.objects → IsPrivate map (c.objects before) place → IsPrivate later (c.objects old) place

-- whether a jump is taken that is taken where a truth is so
abbrev pub jumps : Bool → Bool → Bool
jumps true is = is
jumps false is = not is

-- at the label, where the jump is taken, else behind the test
abbrev pub PassedBy : Bool → (s : Scene) → (ℕ → Outcome) → ℕ → ℕ → (m : Low) → Front s.body.pieces m.pieces m.entries → (n : ℕ) → Label s n → Map → c.World → World → c.World → ℕ → Type 0
PassedBy false s start turns from m h n t map before first old k = Passed s start turns from m h map before first old k
PassedBy true s start turns from m h n t map before first old k = Passed s start turns from (low_at s n t) t.front map before first old k

-- by what C's test comes to: 1 or 0; nothing is asked where it is undefined
abbrev pub WentTo : (s : Scene) → (ℕ → Outcome) → ℕ → ℕ → Bool → (m : Low) → Front s.body.pieces m.pieces m.entries → (n : ℕ) → Label s n → Map → c.World → World → Result → Type 0
WentTo s start turns from when m h n t map before first (Gives v k old) = (is : Bool) × ((v ≡ truth is) × PassedBy (jumps when is) s start turns from m h n t map before first old k)
WentTo s start turns from when m h n t map before first (GivesNone line k old) = ⊥
WentTo s start turns from when m h n t map before first (Ends (Undefined cause line) old) = Unit {0}
WentTo s start turns from when m h n t map before first (Ends OutOfTurns old) = Stops start turns old.trace
WentTo s start turns from when m h n t map before first (Ends (Exit status) old) = Left s start map status old

-- an expression as a test of C, whose causes have this line
abbrev pub asked_at : Scene → CoreTree → ℕ → ℕ → c.World → Result
asked_at s e line k old = asked (record { tree = e; does = λ k1 w1. eval (context s.unit s.lowered.order) e k1 w1 }) line k old

-- From each state that stands before the test, where the label is in the final body, and where the block comes to be one that goes on behind the test, the run comes to
-- what C's test comes to.
abbrev pub IsTested : Scene → FrameLayout → CoreTree → ℕ → Bool → Low → Low → Type 0
IsTested s y e n when l m =
    (start : ℕ → Outcome) (turns : ℕ) (f : Front s.body.pieces l.pieces l.entries) (h : Front s.body.pieces m.pieces m.entries) (t : Label s n) (map : Map) (before : c.World) (values : ℕ → Word) (first : World) (k line : ℕ)
    → IsFront m.slots h.before → Standing s start turns l f map before values first k → IsSoundIn s before → HoldsWholes s y first
    → WentTo s start turns (length l.slots) when m h n t map before first (asked_at s e line k before)
