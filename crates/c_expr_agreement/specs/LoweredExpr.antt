-- What the entries that are added for an expression keep, and that the operand that comes of it stands for its value. Which entries these are is
-- left open: it is said of the places before and behind them, and of the operand.
-- Source: ISO/IEC 9899:1990, 5.1.2.3 (program execution), 6.3 (expressions).
use Rattle.std.specs.Prelude.{◌≡◌, ◌<◌, ◌⊎◌, ℕ, Option, Some, None, List, ◌∷◌, ◌++◌}
use Rattle.objects.specs.declared.value.Value.{Value}
use Rattle.op_forest.specs.declared.frame.Slot.{Slot}
use Rattle.forests.specs.Words.{Word}
use Rattle.forests.specs.Worlds.{World, Outcome}
use Rattle.dag_forest.specs.declared.entry.Entry.{Entry}
use Rattle.dag_forest.specs.Tally.{node_count}
use Rattle.c_meaning.specs.Values.{CoreTree}
use Rattle.c_runs.specs.Expressions.{eval}
use Rattle.c_runs.specs.Outcomes.{Undefined, OutOfTurns, Exit, Result, Gives, GivesNone, Ends}
use Rattle.c_runs.specs.Run.{context}
use Rattle.c_runs.specs.Worlds as c
use Rattle.c_match.specs.Left.{IsLeft}
use Rattle.c_match.specs.Ranges.{Map, Grown}
use Rattle.c_match.specs.Values.{IsResult}
use Rattle.c_match_worlds.specs.Matches.{Matches}
use Rattle.piece_runs.specs.Pieces.{Piece, OfBlock, Front}
use Rattle.piece_runs.specs.Reaches.{Stops, Leaves}
use Rattle.c_expr_agreement.specs.Scenes.{Scene, Place, Stands}

-- ---- entries are added

-- the same block is open, with more entries
pub record GrowsTo (a b : Place) : Type 0 where
  pub more : List Entry
  pub done : b.done ≡ a.done
  pub entries : b.entries ≡ a.entries ++ more

-- or it was finished, with more entries, and another is open
pub record PassesTo (a b : Place) : Type 0 where
  pub more : List Entry
  pub before : List Slot
  pub rest : List Piece
  pub done : b.done ≡ a.done ++ OfBlock before (a.entries ++ more) ∷ rest

-- ---- what comes of it

-- an operand has words as its values, given those of the nodes, in a world
abbrev pub Operand : Type 1
Operand = (ℕ → Word) → World → Word → Type 0

-- a node
abbrev pub of_node : ℕ → Operand
of_node n values w u = values n ≡ u

-- Behind the expression: objects that had ranges have the same, what held nothing of C is left, and the operand has the value, if there is
-- one. The nodes of a block that is open still have theirs.
pub record Gave (s : Scene) (start : ℕ → Outcome) (turns : ℕ) (a b : Place) (f : Front s.body.pieces b.done b.entries) (operand : Operand) (map : Map) (before : c.World) (values : ℕ → Word) (first : World) (v : Option Value) (old : c.World) (k : ℕ) : Type 0 where
  pub later : Map
  pub grown : Grown map later
  pub others : ℕ → Word
  pub world : World
  pub stands : Stands s start turns b f later old others world k
  pub left : IsLeft map (c.objects before) first.objects world.objects
  pub word : Word
  pub has : operand others world word
  pub value : IsResult later v word
  pub kept : GrowsTo a b → (m : ℕ) → m < node_count a.entries → others m ≡ values m

-- it exits, in worlds that match
pub record Left (s : Scene) (start : ℕ → Outcome) (map : Map) (status : ℕ) (old : c.World) : Type 0 where
  pub later : Map
  pub grown : Grown map later
  pub world : World
  pub leaves : Leaves start status world
  pub matches : Matches s.lowered s.own later old world

-- by what C's evaluation comes to; nothing is asked where it is undefined
abbrev pub CameBehind : (s : Scene) → (ℕ → Outcome) → ℕ → Place → (b : Place) → Front s.body.pieces b.done b.entries → Operand → Map → c.World → (ℕ → Word) → World → Result → Type 0
CameBehind s start turns a b f operand map before values first (Gives v k old) = Gave s start turns a b f operand map before values first (Some v) old k
CameBehind s start turns a b f operand map before values first (GivesNone line k old) = Gave s start turns a b f operand map before values first None old k
CameBehind s start turns a b f operand map before values first (Ends (Undefined cause line) old) = Unit {0}
CameBehind s start turns a b f operand map before values first (Ends OutOfTurns old) = Stops start turns old.trace
CameBehind s start turns a b f operand map before values first (Ends (Exit status) old) = Left s start map status old

-- From each state that stands before the expression, the run comes to what C's evaluation comes to.
pub record LoweredExpr (s : Scene) (e : CoreTree) (a b : Place) (operand : Operand) : Type 0 where
  pub goes_on : GrowsTo a b ⊎ PassesTo a b
  pub comes :
      (start : ℕ → Outcome) (turns : ℕ) (before : Front s.body.pieces a.done a.entries) (behind : Front s.body.pieces b.done b.entries) (map : Map) (old : c.World) (values : ℕ → Word) (w : World) (k : ℕ)
      → Stands s start turns a before map old values w k
      → CameBehind s start turns a b behind operand map old values w (eval (context s.unit s.lowered.order) e k old)
