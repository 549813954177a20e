-- The run of a body where argument words wait for a call.
-- Source: Fraser and Hanson, A Retargetable C Compiler, chapter 5 (ARG).
use Rattle.std.specs.Prelude.{◌≡◌, ◌<◌, ℕ, List, [], ◌∷◌, length}
use Rattle.objects.specs.declared.value.Value.{Value}
use Rattle.forests.specs.Alike.{AreAlike}
use Rattle.forests.specs.Words.{Word}
use Rattle.forests.specs.Worlds.{World, Outcome}
use Rattle.dag_forest.specs.Tally.{node_count}
use Rattle.dag_seam.specs.Turns.{waiting}
use Rattle.c_runs.specs.Worlds as c
use Rattle.c_match.specs.Ranges.{Map}
use Rattle.c_agreement.specs.Agrees.{ComesWith}
use Rattle.c_agreement.specs.Called.{AreValues}
use Rattle.c_rows_agree.specs.Typed.{Typed}
use Rattle.piece_runs.specs.Pieces.{Front}
use Rattle.c_expr_agreement.specs.Scenes.{Scene, Stands}
use Rattle.lowered_forms.specs.Blocks.{IsBlock}
use Rattle.lowered_forms.specs.Later.{IsFront}
use Rattle.lowered_forms.specs.Lows.{Low}
use Rattle.c_straight_agree.specs.Agreement.{IsLeftBut}
use Rattle.c_straight_agree.specs.Lasting.{LastingValue}
use Rattle.c_straight_agree.specs.Standing.{place_of, AreFree}

-- Operands have values, one each, in order; those that wait in slots, in slots of the lowering's that are among the first so many.
abbrev pub HaveValues : Scene → ℕ → ℕ → List Typed → Map → (ℕ → Word) → World → List Value → Type 0
HaveValues s locals slots [] map values w [] = Unit {0}
HaveValues s locals slots (a ∷ as') map values w (v ∷ vs) = LastingValue s locals slots a map values w v × HaveValues s locals slots as' map values w vs
HaveValues s locals slots as' map values w vs = ⊥

-- The run stands as before an expression, but that argument words wait, which stand for these values.
pub record Passing (s : Scene) (start : ℕ → Outcome) (turns : ℕ) (l : Low) (f : Front s.body.pieces l.pieces l.entries) (map : Map) (old : c.World) (values : ℕ → Word) (w : World) (k : ℕ) (vs : List Value) : Type 0 where
  pub stands : Stands s start turns (place_of l) f map old values w k
  pub block : IsBlock l.entries
  pub none_waits : waiting l.entries ≡ []
  pub slots : IsFront l.slots f.before
  pub free : AreFree s.body w
  pub words : AreValues map vs w.arguments
  pub callees : (j : ℕ) → j < k → (function : ℕ) → function < length s.unit.functions → ComesWith s.unit s.lowered function j

-- So it stands behind argument roots; nothing of C has changed, nodes have their values, and what holds nothing of C is as it was, but for temporaries.
pub record PassedTo (s : Scene) (start : ℕ → Outcome) (turns : ℕ) (l m : Low) (h : Front s.body.pieces m.pieces m.entries) (map : Map) (old : c.World) (values : ℕ → Word) (first : World) (k : ℕ) (vs : List Value) : Type 0 where
  pub others : ℕ → Word
  pub world : World
  pub stands : Passing s start turns m h map old others world k vs
  pub alike : AreAlike first.objects world.objects
  pub left : IsLeftBut s (length l.slots) map (c.objects old) first.objects world.objects
  pub kept : (n : ℕ) → n < node_count l.entries → others n ≡ values n
