-- An operand that waits for another one.
-- Source: Fraser and Hanson, A Retargetable C Compiler, chapters 5 and 12.
use Rattle.std.specs.Prelude.{◌≡◌, ◌≤◌, ◌<◌, ℕ, Bool, length}
use Rattle.objects.specs.declared.value.Value.{Value}
use Rattle.op_forest.specs.Frames.{IsFrame}
use Rattle.forests.specs.Alike.{AreAlike}
use Rattle.forests.specs.Words.{Word}
use Rattle.forests.specs.Worlds.{World, Outcome}
use Rattle.dag_forest.specs.Tally.{node_count}
use Rattle.c_runs.specs.Worlds as c
use Rattle.c_match.specs.Ranges.{Map}
use Rattle.c_rows_agree.specs.Typed.{Typed}
use Rattle.piece_runs.specs.Pieces.{Front}
use Rattle.c_expr_agreement.specs.Scenes.{Scene}
use Rattle.lowered_forms.specs.Blocks.{IsWithin}
use Rattle.lowered_forms.specs.Later.{IsFront}
use Rattle.lowered_forms.specs.Lows.{Low}
use Rattle.lowered_forms.specs.Values.{Lowered, held}
use Rattle.c_straight_agree.specs.Agreement.{HasValue, IsLeftBut}
use Rattle.c_straight_agree.specs.Lasting.{LastingValue}
use Rattle.c_straight_agree.specs.Standing.{IsBody, Standing}

-- The run stands where the operand waits, which has its value as long as the slots that there are then hold their words. Nothing of C has changed.
pub record IsWaiting (s : Scene) (locals : ℕ) (start : ℕ → Outcome) (turns : ℕ) (l : Low) (r : Lowered) (h : Front s.body.pieces r.low.pieces r.low.entries) (map : Map) (old : c.World) (values : ℕ → Word) (first : World) (v : Value) (k : ℕ) : Type 0 where
  pub others : ℕ → Word
  pub world : World
  pub stands : Standing s start turns r.low h map old others world k
  pub alike : AreAlike first.objects world.objects
  pub left : IsLeftBut s (length l.slots) map (c.objects old) first.objects world.objects
  pub kept : (n : ℕ) → n < node_count l.entries → others n ≡ values n
  pub has : LastingValue s locals (length r.low.slots) r.value map others world v

-- So it does whether the other operand is straight or not.
abbrev pub OperandsAreHeld : Type 0
OperandsAreHeld =
    (s : Scene) (locals : ℕ) → IsBody s locals → IsFrame s.body.setting.environment.home.slots → (start : ℕ → Outcome) (turns : ℕ) (l : Low) → locals ≤ length l.slots → (f : Front s.body.pieces l.pieces l.entries) (map : Map) (old : c.World) (values : ℕ → Word) (w : World) (k : ℕ)
    → Standing s start turns l f map old values w k → (a : Typed) (v : Value) → IsWithin (node_count l.entries) a.tree → HasValue s a map values w v
    → (is_straight : Bool) (h : Front s.body.pieces (held is_straight a l).low.pieces (held is_straight a l).low.entries) → IsFront (held is_straight a l).low.slots h.before
    → IsWaiting s locals start turns l (held is_straight a l) h map old values w v k
