-- Roots that change objects: those of C, or slots of the frame that hold nothing of C.
-- Source: Fraser and Hanson, A Retargetable C Compiler, chapter 5 (ASGN).
use Rattle.std.specs.Prelude.{◌≡◌, ℕ, Some, List, slice_get}
use Rattle.forests.specs.Actions.{Stored}
use Rattle.forests.specs.Objects.{Object}
use Rattle.forests.specs.Words.{Word}
use Rattle.forests.specs.Worlds.{World, with_objects}
use Rattle.dag_forest.specs.Meaning.{Temporary, Keeps}
use Rattle.c_runs.specs.Worlds as c
use Rattle.c_match.specs.Left.{IsPrivate}
use Rattle.c_match.specs.Ranges.{Map}
use Rattle.c_match_worlds.specs.Matches.{Matches}
use Rattle.c_rows_agree.specs.Templates.{Root, Acts}
use Rattle.c_expr_agreement.specs.Scenes.{Scene}
use Rattle.c_straight_agree.specs.Agreement.{IsLeftBut}
use Rattle.c_straight_agree.specs.Settled.{seen}

-- Where nodes have these values, in this world, the root acts, and then the world stands for another one of C. What held nothing of C holds nothing still, and is as it
-- was, but for slots from a number on that aren't the block's temporaries.
pub record IsStoring (s : Scene) (from : ℕ) (keeps : Keeps) (map : Map) (old new : c.World) (values : ℕ → Word) (w : World) (r : Root) : Type 0 where
  pub after : List Object
  pub acts : Acts (seen s.body map values w) r (Stored after)
  pub matches : Matches s.lowered s.own map new (with_objects w after)
  pub locals : new.locals ≡ old.locals
  pub left : IsLeftBut s from map (c.objects old) w.objects after
  pub private : (place : ℕ) → IsPrivate map (c.objects old) place → IsPrivate map (c.objects new) place
  pub kept : (m : ℕ) (t : Temporary) → keeps m ≡ Some t → slice_get after t.object ≡ slice_get w.objects t.object
