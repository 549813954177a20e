-- The run of a body while an expression in it is lowered: what is fixed of the body, and where the run stands.
-- Source: Fraser and Hanson, A Retargetable C Compiler, chapters 5, 12 and 13.
use Rattle.std.specs.Prelude.{◌≡◌, ◌≤◌, ◌<◌, ℕ, ◌+◌, Some, None, List, [], length, slice_get}
use Rattle.objects.specs.declared.purpose.Purpose.TheVariants.{Assignment}
use Rattle.objects.specs.declared.value.Value.TheVariants.{Pointer}
use Rattle.objects.specs.Accesses.{write_cause}
use Rattle.op_forest.specs.declared.frame.Slot.{Slot}
use Rattle.forests.specs.Objects.{shapes}
use Rattle.forests.specs.Sound.{IsSoundEnvironment}
use Rattle.forests.specs.Words.{Word}
use Rattle.forests.specs.Worlds.{World, Outcome}
use Rattle.dag_forest.specs.Split.{slot_name}
use Rattle.dag_seam.specs.Turns.{waiting}
use Rattle.c_runs.specs.Soundness.{IsTameUnit, IsSound, AreLocalsOf}
use Rattle.c_runs.specs.Worlds as c
use Rattle.c_match.specs.Ranges.{Map}
use Rattle.c_agreement.specs.Agrees.{ComesWith}
use Rattle.c_pointers_agree.specs.Held.{AreShort}
use Rattle.piece_runs.specs.Pieces.{Front}
use Rattle.piece_runs.specs.Reaches.{BodyRun}
use Rattle.piece_runs.specs.Laws.{AreSplit}
use Rattle.c_expr_agreement.specs.Scenes.{Scene, Place, Stands}
use Rattle.lowered_forms.specs.Blocks.{IsBlock}
use Rattle.lowered_forms.specs.Later.{IsFront}
use Rattle.lowered_forms.specs.Lows.{Low}

-- ---- the body

abbrev pub IsAmong : ℕ → List ℕ → Type 0
IsAmong n ns = (j : ℕ) × (slice_get ns j ≡ Some n)

-- The body's blocks are split; its names' values are words; and of the slots of its frame, which stand behind the unit's objects, all but the
-- first so many hold nothing of C.
pub record IsBody (s : Scene) (locals : ℕ) : Type 0 where
  pub split : AreSplit s.body
  pub tame : IsTameUnit s.unit
  pub order : s.body.setting.environment.order ≡ s.lowered.order
  pub words : IsSoundEnvironment s.body.setting.environment
  pub above : length s.lowered.objects ≤ s.body.setting.environment.home.place
  pub hidden : (i : ℕ) → locals ≤ i → i < length s.body.setting.environment.home.slots → IsAmong (s.body.setting.environment.home.place + i) s.frame.others

-- each slot of four bytes may be written
abbrev pub AreFree : BodyRun → World → Type 0
AreFree g w =
    (i : ℕ) (slot : Slot) → slice_get g.setting.environment.home.slots i ≡ Some slot → slot.size ≡ 4
    → write_cause Assignment (shapes w.objects) (Pointer (slot_name g.setting.environment.home i) 0) 4 4 ≡ None

-- ---- the run

abbrev pub place_of : Low → Place
place_of l = record { done = l.pieces; entries = l.entries }

-- Calls may be made: no argument word that was passed waits for one; and a function that is called with fewer turns than are left comes to what the
-- call of C comes to.
pub record IsReady (s : Scene) (w : World) (k : ℕ) : Type 0 where
  pub arguments : w.arguments ≡ []
  pub callees : (j : ℕ) → j < k → (function : ℕ) → function < length s.unit.functions → ComesWith s.unit s.lowered function j

-- The run comes to the open block, of which no call waits; all its blocks, and this one with it, come to be those of the body, split behind
-- the slots that there are so far and maybe more; each slot may be written, and calls may be made.
pub record Standing (s : Scene) (start : ℕ → Outcome) (turns : ℕ) (l : Low) (f : Front s.body.pieces l.pieces l.entries) (map : Map) (old : c.World) (values : ℕ → Word) (w : World) (k : ℕ) : Type 0 where
  pub stands : Stands s start turns (place_of l) f map old values w k
  pub block : IsBlock l.entries
  pub none_waits : waiting l.entries ≡ []
  pub slots : IsFront l.slots f.before
  pub free : AreFree s.body w
  pub ready : IsReady s w k

-- C's world is sound, the running call's locals are objects of their types' sizes, and all objects are short
pub record IsSoundIn (s : Scene) (old : c.World) : Type 0 where
  pub sound : IsSound s.unit old
  pub locals : AreLocalsOf s.unit.tags s.frame.types old
  pub short : AreShort (c.objects old)
