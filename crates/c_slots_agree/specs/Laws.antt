-- What slots that the lowering takes keep.
-- Source: Fraser and Hanson, A Retargetable C Compiler, chapters 5 and 12 (ASGN, INDIR; temporaries).
use Rattle.std.specs.Prelude.{◌≡◌, ◌≤◌, ◌<◌, ℕ, ℤ, List, length}
use Rattle.objects.specs.declared.value.Value.{Value}
use Rattle.op_forest.specs.declared.suffix.Suffix.{Suffix}
use Rattle.op_forest.specs.Frames.{IsFrame}
use Rattle.forests.specs.Alike.{AreAlike}
use Rattle.forests.specs.Words.{Word, IsWord}
use Rattle.forests.specs.Worlds.{World, Outcome}
use Rattle.dag_forest.specs.declared.entry.Entry.{Entry}
use Rattle.dag_forest.specs.Tally.{node_count}
use Rattle.c_runs.specs.Worlds as c
use Rattle.c_match.specs.Ranges.{Map}
use Rattle.c_match.specs.Values.{IsValue}
use Rattle.c_rows_agree.specs.Templates.{Gives}
use Rattle.c_rows_agree.specs.Typed.{Typed}
use Rattle.piece_runs.specs.Pieces.{Piece, Front}
use Rattle.piece_runs.specs.Reaches.{keeps_at}
use Rattle.c_expr_agreement.specs.Scenes.{Scene, InFrame}
use Rattle.lowered_forms.specs.Blocks.{IsWithin}
use Rattle.lowered_forms.specs.Later.{IsFront}
use Rattle.lowered_forms.specs.Lows.{Low, slot_offset, with_slot}
use Rattle.lowered_forms.specs.Values.{slot_read, stored_in}
use Rattle.c_straight_agree.specs.Agreement.{IsLeftBut}
use Rattle.c_straight_agree.specs.Lasting.{LastingValue}
use Rattle.c_straight_agree.specs.Settled.{seen, IsSettled}
use Rattle.c_straight_agree.specs.Standing.{IsBody, Standing}
use Rattle.c_slots_agree.specs.Slots.{IsSlotAt, SlotHolds}

-- A slot that the lowering takes is one of the frame, where a block is split behind it, at the place that it has among the slots.
abbrev pub SlotsAreTaken : Type 0
SlotsAreTaken =
    (s : Scene) (locals : ℕ) → IsBody s locals → (l : Low) (done : List Piece) (es : List Entry) (h : Front s.body.pieces done es) → IsFront (with_slot l).slots h.before → IsSlotAt s (length l.slots) (slot_offset l)

-- The run stands behind a store, the slot holds the word, and nothing of C has changed: what holds nothing of C is as it was, but for the slot and those behind it.
pub record SlotStored (s : Scene) (start : ℕ → Outcome) (turns number : ℕ) (u : Word) (l m : Low) (h : Front s.body.pieces m.pieces m.entries) (map : Map) (old : c.World) (values : ℕ → Word) (first : World) (k : ℕ) : Type 0 where
  pub others : ℕ → Word
  pub world : World
  pub stands : Standing s start turns m h map old others world k
  pub alike : AreAlike first.objects world.objects
  pub left : IsLeftBut s number map (c.objects old) first.objects world.objects
  pub kept : (n : ℕ) → n < node_count l.entries → others n ≡ values n
  pub holds : SlotHolds s number u world

-- So it does where an operand with this word is stored in a slot that was taken before.
abbrev pub SlotsAreStored : Type 0
SlotsAreStored =
    (s : Scene) (locals : ℕ) → IsBody s locals → IsFrame s.body.setting.environment.home.slots → (start : ℕ → Outcome) (turns : ℕ) (m : Low) (f : Front s.body.pieces m.pieces m.entries) (map : Map) (old : c.World) (values : ℕ → Word) (w : World) (k : ℕ)
    → Standing s start turns m f map old values w k → (number : ℕ) (offset : ℤ) → IsSlotAt s number offset → locals ≤ number → number < length m.slots
    → (a : Typed) (u : Word) → IsWithin (node_count m.entries) a.tree → IsSettled (keeps_at s.body m.pieces m.entries f) (seen s.body map values w) a.tree → Gives (seen s.body map values w) a.tree u
    → (h : Front s.body.pieces (stored_in offset a m).pieces (stored_in offset a m).entries) → SlotStored s start turns number u m (stored_in offset a m) h map old values w k

-- A slot holds its word still where what holds nothing of C is as it was, but for slots behind it.
abbrev pub SlotsStay : Type 0
SlotsStay =
    (s : Scene) (locals : ℕ) → IsBody s locals → (number from : ℕ) (offset : ℤ) → IsSlotAt s number offset → locals ≤ number → number < from → (map : Map) (old : c.World) (w world : World) → InFrame s.frame map old w
    → AreAlike w.objects world.objects → IsLeftBut s from map (c.objects old) w.objects world.objects → (u : Word) → SlotHolds s number u w → SlotHolds s number u world

-- What is read from it is its word, and the read is settled in a block that is open behind it.
abbrev pub SlotsAreRead : Type 0
SlotsAreRead =
    (s : Scene) (locals : ℕ) → IsBody s locals → IsFrame s.body.setting.environment.home.slots → (number : ℕ) (offset : ℤ) → IsSlotAt s number offset → (m : Low) (f : Front s.body.pieces m.pieces m.entries) → IsFront m.slots f.before → number < length m.slots
    → (map : Map) (values : ℕ → Word) (w : World) (u : Word) → SlotHolds s number u w → (x : Suffix)
    → Gives (seen s.body map values w) (slot_read x offset).tree u × IsSettled (keeps_at s.body m.pieces m.entries f) (seen s.body map values w) (slot_read x offset).tree

-- A value whose word a slot holds is read there, as long as it does.
abbrev pub SlotValuesLast : Type 0
SlotValuesLast =
    (s : Scene) (locals : ℕ) → IsFrame s.body.setting.environment.home.slots → (number slots : ℕ) (offset : ℤ) → IsSlotAt s number offset → locals ≤ number → number < slots → (map : Map) (values : ℕ → Word) (w : World) (u : Word) (v : Value)
    → IsWord u → IsValue map v u → SlotHolds s number u w → (x : Suffix) → LastingValue s locals slots (slot_read x offset) map values w v
