-- Slots that the lowering takes are among those of the frame.
use Rattle.std.specs.Prelude.{List, ◌++◌, length, slice_get}
use Rattle.std.proofs.Common.{refl, ap, ◌∙◌}
use Rattle.op_forest.specs.declared.frame.Slot.{Slot}
use Rattle.op_forest.specs.Frames.{lowest}
use Rattle.dag_forest.specs.NewSlots.{slot_below, slots_below}
use Rattle.dag_forest.specs.Split.{room_count}
use Rattle.dag_seam.proofs.lemmas.Acts.{get_left, get_last}
use Rattle.lowered_forms.specs.Lows.{with_slot}
use Rattle.c_slots_agree.specs.Laws.{SlotsAreTaken}

pub slots_are_taken : SlotsAreTaken
slots_are_taken s locals body l done es h behind =
    let n = length l.slots in
    let new = slot_below (lowest l.slots) 0 in
    let full = es ++ h.more in
    let split = body.split done h.rest h.before full h.is in
    record {
      slot = new;
      there =
          ap (λ (ss : List Slot). slice_get ss n) split.frame
          ∙ get_left (h.before ++ slots_below (lowest h.before) (room_count full)) split.more n new
          (get_left h.before (slots_below (lowest h.before) (room_count full)) n new
          (ap (λ (ss : List Slot). slice_get ss n) behind.is ∙ get_left (with_slot l).slots behind.more n new (get_last l.slots new)));
      size = refl;
      is = refl;
    }
