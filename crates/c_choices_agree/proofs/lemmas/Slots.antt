-- Laws of slots that lemmas take.
use Rattle.c_slots_agree.specs.Laws.{SlotsAreTaken, SlotsAreStored, SlotsStay, SlotsAreRead}

pub record SlotLaws : Type 0 where
  pub taken : SlotsAreTaken
  pub stored : SlotsAreStored
  pub stay : SlotsStay
  pub reads : SlotsAreRead
