-- A slot of the frame, of four bytes, by its number and by its offset from the frame's top; and the word that it holds.
-- Source: Fraser and Hanson, A Retargetable C Compiler, chapters 5 and 13 (offsets of locals).
use Rattle.std.specs.Prelude.{◌≡◌, ℕ, ℤ, Some, slice_get}
use Rattle.objects.specs.declared.value.Value.TheVariants.{Pointer}
use Rattle.op_forest.specs.declared.frame.Slot.{Slot}
use Rattle.forests.specs.Accesses.{word_read}
use Rattle.forests.specs.Words.{Word, Plain}
use Rattle.forests.specs.Worlds.{World}
use Rattle.dag_forest.specs.Split.{slot_name}
use Rattle.c_expr_agreement.specs.Scenes.{Scene}

-- the frame's slot with this number begins at this offset
pub record IsSlotAt (s : Scene) (number : ℕ) (offset : ℤ) : Type 0 where
  pub slot : Slot
  pub there : slice_get s.body.setting.environment.home.slots number ≡ Some slot
  pub size : slot.size ≡ 4
  pub is : slot.offset ≡ offset

abbrev pub SlotHolds : Scene → ℕ → Word → World → Type 0
SlotHolds s number u w = word_read s.body.setting.environment.order w.objects (Plain (Pointer (slot_name s.body.setting.environment.home number) 0)) ≡ Some u
